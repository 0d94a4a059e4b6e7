-- Items that nothing is written for.
use Rattle.std.proofs.Common.{◌≡◌, ℕ, ℤ, zero, suc, ◌+◌, ◌≤◌, Bool, List, [], ◌∷◌, length, take, refl, sym, arith}
use Rattle.std.proofs.lemmas.List.{length-take-le}
use Rattle.flow_messages.specs.Blocks.{unit_signals, flag_signals, int_signals, item_signals}
use Rattle.flow_messages.specs.Signals.{Signal, carry, stop}
use Rattle.flow_messages.specs.declared.message.Kind.{Kind}
use Rattle.flow_messages.specs.declared.message.Kind.TheVariants.{Unit as UnitKind, Bool as BoolKind, Int as IntKind}
use Rattle.flow_base.specs.Along.{MovesAlong, written_at}
use Rattle.flow_base.specs.declared.slices.Moved.{Moved}
use Rattle.flow_messages.specs.declared.items.Items.{Items}
use Rattle.flow_base.specs.declared.slices.Written.{Written}
use Rattle.flow_base.proofs.Along.{Along, no_output, ran_as, ran_first, ran_none, ran_then}
use Rattle.flow_base.proofs.Batches.{shown}
use Rattle.flow_base.proofs.OverSlices.{prefix_long}
use Rattle.flow_scalar.specs.SinkMachine.{sink_machine}
use Rattle.flow_scalar.specs.SinkShown.{CountOf, EachFits}

-- items of one kind fit
pub fit_units : (n : ℕ) → EachFits UnitKind (unit_signals n)
fit_units zero = tt
fit_units (suc n) = (refl, fit_units n)

pub fit_flags : (bs : List Bool) → EachFits BoolKind (flag_signals bs)
fit_flags [] = tt
fit_flags (b ∷ bs) = (refl, fit_flags bs)

pub fit_ints : (ns : List ℤ) → EachFits IntKind (int_signals ns)
fit_ints [] = tt
fit_ints (n ∷ ns) = (refl, fit_ints ns)

fit_first : (kind : Kind) (n : ℕ) (block : List Signal) → EachFits kind block → EachFits kind (take n block)
fit_first kind zero block fits = tt
fit_first kind (suc n) [] fits = tt
fit_first kind (suc n) (m ∷ block) (fits, more) = (fits, fit_first kind n block more)

-- each item is a step
pub sink_steps : (kind : Kind) (block : List Signal) → EachFits kind block → Along sink_machine kind tt tt block [] (λ q. []) (length block)
sink_steps kind [] fits = ran_none sink_machine kind tt
sink_steps kind (carry x ∷ block) (fits, more) =
    let m = sink_machine in
    let one = ran_first m kind tt tt x refl fits in
    let steps : 1 + length block ≡ length (carry x ∷ block) = omega arith in
    ran_as m kind (ran_then m kind one (sink_steps kind block more)) (carry x ∷ block) [] (λ q. []) (length (carry x ∷ block)) refl refl (λ q. refl) steps
sink_steps kind (stop ∷ block) (fits, more) = absurd fits

-- what was shown is read
pub sink_moves : (kind : Kind) (first second : Items) (block : Written) (space most n count : ℕ) → CountOf kind n (item_signals first) → count ≤ n → count ≤ most →
    MovesAlong sink_machine (kind, tt) (kind, tt) first second space most block (record { first = count; second = 0; units = 0; flags = 0; ints = 0; steps = count })
sink_moves kind first second block space most n count shown_items within may =
    let m = sink_machine in
    let items = take count shown_items.block in
    let made : Moved = record { first = count; second = 0; units = 0; flags = 0; ints = 0; steps = count } in
    let in_block : count ≤ length shown_items.block = omega (arith, within, shown_items.long) in
    let long : length items ≡ count = length-take-le count shown_items.block in_block in
    record {
      within = record {
        first = omega (arith, in_block, prefix_long shown_items.block (item_signals first) shown_items.first);
        second = omega arith;
        units = omega arith;
        flags = omega arith;
        ints = omega arith;
        steps = may;
      };
      ran = ran_as m kind (sink_steps kind items (fit_first kind count shown_items.block shown_items.fits)) (take count (item_signals first)) []
          (written_at m kind block made) count (sym (shown shown_items.block (item_signals first) count shown_items.first in_block)) refl
          (no_output m kind block made refl) long;
    }
