use Rattle.std.proofs.Common.{◌≡◌, ◌+◌, ◌*◌, ◌≤◌, List, length, map, take, refl, sym, ◌∙◌, ap, subst, arith}
use Rattle.std.specs.Prelude.{replicate}
use Rattle.std.proofs.lemmas.List.{length-replicate, length-take-le}
use Rattle.flow_messages.specs.Cells.{Cell, flag, int, unit}
use Rattle.flow_messages.specs.Signals.{carry}
use Rattle.flow_messages.specs.Blocks.{unit_signals, flag_signals, int_signals}
use Rattle.flow_messages.specs.declared.message.Kind.{Kind}
use Rattle.flow_messages.specs.declared.message.Kind.TheVariants.{Unit as UnitKind, Bool as BoolKind, Int as IntKind}
use Rattle.flow_base.specs.Along.{MovesAlong}
use Rattle.flow_base.specs.declared.slices.Moved.{Moved}
use Rattle.flow_base.specs.declared.slices.Written.{Written}
use Rattle.flow_base.proofs.Along.{flags_shown, flags_within, ints_shown, ints_within, moved_nothing, single_ran, units_shown, units_within}
use Rattle.flow_segment.specs.PackMachine.{PackState, kept, pack_machine, pack_state, pack_view}
use Rattle.flow_segment.specs.declared.pack.Pair.{Pair}
use Rattle.flow_segment.proofs.PackBlocks.{first_pairs, trues_kept, units_one_by_one}
use Rattle.flow_segment.proofs.pack.PackWorker.along.Goals as goal

-- it moved nothing
pub returns-in_default : goal.returns-in_default
returns-in_default c = moved_nothing pack_machine (pack_view c.args.self.now) c.args.first c.args.second c.args.space c.args.most c.args.block.now c.nothing.result c.nothing.ensures

pub returns-in-Vec : goal.returns-in-Vec
returns-in-Vec c = moved_nothing pack_machine (pack_view c.args.self.now) c.args.first c.args.second c.args.space c.args.most c.args.block.now c.nothing-in-Vec.result c.nothing-in-Vec.ensures

-- pairs with integers, with truth values, and with units
pub returns-in-Int : goal.returns-in-Int
returns-in-Int c =
    let first = c.args.first in
    let second = c.args.second in
    let bs = c.flags-truths.result.now in
    let xs = c.ints-items.result.now in
    let n = c.min-whole.result in
    let count = c.keep-count.result in
    let zs = kept (take n bs) (take n xs) in
    let written : Written = record { flags = c.args.block.now.flags; ints = c.keep-count.new.block } in
    let made : Moved = record { first = n; second = n; units = 0; flags = 0; ints = count; steps = 2 * n + count } in
    let in_bs : n ≤ length bs = omega (arith, c.min.ensures, c.min-room.ensures, c.min-whole.ensures) in
    let in_xs : n ≤ length xs = omega (arith, c.min-whole.ensures) in
    let kept_are = c.keep-count.ensures.kept in
    let long = c.keep-count.auto.block in
    let within : count ≤ length c.keep-count.new.block =
    omega (arith, long, c.keep-count.ensures.within, length-take-le n bs in_bs, c.min.ensures, c.min-room.ensures, c.min-whole.ensures, c.requires)
    in
    let counts : count ≡ length zs = sym (length-take-le count c.keep-count.new.block within) ∙ ap length kept_are in
    let few : count ≤ n = omega (arith, c.keep-count.ensures.within, length-take-le n bs in_bs) in
    let steps : 2 * n + length zs ≡ 2 * n + count = omega (arith, counts) in
    let ran = single_ran pack_machine IntKind (flag_signals (take n bs)) (int_signals (take n xs)) (int_signals zs)
    (first_pairs IntKind int (λ x. refl) bs xs n in_bs in_xs) first second written made refl (flags_shown first bs n c.flags-truths.ensures in_bs)
    (ints_shown second xs n c.ints-items.ensures in_xs) (ap int_signals (sym kept_are)) steps in
    let state : Kind → Pair → Kind × PackState = λ k pair. (k, pack_state pair) in
    subst (λ k. MovesAlong pack_machine (state k c.args.self.now.pair) (state k c.args.self.now.pair) first second c.args.space c.args.most written
    made) (sym c.in-Int.is)
    (subst (λ pair. MovesAlong pack_machine (state IntKind pair) (state IntKind pair) first second c.args.space c.args.most written made)
    (sym c.in-Start.is) (record {
      within = record {
        first = omega (arith, in_bs, flags_within first bs c.flags-truths.ensures);
        second = omega (arith, in_xs, ints_within second xs c.ints-items.ensures);
        units = omega arith;
        flags = omega (arith, few, c.min.ensures, c.min-room.ensures, c.min-whole.ensures);
        ints = omega (arith, few, c.min.ensures, c.min-room.ensures, c.min-whole.ensures);
        steps = omega (arith, few, c.min-room.ensures, c.min-whole.ensures);
      };
      ran = ran;
    }))

pub returns-in-Bool : goal.returns-in-Bool
returns-in-Bool c =
    let first = c.args.first in
    let second = c.args.second in
    let bs = c.flags-truths.result.now in
    let xs = c.flags-items.result.now in
    let n = c.min-whole-in-Bool.result in
    let count = c.keep-count-in-Bool.result in
    let zs = kept (take n bs) (take n xs) in
    let written : Written = record { flags = c.keep-count-in-Bool.new.block; ints = c.args.block.now.ints } in
    let made : Moved = record { first = n; second = n; units = 0; flags = count; ints = 0; steps = 2 * n + count } in
    let in_bs : n ≤ length bs = omega (arith, c.min.ensures, c.min-room.ensures, c.min-whole-in-Bool.ensures) in
    let in_xs : n ≤ length xs = omega (arith, c.min-whole-in-Bool.ensures) in
    let kept_are = c.keep-count-in-Bool.ensures.kept in
    let long = c.keep-count-in-Bool.auto.block in
    let within : count ≤ length c.keep-count-in-Bool.new.block =
    omega (
      arith,
      long,
      c.keep-count-in-Bool.ensures.within,
      length-take-le n bs in_bs,
      c.min.ensures,
      c.min-room.ensures,
      c.min-whole-in-Bool.ensures,
      c.requires,
    ) in
    let counts : count ≡ length zs = sym (length-take-le count c.keep-count-in-Bool.new.block within) ∙ ap length kept_are in
    let few : count ≤ n = omega (arith, c.keep-count-in-Bool.ensures.within, length-take-le n bs in_bs) in
    let steps : 2 * n + length zs ≡ 2 * n + count = omega (arith, counts) in
    let ran = single_ran pack_machine BoolKind (flag_signals (take n bs)) (flag_signals (take n xs)) (flag_signals zs)
    (first_pairs BoolKind flag (λ x. refl) bs xs n in_bs in_xs) first second written made refl (flags_shown first bs n c.flags-truths.ensures in_bs)
    (flags_shown second xs n c.flags-items.ensures in_xs) (ap flag_signals (sym kept_are)) steps in
    let state : Kind → Pair → Kind × PackState = λ k pair. (k, pack_state pair) in
    subst (λ k. MovesAlong pack_machine (state k c.args.self.now.pair) (state k c.args.self.now.pair) first second c.args.space c.args.most written
    made) (sym c.in-Bool.is)
    (subst (λ pair. MovesAlong pack_machine (state BoolKind pair) (state BoolKind pair) first second c.args.space c.args.most written made)
    (sym c.in-Start.is) (record {
      within = record {
        first = omega (arith, in_bs, flags_within first bs c.flags-truths.ensures);
        second = omega (arith, in_xs, flags_within second xs c.flags-items.ensures);
        units = omega arith;
        flags = omega (arith, few, c.min.ensures, c.min-room.ensures, c.min-whole-in-Bool.ensures);
        ints = omega (arith, few, c.min.ensures, c.min-room.ensures, c.min-whole-in-Bool.ensures);
        steps = omega (arith, few, c.min-room.ensures, c.min-whole-in-Bool.ensures);
      };
      ran = ran;
    }))

pub returns-in-Unit : goal.returns-in-Unit
returns-in-Unit c =
    let first = c.args.first in
    let second = c.args.second in
    let bs = c.flags-truths.result.now in
    let items = c.units-items.result in
    let n = c.min-whole-in-Unit.result in
    let count = c.trues_in-count.result in
    let xs : List (Unit {0}) = replicate n tt in
    let said : Unit {0} → Cell = λ _. unit in
    let zs = kept (take n bs) (take n xs) in
    let made : Moved = record { first = n; second = n; units = count; flags = 0; ints = 0; steps = 2 * n + count } in
    let in_bs : n ≤ length bs = omega (arith, c.min.ensures, c.min-room.ensures, c.min-whole-in-Unit.ensures) in
    let in_items : n ≤ items = omega (arith, c.min-whole-in-Unit.ensures) in
    let long : length xs ≡ n = length-replicate n tt in
    let in_xs : n ≤ length xs = omega (arith, long) in
    let as_long : length (take n xs) ≡ length (take n bs) = length-take-le n xs in_xs ∙ sym (length-take-le n bs in_bs) in
    let counts : length zs ≡ count = trues_kept (take n bs) (take n xs) as_long ∙ sym c.trues_in-count.ensures.trues in
    let few : count ≤ n = omega (arith, c.trues_in-count.ensures.within, length-take-le n bs in_bs) in
    let steps : 2 * n + length zs ≡ 2 * n + count = omega (arith, counts) in
    let seconds = units_one_by_one (take n xs) ∙ ap unit_signals (length-take-le n xs in_xs) ∙ units_shown second items n c.units-items.ensures in_items in
    let told = units_one_by_one zs ∙ ap unit_signals counts in
    let ran = single_ran pack_machine UnitKind (flag_signals (take n bs)) (map (λ x. carry (said x)) (take n xs)) (map (λ x. carry (said x)) zs)
    (first_pairs UnitKind said (λ x. refl) bs xs n in_bs in_xs) first second c.args.block.now made refl
    (flags_shown first bs n c.flags-truths.ensures in_bs) seconds told steps in
    let state : Kind → Pair → Kind × PackState = λ k pair. (k, pack_state pair) in
    subst (λ k. MovesAlong pack_machine (state k c.args.self.now.pair) (state k c.args.self.now.pair) first second c.args.space c.args.most
    c.args.block.now made) (sym c.in-Unit.is)
    (subst (λ pair. MovesAlong pack_machine (state UnitKind pair) (state UnitKind pair) first second c.args.space c.args.most c.args.block.now made)
    (sym c.in-Start.is) (record {
      within = record {
        first = omega (arith, in_bs, flags_within first bs c.flags-truths.ensures);
        second = omega (arith, in_items, units_within second items c.units-items.ensures);
        units = omega (arith, few, c.min.ensures, c.min-room.ensures, c.min-whole-in-Unit.ensures);
        flags = omega arith;
        ints = omega arith;
        steps = omega (arith, few, c.min-room.ensures, c.min-whole-in-Unit.ensures);
      };
      ran = ran;
    }))
