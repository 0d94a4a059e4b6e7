use Rattle.std.proofs.Common.{◌≡◌, ◌+◌, ◌≤◌, ℕ, eqb, length, take, refl, sym, ◌∙◌, ap, arith, inl, inr}
use Rattle.std.proofs.lemmas.Bool.{cases_eq}
use Rattle.std.proofs.lemmas.List.{length-take-le}
use Rattle.flow_messages.specs.Blocks.{flag_signals, item_signals}
use Rattle.flow_base.specs.Along.{written_at}
use Rattle.flow_base.specs.declared.slices.Moved.{Moved}
use Rattle.flow_base.specs.declared.slices.Written.{Written}
use Rattle.flow_base.proofs.Along.{first_only, no_writes, nothing_said, only, ran_as}
use Rattle.flow_base.proofs.Batches.{length_flags, shown, take_flags}
use Rattle.flow_base.proofs.OverSlices.{prefix_long}
use Rattle.flow_segment.specs.FlagTables.{over_flags}
use Rattle.flow_segment.proofs.over_flags.OverFlagsWorker.along.Goals as goal

-- it goes on over the flags that are shown
pub returns : goal.returns
returns g c =
    let t = g.S.Stage.table in
    let m = over_flags t in
    let first = c.args.first in
    let second = c.args.second in
    let xs = c.flags-firsts.result.now in
    let ys = c.flags-seconds.result.now in
    let zs = c.run_over-ran.new.block in
    let ran = c.run_over-ran.result in
    let did = c.run_over-ran.ensures in
    let block : Written = record { flags = zs; ints = c.args.block.now.ints } in
    let made : Moved = record { first = ran.first; second = ran.second; units = 0; flags = ran.written; ints = 0; steps = ran.first + ran.second + ran.written } in
    let in_first : ran.first ≤ length (flag_signals xs) = omega (arith, did.first, length_flags xs) in
    let in_second : ran.second ≤ length (flag_signals ys) = omega (arith, did.second, length_flags ys) in
    let in_block : ran.written ≤ length zs = omega (arith, did.written, did.block, c.room_in-room.ensures.within, c.requires) in
    let firsts : flag_signals (take ran.first xs) ≡ take ran.first (item_signals first) = sym (take_flags ran.first xs)
    ∙ sym (shown (flag_signals xs) (item_signals first) ran.first c.flags-firsts.ensures in_first) in
    let seconds : flag_signals (take ran.second ys) ≡ take ran.second (item_signals second) = sym (take_flags ran.second ys)
    ∙ sym (shown (flag_signals ys) (item_signals second) ran.second c.flags-seconds.ensures in_second) in
    let written : (q : ℕ) → only (flag_signals (take ran.written zs)) q ≡ written_at m tt block made q = λ q. elim (cases_eq t.outputs 1) [
      | inl one ↦ first_only m tt block made (flag_signals (take ran.written zs)) one refl q
      | inr other ↦ (let none : ran.written ≡ 0 = omega (arith, did.written, c.room_in-room.ensures.none other) in
          ap (λ n. only (flag_signals (take n zs)) q) none ∙ nothing_said (eqb q 0) ∙ no_writes m tt block made refl none refl q)
    ] in
    let steps : length (take ran.first xs) + length (take ran.second ys) + length (take ran.written zs) ≡ made.steps =
    omega (arith, length-take-le ran.first xs did.first, length-take-le ran.second ys did.second, length-take-le ran.written zs in_block) in
    record {
      within = record {
        first = omega (arith, in_first, prefix_long (flag_signals xs) (item_signals first) c.flags-firsts.ensures);
        second = omega (arith, in_second, prefix_long (flag_signals ys) (item_signals second) c.flags-seconds.ensures);
        units = omega arith;
        flags = omega (arith, did.written, c.room_in-room.ensures.within);
        ints = omega arith;
        steps = did.within;
      };
      ran = ran_as m tt did.ran (take ran.first (item_signals first)) (take ran.second (item_signals second)) (written_at m tt block made) made.steps firsts seconds written steps;
    }
