use Rattle.std.proofs.Common.{◌≡◌, ◌*◌, ◌≤◌, length, take, refl, sym, ◌∙◌, ap, subst, arith, inl, inr}
use Rattle.std.proofs.lemmas.Bool.{cases_lt}
use Rattle.std.proofs.lemmas.List.{length-take-le, take-take}
use Rattle.snesl_data.specs.declared.dialect.Dialect.{Dialect}
use Rattle.snesl_data.specs.declared.operators.operator.Reduction.{Reduction}
use Rattle.flow_messages.specs.Blocks.{flag_signals, int_signals}
use Rattle.flow_base.specs.Along.{MovesAlong, written_signals}
use Rattle.flow_base.specs.declared.slices.Moved.{Moved}
use Rattle.flow_base.specs.declared.slices.Written.{Written}
use Rattle.flow_base.proofs.Along.{flags_shown, flags_within, ints_shown, ints_within, no_writes, single_ran}
use Rattle.flow_folds.specs.ReduceBlocks.{Reduces}
use Rattle.flow_folds.specs.ReduceMachine.{reduced_kind, reduce_machine}
use Rattle.flow_folds.proofs.reduce.ReduceWorker.along.Goals as goal

-- it went along flags and elements
pub returns : goal.returns
returns c =
    let m = reduce_machine in
    let p : Dialect × Reduction = (c.args.self.now.dialect, c.args.self.now.reduction) in
    let s = c.args.self.now.stage in
    let first = c.args.first in
    let second = c.args.second in
    let along = c.segments_along-passed in
    let n = along.result.0 in
    let k = along.result.1 in
    let count = along.result.2 in
    let bs = c.flags-flags.result.now in
    let xs = c.ints-elements.result.now in
    let ahead = c.min-ahead.result in
    let stage = along.new.self.stage in
    let block : Written = record { flags = c.args.block.now.flags; ints = along.new.values } in
    let made : Moved = record { first = n; second = k; units = 0; flags = 0; ints = count; steps = 2 * n } in
    let small : ahead ≤ length bs = omega (arith, c.min-ahead.ensures) in
    let fewer : n ≤ ahead = omega (arith, along.ensures.flags, length-take-le ahead bs small) in
    let flags : take n (take ahead bs) ≡ take n bs = take-take n ahead bs fewer in
    let values = take count along.new.values in
    let is = subst (λ l. Reduces p s l (take k xs) values stage) flags along.ensures.along in
    let in_flags : n ≤ length bs = omega (arith, fewer, small) in
    let long : length (take n bs) ≡ n = length-take-le n bs in_flags in
    let steps : 2 * length (take n bs) ≡ 2 * n = omega (arith, long) in
    let told : int_signals values ≡ written_signals block made (reduced_kind p.1) = elim (cases_lt 0 count) [
      | inl some ↦ ap (written_signals block made) (sym (along.ensures.kind some))
      | inr none ↦ (let zero : count ≡ 0 = omega (arith, none) in ap (λ j. int_signals (take j along.new.values)) zero ∙ no_writes m p block made refl refl zero 0)
    ] in
    let new = along.new.self in
    subst (λ d. MovesAlong m (p, s) ((d, new.reduction), stage) first second c.args.space c.args.most block made) (sym along.ensures.dialect) (
    subst (λ r. MovesAlong m (p, s) ((p.0, r), stage) first second c.args.space c.args.most block made) (sym along.ensures.reduction) (record {
      within = record {
        first = omega (arith, in_flags, flags_within first bs c.flags-flags.ensures);
        second = omega (arith, along.ensures.elements, ints_within second xs c.ints-elements.ensures);
        units = omega arith;
        flags = omega arith;
        ints = along.ensures.most;
        steps = omega (arith, fewer, c.min-ahead.ensures);
      };
      ran = single_ran m p (flag_signals (take n bs)) (int_signals (take k xs)) (int_signals values) is first second block made refl
          (flags_shown first bs n c.flags-flags.ensures in_flags) (ints_shown second xs k c.ints-elements.ensures along.ensures.elements) told steps;
    }))
