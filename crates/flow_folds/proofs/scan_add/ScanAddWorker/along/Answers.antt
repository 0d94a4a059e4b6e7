use Rattle.std.proofs.Common.{◌≡◌, ◌+◌, ◌*◌, ◌≤◌, length, take, refl, subst, arith}
use Rattle.std.proofs.lemmas.List.{length-take-le, take-take}
use Rattle.flow_messages.specs.Blocks.{flag_signals, int_signals}
use Rattle.flow_base.specs.declared.slices.Moved.{Moved}
use Rattle.flow_base.specs.declared.slices.Written.{Written}
use Rattle.flow_base.proofs.Along.{flags_shown, flags_within, ints_shown, ints_within, moved_nothing, single_ran}
use Rattle.flow_folds.specs.ScanAddBlocks.{SumsAlong}
use Rattle.flow_folds.specs.ScanAddMachine.{scan_add_machine, scan_add_view}
use Rattle.flow_folds.proofs.ScanAddBlocks.{sums_steps}
use Rattle.flow_folds.proofs.scan_add.ScanAddWorker.along.Goals as goal

-- it moved nothing
pub returns-in_default : goal.returns-in_default
returns-in_default c = moved_nothing scan_add_machine (scan_add_view c.args.self.now) c.args.first c.args.second c.args.space c.args.most c.args.block.now c.nothing.result c.nothing.ensures

-- it went along flags and elements
pub returns : goal.returns
returns c =
    let m = scan_add_machine in
    let d = c.args.self.now.dialect in
    let s = c.args.self.now.stage in
    let first = c.args.first in
    let second = c.args.second in
    let along = c.sums_along-passed in
    let n = along.result.0 in
    let k = along.result.1 in
    let bs = c.flags-flags.result.now in
    let xs = c.ints-elements.result.now in
    let ahead = c.min-ahead.result in
    let block : Written = record { flags = c.args.block.now.flags; ints = along.new.sums } in
    let made : Moved = record { first = n; second = k; units = 0; flags = 0; ints = k; steps = n + 2 * k } in
    let small : ahead ≤ length bs = omega (arith, c.min.ensures, c.min-ahead.ensures) in
    let fewer : n ≤ ahead = omega (arith, along.ensures.flags, length-take-le ahead bs small) in
    let flags : take n (take ahead bs) ≡ take n bs = take-take n ahead bs fewer in
    let sums = take k along.new.sums in
    let is = subst (λ l. SumsAlong d s l (take k xs) sums along.result.2) flags along.ensures.along in
    let in_flags : n ≤ length bs = omega (arith, fewer, small) in
    let long : length (take n bs) ≡ n = length-take-le n bs in_flags in
    let read : length (take k xs) ≡ k = length-take-le k xs along.ensures.elements in
    let steps : length (take n bs) + 2 * length (take k xs) ≡ n + 2 * k = omega (arith, long, read) in
    record {
      within = record {
        first = omega (arith, in_flags, flags_within first bs c.flags-flags.ensures);
        second = omega (arith, along.ensures.elements, ints_within second xs c.ints-elements.ensures);
        units = omega arith;
        flags = omega arith;
        ints = omega (arith, along.ensures.fewer, fewer, c.min.ensures, c.min-ahead.ensures);
        steps = omega (arith, along.ensures.fewer, fewer, c.min.ensures, c.min-ahead.ensures);
      };
      ran = single_ran m d (flag_signals (take n bs)) (int_signals (take k xs)) (int_signals sums)
          (sums_steps d s along.result.2 (take n bs) (take k xs) sums is) first second block made refl
          (flags_shown first bs n c.flags-flags.ensures in_flags) (ints_shown second xs k c.ints-elements.ensures along.ensures.elements) refl steps;
    }
