use Rattle.std.proofs.Common.{◌≡◌, ◌+◌, ◌≤◌, [], length, take, refl, sym, subst, arith, rules}
use Rattle.std.proofs.lemmas.List.{length-take-le, take-take}
use Rattle.snesl_data.specs.Integers.{greatest_integer}
use Rattle.flow_messages.specs.Blocks.{flag_signals, int_signals}
use Rattle.flow_base.specs.Along.{MovesAlong}
use Rattle.flow_base.specs.declared.slices.Moved.{Moved}
use Rattle.flow_base.specs.declared.slices.Written.{Written}
use Rattle.flow_base.proofs.Along.{flags_shown, flags_within, moved_nothing, single_ran}
use Rattle.flow_folds.specs.LengthBlocks.{LengthsAlong}
use Rattle.flow_folds.specs.LengthMachine.{length_machine, length_view}
use Rattle.flow_folds.specs.declared.length.Count.TheVariants.{Counting}
use Rattle.flow_folds.proofs.LengthBlocks.{lengths_steps}
use Rattle.flow_folds.proofs.length.LengthWorker.along.Goals as goal

-- it moved nothing
pub returns-in_default : goal.returns-in_default
returns-in_default c = moved_nothing length_machine (length_view c.args.self.now) c.args.first c.args.second c.args.space c.args.most c.args.block.now c.nothing.result c.nothing.ensures

pub returns-then-not-stays_in_range : goal.returns-then-not-stays_in_range
returns-then-not-stays_in_range c =
    moved_nothing length_machine (length_view c.args.self.now) c.args.first c.args.second c.args.space c.args.most c.args.block.now
    c.nothing-then-not-stays_in_range.result c.nothing-then-not-stays_in_range.ensures

-- the counts stay within 64 bits
pub lengths_along-passed-requires-clause-narrow : goal.lengths_along-passed-requires-clause-narrow
lengths_along-passed-requires-clause-narrow c =
    let bs = c.flags-flags.result.now in
    let ahead = c.min-ahead.result in
    let stays = c.stays_in_range.ensures.narrow (search rules) in
    omega (arith, stays, length-take-le ahead bs (omega (arith, c.min-ahead.ensures)))

-- it went along flags
pub returns : goal.returns
returns c =
    let m = length_machine in
    let d = c.args.self.now.dialect in
    let first = c.args.first in
    let second = c.args.second in
    let along = c.lengths_along-passed in
    let n = along.result.0 in
    let k = along.result.1 in
    let more = along.result.2 in
    let count = c.in-Counting.count in
    let bs = c.flags-flags.result.now in
    let ahead = c.min-ahead.result in
    let block : Written = record { flags = c.args.block.now.flags; ints = along.new.lengths } in
    let made : Moved = record { first = n; second = 0; units = 0; flags = 0; ints = k; steps = n + k } in
    let small : ahead ≤ length bs = omega (arith, c.min-ahead.ensures) in
    let long_ahead : length (take ahead bs) ≡ ahead = length-take-le ahead bs small in
    let fewer : n ≤ ahead = omega (arith, along.ensures.flags, long_ahead) in
    let flags : take n (take ahead bs) ≡ take n bs = take-take n ahead bs fewer in
    let lengths = take k along.new.lengths in
    let is = subst (λ l. LengthsAlong count l lengths more) flags along.ensures.along in
    let long : length (take n bs) ≡ n = length-take-le n bs (omega (arith, fewer, small)) in
    let written : length lengths ≡ k = length-take-le k along.new.lengths (omega arith) in
    let stays = c.stays_in_range.ensures.range (search rules) in
    let range : count + length (take n bs) ≤ greatest_integer d = omega (arith, stays, long, fewer) in
    let steps : length (take n bs) + length lengths ≡ n + k = omega (arith, long, written) in
    let ran = single_ran m d (flag_signals (take n bs)) [] (int_signals lengths) (lengths_steps d count more (take n bs) lengths range is) first
    second block made refl (flags_shown first bs n c.flags-flags.ensures (omega (arith, fewer, small))) refl refl steps in
    subst (λ s. MovesAlong m (d, s) (d, Counting more) first second c.args.space c.args.most block made) (sym c.in-Counting.is) (record {
      within = record {
        first = omega (arith, fewer, small, flags_within first bs c.flags-flags.ensures);
        second = omega arith;
        units = omega arith;
        flags = omega arith;
        ints = omega (arith, along.ensures.most, c.min-room.ensures);
        steps = omega (arith, along.ensures.most, fewer, c.min-ahead.ensures, c.min-room.ensures);
      };
      ran = ran;
    })
