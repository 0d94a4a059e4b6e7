use Rattle.std.proofs.Common.{◌≡◌, ◌*◌, pos, false, [], length, take, refl, sym, ◌∙◌, ap, subst, arith}
use Rattle.snesl_data.specs.declared.dialect.Dialect.{Dialect}
use Rattle.snesl_data.specs.declared.operators.operator.UnaryOperator.{UnaryOperator}
use Rattle.snesl_data.specs.declared.operators.scalar.Scalar.TheVariants.{Int, Bool as Truth}
use Rattle.flow_base.specs.Along.{MovesAlong}
use Rattle.flow_base.specs.declared.slices.Moved.{Moved}
use Rattle.flow_base.specs.declared.slices.Written.{Written}
use Rattle.flow_base.proofs.Along.{moved_nothing, single_ran}
use Rattle.flow_base.proofs.Batches.{take_flags, take_ints, length_flags, length_ints}
use Rattle.flow_scalar.specs.UnaryMachine.{unary_machine, unary_view}
use Rattle.flow_scalar.proofs.Leading.{nothing}
use Rattle.flow_scalar.proofs.UnaryBlocks.{block, flags_written, ints_written}
use Rattle.flow_scalar.proofs.ValueBlocks.{values_said}
use Rattle.flow_scalar.proofs.unary.UnaryWorker.along.Goals as goal
use Rattle.flow_messages.specs.Blocks.{item_signals}

-- it moved nothing
pub returns-then-is_some : goal.returns-then-is_some
returns-then-is_some c = moved_nothing unary_machine (unary_view c.args.self.now) c.args.first c.args.second c.args.space c.args.most c.args.block.now c.nothing.result c.nothing.ensures

pub returns-in_default : goal.returns-in_default
returns-in_default c =
    moved_nothing unary_machine (unary_view c.args.self.now) c.args.first c.args.second c.args.space c.args.most c.args.block.now
    c.nothing-in_default.result c.nothing-in_default.ensures

-- along integers
pub returns-in-Ints : goal.returns-in-Ints
returns-in-Ints c =
    let m = unary_machine in
    let n = c.args.self.now in
    let p : Dialect × UnaryOperator = (n.dialect, n.operator) in
    let first = c.args.first in
    let second = c.args.second in
    let xs = c.in-Ints.operands.now in
    let zs = c.ints_of-count.new.values in
    let count = c.ints_of-count.result in
    let values = c.ints_of-count.ensures in
    let written : Written = record { flags = c.args.block.now.flags; ints = zs } in
    let made : Moved = record { first = count; second = 0; units = 0; flags = 0; ints = count; steps = 2 * count } in
    let all : length (item_signals first) ≡ length xs = ap (λ s. length (item_signals s)) c.in-Ints.is ∙ length_ints xs in
    let firsts : values_said Int (take count xs) ≡ take count (item_signals first) = sym (take_ints count xs) ∙ ap (λ s. take count (item_signals s)) (sym c.in-Ints.is) in
    let ran = single_ran m p (values_said Int (take count xs)) [] (values_said Int (take count zs))
    (block n.dialect n.operator Int (pos 0) xs zs count values.operands values.block values.values) first second written made refl firsts refl
    (ints_written n.dialect n.operator xs zs c.args.block.now.flags count values.values) refl in
    subst (λ v. MovesAlong m (p, v) (p, v) first second c.args.space c.args.most written made) (sym (nothing n.value (sym c.is_some.ensures ∙ c.if-is_some.false))) (record {
      within = record {
        first = omega (arith, all, values.operands);
        second = omega arith;
        units = omega arith;
        flags = omega arith;
        ints = omega (arith, values.room, c.min-room.ensures);
        steps = omega (arith, values.room, c.min-room.ensures);
      };
      ran = ran;
    })

-- along truth values
pub returns-in-Flags : goal.returns-in-Flags
returns-in-Flags c =
    let m = unary_machine in
    let n = c.args.self.now in
    let p : Dialect × UnaryOperator = (n.dialect, n.operator) in
    let first = c.args.first in
    let second = c.args.second in
    let xs = c.in-Flags.operands.now in
    let zs = c.flags_of-count.new.values in
    let count = c.flags_of-count.result in
    let values = c.flags_of-count.ensures in
    let written : Written = record { flags = zs; ints = c.args.block.now.ints } in
    let made : Moved = record { first = count; second = 0; units = 0; flags = count; ints = 0; steps = 2 * count } in
    let all : length (item_signals first) ≡ length xs = ap (λ s. length (item_signals s)) c.in-Flags.is ∙ length_flags xs in
    let firsts : values_said Truth (take count xs) ≡ take count (item_signals first) = sym (take_flags count xs) ∙ ap (λ s. take count (item_signals s)) (sym c.in-Flags.is) in
    let ran = single_ran m p (values_said Truth (take count xs)) [] (values_said Truth (take count zs))
    (block n.dialect n.operator Truth false xs zs count values.operands values.block values.values) first second written made refl firsts refl
    (flags_written n.dialect n.operator xs zs c.args.block.now.ints count values.values) refl in
    subst (λ v. MovesAlong m (p, v) (p, v) first second c.args.space c.args.most written made) (sym (nothing n.value (sym c.is_some.ensures ∙ c.if-is_some.false))) (record {
      within = record {
        first = omega (arith, all, values.operands);
        second = omega arith;
        units = omega arith;
        flags = omega (arith, values.room, c.min-room.ensures);
        ints = omega arith;
        steps = omega (arith, values.room, c.min-room.ensures);
      };
      ran = ran;
    })
