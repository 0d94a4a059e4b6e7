use Rattle.std.proofs.Common.{◌≡◌, ◌*◌, pos, false, length, take, refl, sym, ◌∙◌, ap, subst, arith}
use Rattle.snesl_data.specs.declared.dialect.Dialect.{Dialect}
use Rattle.snesl_data.specs.declared.operators.operator.BinaryOperator.{BinaryOperator}
use Rattle.snesl_data.specs.declared.operators.scalar.Scalar.TheVariants.{Int, Bool as Truth}
use Rattle.flow_folds.specs.Scalars.{kind_of_type}
use Rattle.flow_messages.specs.Blocks.{int_signals, item_signals}
use Rattle.flow_base.specs.Along.{MovesAlong, written_signals}
use Rattle.flow_base.specs.declared.slices.Moved.{Moved}
use Rattle.flow_base.specs.declared.slices.Written.{Written}
use Rattle.flow_base.proofs.Along.{moved_nothing, single_ran}
use Rattle.flow_base.proofs.Batches.{take_ints, length_ints}
use Rattle.flow_scalar.specs.BinaryMachine.{binary_machine, binary_view}
use Rattle.flow_scalar.proofs.BinaryBlocks.{block}
use Rattle.flow_scalar.proofs.ValueBlocks.{values_said}
use Rattle.flow_scalar.proofs.binary.BinaryWorker.along.Goals as goal

-- it moved nothing
pub returns-in_default : goal.returns-in_default
returns-in_default c = moved_nothing binary_machine (binary_view c.args.self.now) c.args.first c.args.second c.args.space c.args.most c.args.block.now c.nothing.result c.nothing.ensures

pub returns-in_default-2 : goal.returns-in_default-2
returns-in_default-2 c =
    moved_nothing binary_machine (binary_view c.args.self.now) c.args.first c.args.second c.args.space c.args.most c.args.block.now
    c.nothing-in_default-2.result c.nothing-in_default-2.ensures

-- along pairs
pub returns-in-Int : goal.returns-in-Int
returns-in-Int c =
    let m = binary_machine in
    let n = c.args.self.now in
    let p : Dialect × BinaryOperator = (n.dialect, n.operator) in
    let first = c.args.first in
    let second = c.args.second in
    let xs = c.in-Ints-Ints.lefts.now in
    let ys = c.in-Ints-Ints.rights.now in
    let zs = c.ints_of-count.new.values in
    let count = c.ints_of-count.result in
    let values = c.ints_of-count.ensures in
    let written : Written = record { flags = c.args.block.now.flags; ints = zs } in
    let made : Moved = record { first = count; second = count; units = 0; flags = 0; ints = count; steps = 3 * count } in
    let all_first : length (item_signals first) ≡ length xs = ap (λ s. length (item_signals s)) c.in-Ints-Ints.is-0 ∙ length_ints xs in
    let all_second : length (item_signals second) ≡ length ys = ap (λ s. length (item_signals s)) c.in-Ints-Ints.is-1 ∙ length_ints ys in
    let firsts : int_signals (take count xs) ≡ take count (item_signals first) = sym (take_ints count xs) ∙ ap (λ s. take count (item_signals s)) (sym c.in-Ints-Ints.is-0) in
    let seconds : int_signals (take count ys) ≡ take count (item_signals second) = sym (take_ints count ys) ∙ ap (λ s. take count (item_signals s)) (sym c.in-Ints-Ints.is-1) in
    let told : values_said Int (take count zs) ≡ written_signals written made (m.kind_out p 0) = ap (λ t. written_signals written made (kind_of_type t)) (sym c.in-Int.is ∙ c.result.ensures) in
    let ran = single_ran m p (int_signals (take count xs)) (int_signals (take count ys)) (values_said Int (take count zs))
    (block n.dialect n.operator Int (pos 0) xs ys zs count values.lefts values.rights values.block values.values) first second written made refl
    firsts seconds told refl in
    subst (λ s. MovesAlong m (p, s) (p, s) first second c.args.space c.args.most written made) (sym c.in-Start.is) (record {
      within = record {
        first = omega (arith, all_first, values.lefts);
        second = omega (arith, all_second, values.rights);
        units = omega arith;
        flags = omega (arith, values.room, c.min-room.ensures);
        ints = omega (arith, values.room, c.min-room.ensures);
        steps = omega (arith, values.room, c.min-room.ensures);
      };
      ran = ran;
    })

pub returns-in-Bool : goal.returns-in-Bool
returns-in-Bool c =
    let m = binary_machine in
    let n = c.args.self.now in
    let p : Dialect × BinaryOperator = (n.dialect, n.operator) in
    let first = c.args.first in
    let second = c.args.second in
    let xs = c.in-Ints-Ints.lefts.now in
    let ys = c.in-Ints-Ints.rights.now in
    let zs = c.flags_of-count.new.values in
    let count = c.flags_of-count.result in
    let values = c.flags_of-count.ensures in
    let written : Written = record { flags = zs; ints = c.args.block.now.ints } in
    let made : Moved = record { first = count; second = count; units = 0; flags = count; ints = 0; steps = 3 * count } in
    let all_first : length (item_signals first) ≡ length xs = ap (λ s. length (item_signals s)) c.in-Ints-Ints.is-0 ∙ length_ints xs in
    let all_second : length (item_signals second) ≡ length ys = ap (λ s. length (item_signals s)) c.in-Ints-Ints.is-1 ∙ length_ints ys in
    let firsts : int_signals (take count xs) ≡ take count (item_signals first) = sym (take_ints count xs) ∙ ap (λ s. take count (item_signals s)) (sym c.in-Ints-Ints.is-0) in
    let seconds : int_signals (take count ys) ≡ take count (item_signals second) = sym (take_ints count ys) ∙ ap (λ s. take count (item_signals s)) (sym c.in-Ints-Ints.is-1) in
    let told : values_said Truth (take count zs) ≡ written_signals written made (m.kind_out p 0) = ap (λ t. written_signals written made (kind_of_type t)) (sym c.in-Bool.is ∙ c.result.ensures) in
    let ran = single_ran m p (int_signals (take count xs)) (int_signals (take count ys)) (values_said Truth (take count zs))
    (block n.dialect n.operator Truth false xs ys zs count values.lefts values.rights values.block values.values) first second written made refl
    firsts seconds told refl in
    subst (λ s. MovesAlong m (p, s) (p, s) first second c.args.space c.args.most written made) (sym c.in-Start.is) (record {
      within = record {
        first = omega (arith, all_first, values.lefts);
        second = omega (arith, all_second, values.rights);
        units = omega arith;
        flags = omega (arith, values.room, c.min-room.ensures);
        ints = omega (arith, values.room, c.min-room.ensures);
        steps = omega (arith, values.room, c.min-room.ensures);
      };
      ran = ran;
    })
