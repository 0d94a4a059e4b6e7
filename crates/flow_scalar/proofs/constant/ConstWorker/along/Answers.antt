use Rattle.std.proofs.Common.{◌≡◌, ◌*◌, ◌<◌, ◌≤◌, ℕ, Bool, false, [], get_or, length, pos, to_z, of_z, refl, sym, ◌∙◌, subst, arith, rules}
use Rattle.std.proofs.lemmas.Int.{to_z-of_z}
use mir.Val.{SFits}
use mir.Syntax.{w64, w128}
use Rattle.snesl_data.specs.declared.operators.scalar.Scalar.{Scalar}
use Rattle.snesl_data.specs.declared.operators.scalar.Scalar.TheVariants.{Int, Bool as Truth}
use Rattle.flow_folds.specs.Scalars.{cell_of_scalar}
use Rattle.flow_messages.specs.Blocks.{unit_signals}
use Rattle.flow_base.specs.Along.{MovesAlong}
use Rattle.flow_base.specs.declared.slices.Moved.{Moved}
use Rattle.flow_base.specs.declared.slices.Written.{Written}
use Rattle.flow_base.proofs.Along.{moved_nothing, single_ran, units_shown, units_within}
use Rattle.flow_scalar.specs.ConstMachine.{const_machine, const_view}
use Rattle.flow_scalar.proofs.ConstBlocks.{const_steps, copies, filled_flags, filled_ints}
use Rattle.flow_scalar.proofs.constant.ConstWorker.along.Goals as goal

-- it moved nothing
pub returns-then-self : goal.returns-then-self
returns-then-self c = moved_nothing const_machine (const_view c.args.self.now) c.args.first c.args.second c.args.space c.args.most c.args.block.now c.nothing.result c.nothing.ensures

pub returns-in_default : goal.returns-in_default
returns-in_default c =
    moved_nothing const_machine (const_view c.args.self.now) c.args.first c.args.second c.args.space c.args.most c.args.block.now
    c.nothing-in_default.result c.nothing-in_default.ensures

-- a truth value for each unit
pub returns-in-Bool : goal.returns-in-Bool
returns-in-Bool c =
    let m = const_machine in
    let first = c.args.first in
    let second = c.args.second in
    let truth = c.in-Bool.truth in
    let n = c.min-whole.result in
    let zs = c.fill_flags.new.places in
    let written : Written = record { flags = zs; ints = c.args.block.now.ints } in
    let made : Moved = record { first = n; second = 0; units = 0; flags = n; ints = 0; steps = 2 * n } in
    let in_units : n ≤ c.units-units.result = omega (arith, c.min.ensures, c.min-whole.ensures) in
    let in_zs : n ≤ length zs = omega (arith, c.fill_flags.ensures.length, c.min.ensures, c.min-whole.ensures, c.requires) in
    let ran = single_ran m (Truth truth) (unit_signals n) [] (copies (cell_of_scalar (Truth truth)) n) (const_steps (Truth truth) n) first second
    written made refl (units_shown first c.units-units.result n c.units-units.ensures in_units) refl
    (sym (filled_flags truth false n zs in_zs c.fill_flags.ensures.filled)) refl in
    let on : Scalar → Bool → Scalar × Bool = λ k due. (k, due) in
    subst (λ k. MovesAlong m (on k c.args.self.now.due) (on k c.args.self.now.due) first second c.args.space c.args.most written made)
    (sym c.in-Bool.is) (subst (λ due. MovesAlong m (on (Truth truth) due) (on (Truth truth) due) first second c.args.space c.args.most written made)
    (sym c.if-self.false) (record {
      within = record {
        first = omega (arith, in_units, units_within first c.units-units.result c.units-units.ensures);
        second = omega arith;
        units = omega arith;
        flags = omega (arith, c.min.ensures, c.min-whole.ensures);
        ints = omega arith;
        steps = omega (arith, c.min-whole.ensures);
      };
      ran = ran;
    }))

-- an integer for each unit
pub returns-in-Ok : goal.returns-in-Ok
returns-in-Ok c =
    let m = const_machine in
    let first = c.args.first in
    let second = c.args.second in
    let number = c.in-Int.number in
    let fits : SFits w128 number = search rules in
    let narrow = c.in-Ok.narrow in
    let same : narrow ≡ number = c.in-Ok.ensures.1 ∙ to_z-of_z w128 number fits in
    let narrow_fits : SFits w64 narrow = search rules in
    let back : to_z w64 (of_z w64 narrow) ≡ number = to_z-of_z w64 narrow narrow_fits ∙ same in
    let n = c.min-whole.result in
    let zs = c.fill_ints.new.places in
    let written : Written = record { flags = c.args.block.now.flags; ints = zs } in
    let made : Moved = record { first = n; second = 0; units = 0; flags = 0; ints = n; steps = 2 * n } in
    let in_units : n ≤ c.units-units.result = omega (arith, c.min.ensures, c.min-whole.ensures) in
    let in_zs : n ≤ length zs = omega (arith, c.fill_ints.ensures.length, c.min.ensures, c.min-whole.ensures, c.requires) in
    let filled : (k : ℕ) → k < n → get_or zs k (pos 0) ≡ number = λ k h. c.fill_ints.ensures.filled k h ∙ back in
    let ran = single_ran m (Int number) (unit_signals n) [] (copies (cell_of_scalar (Int number)) n) (const_steps (Int number) n) first second written
    made refl (units_shown first c.units-units.result n c.units-units.ensures in_units) refl (sym (filled_ints number (pos 0) n zs in_zs filled))
    refl in
    let on : Scalar → Bool → Scalar × Bool = λ k due. (k, due) in
    subst (λ k. MovesAlong m (on k c.args.self.now.due) (on k c.args.self.now.due) first second c.args.space c.args.most written made)
    (sym c.in-Int.is) (subst (λ due. MovesAlong m (on (Int number) due) (on (Int number) due) first second c.args.space c.args.most written made)
    (sym c.if-self.false) (record {
      within = record {
        first = omega (arith, in_units, units_within first c.units-units.result c.units-units.ensures);
        second = omega arith;
        units = omega arith;
        flags = omega arith;
        ints = omega (arith, c.min.ensures, c.min-whole.ensures);
        steps = omega (arith, c.min-whole.ensures);
      };
      ran = ran;
    }))
