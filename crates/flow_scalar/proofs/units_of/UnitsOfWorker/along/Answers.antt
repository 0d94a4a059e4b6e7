use Rattle.std.proofs.Common.{◌≡◌, ◌+◌, ◌≤◌, not, [], length, take, refl, sym, ◌∙◌, ap, subst, arith}
use Rattle.std.proofs.lemmas.List.{length-take-le}
use Rattle.std.proofs.lemmas.List.Sums.{count_by-le-length}
use Rattle.flow_messages.specs.Blocks.{unit_signals, flag_signals, item_signals}
use Rattle.flow_base.specs.Along.{MovesAlong}
use Rattle.flow_base.specs.declared.slices.Moved.{Moved}
use Rattle.flow_base.proofs.Along.{moved_nothing, single_ran}
use Rattle.flow_base.proofs.Batches.{take_flags, length_flags}
use Rattle.flow_scalar.specs.UnitsOfMachine.{units_of_machine, units_of_view}
use Rattle.flow_scalar.proofs.UnitsOfBlocks.{elements, counted, units_of_steps}
use Rattle.flow_scalar.proofs.units_of.UnitsOfWorker.along.Goals as goal

-- it moved nothing
pub returns-then-self : goal.returns-then-self
returns-then-self c = moved_nothing units_of_machine (units_of_view c.args.self.now) c.args.first c.args.second c.args.space c.args.most c.args.block.now c.nothing.result c.nothing.ensures

pub returns-in_default : goal.returns-in_default
returns-in_default c =
    moved_nothing units_of_machine (units_of_view c.args.self.now) c.args.first c.args.second c.args.space c.args.most c.args.block.now
    c.nothing-in_default.result c.nothing-in_default.ensures

-- it went along flags
pub returns : goal.returns
returns c =
    let m = units_of_machine in
    let shown = c.in-Flags.flags.now in
    let whole = c.min-whole.result in
    let units = c.elements_in-units.result in
    let flags = take whole shown in
    let made : Moved = record { first = whole; second = 0; units = units; flags = 0; ints = 0; steps = whole + units } in
    let all : length (item_signals c.args.first) ≡ length shown = ap (λ s. length (item_signals s)) c.in-Flags.is ∙ length_flags shown in
    let least : whole ≤ length shown = omega (arith, c.min.ensures, c.min-whole.ensures) in
    let long : length flags ≡ whole = length-take-le whole shown least in
    let fewer : units ≤ whole = omega (arith, c.elements_in-units.ensures, count_by-le-length not flags, long) in
    let of_units : elements flags ≡ units = counted flags ∙ sym c.elements_in-units.ensures in
    let firsts : flag_signals flags ≡ take whole (item_signals c.args.first) = sym (take_flags whole shown) ∙ ap (λ s. take whole (item_signals s)) (sym c.in-Flags.is) in
    let steps : length flags + elements flags ≡ whole + units = omega (arith, long, of_units) in
    let ran = single_ran m tt (flag_signals flags) [] (unit_signals (elements flags)) (units_of_steps flags) c.args.first c.args.second
    c.args.block.now made refl firsts refl (ap unit_signals of_units) steps in
    subst (λ due. MovesAlong m (tt, due) (tt, due) c.args.first c.args.second c.args.space c.args.most c.args.block.now made) (sym c.if-self.false) (record {
      within = record {
        first = omega (arith, all, least);
        second = omega arith;
        units = omega (arith, fewer, c.min.ensures, c.min-whole.ensures);
        flags = omega arith;
        ints = omega arith;
        steps = omega (arith, fewer, c.min-whole.ensures);
      };
      ran = ran;
    })
