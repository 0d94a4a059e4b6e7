use Rattle.std.proofs.Common.{◌≤◌, length, arith}
use Rattle.flow_scalar.proofs.ForkBlocks.{copied_units, copied_flags, copied_ints, filled}
use Rattle.flow_scalar.proofs.fork.copy_shown.Goals as goal

pub returns-in-Unit-clause-copied : goal.returns-in-Unit-clause-copied
returns-in-Unit-clause-copied c = copied_units _ c.args.shown _ c.units.result c.min.result c.in-Unit.is c.units.ensures (omega (arith, c.min.ensures))

pub returns-in-Bool-clause-copied : goal.returns-in-Bool-clause-copied
returns-in-Bool-clause-copied c =
    let flags = c.flags-flags.result.now in
    let count = c.min-count.result in
    let within : count ≤ length flags = omega (arith, c.min-count.ensures) in
    copied_flags _ c.args.shown _ flags count c.in-Bool.is c.flags-flags.ensures within (filled count flags _ c.copy_from_slice.new.self within c.copy_from_slice.ensures.after)

pub returns-in-Int-clause-copied : goal.returns-in-Int-clause-copied
returns-in-Int-clause-copied c =
    let numbers = c.ints-ints.result.now in
    let count = c.min-count-in-Int.result in
    let within : count ≤ length numbers = omega (arith, c.min-count-in-Int.ensures) in
    copied_ints _ c.args.shown _ numbers count c.in-Int.is c.ints-ints.ensures within (filled count numbers _ c.copy_from_slice-in-Int.new.self within c.copy_from_slice-in-Int.ensures.after)
