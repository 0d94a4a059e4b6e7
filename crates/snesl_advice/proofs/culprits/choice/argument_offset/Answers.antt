use Rattle.std.proofs.Common.{◌≤◌, length, option_map, sym, ap, arith}
use Rattle.snesl_types.specs.Clashes.{clash_of}
use Rattle.snesl_advice.specs.culprits.Offsets.{first_offset}
use Rattle.snesl_advice.proofs.OfCulprits.Others.{too_many}
use Rattle.snesl_advice.proofs.culprits.choice.argument_offset.Goals as goal

pub returns-in_default-2 : goal.returns-in_default-2
returns-in_default-2 c =
    let three : 3 ≤ length c.args.arguments.now = omega arith in
    ap (option_map first_offset) (sym (too_many (clash_of c.args.clash.now) c.args.function c.args.arguments.now three))
