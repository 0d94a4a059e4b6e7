use Rattle.std.proofs.Common.{◌≡◌, true, false, None, arith}
use Rattle.std.specs.Option.{is_some}
use Rattle.snesl_types.specs.Clashes.{clash_of}
use Rattle.snesl_advice.proofs.OfCulprits.Found.{declared_next, declared_here, declared_end}
use Rattle.snesl_advice.proofs.culprits.culprits.culprit_declared.Goals as goal

pub returns-then-is_some : goal.returns-then-is_some
returns-then-is_some c =
    let some : is_some c.culprit_of_declaration-found.result ≡ true = cc in
    c.loop-declaration.invariant c.culprit_of_declaration-found.result
    (declared_here c.args.at (clash_of c.args.clash.now) c.args.declarations.now c.loop-declaration.declaration-index c.declaration-item.result
    c.culprit_of_declaration-found.result c.loop-declaration-test.true c.declaration-item.is c.culprit_of_declaration-found.ensures some)

pub loop-declaration-preserved : goal.loop-declaration-preserved
loop-declaration-preserved c =
    let no : is_some c.culprit_of_declaration-found.result ≡ false = cc in
    λ r h. c.loop-declaration.invariant r
    (declared_next c.args.at (clash_of c.args.clash.now) c.args.declarations.now c.loop-declaration.declaration-index c.declaration-item.result
    c.culprit_of_declaration-found.result r c.loop-declaration-test.true c.declaration-item.is c.culprit_of_declaration-found.ensures no h)

pub returns : goal.returns
returns c =
    c.loop-declaration.invariant None
    (declared_end c.args.at (clash_of c.args.clash.now) c.args.declarations.now c.loop-declaration.declaration-index c.loop-declaration-test.false)
