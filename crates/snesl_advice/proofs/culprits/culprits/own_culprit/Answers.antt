use Rattle.std.proofs.Common.{◌≡◌, arith}
use Rattle.snesl_grammar.specs.tree.Tree.{offset}
use Rattle.snesl_grammar.specs.tree.View.{tree_of}
use Rattle.snesl_types.specs.Clashes.{clash_of}
use Rattle.snesl_advice.specs.culprits.Faults.{at_fault}
use Rattle.snesl_advice.specs.culprits.Culprits.{IsOwnCulprit}
use Rattle.snesl_advice.proofs.OfCulprits.Found.{option_begins}
use Rattle.snesl_advice.proofs.culprits.culprits.own_culprit.Goals as goal

pub returns-then-at : goal.returns-then-at
returns-then-at c =
    let clash = clash_of c.args.clash.now in
    let tree = tree_of c.args.expr.now in
    let here : offset tree ≡ c.args.at = cc in
    option_begins (IsOwnCulprit c.args.at clash tree) (at_fault clash tree) c.fault_offset.result c.fault_offset.ensures (λ part e. (here, e)) (λ part own. own.1)

pub returns : goal.returns
returns c = λ part own. let here : offset (tree_of c.args.expr.now) ≡ c.args.at = own.0 in omega (arith, here)
