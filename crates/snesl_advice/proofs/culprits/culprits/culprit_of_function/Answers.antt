use Rattle.snesl_grammar.specs.tree.View.{tree_of}
use Rattle.snesl_types.specs.Clashes.{clash_of}
use Rattle.snesl_advice.proofs.OfCulprits.Found.{past_name}
use Rattle.snesl_advice.proofs.culprits.culprits.culprit_of_function.Goals as goal

pub returns : goal.returns
returns c = past_name c.args.at (clash_of c.args.clash.now) c.args.function.now.name (tree_of c.args.function.now.body) c.culprit_in.result c.if-function-at.false c.culprit_in.ensures
