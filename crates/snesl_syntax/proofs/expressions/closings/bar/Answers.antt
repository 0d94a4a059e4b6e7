use Rattle.std.proofs.Common.{ap}
use Rattle.snesl_grammar.specs.tree.View.{tree_of}
use Rattle.snesl_grammar.specs.Limits.{greatest_depth}
use Rattle.snesl_syntax.specs.expressions.Readers.{within}
use Rattle.snesl_syntax.specs.expressions.Parsing.{frames_of}
use Rattle.snesl_syntax.proofs.OfExpressions.Closes.{no_bar}
use Rattle.snesl_syntax.proofs.expressions.closings.bar.Goals as goal

pub returns-in_default : goal.returns-in_default
returns-in_default c =
    ap (within greatest_depth) (no_bar c.args.form (frames_of c.args.outer.items) (tree_of c.args.whole.expr.value) c.in_default.not-Braces c.in_default.not-Source)
