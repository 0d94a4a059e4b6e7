use Rattle.std.proofs.Common.{◌≡◌, IfOk, subst, sym}
use Rattle.snesl_grammar.specs.tree.View.{tree_of}
use Rattle.snesl_syntax.specs.expressions.Machine.{closed_with}
use Rattle.snesl_syntax.specs.expressions.Parsing.{frame_of}
use Rattle.snesl_syntax.proofs.expressions.forms.closed.Goals as goal

pub returns-in-Binary : goal.returns-in-Binary
returns-in-Binary c =
    subst (λ form. IfOk c.binary.result (λ whole. tree_of whole.expr.value ≡ closed_with (frame_of form) (tree_of c.args.last.expr.value))) (sym c.in-Binary.is) c.binary.ensures
