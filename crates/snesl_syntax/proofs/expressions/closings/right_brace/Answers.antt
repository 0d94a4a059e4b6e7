use Rattle.std.proofs.Common.{◌∷◌, Ok, subst, sym}
use Rattle.snesl_grammar.specs.tree.View.{tree_of}
use Rattle.snesl_grammar.specs.Limits.{greatest_depth}
use Rattle.snesl_syntax.specs.expressions.Readers.{within}
use Rattle.snesl_syntax.specs.expressions.Machine.{after, brace_move}
use Rattle.snesl_syntax.specs.expressions.Parsing.{frame_of, frames_of, IsStep}
use Rattle.snesl_syntax.proofs.expressions.closings.right_brace.Goals as goal

pub returns-in_ok-each_where-in-EachCondition : goal.returns-in_ok-each_where-in-EachCondition
returns-in_ok-each_where-in-EachCondition c =
    let given = c.behind-in-EachCondition.result in
    let outer = frames_of c.args.outer.items in
    subst (λ form. IsStep given (within greatest_depth (brace_move (frame_of form ∷ outer) (tree_of c.args.whole.expr.value)))) (sym c.in-EachCondition.is)
    (subst (λ tree. IsStep given (Ok (after outer tree))) c.in_ok-each_where-in-EachCondition.ensures c.behind-in-EachCondition.ensures)
