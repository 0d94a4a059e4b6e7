use Rattle.snesl_grammar.specs.tree.View.{tree_of}
use Rattle.snesl_syntax.specs.expressions.Machine.{reduce}
use Rattle.snesl_syntax.specs.expressions.Parsing.{frames_of}
use Rattle.snesl_syntax.proofs.OfExpressions.Closes.{popped}
use Rattle.snesl_syntax.proofs.expressions.forms.find_innermost.Goals as goal

pub returns-in-Some : goal.returns-in-Some
returns-in-Some c =
    popped (reduce 0 (frames_of c.args.forms.items) (tree_of c.args.last.expr.value)) c.in_ok-outer.outer.items c.pop.new.self.items c.in-Some.form
    (tree_of c.in_ok-outer.whole.expr.value) c.in_ok-outer.ensures c.in-Some.ensures.items
