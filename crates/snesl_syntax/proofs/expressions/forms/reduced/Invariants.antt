use Rattle.std.proofs.Common.{◌≡◌, vec_len}
use Rattle.snesl_grammar.specs.tree.View.{tree_of}
use Rattle.snesl_syntax.specs.expressions.Machine.{reduce}
use Rattle.snesl_syntax.specs.expressions.Parsing.{frames_of}
use Rattle.snesl_syntax.proofs.expressions.forms.reduced.Given as goal

abbrev pub invariant-loop-form : goal.invariant-loop-form
invariant-loop-form l =
    reduce l.tightness (frames_of l.forms.items) (tree_of l.last.expr.value)
    ≡ reduce l.tightness (frames_of l.fn.forms.items) (tree_of l.fn.last.expr.value)

abbrev pub decreases-loop-form : goal.decreases-loop-form
decreases-loop-form l = vec_len l.forms
