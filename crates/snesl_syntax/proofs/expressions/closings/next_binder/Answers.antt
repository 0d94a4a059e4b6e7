use Rattle.std.proofs.Common.{ap, sym, ◌∙◌, arith, Ok}
use Rattle.snesl_grammar.specs.tree.View.{tree_of}
use Rattle.snesl_grammar.specs.Limits.{greatest_depth}
use Rattle.snesl_syntax.specs.expressions.Readers.{within}
use Rattle.snesl_syntax.specs.expressions.Machine.{binder_name}
use Rattle.snesl_syntax.specs.expressions.Parsing.{frames_of}
use Rattle.snesl_syntax.proofs.OfExpressions.Closes.{one_more_binder, no_more_binder}
use Rattle.snesl_syntax.proofs.expressions.closings.next_binder.Goals as goal

pub returns-then-len-ge-GREATEST_BINDER_COUNT : goal.returns-then-len-ge-GREATEST_BINDER_COUNT
returns-then-len-ge-GREATEST_BINDER_COUNT c =
    ap (within greatest_depth)
    (no_more_binder c.args.bound.binders.items c.args.at (tree_of c.args.body.expr.value) c.args.name (frames_of c.args.outer.items) (tree_of c.args.whole.expr.value)
    (omega (arith, c.args.bound.binders.ok.0, c.len.ensures)))

pub returns : goal.returns
returns c =
    ap (within greatest_depth)
    (one_more_binder c.args.bound.binders.items c.args.at (tree_of c.args.body.expr.value) c.args.name (frames_of c.args.outer.items) (tree_of c.args.whole.expr.value)
    (omega (arith, c.args.bound.binders.ok.0, c.len.ensures)))
    ∙ ap (λ bs. Ok (binder_name (frames_of c.args.outer.items) c.args.at (tree_of c.args.body.expr.value) bs)) (sym c.in_ok-bound.ensures)
