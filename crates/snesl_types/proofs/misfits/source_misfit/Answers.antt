use Rattle.snesl_grammar.specs.tree.View.{tree_of, binders_of}
use Rattle.snesl_types.specs.Misfitting.{IsNoSequence, SourceMisfitsIn}
use Rattle.snesl_types.proofs.Misfitting.{found_as, source_at}
use Rattle.snesl_types.proofs.misfits.source_misfit.Goals as goal

pub returns-then-binder-at : goal.returns-then-binder-at
returns-then-binder-at c =
    let e = c.if-binder-at.true in
    found_as (IsNoSequence c.args.scope.now (tree_of c.binder-item.result.source)) (SourceMisfitsIn c.args.scope.now c.args.at (binders_of c.args.binders.now)) c.type_of_no_sequence.result
    (λ clash h. source_at c.args.scope.now c.args.at c.args.binders.now c.loop-binder.binder-index c.binder-item.result clash c.loop-binder-test.true c.binder-item.is e h)
    c.type_of_no_sequence.ensures
