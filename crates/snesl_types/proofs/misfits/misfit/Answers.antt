use Rattle.std.proofs.Common.{sym, ap, subst, ◌∙◌}
use Rattle.snesl_grammar.specs.tree.Tree.{call, apply, literal, each}
use Rattle.snesl_grammar.specs.tree.View.{tree_of, trees_of, binders_of}
use Rattle.snesl_grammar.proofs.OfTree.Arguments.{tree_of-Call, tree_of-Apply, tree_of-Literal}
use Rattle.snesl_types.specs.Clashes.{IsFound}
use Rattle.snesl_types.specs.Misfitting.{MisfitsIn, ConditionMisfitsIn}
use Rattle.snesl_types.specs.Names.{condition_in}
use Rattle.snesl_types.proofs.Misfitting.{found_as}
use Rattle.snesl_types.proofs.Scopes.{tree_of-Each}
use Rattle.snesl_types.proofs.misfits.misfit.Goals as goal

pub returns-in-Call : goal.returns-in-Call
returns-in-Call c =
    let tree = ap tree_of c.in-Call.is ∙ tree_of-Call c.in-Call.at c.in-Call.function c.in-Call.arguments
    ∙ ap (λ l. call c.in-Call.at c.in-Call.function (trees_of l)) (sym c.deref-in-Call.ensures.value) in
    subst (λ x. IsFound (MisfitsIn c.args.scope.now x) c.arguments_misfit.result) (sym tree) c.arguments_misfit.ensures

pub returns-in-Apply : goal.returns-in-Apply
returns-in-Apply c =
    let tree = ap tree_of c.in-Apply.is ∙ tree_of-Apply c.in-Apply.function c.in-Apply.arguments ∙ ap (λ l. apply c.in-Apply.function (trees_of l)) (sym c.deref-in-Apply.ensures.value) in
    subst (λ x. IsFound (MisfitsIn c.args.scope.now x) c.parameters_misfit.result) (sym tree) c.parameters_misfit.ensures

pub returns-in-Literal : goal.returns-in-Literal
returns-in-Literal c =
    let tree = ap tree_of c.in-Literal.is ∙ tree_of-Literal c.in-Literal.at c.in-Literal.items ∙ ap (λ l. literal c.in-Literal.at (trees_of l)) (sym c.deref-in-Literal.ensures.value) in
    subst (λ x. IsFound (MisfitsIn c.args.scope.now x) c.items_misfit.result) (sym tree) c.items_misfit.ensures

pub returns-in-Each : goal.returns-in-Each
returns-in-Each c =
    let tree = ap tree_of c.in-Each.is ∙ tree_of-Each c.in-Each.at c.in-Each.body c.in-Each.binders c.in-Each.condition
    ∙ ap (λ l. each c.in-Each.at (tree_of c.in-Each.body.value) (binders_of l) (condition_in c.in-Each.condition)) (sym c.deref-in-Each.ensures.value) in
    subst (λ x. IsFound (MisfitsIn c.args.scope.now x) c.condition_misfit.result) (sym tree)
    (found_as (ConditionMisfitsIn c.args.scope.now (binders_of c.deref-in-Each.result.now) (condition_in c.in-Each.condition))
    (MisfitsIn c.args.scope.now
    (each c.in-Each.at (tree_of c.in-Each.body.value) (binders_of c.deref-in-Each.result.now) (condition_in c.in-Each.condition)))
    c.condition_misfit.result (λ clash h. h c.in-Each.at (tree_of c.in-Each.body.value)) c.condition_misfit.ensures)
