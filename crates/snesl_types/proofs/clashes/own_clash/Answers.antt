use Rattle.std.proofs.Common.{◌≡◌, sym, ap, subst, ◌∙◌}
use Rattle.snesl_grammar.specs.tree.Tree.{each, offset}
use Rattle.snesl_grammar.specs.tree.View.{tree_of, binders_of}
use Rattle.snesl_types.specs.Clashes.{IsFound}
use Rattle.snesl_types.specs.Misfitting.{ClashesIn}
use Rattle.snesl_types.specs.Names.{condition_in}
use Rattle.snesl_types.proofs.Misfitting.{own_found, binder_found}
use Rattle.snesl_types.proofs.Scopes.{tree_of-Each}
use Rattle.snesl_types.proofs.clashes.own_clash.Goals as goal

pub returns-then-at : goal.returns-then-at
returns-then-at c =
    let e : offset (tree_of c.args.expr.now) ≡ c.args.at = cc in
    own_found c.args.scope.now c.args.at (tree_of c.args.expr.now) c.misfit.result c.found_or_none.result e c.found_or_none.ensures c.misfit.ensures

pub returns-in-Each : goal.returns-in-Each
returns-in-Each c =
    let tree = ap tree_of c.in-Each.is ∙ tree_of-Each c.in-Each.at c.in-Each.body c.in-Each.binders c.in-Each.condition
    ∙ ap (λ l. each c.in-Each.at (tree_of c.in-Each.body.value) (binders_of l) (condition_in c.in-Each.condition)) (sym c.deref.ensures.value) in
    subst (λ x. IsFound (ClashesIn c.args.scope.now c.args.at x) c.found_or_none-in-Each.result) (sym tree)
    (binder_found c.args.scope.now c.args.at c.in-Each.at (tree_of c.in-Each.body.value) (binders_of c.deref.result.now) (condition_in c.in-Each.condition)
    c.source_misfit.result c.found_or_none-in-Each.result c.found_or_none-in-Each.ensures c.source_misfit.ensures)
