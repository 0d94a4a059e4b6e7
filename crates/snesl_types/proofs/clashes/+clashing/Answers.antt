use Rattle.std.proofs.Common.{◌≡◌, ◌++◌, ◌∷◌, [], Ok, refl, sym, ap, subst, ◌∙◌}
use Rattle.snesl_data.specs.Types.{ty_of}
use Rattle.snesl_values.specs.Inputs.{declared}
use Rattle.snesl_grammar.specs.tree.Spelling.{spelling}
use Rattle.snesl_grammar.specs.tree.Tree.{call, apply, literal, each, both, none, binding}
use Rattle.snesl_grammar.specs.tree.View.{tree_of, trees_of, binders_of}
use Rattle.snesl_grammar.proofs.OfTree.Arguments.{tree_of-Call, tree_of-Apply, tree_of-Literal}
use Rattle.snesl_types.specs.Clashes.{IsFound, seen_parts, sources}
use Rattle.snesl_types.specs.Contexts.{names_context, inside, bound}
use Rattle.snesl_types.specs.Misfitting.{ClashesIn, AnyClashesIn}
use Rattle.snesl_types.specs.Names.{context_of, condition_in, binders_typed_in}
use Rattle.snesl_types.proofs.Misfitting.{two_first, later, any_found, source_found, part_found, let_found, in_each_condition, in_each_body, in_let, in_one}
use Rattle.snesl_types.proofs.Scopes.{within_names, bound_items, tree_of-Each}
use Rattle.snesl_types.proofs.clashes.+clashing.Goals as goal

pub part_clash-returns-in-Prefix : goal.part_clash-returns-in-Prefix
part_clash-returns-in-Prefix t c =
    in_one c.args.scope.now c.args.at (seen_parts (tree_of c.args.expr.now)) (tree_of c.deref.result.now) c.clash_in.result
    (ap (λ x. seen_parts (tree_of x)) c.in-Prefix.is ∙ ap (λ x. both (tree_of x) none) (sym c.deref.ensures)) c.clash_in.ensures

pub part_clash-returns-in-Group : goal.part_clash-returns-in-Group
part_clash-returns-in-Group t c =
    in_one c.args.scope.now c.args.at (seen_parts (tree_of c.args.expr.now)) (tree_of c.deref-in-Group.result.now) c.clash_in-in-Group.result
    (ap (λ x. seen_parts (tree_of x)) c.in-Group.is ∙ ap (λ x. both (tree_of x) none) (sym c.deref-in-Group.ensures)) c.clash_in-in-Group.ensures

pub part_clash-returns-in-Let : goal.part_clash-returns-in-Let
part_clash-returns-in-Let t c =
    in_one c.args.scope.now c.args.at (seen_parts (tree_of c.args.expr.now)) (tree_of c.deref-in-Let.result.now) c.clash_in-in-Let.result
    (ap (λ x. seen_parts (tree_of x)) c.in-Let.is ∙ ap (λ x. both (tree_of x) none) (sym c.deref-in-Let.ensures)) c.clash_in-in-Let.ensures

pub part_clash-returns-in-Call : goal.part_clash-returns-in-Call
part_clash-returns-in-Call t c =
    let tree = ap tree_of c.in-Call.is ∙ tree_of-Call c.in-Call.at c.in-Call.function c.in-Call.arguments
    ∙ ap (λ l. call c.in-Call.at c.in-Call.function (trees_of l)) (sym c.deref-in-Call.ensures.value) in
    subst (λ x. IsFound (AnyClashesIn c.args.scope.now c.args.at (seen_parts x)) c.any_clash.result) (sym tree) c.any_clash.ensures

pub part_clash-returns-in-Apply : goal.part_clash-returns-in-Apply
part_clash-returns-in-Apply t c =
    let tree = ap tree_of c.in-Apply.is ∙ tree_of-Apply c.in-Apply.function c.in-Apply.arguments ∙ ap (λ l. apply c.in-Apply.function (trees_of l)) (sym c.deref-in-Apply.ensures.value) in
    subst (λ x. IsFound (AnyClashesIn c.args.scope.now c.args.at (seen_parts x)) c.any_clash-in-Apply.result) (sym tree) c.any_clash-in-Apply.ensures

pub part_clash-returns-in-Literal : goal.part_clash-returns-in-Literal
part_clash-returns-in-Literal t c =
    let tree = ap tree_of c.in-Literal.is ∙ tree_of-Literal c.in-Literal.at c.in-Literal.items ∙ ap (λ l. literal c.in-Literal.at (trees_of l)) (sym c.deref-in-Literal.ensures.value) in
    subst (λ x. IsFound (AnyClashesIn c.args.scope.now c.args.at (seen_parts x)) c.any_clash-in-Literal.result) (sym tree) c.any_clash-in-Literal.ensures

pub part_clash-returns-in-Each : goal.part_clash-returns-in-Each
part_clash-returns-in-Each t c =
    let tree = ap tree_of c.in-Each.is ∙ tree_of-Each c.in-Each.at c.in-Each.body c.in-Each.binders c.in-Each.condition in
    subst (λ x. IsFound (AnyClashesIn c.args.scope.now c.args.at (seen_parts x)) c.source_clash.result) (sym tree)
    (subst (λ l. IsFound (AnyClashesIn c.args.scope.now c.args.at (sources (binders_of l))) c.source_clash.result) c.deref-in-Each.ensures.value c.source_clash.ensures)

pub two_clash-returns : goal.two_clash-returns
two_clash-returns t c =
    two_first c.args.scope.now c.args.at (tree_of c.args.first.now) (both (tree_of c.args.second.now) none) c.clash_in-found.result c.clash_in-found.ensures

pub two_clash-returns-then-is_nothing : goal.two_clash-returns-then-is_nothing
two_clash-returns-then-is_nothing t c =
    later c.args.scope.now c.args.at (tree_of c.args.first.now) (both (tree_of c.args.second.now) none) c.clash_in.result
    (two_first c.args.scope.now c.args.at (tree_of c.args.second.now) none c.clash_in.result c.clash_in.ensures)

pub three_clash-returns : goal.three_clash-returns
three_clash-returns t c =
    two_first c.args.scope.now c.args.at (tree_of c.args.first.now) (both (tree_of c.args.second.now) (both (tree_of c.args.third.now) none)) c.clash_in-found.result c.clash_in-found.ensures

pub three_clash-returns-then-is_nothing : goal.three_clash-returns-then-is_nothing
three_clash-returns-then-is_nothing t c =
    later c.args.scope.now c.args.at (tree_of c.args.first.now) (both (tree_of c.args.second.now) (both (tree_of c.args.third.now) none)) c.two_clash.result c.two_clash.ensures

pub any_clash-returns-then-not-is_nothing : goal.any_clash-returns-then-not-is_nothing
any_clash-returns-then-not-is_nothing t c =
    any_found c.args.scope.now c.args.at c.args.all.now c.loop-one.one-index c.one-item.result c.clash_in-found.result c.loop-one-test.true c.one-item.is c.clash_in-found.ensures

pub source_clash-returns-then-not-is_nothing : goal.source_clash-returns-then-not-is_nothing
source_clash-returns-then-not-is_nothing t c =
    source_found c.args.scope.now c.args.at c.args.binders.now c.loop-binder.binder-index c.binder-item.result c.clash_in-found.result c.loop-binder-test.true c.binder-item.is c.clash_in-found.ensures

pub clash_in-returns-then-not-is_nothing-2 : goal.clash_in-returns-then-not-is_nothing-2
clash_in-returns-then-not-is_nothing-2 t c = part_found c.args.scope.now c.args.at (tree_of c.args.expr.now) c.part_clash-part.result c.part_clash-part.ensures

pub bound_clash-returns-in-Ok : goal.bound_clash-returns-in-Ok
bound_clash-returns-in-Ok t c =
    let scope = c.args.scope.now in
    let inner = c.with_names-inner.result in
    let made = c.with_names-inner.ensures in
    let within =
    within_names inner scope (λ text. bound (spelling text c.args.name) (ty_of c.in-Ok.ty) ∷ context_of text scope.names.now) made.dialect made.text made.functions
    (ap (context_of inner.text.now) made.names) in
    in_let inner scope c.args.at c.clash_in.result c.args.name (tree_of c.args.value.now) (tree_of c.args.body.now) (ty_of c.in-Ok.ty) within c.in-Ok.ensures c.clash_in.ensures

pub inner_clash-returns-in-Let : goal.inner_clash-returns-in-Let
inner_clash-returns-in-Let t c =
    let tree = ap tree_of c.in-Let.is
    ∙ ap (λ x. binding c.in-Let.at c.in-Let.name (tree_of x) (tree_of c.in-Let.body.value)) (sym c.deref.ensures)
    ∙ ap (λ x. binding c.in-Let.at c.in-Let.name (tree_of c.deref.result.now) (tree_of x)) (sym c.deref-in-Let.ensures) in
    subst (λ x. IsFound (ClashesIn c.args.scope.now c.args.at x) c.bound_clash.result) (sym tree)
    (let_found c.args.scope.now c.args.at c.in-Let.at c.in-Let.name (tree_of c.deref.result.now) (tree_of c.deref-in-Let.result.now) c.bound_clash.result c.bound_clash.ensures)

pub inner_clash-returns-then-is_nothing : goal.inner_clash-returns-then-is_nothing
inner_clash-returns-then-is_nothing t c =
    let scope = c.args.scope.now in
    let inner = c.with_names-inner.result in
    let items = declared c.deref-in-Ok.result.now in
    let bound_by = bound_items scope {binders = c.deref-in-Each.result.now} refl c.in-Ok.ensures c.deref-in-Ok.ensures.value in
    let made = c.with_names-inner.ensures in
    let within =
    within_names inner scope (λ text. names_context items ++ inside (context_of text scope.names.now)) made.dialect made.text made.functions
    (ap (context_of inner.text.now) made.names) in
    let tree = ap tree_of c.in-Each.is ∙ tree_of-Each c.in-Each.at c.in-Each.body c.in-Each.binders c.in-Each.condition
    ∙ ap (λ l. each c.in-Each.at (tree_of c.in-Each.body.value) (binders_of l) (condition_in c.in-Each.condition)) (sym c.deref-in-Each.ensures.value) in
    let whole = tree ∙ ap (λ x. each c.in-Each.at (tree_of x) (binders_of c.deref-in-Each.result.now) (condition_in c.in-Each.condition)) (sym c.deref-then-is_nothing.ensures) in
    subst (λ x. IsFound (ClashesIn scope c.args.at x) c.clash_in.result) (sym whole)
    (in_each_body inner scope c.args.at c.clash_in.result c.in-Each.at (tree_of c.deref-then-is_nothing.result.now) (binders_of c.deref-in-Each.result.now)
    (condition_in c.in-Each.condition) items within bound_by c.clash_in.ensures)

pub inner_clash-returns-else-is_nothing : goal.inner_clash-returns-else-is_nothing
inner_clash-returns-else-is_nothing t c =
    let scope = c.args.scope.now in
    let inner = c.with_names-inner.result in
    let items = declared c.deref-in-Ok.result.now in
    let bound_by = bound_items scope {binders = c.deref-in-Each.result.now} refl c.in-Ok.ensures c.deref-in-Ok.ensures.value in
    let made = c.with_names-inner.ensures in
    let within =
    within_names inner scope (λ text. names_context items ++ inside (context_of text scope.names.now)) made.dialect made.text made.functions
    (ap (context_of inner.text.now) made.names) in
    let tree = ap tree_of c.in-Each.is ∙ tree_of-Each c.in-Each.at c.in-Each.body c.in-Each.binders c.in-Each.condition
    ∙ ap (λ l. each c.in-Each.at (tree_of c.in-Each.body.value) (binders_of l) (condition_in c.in-Each.condition)) (sym c.deref-in-Each.ensures.value) in
    subst (λ x. IsFound (ClashesIn scope c.args.at x) c.condition_clash-found.result) (sym tree)
    (in_each_condition inner scope c.args.at c.condition_clash-found.result c.in-Each.at (tree_of c.in-Each.body.value) (binders_of c.deref-in-Each.result.now)
    (condition_in c.in-Each.condition) items within bound_by c.condition_clash-found.ensures)
