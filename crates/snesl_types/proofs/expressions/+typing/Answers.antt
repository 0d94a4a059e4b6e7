use Rattle.std.proofs.Common.{◌≡◌, ◌⊎◌, ℕ, ◌+◌, [], ◌++◌, map, drop, Vec, Global, Ok, Err, sym, ap, ◌∙◌, subst, arith}
use Rattle.snesl_data.specs.declared.ty.Ty.{Ty as TyTree}
use Rattle.snesl_data.specs.Types.{ty_of}
use Rattle.snesl_grammar.specs.tree.Tree.{call, apply, literal}
use Rattle.snesl_grammar.specs.tree.View.{tree_of, trees_of, binders_of}
use Rattle.snesl_grammar.proofs.OfTree.Arguments.{tree_of-Call, tree_of-Apply, tree_of-Literal}
use Rattle.snesl_types.specs.Names.{context_of, ruled_in, typed_in, all_typed_in, binders_typed_in, condition_in}
use Rattle.snesl_types.specs.Contexts.{names_context, inside}
use Rattle.snesl_values.specs.Inputs.{declared}
use Rattle.snesl_types.specs.Verdicts.{IsVerdict, of_each}
use Rattle.snesl_data.specs.declared.refusal.Refusal.TheVariants.{NoMemory}
use Rattle.snesl_types.proofs.Scopes.{tree_of-Each, within_names, bound_items, each_condition_refused, each_body_refused, each_answered}
use Rattle.snesl_types.proofs.InOrder.{refusal_passes, map_push, types_given, types_refused, types_all, binders_refused, binders_all}
use Rattle.snesl_types.proofs.Passing.{refused_by, refused_first, answered_second}
use Rattle.snesl_types.proofs.expressions.+typing.Goals as goal

pub type_by_rule-returns-in_err-types-in-Call : goal.type_by_rule-returns-in_err-types-in-Call
type_by_rule-returns-in_err-types-in-Call t c =
    let scope = c.args.scope.now in
    let tree = ap tree_of c.in-Call.is ∙ tree_of-Call c.in-Call.at c.in-Call.function c.in-Call.arguments
    ∙ ap (λ l. call c.in-Call.at c.in-Call.function (trees_of l)) (sym c.deref-in-Call.ensures.value) in
    subst (λ x. IsVerdict ty_of (ruled_in scope x) c.from_residual-in_err-types-in-Call.result) (sym tree)
    (refused_first ty_of (all_typed_in scope [] (trees_of c.deref-in-Call.result.now)) _
    c.in_err-types-in-Call.field-0.0 c.from_residual-in_err-types-in-Call.result c.from_residual-in_err-types-in-Call.ensures c.in_err-types-in-Call.ensures)

pub type_by_rule-returns-in_ok-types-in-Call : goal.type_by_rule-returns-in_ok-types-in-Call
type_by_rule-returns-in_ok-types-in-Call t c =
    let scope = c.args.scope.now in
    let tree = ap tree_of c.in-Call.is ∙ tree_of-Call c.in-Call.at c.in-Call.function c.in-Call.arguments
    ∙ ap (λ l. call c.in-Call.at c.in-Call.function (trees_of l)) (sym c.deref-in-Call.ensures.value) in
    subst (λ x. IsVerdict ty_of (ruled_in scope x) c.builtin_type.result) (sym tree)
    (answered_second ty_of (all_typed_in scope [] (trees_of c.deref-in-Call.result.now)) _ (map ty_of c.deref-in-Call-2.result.now) c.builtin_type.result
    (c.in_ok-types-in-Call.ensures ∙ ap (λ l. Ok (map ty_of l)) (sym c.deref-in-Call-2.ensures.value)) c.builtin_type.ensures)

pub type_by_rule-returns-in_err-types-in-Apply : goal.type_by_rule-returns-in_err-types-in-Apply
type_by_rule-returns-in_err-types-in-Apply t c =
    let scope = c.args.scope.now in
    let tree = ap tree_of c.in-Apply.is ∙ tree_of-Apply c.in-Apply.function c.in-Apply.arguments ∙ ap (λ l. apply c.in-Apply.function (trees_of l)) (sym c.deref-in-Apply.ensures.value) in
    subst (λ x. IsVerdict ty_of (ruled_in scope x) c.from_residual-in_err-types-in-Apply.result) (sym tree)
    (refused_first ty_of (all_typed_in scope [] (trees_of c.deref-in-Apply.result.now)) _
    c.in_err-types-in-Apply.field-0.0 c.from_residual-in_err-types-in-Apply.result c.from_residual-in_err-types-in-Apply.ensures c.in_err-types-in-Apply.ensures)

pub type_by_rule-returns-in_ok-types-in-Apply : goal.type_by_rule-returns-in_ok-types-in-Apply
type_by_rule-returns-in_ok-types-in-Apply t c =
    let scope = c.args.scope.now in
    let tree = ap tree_of c.in-Apply.is ∙ tree_of-Apply c.in-Apply.function c.in-Apply.arguments ∙ ap (λ l. apply c.in-Apply.function (trees_of l)) (sym c.deref-in-Apply.ensures.value) in
    subst (λ x. IsVerdict ty_of (ruled_in scope x) c.call_type.result) (sym tree)
    (answered_second ty_of (all_typed_in scope [] (trees_of c.deref-in-Apply.result.now)) _ (map ty_of c.deref-in-Apply-2.result.now) c.call_type.result
    (c.in_ok-types-in-Apply.ensures ∙ ap (λ l. Ok (map ty_of l)) (sym c.deref-in-Apply-2.ensures.value)) c.call_type.ensures)

pub type_by_rule-returns-in_err-types-in-Literal : goal.type_by_rule-returns-in_err-types-in-Literal
type_by_rule-returns-in_err-types-in-Literal t c =
    let scope = c.args.scope.now in
    let tree = ap tree_of c.in-Literal.is ∙ tree_of-Literal c.in-Literal.at c.in-Literal.items ∙ ap (λ l. literal c.in-Literal.at (trees_of l)) (sym c.deref-in-Literal.ensures.value) in
    subst (λ x. IsVerdict ty_of (ruled_in scope x) c.from_residual-in_err-types-in-Literal.result) (sym tree)
    (refused_first ty_of (all_typed_in scope [] (trees_of c.deref-in-Literal.result.now)) _
    c.in_err-types-in-Literal.field-0.0 c.from_residual-in_err-types-in-Literal.result c.from_residual-in_err-types-in-Literal.ensures c.in_err-types-in-Literal.ensures)

pub type_by_rule-returns-in_ok-types-in-Literal : goal.type_by_rule-returns-in_ok-types-in-Literal
type_by_rule-returns-in_ok-types-in-Literal t c =
    let scope = c.args.scope.now in
    let tree = ap tree_of c.in-Literal.is ∙ tree_of-Literal c.in-Literal.at c.in-Literal.items ∙ ap (λ l. literal c.in-Literal.at (trees_of l)) (sym c.deref-in-Literal.ensures.value) in
    subst (λ x. IsVerdict ty_of (ruled_in scope x) c.literal_type.result) (sym tree)
    (answered_second ty_of (all_typed_in scope [] (trees_of c.deref-in-Literal.result.now)) _ (map ty_of c.deref-in-Literal-2.result.now) c.literal_type.result
    (c.in_ok-types-in-Literal.ensures ∙ ap (λ l. Ok (map ty_of l)) (sym c.deref-in-Literal-2.ensures.value)) c.literal_type.ensures)

pub type_by_rule-returns-in_err-items-in-Each : goal.type_by_rule-returns-in_err-items-in-Each
type_by_rule-returns-in_err-items-in-Each t c =
    let scope = c.args.scope.now in
    let each_tree = ap tree_of c.in-Each.is ∙ tree_of-Each c.in-Each.at c.in-Each.body c.in-Each.binders c.in-Each.condition in
    subst (λ x. IsVerdict ty_of (ruled_in scope x) c.from_residual-in_err-items-in-Each.result) (sym each_tree)
    (refused_first ty_of (binders_typed_in scope [] (binders_of c.in-Each.binders.items)) _
    c.in_err-items-in-Each.field-0.0 c.from_residual-in_err-items-in-Each.result c.from_residual-in_err-items-in-Each.ensures
    (subst (λ l. (c.in_err-items-in-Each.field-0.0 ≡ NoMemory) ⊎ (binders_typed_in scope [] (binders_of l) ≡ Err c.in_err-items-in-Each.field-0.0))
    c.deref-in-Each.ensures.value c.in_err-items-in-Each.ensures))

pub type_by_rule-returns-in_err-condition-in-Each : goal.type_by_rule-returns-in_err-condition-in-Each
type_by_rule-returns-in_err-condition-in-Each t c =
    let scope = c.args.scope.now in
    let inner = c.with_names-inner.result in
    let items = declared c.deref-in-Each-2.result.now in
    let each_tree = ap tree_of c.in-Each.is ∙ tree_of-Each c.in-Each.at c.in-Each.body c.in-Each.binders c.in-Each.condition in
    let bound_by = bound_items scope c.deref-in-Each.ensures.value c.in_ok-items-in-Each.ensures c.deref-in-Each-2.ensures.value in
    let made = c.with_names-inner.ensures in
    let within =
    within_names inner scope (λ text. names_context items ++ inside (context_of text scope.names.now)) made.dialect made.text made.functions
    (ap (context_of inner.text.now) made.names) in
    each_condition_refused inner scope items within (tree_of c.args.expr.now) (tree_of c.in-Each.body.value) (binders_of c.in-Each.binders.items) (condition_in c.in-Each.condition) each_tree bound_by
    c.in_err-condition-in-Each.field-0.0 c.from_residual-in_err-condition-in-Each.result c.from_residual-in_err-condition-in-Each.ensures c.in_err-condition-in-Each.ensures

pub type_by_rule-returns-in_err-body-in-Each : goal.type_by_rule-returns-in_err-body-in-Each
type_by_rule-returns-in_err-body-in-Each t c =
    let scope = c.args.scope.now in
    let inner = c.with_names-inner.result in
    let items = declared c.deref-in-Each-2.result.now in
    let each_tree = ap tree_of c.in-Each.is ∙ tree_of-Each c.in-Each.at c.in-Each.body c.in-Each.binders c.in-Each.condition in
    let bound_by = bound_items scope c.deref-in-Each.ensures.value c.in_ok-items-in-Each.ensures c.deref-in-Each-2.ensures.value in
    let made = c.with_names-inner.ensures in
    let within =
    within_names inner scope (λ text. names_context items ++ inside (context_of text scope.names.now)) made.dialect made.text made.functions
    (ap (context_of inner.text.now) made.names) in
    each_body_refused inner scope items within (tree_of c.args.expr.now) (tree_of c.in-Each.body.value) (binders_of c.in-Each.binders.items) (condition_in c.in-Each.condition) each_tree bound_by
    (ty_of c.in_ok-condition-in-Each.condition) c.in_err-body-in-Each.field-0.0 c.from_residual-in_err-body-in-Each.result c.from_residual-in_err-body-in-Each.ensures
    c.in_ok-condition-in-Each.ensures
    (subst (λ x. (c.in_err-body-in-Each.field-0.0 ≡ NoMemory) ⊎ (typed_in inner (tree_of x) ≡ Err c.in_err-body-in-Each.field-0.0)) c.deref-in-Each-3.ensures c.in_err-body-in-Each.ensures)

pub type_by_rule-returns-in_ok-body-in-Each : goal.type_by_rule-returns-in_ok-body-in-Each
type_by_rule-returns-in_ok-body-in-Each t c =
    let scope = c.args.scope.now in
    let inner = c.with_names-inner.result in
    let items = declared c.deref-in-Each-2.result.now in
    let each_tree = ap tree_of c.in-Each.is ∙ tree_of-Each c.in-Each.at c.in-Each.body c.in-Each.binders c.in-Each.condition in
    let bound_by = bound_items scope c.deref-in-Each.ensures.value c.in_ok-items-in-Each.ensures c.deref-in-Each-2.ensures.value in
    let made = c.with_names-inner.ensures in
    let within =
    within_names inner scope (λ text. names_context items ++ inside (context_of text scope.names.now)) made.dialect made.text made.functions
    (ap (context_of inner.text.now) made.names) in
    each_answered inner scope items within (tree_of c.args.expr.now) (tree_of c.in-Each.body.value) (binders_of c.in-Each.binders.items) (condition_in c.in-Each.condition) each_tree bound_by
    (ty_of c.in_ok-condition-in-Each.condition) (ty_of c.in_ok-body-in-Each.body) c.each_type.result
    c.in_ok-condition-in-Each.ensures (ap (λ x. typed_in inner (tree_of x)) (sym c.deref-in-Each-3.ensures) ∙ c.in_ok-body-in-Each.ensures)
    (subst (λ l. IsVerdict ty_of (of_each c.in-Each.at (binders_of l) (ty_of c.in_ok-body-in-Each.body) (ty_of c.in_ok-condition-in-Each.condition))
    c.each_type.result) c.deref-in-Each-4.ensures.value c.each_type.ensures)

pub types_of-returns-in_err-ty : goal.types_of-returns-in_err-ty
types_of-returns-in_err-ty t c =
    let scope = c.args.scope.now in
    let all = c.args.arguments.now in
    let one = c.argument-item.result in
    let whole = all_typed_in scope [] (trees_of all) in
    let e = c.in_err-ty.field-0.0 in
    refused_by (λ (types : Vec TyTree Global). map ty_of types.items) whole e c.from_residual.result c.from_residual.ensures
    (refusal_passes (typed_in scope (tree_of one)) whole e c.in_err-ty.ensures (λ is.
    c.loop-argument.invariant ∙ types_refused scope (map ty_of c.loop-argument.types.items) all c.loop-argument.argument-index one e c.loop-argument-test.true c.argument-item.is is))

pub types_of-loop-argument-preserved : goal.types_of-loop-argument-preserved
types_of-loop-argument-preserved t c =
    let scope = c.args.scope.now in
    let all = c.args.arguments.now in
    let i = c.loop-argument.argument-index in
    let types = c.loop-argument.types.items in
    let ty = c.in_ok-ty.ty in
    c.loop-argument.invariant
    ∙ types_given scope (map ty_of types) all i c.argument-item.result (ty_of ty) c.loop-argument-test.true c.argument-item.is c.in_ok-ty.ensures
    ∙ ap (λ earlier. all_typed_in scope earlier (trees_of (drop (i + 1) all))) (sym (ap (map ty_of) c.in_ok-push.ensures.items ∙ map_push ty_of types ty))

pub types_of-returns : goal.types_of-returns
types_of-returns t c =
    c.loop-argument.invariant ∙ types_all c.args.scope.now (map ty_of c.loop-argument.types.items) c.args.arguments.now c.loop-argument.argument-index (omega arith)

pub binder_types-returns-in_err-source : goal.binder_types-returns-in_err-source
binder_types-returns-in_err-source t c =
    let scope = c.args.scope.now in
    let all = c.args.binders.now in
    let one = c.binder-item.result in
    let whole = binders_typed_in scope [] (binders_of all) in
    let e = c.in_err-source.field-0.0 in
    refused_by (λ (items : Vec (Vec ℕ Global × TyTree) Global). declared items.items) whole e c.from_residual.result c.from_residual.ensures
    (refusal_passes (typed_in scope (tree_of one.source)) whole e c.in_err-source.ensures (λ is.
    c.loop-binder.invariant ∙ binders_refused scope (declared c.loop-binder.items.items) all c.loop-binder.binder-index one e c.loop-binder-test.true c.binder-item.is is))

pub binder_types-returns : goal.binder_types-returns
binder_types-returns t c =
    c.loop-binder.invariant ∙ binders_all c.args.scope.now (declared c.loop-binder.items.items) c.args.binders.now c.loop-binder.binder-index (omega arith)
