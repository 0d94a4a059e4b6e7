use Rattle.std.proofs.Common.{sym, ap, ◌∙◌, ◌||◌, ◌&&◌, not}
use Rattle.snesl_grammar.specs.tree.View.{tree_of, trees_of, binders_of}
use Rattle.snesl_grammar.proofs.OfTree.Arguments.{tree_of-Call, tree_of-Apply, tree_of-Literal}
use Rattle.snesl_types.specs.Names.{condition_in}
use Rattle.snesl_types.proofs.Scopes.{tree_of-Each}
use Rattle.snesl_translation.specs.FreeNames.{free, free_of_all, free_of_sources, is_among}
use Rattle.snesl_translator.specs.scopes.Scopes.{binds}
use Rattle.snesl_translator.proofs.OfScopes.Among.{each_named, let_named, at_first, at_hidden, at_inner, at_second}
use Rattle.snesl_translator.proofs.scopes.free_names.+free_names.Goals as goal

pub is_free-returns-in-Literal : goal.is_free-returns-in-Literal
is_free-returns-in-Literal t c =
    let text = c.args.text.now in
    let name = c.args.name.now in
    c.is_free_in_any-in-Literal.ensures
    ∙ ap (λ l. is_among name (free_of_all text (trees_of l))) c.deref-in-Literal.ensures.value
    ∙ sym (ap (λ x. is_among name (free text x)) (ap tree_of c.in-Literal.is ∙ tree_of-Literal c.in-Literal.at c.in-Literal.items))

pub is_free-returns-in-Call : goal.is_free-returns-in-Call
is_free-returns-in-Call t c =
    let text = c.args.text.now in
    let name = c.args.name.now in
    c.is_free_in_any.ensures
    ∙ ap (λ l. is_among name (free_of_all text (trees_of l))) c.deref-in-Call.ensures.value
    ∙ sym (ap (λ x. is_among name (free text x)) (ap tree_of c.in-Call.is ∙ tree_of-Call c.in-Call.at c.in-Call.function c.in-Call.arguments))

pub is_free-returns-in-Apply : goal.is_free-returns-in-Apply
is_free-returns-in-Apply t c =
    let text = c.args.text.now in
    let name = c.args.name.now in
    c.is_free_in_any-in-Apply.ensures
    ∙ ap (λ l. is_among name (free_of_all text (trees_of l))) c.deref-in-Apply.ensures.value
    ∙ sym (ap (λ x. is_among name (free text x)) (ap tree_of c.in-Apply.is ∙ tree_of-Apply c.in-Apply.function c.in-Apply.arguments))

pub is_free-returns-then-not-hidden : goal.is_free-returns-then-not-hidden
is_free-returns-then-not-hidden t c =
    let text = c.args.text.now in
    let name = c.args.name.now in
    let named =
    let_named text name (tree_of c.args.expr.now) c.in-Let.at c.in-Let.place (tree_of c.in-Let.value.value) (tree_of c.in-Let.body.value)
    c.is_free-of_value.result c.is_spelled-hidden.result c.is_free-of_body.result
    (ap tree_of c.in-Let.is)
    (c.is_free-of_value.ensures ∙ ap (λ x. is_among name (free text (tree_of x))) c.deref-in-Let.ensures)
    c.is_spelled-hidden.ensures
    (c.is_free-of_body.ensures ∙ ap (λ x. is_among name (free text (tree_of x))) c.deref-in-Let-2.ensures) in
    at_inner c.is_free-of_value.result c.is_spelled-hidden.result c.is_free-of_body.result c.if-of_value.false c.if-not-hidden.true named

pub is_free-returns-else-not-hidden : goal.is_free-returns-else-not-hidden
is_free-returns-else-not-hidden t c =
    let text = c.args.text.now in
    let name = c.args.name.now in
    let named =
    let_named text name (tree_of c.args.expr.now) c.in-Let.at c.in-Let.place (tree_of c.in-Let.value.value) (tree_of c.in-Let.body.value)
    c.is_free-of_value.result c.is_spelled-hidden.result c.is_free-of_body.result
    (ap tree_of c.in-Let.is)
    (c.is_free-of_value.ensures ∙ ap (λ x. is_among name (free text (tree_of x))) c.deref-in-Let.ensures)
    c.is_spelled-hidden.ensures
    (c.is_free-of_body.ensures ∙ ap (λ x. is_among name (free text (tree_of x))) c.deref-in-Let-2.ensures) in
    at_hidden c.is_free-of_value.result c.is_spelled-hidden.result c.is_free-of_body.result c.if-of_value.false c.if-not-hidden.false named

pub is_free-returns-then-of_sources : goal.is_free-returns-then-of_sources
is_free-returns-then-of_sources t c =
    let text = c.args.text.now in
    let name = c.args.name.now in
    let binders = binders_of c.in-Each.binders.items in
    let s = c.is_free_in_sources-of_sources.result in
    let h = c.binds-hidden.result in
    let d = c.is_free_in_condition-of_condition.result in
    let b = c.is_free-of_body-in-Each.result in
    let named =
    each_named text name (tree_of c.args.expr.now) c.in-Each.at (tree_of c.in-Each.body.value) binders (condition_in c.in-Each.condition) s h d b
    (ap tree_of c.in-Each.is ∙ tree_of-Each c.in-Each.at c.in-Each.body c.in-Each.binders c.in-Each.condition)
    (c.is_free_in_sources-of_sources.ensures ∙ ap (λ l. is_among name (free_of_sources text (binders_of l))) c.deref-in-Each.ensures.value)
    (c.binds-hidden.ensures ∙ ap (λ l. binds text name (binders_of l)) c.deref-in-Each-3.ensures.value)
    c.is_free_in_condition-of_condition.ensures
    (c.is_free-of_body-in-Each.ensures ∙ ap (λ x. is_among name (free text (tree_of x))) c.deref-in-Each-2.ensures) in
    at_first s (not h && (d || b)) c.if-of_sources.true named

pub is_free-returns-then-of_condition-2 : goal.is_free-returns-then-of_condition-2
is_free-returns-then-of_condition-2 t c =
    let text = c.args.text.now in
    let name = c.args.name.now in
    let binders = binders_of c.in-Each.binders.items in
    let s = c.is_free_in_sources-of_sources.result in
    let h = c.binds-hidden.result in
    let d = c.is_free_in_condition-of_condition.result in
    let b = c.is_free-of_body-in-Each.result in
    let named =
    each_named text name (tree_of c.args.expr.now) c.in-Each.at (tree_of c.in-Each.body.value) binders (condition_in c.in-Each.condition) s h d b
    (ap tree_of c.in-Each.is ∙ tree_of-Each c.in-Each.at c.in-Each.body c.in-Each.binders c.in-Each.condition)
    (c.is_free_in_sources-of_sources.ensures ∙ ap (λ l. is_among name (free_of_sources text (binders_of l))) c.deref-in-Each.ensures.value)
    (c.binds-hidden.ensures ∙ ap (λ l. binds text name (binders_of l)) c.deref-in-Each-3.ensures.value)
    c.is_free_in_condition-of_condition.ensures
    (c.is_free-of_body-in-Each.ensures ∙ ap (λ x. is_among name (free text (tree_of x))) c.deref-in-Each-2.ensures) in
    at_first d b c.if-of_condition-2.true (at_inner s h (d || b) c.if-of_sources.false c.if-not-hidden-2.true named)

pub is_free-returns-else-of_condition-2 : goal.is_free-returns-else-of_condition-2
is_free-returns-else-of_condition-2 t c =
    let text = c.args.text.now in
    let name = c.args.name.now in
    let binders = binders_of c.in-Each.binders.items in
    let s = c.is_free_in_sources-of_sources.result in
    let h = c.binds-hidden.result in
    let d = c.is_free_in_condition-of_condition.result in
    let b = c.is_free-of_body-in-Each.result in
    let named =
    each_named text name (tree_of c.args.expr.now) c.in-Each.at (tree_of c.in-Each.body.value) binders (condition_in c.in-Each.condition) s h d b
    (ap tree_of c.in-Each.is ∙ tree_of-Each c.in-Each.at c.in-Each.body c.in-Each.binders c.in-Each.condition)
    (c.is_free_in_sources-of_sources.ensures ∙ ap (λ l. is_among name (free_of_sources text (binders_of l))) c.deref-in-Each.ensures.value)
    (c.binds-hidden.ensures ∙ ap (λ l. binds text name (binders_of l)) c.deref-in-Each-3.ensures.value)
    c.is_free_in_condition-of_condition.ensures
    (c.is_free-of_body-in-Each.ensures ∙ ap (λ x. is_among name (free text (tree_of x))) c.deref-in-Each-2.ensures) in
    at_second d b c.if-of_condition-2.false (at_inner s h (d || b) c.if-of_sources.false c.if-not-hidden-2.true named)

pub is_free-returns-else-not-hidden-2 : goal.is_free-returns-else-not-hidden-2
is_free-returns-else-not-hidden-2 t c =
    let text = c.args.text.now in
    let name = c.args.name.now in
    let binders = binders_of c.in-Each.binders.items in
    let s = c.is_free_in_sources-of_sources.result in
    let h = c.binds-hidden.result in
    let d = c.is_free_in_condition-of_condition.result in
    let b = c.is_free-of_body-in-Each.result in
    let named =
    each_named text name (tree_of c.args.expr.now) c.in-Each.at (tree_of c.in-Each.body.value) binders (condition_in c.in-Each.condition) s h d b
    (ap tree_of c.in-Each.is ∙ tree_of-Each c.in-Each.at c.in-Each.body c.in-Each.binders c.in-Each.condition)
    (c.is_free_in_sources-of_sources.ensures ∙ ap (λ l. is_among name (free_of_sources text (binders_of l))) c.deref-in-Each.ensures.value)
    (c.binds-hidden.ensures ∙ ap (λ l. binds text name (binders_of l)) c.deref-in-Each-3.ensures.value)
    c.is_free_in_condition-of_condition.ensures
    (c.is_free-of_body-in-Each.ensures ∙ ap (λ x. is_among name (free text (tree_of x))) c.deref-in-Each-2.ensures) in
    at_hidden s h (d || b) c.if-of_sources.false c.if-not-hidden-2.false named
