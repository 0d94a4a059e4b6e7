use Rattle.std.proofs.Common.{◌≡◌, ◌∙◌, true, false, ap, sym}
use Rattle.std.specs.Option.{is_some, option_or}
use Rattle.snesl_grammar.specs.tree.View.{tree_of, trees_of, binders_of}
use Rattle.snesl_grammar.proofs.OfTree.Arguments.{tree_of-Call, tree_of-Apply, tree_of-Literal}
use Rattle.snesl_types.specs.Names.{condition_in}
use Rattle.snesl_types.proofs.Scopes.{tree_of-Each}
use Rattle.snesl_draw.specs.Forms.{extent_among, extent_in, extent_in_condition, extent_in_sources, extent_inside}
use Rattle.snesl_draw.proofs.Extents.{among_all, among_end, among_items, at_this, bound_all, bound_end, bound_items, past_item}
use Rattle.snesl_draw.proofs.extent.+walking.Goals as goal

pub extent_among-returns-then-is_some : goal.extent_among-returns-then-is_some
extent_among-returns-then-is_some t c =
    let at = c.args.at in
    let some : is_some c.extent_in-seen.result ≡ true = cc in
    at_this (λ x. extent_in at (tree_of x)) (among_all at) c.args.all.now c.loop-one.one-index c.one-item.result c.extent_in-seen.result (among_items at)
    c.loop-one-test.true c.one-item.is c.extent_in-seen.ensures some
    ∙ c.loop-one.invariant

pub extent_among-loop-one-preserved : goal.extent_among-loop-one-preserved
extent_among-loop-one-preserved t c =
    let at = c.args.at in
    let no : is_some c.extent_in-seen.result ≡ false = cc in
    past_item (λ x. extent_in at (tree_of x)) (among_all at) c.args.all.now c.loop-one.one-index c.one-item.result c.extent_in-seen.result (among_items at)
    c.loop-one-test.true c.one-item.is c.extent_in-seen.ensures no
    ∙ c.loop-one.invariant

pub extent_among-returns : goal.extent_among-returns
extent_among-returns t c = among_end c.args.at c.args.all.now c.loop-one.one-index c.loop-one-test.false ∙ c.loop-one.invariant

pub extent_in_sources-returns-then-is_some : goal.extent_in_sources-returns-then-is_some
extent_in_sources-returns-then-is_some t c =
    let at = c.args.at in
    let some : is_some c.extent_in-seen.result ≡ true = cc in
    at_this (λ x. extent_in at (tree_of x.source)) (bound_all at) c.args.binders.now c.loop-binder.binder-index c.binder-item.result c.extent_in-seen.result (bound_items at)
    c.loop-binder-test.true c.binder-item.is c.extent_in-seen.ensures some
    ∙ c.loop-binder.invariant

pub extent_in_sources-loop-binder-preserved : goal.extent_in_sources-loop-binder-preserved
extent_in_sources-loop-binder-preserved t c =
    let at = c.args.at in
    let no : is_some c.extent_in-seen.result ≡ false = cc in
    past_item (λ x. extent_in at (tree_of x.source)) (bound_all at) c.args.binders.now c.loop-binder.binder-index c.binder-item.result c.extent_in-seen.result (bound_items at)
    c.loop-binder-test.true c.binder-item.is c.extent_in-seen.ensures no
    ∙ c.loop-binder.invariant

pub extent_in_sources-returns : goal.extent_in_sources-returns
extent_in_sources-returns t c = bound_end c.args.at c.args.binders.now c.loop-binder.binder-index c.loop-binder-test.false ∙ c.loop-binder.invariant

pub extent_inside-returns-in-Call : goal.extent_inside-returns-in-Call
extent_inside-returns-in-Call t c =
    c.extent_among.ensures ∙ ap (λ l. extent_among c.args.at (trees_of l)) c.deref-in-Call.ensures.value
    ∙ sym (ap (extent_inside c.args.at) (ap tree_of c.in-Call.is ∙ tree_of-Call c.in-Call.at c.in-Call.function c.in-Call.arguments))

pub extent_inside-returns-in-Apply : goal.extent_inside-returns-in-Apply
extent_inside-returns-in-Apply t c =
    c.extent_among-in-Apply.ensures ∙ ap (λ l. extent_among c.args.at (trees_of l)) c.deref-in-Apply.ensures.value
    ∙ sym (ap (extent_inside c.args.at) (ap tree_of c.in-Apply.is ∙ tree_of-Apply c.in-Apply.function c.in-Apply.arguments))

pub extent_inside-returns-in-Literal : goal.extent_inside-returns-in-Literal
extent_inside-returns-in-Literal t c =
    c.extent_among-in-Literal.ensures ∙ ap (λ l. extent_among c.args.at (trees_of l)) c.deref-in-Literal.ensures.value
    ∙ sym (ap (extent_inside c.args.at) (ap tree_of c.in-Literal.is ∙ tree_of-Literal c.in-Literal.at c.in-Literal.items))

pub extent_inside-returns-in-Each : goal.extent_inside-returns-in-Each
extent_inside-returns-in-Each t c =
    let at = c.args.at in
    let binders = c.in-Each.binders.items in
    let cond = condition_in c.in-Each.condition in
    let body_is = c.extent_in-in-Each.ensures ∙ ap (λ x. extent_in at (tree_of x)) c.deref-in-Each.ensures in
    let binders_are = c.extent_in_sources.ensures ∙ ap (λ l. extent_in_sources at (binders_of l)) c.deref-in-Each-2.ensures.value in
    let others_are = c.or-in-Each.ensures ∙ ap (λ o. option_or o c.extent_in_condition.result) binders_are
    ∙ ap (option_or (extent_in_sources at (binders_of binders))) c.extent_in_condition.ensures in
    c.or-in-Each-2.ensures ∙ ap (option_or c.extent_in-in-Each.result) others_are
    ∙ ap (λ o. option_or o (option_or (extent_in_sources at (binders_of binders)) (extent_in_condition at cond))) body_is
    ∙ sym (ap (extent_inside at) (ap tree_of c.in-Each.is ∙ tree_of-Each c.in-Each.at c.in-Each.body c.in-Each.binders c.in-Each.condition))
