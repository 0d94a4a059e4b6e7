use Rattle.std.proofs.Common.{◌≡◌, IfOk, sym, ap, subst, ◌∙◌}
use Rattle.std.specs.Option.{option_and_then, option_or, option_map}
use Rattle.snesl_grammar.specs.tree.Tree.{call, apply, literal}
use Rattle.snesl_grammar.specs.tree.View.{tree_of, trees_of, binders_of}
use Rattle.snesl_grammar.proofs.OfTree.Arguments.{tree_of-Call, tree_of-Apply, tree_of-Literal}
use Rattle.snesl_advice.specs.reach.Candidates.{around, bound_by, candidates_among, candidates_in, candidates_in_sources}
use Rattle.snesl_advice.specs.reach.View.{names_of}
use Rattle.snesl_advice.proofs.OfReach.Found.{either_seen, candidates_in-Each}
use Rattle.snesl_advice.proofs.reach.search.+walking.Goals as goal

pub candidates_in-returns-in-Call : goal.candidates_in-returns-in-Call
candidates_in-returns-in-Call t c =
    let tree = ap tree_of c.in-Call.is ∙ tree_of-Call c.in-Call.at c.in-Call.function c.in-Call.arguments
    ∙ ap (λ l. call c.in-Call.at c.in-Call.function (trees_of l)) (sym c.deref-in-Call.ensures.value) in
    subst (λ x. IfOk c.candidates_among.result (λ found. option_map names_of found ≡ candidates_in c.args.at x)) (sym tree) c.candidates_among.ensures

pub candidates_in-returns-in_ok-found-in-Apply : goal.candidates_in-returns-in_ok-found-in-Apply
candidates_in-returns-in_ok-found-in-Apply t c =
    let trees = trees_of c.deref-in-Apply.result.now in
    let tree = ap tree_of c.in-Apply.is ∙ tree_of-Apply c.in-Apply.function c.in-Apply.arguments
    ∙ ap (λ l. apply c.in-Apply.function (trees_of l)) (sym c.deref-in-Apply.ensures.value) in
    either_seen c.function_here.result c.in_ok-found-in-Apply.found c.or-in-Apply.result _ (candidates_among c.args.at trees) c.or-in-Apply.ensures
    c.function_here.ensures c.in_ok-found-in-Apply.ensures ∙ ap (candidates_in c.args.at) (sym tree)

pub candidates_in-returns-in-Literal : goal.candidates_in-returns-in-Literal
candidates_in-returns-in-Literal t c =
    let tree = ap tree_of c.in-Literal.is ∙ tree_of-Literal c.in-Literal.at c.in-Literal.items
    ∙ ap (λ l. literal c.in-Literal.at (trees_of l)) (sym c.deref-in-Literal.ensures.value) in
    subst (λ x. IfOk c.candidates_among-in-Literal.result (λ found. option_map names_of found ≡ candidates_in c.args.at x)) (sym tree) c.candidates_among-in-Literal.ensures

pub candidates_in-returns-in_ok-candidates_in_condition-in-Each : goal.candidates_in-returns-in_ok-candidates_in_condition-in-Each
candidates_in-returns-in_ok-candidates_in_condition-in-Each t c =
    let at = c.args.at in
    let it = c.in-Each in
    let binders = c.deref-in-Each-2.result.now in
    let tested = option_and_then (λ one. candidates_in at (tree_of one.value)) it.condition in
    let row = λ (body : _) (l : _) (o : _). option_or (option_map (around (bound_by (binders_of l))) (option_or (candidates_in at (tree_of body)) o)) (candidates_in_sources at (binders_of l)) in
    let whole : candidates_in at (tree_of c.args.expr.now) ≡ row c.deref-in-Each.result.now binders tested =
    ap (λ e. candidates_in at (tree_of e)) it.is ∙ candidates_in-Each at it.at it.body it.binders it.condition
    ∙ ap (λ b. row b it.binders.items tested) (sym c.deref-in-Each.ensures)
    ∙ ap (λ l. row c.deref-in-Each.result.now l tested) (sym c.deref-in-Each-2.ensures.value) in
    let within = either_seen c.in_ok-found-in-Each.found c.in_ok-candidates_in_condition-in-Each.field-0 c.or-within.result _ tested c.or-within.ensures
    c.in_ok-found-in-Each.ensures c.in_ok-candidates_in_condition-in-Each.ensures in
    subst (λ x. IfOk c.candidates_in_row.result (λ found. option_map names_of found ≡ x)) (sym whole)
    (subst (λ o. IfOk c.candidates_in_row.result (λ found. option_map names_of found
    ≡ option_or (option_map (around (bound_by (binders_of binders))) o) (candidates_in_sources at (binders_of binders)))) within c.candidates_in_row.ensures)
