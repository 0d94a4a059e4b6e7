use Rattle.std.proofs.Common.{◌+◌, sym, ap, ◌∙◌}
use Rattle.snesl_grammar.specs.tree.Spelling.{spelling}
use Rattle.snesl_grammar.specs.tree.View.{tree_of, trees_of, binders_of}
use Rattle.snesl_grammar.proofs.OfTree.Arguments.{tree_of-Call, tree_of-Apply, tree_of-Literal}
use Rattle.snesl_types.specs.Sizes.{size, size_of_all, size_of_binders, size_of_condition, body_size}
use Rattle.snesl_types.specs.Names.{condition_in, sizes_in}
use Rattle.snesl_types.specs.Verdicts.{capped}
use Rattle.snesl_types.proofs.Scopes.{tree_of-Each}
use Rattle.snesl_types.proofs.CappedSizes.{capped_once, capped_call, capped_three}
use Rattle.snesl_types.proofs.sizes.+sizes.Goals as goal

pub size_of-returns-in-Call : goal.size_of-returns-in-Call
size_of-returns-in-Call t c =
    let text = c.args.text.now in
    let sizes = sizes_in text c.args.functions.now in
    let tree = ap tree_of c.in-Call.is ∙ tree_of-Call c.in-Call.at c.in-Call.function c.in-Call.arguments in
    c.sum-in-Call.ensures
    ∙ ap (λ n. capped (1 + n)) (c.size_of_all.ensures ∙ ap (λ l. capped (size_of_all text sizes (trees_of l))) c.deref-in-Call.ensures.value)
    ∙ capped_once (size_of_all text sizes (trees_of c.in-Call.arguments.items))
    ∙ ap (λ x. capped (size text sizes x)) (sym tree)

pub size_of-returns-in-Literal : goal.size_of-returns-in-Literal
size_of-returns-in-Literal t c =
    let text = c.args.text.now in
    let sizes = sizes_in text c.args.functions.now in
    let tree = ap tree_of c.in-Literal.is ∙ tree_of-Literal c.in-Literal.at c.in-Literal.items in
    c.sum-in-Literal.ensures
    ∙ ap (λ n. capped (1 + n)) (c.size_of_all-in-Literal.ensures ∙ ap (λ l. capped (size_of_all text sizes (trees_of l))) c.deref-in-Literal.ensures.value)
    ∙ capped_once (size_of_all text sizes (trees_of c.in-Literal.items.items))
    ∙ ap (λ x. capped (size text sizes x)) (sym tree)

pub size_of-returns-in-Apply : goal.size_of-returns-in-Apply
size_of-returns-in-Apply t c =
    let text = c.args.text.now in
    let sizes = sizes_in text c.args.functions.now in
    let tree = ap tree_of c.in-Apply.is ∙ tree_of-Apply c.in-Apply.function c.in-Apply.arguments in
    let all = size_of_all text sizes (trees_of c.in-Apply.arguments.items) in
    c.sum-in-Apply-2.ensures
    ∙ ap (λ n. capped (1 + n)) (c.sum-in-Apply.ensures
    ∙ ap (λ n. capped (n + c.body_size.result)) (c.size_of_all-all.ensures ∙ ap (λ l. capped (size_of_all text sizes (trees_of l))) c.deref-in-Apply.ensures.value)
    ∙ ap (λ n. capped (capped all + n)) c.body_size.ensures)
    ∙ capped_call all (body_size (spelling text c.in-Apply.function) sizes)
    ∙ ap (λ x. capped (size text sizes x)) (sym tree)

pub size_of-returns-in-Each : goal.size_of-returns-in-Each
size_of-returns-in-Each t c =
    let text = c.args.text.now in
    let sizes = sizes_in text c.args.functions.now in
    let tree = ap tree_of c.in-Each.is ∙ tree_of-Each c.in-Each.at c.in-Each.body c.in-Each.binders c.in-Each.condition in
    let binders = size_of_binders text sizes (binders_of c.in-Each.binders.items) in
    let condition = size_of_condition text sizes (condition_in c.in-Each.condition) in
    let body = size text sizes (tree_of c.in-Each.body.value) in
    c.sum-in-Each-3.ensures
    ∙ ap (λ n. capped (1 + n)) (c.sum-in-Each-2.ensures
    ∙ ap (λ n. capped (n + c.sum-in-Each.result)) (c.size_of_binders-binders.ensures ∙ ap (λ l. capped (size_of_binders text sizes (binders_of l))) c.deref-in-Each.ensures.value)
    ∙ ap (λ n. capped (capped binders + n)) (c.sum-in-Each.ensures
    ∙ ap (λ n. capped (n + c.size_of-body.result)) c.size_of_condition-condition.ensures
    ∙ ap (λ n. capped (capped condition + n)) (c.size_of-body.ensures ∙ ap (λ x. capped (size text sizes (tree_of x))) c.deref-in-Each-2.ensures)))
    ∙ capped_three binders condition body
    ∙ ap (λ x. capped (size text sizes x)) (sym tree)
