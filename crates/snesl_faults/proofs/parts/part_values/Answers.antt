use Rattle.std.proofs.Common.{◌≡◌, map, IfOk, Vec, Global, sym, ap, ◌∙◌, subst}
use Rattle.snesl_data.specs.Values.{value_of}
use Rattle.snesl_grammar.proofs.OfTree.Arguments.{tree_of-Call, binders_row}
use Rattle.snesl_grammar.specs.tree.Tree.{both, none}
use Rattle.snesl_grammar.specs.tree.View.{tree_of, trees_of, binders_of}
use Rattle.snesl_evaluation.specs.Answer.{gives}
use Rattle.snesl_evaluation.specs.Scopes.{all_in}
use Rattle.snesl_evaluation.specs.Results.{Answers}
use Rattle.snesl_faults.specs.Faults.{parts_of, sources}
use Rattle.snesl_faults.proofs.Steps.{values_where_ok}
use Rattle.snesl_faults.proofs.parts.part_values.Goals as goal

pub returns-in-Binary : goal.returns-in-Binary
returns-in-Binary c =
    let context = c.args.context.now in
    let scope = c.args.scope.now in
    let e =
    ap (λ expr. all_in context scope (parts_of (tree_of expr))) c.in-Binary.is
    ∙ ap (λ left. all_in context scope (both (tree_of left) (both (tree_of c.in-Binary.right.value) none))) (sym c.deref.ensures)
    ∙ ap (λ right. all_in context scope (both (tree_of c.deref.result.now) (both (tree_of right) none))) (sym c.deref-in-Binary.ensures) in
    subst (λ answer. IfOk c.two_values.result (λ values. answer ≡ gives (map value_of values.items))) (sym e) c.two_values.ensures

pub returns-in-Prefix : goal.returns-in-Prefix
returns-in-Prefix c =
    let context = c.args.context.now in
    let scope = c.args.scope.now in
    let e =
    ap (λ expr. all_in context scope (parts_of (tree_of expr))) c.in-Prefix.is
    ∙ ap (λ operand. all_in context scope (both (tree_of operand) none)) (sym c.deref-in-Prefix.ensures) in
    subst (λ answer. IfOk c.one_value.result (λ values. answer ≡ gives (map value_of values.items))) (sym e) c.one_value.ensures

pub returns-in-Call : goal.returns-in-Call
returns-in-Call c =
    let context = c.args.context.now in
    let scope = c.args.scope.now in
    let e =
    ap (λ expr. all_in context scope (parts_of (tree_of expr))) c.in-Call.is
    ∙ ap (λ tree. all_in context scope (parts_of tree)) (tree_of-Call c.in-Call.at c.in-Call.function c.in-Call.arguments)
    ∙ ap (λ exprs. all_in context scope (trees_of exprs)) (sym c.deref-in-Call.ensures.value) in
    values_where_ok c.all_values.result (all_in context scope (parts_of (tree_of c.args.expr.now)))
    (subst (Answers (λ values. map value_of values.items) c.all_values.result) (sym e) c.all_values.ensures)

pub returns-in-Each : goal.returns-in-Each
returns-in-Each c =
    let context = c.args.context.now in
    let scope = c.args.scope.now in
    let e =
    ap (λ expr. all_in context scope (parts_of (tree_of expr))) c.in-Each.is
    ∙ ap (λ binders. all_in context scope (sources binders)) (binders_row c.in-Each.binders)
    ∙ ap (λ l. all_in context scope (sources (binders_of l))) (sym c.deref-in-Each.ensures.value) in
    subst (λ answer. IfOk c.sequence_values.result (λ values. answer ≡ gives (map value_of values.items))) (sym e) c.sequence_values.ensures
