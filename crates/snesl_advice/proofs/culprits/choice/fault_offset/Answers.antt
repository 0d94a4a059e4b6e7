use Rattle.std.proofs.Common.{◌≡◌, option_map, sym, ap, subst, ◌∙◌}
use Rattle.snesl_grammar.specs.tree.Tree.{call, apply, literal}
use Rattle.snesl_grammar.specs.tree.View.{tree_of, trees_of}
use Rattle.snesl_grammar.proofs.OfTree.Arguments.{tree_of-Call, tree_of-Apply, tree_of-Literal}
use Rattle.snesl_types.specs.Clashes.{clash_of}
use Rattle.snesl_types.proofs.Scopes.{tree_of-Each}
use Rattle.snesl_advice.specs.culprits.Offsets.{first_offset}
use Rattle.snesl_advice.specs.culprits.Faults.{at_fault}
use Rattle.snesl_advice.proofs.culprits.choice.fault_offset.Goals as goal

pub returns-in-Call : goal.returns-in-Call
returns-in-Call c =
    let tree = ap tree_of c.in-Call.is ∙ tree_of-Call c.in-Call.at c.in-Call.function c.in-Call.arguments
    ∙ ap (λ l. call c.in-Call.at c.in-Call.function (trees_of l)) (sym c.deref-in-Call.ensures.value) in
    subst (λ x. c.argument_offset.result ≡ option_map first_offset (at_fault (clash_of c.args.clash.now) x)) (sym tree) c.argument_offset.ensures

pub returns-in-Apply : goal.returns-in-Apply
returns-in-Apply c =
    let tree = ap tree_of c.in-Apply.is ∙ tree_of-Apply c.in-Apply.function c.in-Apply.arguments
    ∙ ap (λ l. apply c.in-Apply.function (trees_of l)) (sym c.deref-in-Apply.ensures.value) in
    subst (λ x. c.parameter_offset.result ≡ option_map first_offset (at_fault (clash_of c.args.clash.now) x)) (sym tree) c.parameter_offset.ensures

pub returns-in-Literal : goal.returns-in-Literal
returns-in-Literal c =
    let tree = ap tree_of c.in-Literal.is ∙ tree_of-Literal c.in-Literal.at c.in-Literal.items
    ∙ ap (λ l. literal c.in-Literal.at (trees_of l)) (sym c.deref-in-Literal.ensures.value) in
    subst (λ x. c.item_offset.result ≡ option_map first_offset (at_fault (clash_of c.args.clash.now) x)) (sym tree) c.item_offset.ensures

pub returns-in-Each : goal.returns-in-Each
returns-in-Each c =
    let tree = ap tree_of c.in-Each.is ∙ tree_of-Each c.in-Each.at c.in-Each.body c.in-Each.binders c.in-Each.condition in
    subst (λ x. c.condition_offset.result ≡ option_map first_offset (at_fault (clash_of c.args.clash.now) x)) (sym tree) c.condition_offset.ensures
