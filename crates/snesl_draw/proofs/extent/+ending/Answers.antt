use Rattle.std.proofs.Common.{◌∙◌, ap, sym}
use Rattle.snesl_grammar.specs.tree.View.{tree_of, trees_of, binders_of}
use Rattle.snesl_grammar.proofs.OfTree.Arguments.{tree_of-Call, tree_of-Apply, tree_of-Literal}
use Rattle.snesl_types.specs.Names.{condition_in}
use Rattle.snesl_types.proofs.Scopes.{tree_of-Each}
use Rattle.snesl_draw.specs.Forms.{last_among, last_bound, last_offset, last_tested}
use Rattle.snesl_draw.proofs.extent.+ending.Goals as goal

pub last_offset-returns-in-Call : goal.last_offset-returns-in-Call
last_offset-returns-in-Call t c =
    c.last_among.ensures ∙ ap (λ l. last_among c.in-Call.at (trees_of l)) c.deref-in-Call.ensures.value
    ∙ sym (ap last_offset (ap tree_of c.in-Call.is ∙ tree_of-Call c.in-Call.at c.in-Call.function c.in-Call.arguments))

pub last_offset-returns-in-Apply : goal.last_offset-returns-in-Apply
last_offset-returns-in-Apply t c =
    c.last_among-in-Apply.ensures ∙ ap (λ l. last_among c.in-Apply.function.at (trees_of l)) c.deref-in-Apply.ensures.value
    ∙ sym (ap last_offset (ap tree_of c.in-Apply.is ∙ tree_of-Apply c.in-Apply.function c.in-Apply.arguments))

pub last_offset-returns-in-Literal : goal.last_offset-returns-in-Literal
last_offset-returns-in-Literal t c =
    c.last_among-in-Literal.ensures ∙ ap (λ l. last_among c.in-Literal.at (trees_of l)) c.deref-in-Literal.ensures.value
    ∙ sym (ap last_offset (ap tree_of c.in-Literal.is ∙ tree_of-Literal c.in-Literal.at c.in-Literal.items))

pub last_offset-returns-in-Each : goal.last_offset-returns-in-Each
last_offset-returns-in-Each t c =
    let cond = condition_in c.in-Each.condition in
    c.last_tested.ensures ∙ ap (λ n. last_tested n cond) c.last_bound.ensures
    ∙ ap (λ l. last_tested (last_bound c.in-Each.at (binders_of l)) cond) c.deref-in-Each.ensures.value
    ∙ sym (ap last_offset (ap tree_of c.in-Each.is ∙ tree_of-Each c.in-Each.at c.in-Each.body c.in-Each.binders c.in-Each.condition))
