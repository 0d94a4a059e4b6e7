use Rattle.std.proofs.Common.{subst, sym}
use Rattle.snesl_grammar.specs.tree.View.{type_tree}
use Rattle.snesl_syntax.specs.declared.types.TypeForm.TheVariants.{First, Second, Vector, Sequence}
use Rattle.snesl_syntax.specs.expressions.Readers.{step}
use Rattle.snesl_grammar.specs.Limits.{greatest_depth}
use Rattle.snesl_syntax.specs.Types.{types, type_ended}
use Rattle.snesl_syntax.specs.TypeMachine.{type_state, IsStep}
use Rattle.snesl_syntax.proofs.Piles.{popped}
use Rattle.snesl_syntax.proofs.types.ended.Goals as goal

pub returns-in-First : goal.returns-in-First
returns-in-First c =
    subst (λ s. IsStep type_state c.first_ended.result (step types greatest_depth (type_ended s (type_tree c.args.last)) c.args.token))
    (sym (popped c.args.forms.items c.pop.new.self.items c.in-Some.form (First c.in-First.at) c.in-Some.ensures.items c.in-First.is))
    c.first_ended.ensures

pub returns-in-Second : goal.returns-in-Second
returns-in-Second c =
    subst (λ s. IsStep type_state c.second_ended.result (step types greatest_depth (type_ended s (type_tree c.args.last)) c.args.token))
    (sym (popped c.args.forms.items c.pop.new.self.items c.in-Some.form (Second c.in-Second.at c.in-Second.first) c.in-Some.ensures.items c.in-Second.is))
    c.second_ended.ensures

pub returns-in-Vector : goal.returns-in-Vector
returns-in-Vector c =
    subst (λ s. IsStep type_state c.vector_ended.result (step types greatest_depth (type_ended s (type_tree c.args.last)) c.args.token))
    (sym (popped c.args.forms.items c.pop.new.self.items c.in-Some.form (Vector c.in-Vector.at) c.in-Some.ensures.items c.in-Vector.is))
    c.vector_ended.ensures

pub returns-in-Sequence : goal.returns-in-Sequence
returns-in-Sequence c =
    subst (λ s. IsStep type_state c.sequence_ended.result (step types greatest_depth (type_ended s (type_tree c.args.last)) c.args.token))
    (sym (popped c.args.forms.items c.pop.new.self.items c.in-Some.form (Sequence c.in-Sequence.at) c.in-Some.ensures.items c.in-Sequence.is))
    c.sequence_ended.ensures
