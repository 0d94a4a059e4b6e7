use Rattle.std.proofs.Common.{leb, ap, sym, ◌∙◌, inl, inr}
use Rattle.snesl_syntax.specs.expressions.Machine.{binds_at}
use Rattle.snesl_syntax.specs.expressions.Parsing.{frame_of}
use Rattle.snesl_syntax.proofs.OfExpressions.Piles.{zero_test}
use Rattle.snesl_syntax.proofs.expressions.forms.is_closed_at.Goals as goal

pub returns-in-Binary : goal.returns-in-Binary
returns-in-Binary c = ap (leb c.args.tightness) c.level_of.ensures.exact ∙ sym (ap (λ form. binds_at c.args.tightness (frame_of form)) c.in-Binary.is)

pub returns-in-Prefix : goal.returns-in-Prefix
returns-in-Prefix c = sym (ap (λ form. binds_at c.args.tightness (frame_of form)) c.in-Prefix.is)

-- the two forms that bind least
pub returns-in-LetBody : goal.returns-in-LetBody
returns-in-LetBody c =
    zero_test c.args.tightness ∙ elim c.in-LetBody.is [
      | inl body ↦ sym (ap (λ form. binds_at c.args.tightness (frame_of form)) body.3)
      | inr branch ↦ sym (ap (λ form. binds_at c.args.tightness (frame_of form)) branch.3)
    ]
