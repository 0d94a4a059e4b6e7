use Rattle.std.proofs.Common.{◌∷◌, [], ap, sym}
use Rattle.snesl_syntax.specs.expressions.Machine.{floor}
use Rattle.snesl_syntax.specs.expressions.Parsing.{frame_of}
use Rattle.snesl_syntax.proofs.expressions.forms.floor_in.Goals as goal

pub returns-in-Prefix : goal.returns-in-Prefix
returns-in-Prefix c = sym (ap (λ form. floor (frame_of form ∷ [])) c.in-Prefix.is)
