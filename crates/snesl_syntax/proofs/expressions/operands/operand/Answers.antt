use Rattle.std.proofs.Common.{subst, sym}
use Rattle.snesl_grammar.specs.Limits.{greatest_depth}
use Rattle.snesl_syntax.specs.expressions.Readers.{step}
use Rattle.snesl_syntax.specs.expressions.Machine.{expressions, operand}
use Rattle.snesl_syntax.specs.expressions.Parsing.{frames_of, IsStep}
use Rattle.snesl_syntax.proofs.expressions.operands.operand.Goals as goal

pub returns-in-If : goal.returns-in-If
returns-in-If c =
    subst (λ kind. IsStep c.enter_bare.result (step expressions greatest_depth (operand (frames_of c.args.forms.items)) (record { kind = kind; at = c.args.token.at })))
    (sym c.in-If.is) c.enter_bare.ensures
