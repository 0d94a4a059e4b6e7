use Rattle.std.proofs.Common.{map, subst, sym}
use Rattle.snesl_grammar.specs.tree.View.{declaration_of}
use Rattle.snesl_syntax.specs.expressions.Readers.{within}
use Rattle.snesl_syntax.specs.expressions.Parsing.{state_of}
use Rattle.snesl_grammar.specs.Limits.{greatest_depth}
use Rattle.snesl_syntax.specs.TypeMachine.{IsStep}
use Rattle.snesl_syntax.specs.ProgramMachine.{header_of, program_state}
use Rattle.snesl_syntax.proofs.Parts.{body_goes_on}
use Rattle.snesl_syntax.proofs.programs.in_body.Goals as goal

pub returns-in_default : goal.returns-in_default
returns-in_default c =
    subst (λ m. IsStep program_state c.body_step-in_default.result (within greatest_depth m))
    (sym (body_goes_on (header_of (map declaration_of c.args.done.items) c.args.header) (state_of c.args.machine) c.args.token c.in_default.not-Semicolon))
    c.body_step-in_default.ensures
