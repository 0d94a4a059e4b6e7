use Rattle.std.proofs.Common.{map, subst, sym}
use Rattle.snesl_grammar.specs.tree.View.{declaration_of}
use Rattle.snesl_grammar.specs.Limits.{greatest_depth}
use Rattle.snesl_syntax.specs.expressions.Machine.{expressions}
use Rattle.snesl_syntax.specs.expressions.Parsing.{state_of}
use Rattle.snesl_syntax.specs.Programs.{in_final}
use Rattle.snesl_syntax.specs.TypeMachine.{IsStep}
use Rattle.snesl_syntax.specs.ProgramMachine.{program_state}
use Rattle.snesl_syntax.proofs.Parts.{step_carried}
use Rattle.snesl_syntax.proofs.programs.in_final.Goals as goal

pub returns : goal.returns
returns c =
    subst (IsStep program_state c.at_point.result)
    (sym (step_carried greatest_depth (in_final (map declaration_of c.args.done.items)) (expressions.move (state_of c.args.machine) c.args.token)
    (state_of c.in_ok-machine.machine) c.in_ok-machine.ensures))
    c.at_point.ensures
