use Rattle.snesl_grammar.specs.Limits.{greatest_depth}
use Rattle.snesl_syntax.specs.expressions.Readers.{within}
use Rattle.snesl_syntax.specs.expressions.Machine.{expressions}
use Rattle.snesl_syntax.specs.Programs.{lifted, programs}
use Rattle.snesl_syntax.specs.ProgramMachine.{program_state}
use Rattle.snesl_syntax.specs.Dialects.{in_rest}
use Rattle.snesl_syntax.specs.DialectMachine.{dialect_state}
use Rattle.snesl_syntax.proofs.Parts.{step_carried, stop_carried, stop_passed}
use Rattle.snesl_syntax.proofs.dialects.in_rest.Goals as goal

pub returns-in_err-machine : goal.returns-in_err-machine
returns-in_err-machine c =
    let around = in_rest c.args.dialect in
    let move = (programs expressions).move (program_state c.args.machine) c.args.token in
    let error = c.in_err-machine.field-0.0 in
    stop_passed dialect_state c.from_residual.result error (within greatest_depth (lifted around move)) c.from_residual.ensures.1
    (stop_carried greatest_depth around move error c.in_err-machine.ensures)

pub returns : goal.returns
returns c =
    step_carried greatest_depth (in_rest c.args.dialect) ((programs expressions).move (program_state c.args.machine) c.args.token)
    (program_state c.in_ok-machine.machine) c.in_ok-machine.ensures
