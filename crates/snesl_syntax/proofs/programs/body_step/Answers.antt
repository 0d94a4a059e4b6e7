use Rattle.std.proofs.Common.{map, subst, sym}
use Rattle.snesl_grammar.specs.tree.View.{declaration_of}
use Rattle.snesl_grammar.specs.Limits.{greatest_depth}
use Rattle.snesl_syntax.specs.expressions.Readers.{within}
use Rattle.snesl_syntax.specs.expressions.Machine.{expressions}
use Rattle.snesl_syntax.specs.expressions.Parsing.{state_of}
use Rattle.snesl_syntax.specs.Programs.{in_body, lifted}
use Rattle.snesl_syntax.specs.TypeMachine.{IsStep}
use Rattle.snesl_syntax.specs.ProgramMachine.{header_of, program_state}
use Rattle.snesl_syntax.proofs.Parts.{step_carried, stop_carried, machine_stops, stop_passed}
use Rattle.snesl_syntax.proofs.programs.body_step.Goals as goal

pub returns-in_err-machine : goal.returns-in_err-machine
returns-in_err-machine c =
    let around = in_body (header_of (map declaration_of c.args.done.items) c.args.header) in
    let move = expressions.move (state_of c.args.machine) c.args.token in
    let error = c.in_err-machine.field-0.0 in
    stop_passed program_state c.from_residual.result error (within greatest_depth (lifted around move)) c.from_residual.ensures.1
    (stop_carried greatest_depth around move error (machine_stops error (within greatest_depth move) c.in_err-machine.ensures))

pub returns : goal.returns
returns c =
    let around = in_body (header_of (map declaration_of c.args.done.items) c.args.header) in
    let move = expressions.move (state_of c.args.machine) c.args.token in
    subst (IsStep program_state c.at_point.result)
    (sym (step_carried greatest_depth around move (state_of c.in_ok-machine.machine) c.in_ok-machine.ensures))
    c.at_point.ensures
