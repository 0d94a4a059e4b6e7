use Rattle.std.proofs.Common.{refl, sym, ◌∙◌}
use Rattle.snesl_run.specs.Runs.{refusal_of}
use Rattle.snesl_run.specs.console.Streams.{write_effect}
use Rattle.snesl_run.proofs.Printing.{printed_fault, printed_stall, printed_value, printed_refusal, printed_system_error}
use Rattle.snesl_run.proofs.OfConsole.OwnLines.{stalled_line_is}
use Rattle.snesl_run.proofs.answers.print_answer.Goals as goal

pub returns-in-Value : goal.returns-in-Value
returns-in-Value g c =
    printed_value c.args.config.now c.args.program.now c.args.input.now
    (write_effect g.W.Write.contents c.args.out.now c.run_alone.new.out) (write_effect g.E.Write.contents c.args.err.now c.args.err.now)
    c.in-Ok.report c.in-Ok.ensures.network c.in-Ok.ensures.wrote (sym c.outcome.ensures ∙ c.in-Value.is) refl

pub returns-in-Fault : goal.returns-in-Fault
returns-in-Fault g c =
    printed_fault c.args.config.now c.args.program.now c.args.input.now
    g.W.Write.contents c.args.out.now c.run_alone.new.out c.print_made.new.out
    (write_effect g.E.Write.contents c.args.err.now c.print_made.new.err)
    c.in-Fault.fault c.in-Ok.report c.fault_line.result c.print_made.result c.in-Ok.ensures.network c.in-Ok.ensures.wrote
    (sym c.outcome.ensures ∙ c.in-Fault.is) c.fault_line.ensures c.print_made.ensures

pub returns-in-Ok : goal.returns-in-Ok
returns-in-Ok g c =
    printed_stall c.args.config.now c.args.program.now c.args.input.now
    g.W.Write.contents c.args.out.now c.run_alone.new.out c.print.new.out
    (write_effect g.E.Write.contents c.args.err.now c.print.new.err)
    c.in-Stalled.edge c.in-Ok.report _ c.print.result c.in-Ok.ensures.network c.in-Ok.ensures.wrote (sym c.outcome.ensures ∙ c.in-Stalled.is) stalled_line_is c.print.ensures

pub returns-then-is_of_the_system : goal.returns-then-is_of_the_system
returns-then-is_of_the_system g c =
    printed_system_error c.args.config.now c.args.program.now c.args.input.now
    (write_effect g.W.Write.contents c.args.out.now c.run_alone.new.out) (write_effect g.E.Write.contents c.args.err.now c.complain.new.err)
    c.refusal-refusal.result (refusal_of c.in-Err.error) c.complain.result
    c.in-Err.ensures.refused c.refusal-refusal.ensures (sym c.is_of_the_system.ensures ∙ c.if-is_of_the_system.true) c.complain.ensures.told c.complain.ensures.status

pub returns : goal.returns
returns g c =
    printed_refusal c.args.config.now c.args.program.now c.args.input.now
    g.W.Write.contents c.args.out.now c.run_alone.new.out c.print_made-else-is_of_the_system.new.out
    (write_effect g.E.Write.contents c.args.err.now c.print_made-else-is_of_the_system.new.err)
    c.refusal-refusal.result (refusal_of c.in-Err.error)
    c.refusal_line.result c.status.result c.print_made-else-is_of_the_system.result
    c.in-Err.ensures.refused c.refusal-refusal.ensures (sym c.is_of_the_system.ensures ∙ c.if-is_of_the_system.false) c.status.ensures
    c.refusal_line.ensures c.print_made-else-is_of_the_system.ensures
