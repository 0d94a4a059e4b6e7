use Rattle.std.proofs.Common.{◌≡◌, refl, sym, subst}
use Rattle.kahn.specs.declared.outcome.Outcome.{Outcome}
use Rattle.kahn.specs.declared.outcome.Outcome.TheVariants.{Value as Ended, Fault as Failed, Stalled}
use Rattle.flow_nodes.specs.StreamNodes.{text_in}
use Rattle.snesl_run.specs.console.Streams.{write_effect, HasSent}
use Rattle.snesl_run.specs.Runs.{outcome_of, IsReported, WroteFor}
use Rattle.snesl_run.specs.declared.report.Report.{Report}
use Rattle.snesl_run.proofs.Reports.{run_refused, line_cut_off, line_written, nothing_written, given_for, start_kept, start_refused}
use Rattle.snesl_run.proofs.runs.run_with.Goals.{in-Value+in_ok-line-in-Value+else-not-send, in-Fault, in-Stalled}
use Rattle.snesl_run.proofs.runs.run_with.Goals as goal

pub returns-in_err-rested-clause-refused : goal.returns-in_err-rested-clause-refused
returns-in_err-rested-clause-refused g c =
    run_refused c.args.program.now c.args.input.now c.args.config.now (write_effect g.W.Write.contents c.args.out.now c.args.out.now)
    c.from_residual.result c.in_err-rested.field-0.0 c.from_residual.ensures.1 c.in_err-rested.ensures.refused refl

pub returns-then-not-send-clause-refused : goal.returns-then-not-send-clause-refused
returns-then-not-send-clause-refused g c =
    let report : Report = record { rested = c.in_ok-rested.rested; outcome = c.outcome-outcome.result } in
    let reported : IsReported c.args.program.now c.args.input.now c.args.config.now report =
    record { came = c.in_ok-rested.ensures.rests; drive = c.in_ok-rested.ensures.drive; outcome = c.outcome-outcome.ensures } in
    line_cut_off c.args.program.now c.args.input.now c.args.config.now report reported (write_effect g.W.Write.contents c.args.out.now c.send.new.out)
    c.text.result.now c.in_ok-line-in-Value.line.items c.send.result c.in-Value.is (c.text.ensures text_in (λ node. refl)) c.in_ok-line-in-Value.ensures.line
    (subst (λ l. HasSent (write_effect g.W.Write.contents c.args.out.now c.send.new.out) l c.send.result) c.deref.ensures.value c.send.ensures) c.if-not-send.true

pub returns-clause-network : goal.returns-clause-network
returns-clause-network g c =
    record { came = c.in_ok-rested.ensures.rests; drive = c.in_ok-rested.ensures.drive; outcome = c.outcome-outcome.ensures }

pub returns-clause-wrote : goal.returns-clause-wrote
returns-clause-wrote g c =
    let report : Report = record { rested = c.in_ok-rested.rested; outcome = c.outcome-outcome.result } in
    let reported : IsReported c.args.program.now c.args.input.now c.args.config.now report =
    record { came = c.in_ok-rested.ensures.rests; drive = c.in_ok-rested.ensures.drive; outcome = c.outcome-outcome.ensures } in
    let untouched = λ (outcome : Outcome) (is : c.outcome-outcome.result ≡ outcome) (not : outcome ≡ Ended → ⊥).
    nothing_written c.args.program.now c.args.input.now c.args.config.now report reported (write_effect g.W.Write.contents c.args.out.now c.args.out.now)
    outcome is not refl in
    elim c.match-outcome.branch [
      | in-Value+in_ok-line-in-Value+else-not-send w ↦
          subst (λ out. WroteFor c.args.program.now c.args.input.now (write_effect g.W.Write.contents c.args.out.now out) (outcome_of report)) (sym w.out-is)
          (line_written c.args.program.now c.args.input.now c.args.config.now report reported (write_effect g.W.Write.contents c.args.out.now w.send.new.out)
          w.text.result.now w.in_ok-line-in-Value.line.items w.send.result w.in-Value.is (w.text.ensures text_in (λ node. refl)) w.in_ok-line-in-Value.ensures.line
          (subst (λ l. HasSent (write_effect g.W.Write.contents c.args.out.now w.send.new.out) l w.send.result) w.deref.ensures.value w.send.ensures) w.if-not-send.false)
      | in-Fault w ↦
          subst (λ out. WroteFor c.args.program.now c.args.input.now (write_effect g.W.Write.contents c.args.out.now out) (outcome_of report)) (sym w.out-is)
          (untouched (Failed _) w.in-Fault.is (λ e. absurd (cc)))
      | in-Stalled w ↦
          subst (λ out. WroteFor c.args.program.now c.args.input.now (write_effect g.W.Write.contents c.args.out.now out) (outcome_of report)) (sym w.out-is)
          (untouched (Stalled _) w.in-Stalled.is (λ e. absurd (cc)))
    ]

pub returns-clause-value : goal.returns-clause-value
returns-clause-value g c =
    given_for c.one_meaning.ensures.given c.args.program.now c.args.input.now
    (write_effect g.W.Write.contents c.args.out.now c.match-outcome.out) c.outcome-outcome.result (returns-clause-wrote g c)

pub returns-clause-one : goal.returns-clause-one
returns-clause-one g c =
    let report : Report = record { rested = c.in_ok-rested.rested; outcome = c.outcome-outcome.result } in
    c.one_outcome.ensures c.args.program.now c.args.input.now c.args.config.now report
    (record { came = c.in_ok-rested.ensures.rests; drive = c.in_ok-rested.ensures.drive; outcome = c.outcome-outcome.ensures })

pub returns-in_err-rested-clause-start : goal.returns-in_err-rested-clause-start
returns-in_err-rested-clause-start g c =
    start_refused c.in_err-rested.field-0.0 c.from_residual.result c.from_residual.ensures.1 c.in_err-rested.ensures.start

pub returns-then-not-send-clause-start : goal.returns-then-not-send-clause-start
returns-then-not-send-clause-start g c = start_kept c.in_ok-rested.rested _ c.in_ok-rested.ensures.start

pub returns-clause-start : goal.returns-clause-start
returns-clause-start g c = start_kept c.in_ok-rested.rested _ c.in_ok-rested.ensures.start
