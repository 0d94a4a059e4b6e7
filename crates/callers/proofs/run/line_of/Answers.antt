use Rattle.std.proofs.Common.{sym, ap, ◌∙◌, subst, Vec, ℕ}
use Rattle.std.specs.Global.{Global}
use Rattle.snesl_run.specs.Runs.{refusal_of}
use Rattle.callers.specs.Run.{IsRefusedFor}
use Rattle.callers.proofs.Running.{taken_by, line_written, fault_named, has_stalled, refused_for}
use Rattle.callers.proofs.run.line_of.Goals as goal

pub returns-in-Value : goal.returns-in-Value
returns-in-Value g c =
    record {
      line = line_written c.args.program.now c.args.input.now c.in_ok-config.config c.in-Ok.report c.new-out.result c.run.new.out c.into_inner.result
          (ap (λ (bytes : Vec ℕ Global). bytes.items) c.new-out.ensures.inner ∙ c.new-2.ensures.items) c.into_inner.ensures
          (sym c.outcome.ensures ∙ c.in-Value.is) c.in-Ok.ensures.wrote;
      refused = tt;
    }

pub returns-in-Fault : goal.returns-in-Fault
returns-in-Fault g c =
    record {
      line = fault_named c.args.program.now c.args.input.now c.in_ok-config.config c.in-Ok.report (taken_by c.new-out.result c.run.new.out) _
          (sym c.outcome.ensures ∙ c.in-Fault.is) c.in-Ok.ensures.wrote;
      refused = tt;
    }

pub returns-in-Ok : goal.returns-in-Ok
returns-in-Ok g c =
    record {
      line = has_stalled c.args.program.now c.args.input.now c.in_ok-config.config c.in-Ok.report _ c.in_ok-config.ensures.capacity
          c.in-Ok.ensures.network (sym c.outcome.ensures ∙ c.in-Stalled.is);
      refused = tt;
    }

pub returns : goal.returns
returns g c =
    record {
      line = tt;
      refused = subst (IsRefusedFor c.args.program.now c.args.input.now) (sym c.refusal.ensures)
          (refused_for c.args.program.now c.args.input.now c.in_ok-config.config c.in_ok-config.ensures.lawful c.in_ok-config.ensures.drive
          (taken_by c.new-out.result c.run.new.out) (refusal_of c.in-Err.error) c.in-Err.ensures.refused);
    }
