use Rattle.std.proofs.Common.{refl, ap, ◌∙◌, arith, length, get_or}
use Rattle.snesl_data.specs.declared.refusal.Refusal.TheVariants.{TooBig}
use Rattle.flow_assembly.proofs.Fitting.{passed_on}
use Rattle.flow_assembly.proofs.Refused.{none_given, same_error}
use Rattle.flow_assembly.proofs.Counting.{counted_next, counted_all, counted_big}
use Rattle.flow_assembly.proofs.counted_steps.CountedSteps.new.Goals as goal

pub returns-in_err-add_uses-clause-big : goal.returns-in_err-add_uses-clause-big
returns-in_err-add_uses-clause-big c = λ e.
    counted_big c.args.dialect c.args.steps.items c.loop-step.step-index c.step-item.result c.loop-step.uses.items c.deref.result.now
    (omega (arith, c.loop-step-test.true, ap length c.deref-step-items.ensures.value))
    (c.step-item.is ∙ ap (λ l. get_or l c.loop-step.step-index c.step-item.result) c.deref-step-items.ensures.value) c.deref.ensures.value
    c.loop-step.invariant (c.in_err-add_uses.ensures.big (passed_on c.from_residual.result c.in_err-add_uses.field-0.0 TooBig c.from_residual.ensures.1 e))

pub loop-step-preserved : goal.loop-step-preserved
loop-step-preserved c = λ s.
    let i = c.loop-step.step-index in
    let step = c.step-item.result in
    counted_next c.args.dialect c.args.steps.items i step c.loop-step.uses.items c.add_uses.new.uses.items c.deref.result.now
    (omega (arith, c.loop-step-test.true, ap length c.deref-step-items.ensures.value)) (c.step-item.is ∙ ap (λ l. get_or l i step) c.deref-step-items.ensures.value) c.deref.ensures.value
    c.in_ok-add_uses.ensures.counted s (c.loop-step.invariant s)

pub returns : goal.returns
returns c = record {
  plan = refl;
  counted = λ s. counted_all c.args.dialect c.args.steps.items c.loop-step.step-index s _ (omega (arith, c.loop-step-test.false, ap length c.deref-step-items.ensures.value)) (c.loop-step.invariant s);
  dialect = refl;
  steps = refl;
  big = λ e. cc;
  memory = tt;
}

pub returns-in_err-add_uses-clause-plan : goal.returns-in_err-add_uses-clause-plan
returns-in_err-add_uses-clause-plan c = none_given _ c.from_residual.result c.from_residual.ensures.0

pub returns-in_err-add_uses-clause-counted : goal.returns-in_err-add_uses-clause-counted
returns-in_err-add_uses-clause-counted c = none_given _ c.from_residual.result c.from_residual.ensures.0

pub returns-in_err-add_uses-clause-dialect : goal.returns-in_err-add_uses-clause-dialect
returns-in_err-add_uses-clause-dialect c = none_given _ c.from_residual.result c.from_residual.ensures.0

pub returns-in_err-add_uses-clause-steps : goal.returns-in_err-add_uses-clause-steps
returns-in_err-add_uses-clause-steps c = none_given _ c.from_residual.result c.from_residual.ensures.0

pub returns-in_err-add_uses-clause-memory : goal.returns-in_err-add_uses-clause-memory
returns-in_err-add_uses-clause-memory c = same_error _ c.from_residual.result c.in_err-add_uses.field-0.0 c.from_residual.ensures.1 c.in_err-add_uses.ensures.memory
