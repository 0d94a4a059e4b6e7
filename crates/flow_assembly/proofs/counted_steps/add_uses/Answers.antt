use Rattle.snesl_data.specs.declared.refusal.Refusal.TheVariants.{TooBig}
use Rattle.flow_assembly.proofs.Counting.{reads_next, reads_ended, reads_big}
use Rattle.flow_assembly.proofs.Fitting.{passed_on}
use Rattle.flow_assembly.proofs.Refused.{none_done, same_error}
use Rattle.flow_assembly.proofs.counted_steps.add_uses.Goals as goal

pub loop-stream-preserved : goal.loop-stream-preserved
loop-stream-preserved c = λ s.
    reads_next c.args.reads.now c.loop-stream.stream-index c.loop-stream.uses.items c.add_use.new.uses.items _
    c.loop-stream-test.true c.in_ok-add_use.ensures.one c.in_ok-add_use.ensures.others s (c.loop-stream.invariant s)

pub returns : goal.returns
returns c = record {
  counted = λ s. reads_ended c.args.reads.now c.loop-stream.stream-index s _ _ c.loop-stream-test.false (c.loop-stream.invariant s);
  big = λ e. cc;
  memory = tt;
}

pub returns-in_err-add_use : goal.returns-in_err-add_use
returns-in_err-add_use c =
    let r = c.from_residual.result in
    let x = c.in_err-add_use.field-0.0 in
    let no = c.from_residual.ensures.0 in
    let is = c.from_residual.ensures.1 in
    record {
      counted = none_done _ r no;
      big = λ e. reads_big c.args.reads.now c.loop-stream.stream-index c.loop-stream.uses.items c.args.uses.now.items c.loop-stream-test.true
          c.loop-stream.invariant (c.in_err-add_use.ensures.big (passed_on r x TooBig is e));
      memory = same_error _ r x is c.in_err-add_use.ensures.memory;
    }
