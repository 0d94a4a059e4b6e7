use Rattle.std.proofs.Common.{◌++◌, ◌∙◌, take, length}
use Rattle.snesl_data.specs.Counted.{counted_inner, failures_of}
use Rattle.snesl_run.proofs.OfConsole.Streaming.{appends_more, moved_on, not_counted}
use Rattle.snesl_run.proofs.console.sending.send.Goals as goal

pub loop-rest-preserved : goal.loop-rest-preserved
loop-rest-preserved g c = (
  c.loop-rest.invariant.0 ++ take c.in-Ok.n c.loop-rest.rest.now,
  moved_on c.args.bytes.now c.loop-rest.invariant.0 c.loop-rest.rest.now c.in-Ok.n c.loop-rest.invariant.1,
  appends_more (g.W.Write.contents (counted_inner c.args.out.now)) (g.W.Write.contents (counted_inner c.loop-rest.out))
      (g.W.Write.contents (counted_inner c.write.new.self)) c.loop-rest.invariant.0 (take c.in-Ok.n c.loop-rest.rest.now)
      c.loop-rest.invariant.2 c.in-Ok.ensures.bytes,
  not_counted (failures_of c.loop-rest.out) c.in-Ok.n (length c.loop-rest.rest.now) (failures_of c.write.new.self)
      c.if-n-gt0.true c.in-Ok.ensures.counts ∙ c.loop-rest.invariant.3,
)
