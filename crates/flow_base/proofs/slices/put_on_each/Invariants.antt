use Rattle.flow_base.specs.Along.{PutOnEach, written_signals}
use Rattle.flow_base.proofs.slices.put_on_each.Given as goal

-- the outputs so far got what is theirs
abbrev pub invariant-loop-port : goal.invariant-loop-port
invariant-loop-port g l = let view = g.E.Ends.view in record {
  same : g.E.Ends.same l.fn.ends l.ends;
  put : PutOnEach l.outputs l.port (λ q. written_signals l.block l.moved (g.W.Worker.machine.kind_out (g.W.Worker.state l.worker).0 q)) (view l.fn.ends) (view l.ends);
}
