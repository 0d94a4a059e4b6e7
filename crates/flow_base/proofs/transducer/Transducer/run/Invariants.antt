use Rattle.std.proofs.Common.{◌≡◌, false}
use Rattle.flow_base.proofs.Visits.{Made}
use Rattle.flow_base.proofs.transducer.Transducer.run.Given as goal

-- the steps so far, one in each round
abbrev pub invariant-loop : goal.invariant-loop
invariant-loop g l = let state = g.Self.Transducer.state in record {
  same : g.E.Ends.same l.fn.ends l.ends;
  made : Made g.Self.Transducer.behaviour l.fn.inputs l.fn.outputs (state l.fn.self) (g.E.Ends.view l.fn.ends) (state l.self) (g.E.Ends.view l.ends) l.moved;
  first : l.moved ≡ false → l.counter ≡ 0;
}
