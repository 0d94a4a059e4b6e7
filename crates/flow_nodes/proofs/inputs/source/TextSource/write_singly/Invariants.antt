use Rattle.std.proofs.Common.{◌≡◌, false}
use Rattle.flow_base.proofs.Visits.{Made}
use Rattle.flow_scalar.specs.SourceBehaviour.{source_behaviour}
use Rattle.flow_nodes.specs.inputs.TextSources.{text_source_state}
use Rattle.flow_nodes.proofs.inputs.source.TextSource.write_singly.Given as goal

-- the steps so far, one in each round
abbrev pub invariant-loop : goal.invariant-loop
invariant-loop g l = let view = g.E.Ends.view in record {
  same : g.E.Ends.same l.fn.ends l.ends;
  made : Made source_behaviour l.inputs l.outputs (text_source_state l.fn.self) (view l.fn.ends) (text_source_state l.self) (view l.ends) l.moved;
  first : l.moved ≡ false → l.counter ≡ 0;
}
