use Rattle.flow_messages.specs.Flats.{flat_signals}
use Rattle.flow_networks.specs.Blocks.{PutOnFirst}
use Rattle.flow_networks.proofs.block.put_each.Given as goal

-- what was put so far
abbrev pub invariant-loop-edge : goal.invariant-loop-edge
invariant-loop-edge g l = let view = g.E.Ends.view in record {
  same : g.E.Ends.same l.fn.ends l.ends;
  put : PutOnFirst l.fn.edges l.edge-index (flat_signals l.fn.block.items) (view l.fn.ends) (view l.ends);
}
