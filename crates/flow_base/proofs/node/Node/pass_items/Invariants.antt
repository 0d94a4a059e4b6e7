use Rattle.std.proofs.Common.{◌≤◌, length, take}
use Rattle.flow_messages.specs.Flats.{flat_signals}
use Rattle.flow_base.specs.Members.{node_of}
use Rattle.flow_base.specs.Passing.{PassedOn}
use Rattle.flow_base.proofs.node.Node.pass_items.Given as goal

-- what was passed on so far: the node is where it was
abbrev pub invariant-loop-flat : goal.invariant-loop-flat
invariant-loop-flat g l = let node = node_of g.W.Worker.state g.W.Worker.machine in record {
  short : length l.out.items ≤ l.flat-index;
  passed : PassedOn node.behaviour (node.state l.fn.self) (flat_signals (take l.flat-index l.fn.flats)) (node.state l.fn.self) (flat_signals l.out.items);
}
