use Rattle.flow_dealing.specs.cut.Near.{AreNear}
use Rattle.flow_dealing.proofs.cut.near.neighbours.Given as goal

abbrev pub invariant-loop-writer : goal.invariant-loop-writer
invariant-loop-writer l = AreNear l.nodes l.near.items
