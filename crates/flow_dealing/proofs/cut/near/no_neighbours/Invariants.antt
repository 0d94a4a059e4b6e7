use Rattle.flow_dealing.specs.cut.Near.{AreNear}
use Rattle.flow_dealing.proofs.cut.near.no_neighbours.Given as goal

abbrev pub invariant-loop : goal.invariant-loop
invariant-loop l = AreNear l.counter l.near.items
