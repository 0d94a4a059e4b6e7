use Rattle.std.proofs.Common.{arith}
use Rattle.flow_base.proofs.OverSlices.{risen_apart}
use Rattle.flow_base.proofs.Visiting.{still_there}
use Rattle.flow_base.proofs.Walks.{walk_none, walk_then}
use Rattle.flow_base.proofs.node.Node.over_slices.Goals as goal

-- slices are not shown
pub returns-then-not-at_most_two_apart-clause-visit : goal.returns-then-not-at_most_two_apart-clause-visit
returns-then-not-at_most_two_apart-clause-visit g c = walk_none g.met.E.Ends.same_refl

pub returns-then-not-rise-clause-visit : goal.returns-then-not-rise-clause-visit
returns-then-not-rise-clause-visit g c = walk_none g.met.E.Ends.same_refl

pub rounds-init : goal.rounds-init
rounds-init g c = record {
  works = c.requires.works;
  within = omega arith;
  walk = walk_none g.met.E.Ends.same_refl;
}

-- the edges at its ports are those that they were
pub go_along-steps-requires-clause-placed : goal.go_along-steps-requires-clause-placed
go_along-steps-requires-clause-placed g c =
    still_there g.W.Worker g.E.Ends g.met.W.Worker.laws c.args.self.now c.args.ends.now c.requires.placed c.rounds.self c.rounds.ends c.rounds.made c.rounds.invariant.walk

pub go_along-steps-requires-clause-outputs : goal.go_along-steps-requires-clause-outputs
go_along-steps-requires-clause-outputs g c = risen_apart c.args.edges.now.outputs.now (c.rise.ensures (cc (c.if-not-rise.false)))

pub go_along-steps-requires-clause-inputs : goal.go_along-steps-requires-clause-inputs
go_along-steps-requires-clause-inputs g c = c.at_most_two_apart.ensures (cc (c.if-not-at_most_two_apart.false))

-- it filled no block
pub returns-then-steps-lt-PLACES-clause-visit : goal.returns-then-steps-lt-PLACES-clause-visit
returns-then-steps-lt-PLACES-clause-visit g c = walk_then g.met.E.Ends.same_trans c.rounds.invariant.walk c.go_along-steps.ensures.visit

-- one round more
pub rounds-preserved : goal.rounds-preserved
rounds-preserved g c = record {
  works = c.go_along-steps.ensures.works;
  within = omega (arith, c.go_along-steps.ensures.within, c.rounds.invariant.within);
  walk = walk_then g.met.E.Ends.same_trans c.rounds.invariant.walk c.go_along-steps.ensures.visit;
}
