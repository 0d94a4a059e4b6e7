use Rattle.std.proofs.Common.{◌≡◌, ◌-◌, ◌≤◌}
use Rattle.flow_base.specs.Standing.{Walks}
use Rattle.flow_base.specs.declared.node.Phase.TheVariants.{Working}
use Rattle.flow_base.proofs.node.Node.over_slices.Given as goal

-- the rounds so far
abbrev pub invariant-rounds : goal.invariant-rounds
invariant-rounds g l = record {
  works : l.self.phase ≡ Working;
  within : l.made ≤ l.most;
  walk : Walks g.W.Worker g.E.Ends l.fn.edges l.fn.self l.fn.ends l.self l.ends l.made;
}

abbrev pub decreases-rounds : goal.decreases-rounds
decreases-rounds g l = l.most - l.made
