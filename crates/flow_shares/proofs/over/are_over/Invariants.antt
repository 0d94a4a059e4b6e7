use Rattle.std.proofs.Common.{◌≡◌, ℕ, true, ◌<◌, get_or}
use Rattle.flow_networks.specs.Places.{placed_state}
use Rattle.flow_networks.specs.Over.{is_over}
use Rattle.flow_shares.proofs.over.are_over.Given as goal

-- the nodes so far are over
abbrev pub invariant-loop-placed : goal.invariant-loop-placed
invariant-loop-placed g l = (j : ℕ) (d : _) → j < l.placed-index → is_over (g.T.Transducer.behaviour.process.want (placed_state (get_or l.nodes j d))) ≡ true
