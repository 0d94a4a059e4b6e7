use Rattle.std.proofs.Common.{MatchOption}
use Rattle.kahn.proofs.Outcomes.{NamesBelow, NoneBelow}
use Rattle.flow_drives.specs.Resteds.{rested_states}
use Rattle.flow_networks.specs.Networks.{state_at}
use Rattle.flow_drives.proofs.outcome.standing_fault.Given as goal

-- the fault that is named of those to which the nodes so far have come
abbrev pub invariant-loop-node : goal.invariant-loop-node
invariant-loop-node g l =
    MatchOption l.standing (NoneBelow (λ k. g.T.Transducer.behaviour.process.want (state_at g.T.Transducer.behaviour (rested_states l.rested) k)) l.node)
    (λ fault. NamesBelow (λ k. g.T.Transducer.behaviour.process.want (state_at g.T.Transducer.behaviour (rested_states l.rested) k)) l.node fault)
