use Rattle.std.proofs.Common.{ℕ, ◌<◌}
use Rattle.flow_drives.specs.Resteds.{rested_states, rested_edges}
use Rattle.flow_drives.specs.Drives.{WantsToWrite}
use Rattle.flow_drives.proofs.outcome.first_to_write.Given as goal

-- no writer of the edges so far wants to write to its edge
abbrev pub invariant-loop-number : goal.invariant-loop-number
invariant-loop-number g l = (e : ℕ) → e < l.number → WantsToWrite g.T.Transducer.behaviour (rested_states l.rested) (rested_edges l.rested) e → ⊥
