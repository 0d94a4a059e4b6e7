use Rattle.std.specs.Prelude.{◌≡◌, ℕ, ◌<◌, false}
use Rattle.flow_shares.specs.meetings.SharedNetworks.{view_at}
use Rattle.flow_drives.proofs.loops.owners.reader_of.Given as goal

-- the end is in none of the shares so far
abbrev pub invariant-loop-number : goal.invariant-loop-number
invariant-loop-number g l = (s : ℕ) → s < l.number → (view_at l.shares s).reads l.edge ≡ false
