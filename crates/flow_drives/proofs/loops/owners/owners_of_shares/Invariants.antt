use Rattle.std.specs.Prelude.{◌-◌, length}
use Rattle.flow_drives.proofs.OfLoops.FirstOwners.{AreFirst}
use Rattle.flow_drives.proofs.loops.owners.owners_of_shares.Given as goal

-- the owners so far are those of the first edges
abbrev pub invariant-loop-owner : goal.invariant-loop-owner
invariant-loop-owner g l = AreFirst g.network l.owners.items

-- how many edges are left
abbrev pub decreases-loop-owner : goal.decreases-loop-owner
decreases-loop-owner g l = length g.network.edges - length l.owners.items
