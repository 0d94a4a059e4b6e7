use Rattle.flow_shares.specs.Deals.{AreDealt}
use Rattle.flow_shares.specs.meetings.Deals.{nodes_in}
use Rattle.flow_drives.proofs.Noted.{AreNoted}
use Rattle.flow_drives.proofs.places.places_of.Given as goal

-- the places of the nodes in the shares so far are noted
abbrev pub invariant-loop-s : goal.invariant-loop-s
invariant-loop-s g l =
    (deals : AreDealt g.network.share g.network.nodes (nodes_in l.shares)) → AreNoted g.network.share g.network.nodes (nodes_in l.shares) deals l.s 0 l.places.items

-- and in the next share those of the nodes so far
abbrev pub invariant-loop-place : goal.invariant-loop-place
invariant-loop-place g l =
    (deals : AreDealt g.network.share g.network.nodes (nodes_in l.shares)) → AreNoted g.network.share g.network.nodes (nodes_in l.shares) deals l.s l.place l.places.items
