-- What is left of shares while their ends are elsewhere.
use Rattle.std.specs.Prelude.{ℕ, List, map}
use Rattle.std.specs.List.{AllZip}
use Rattle.flow_messages.specs.declared.ends.Ends.{Ghosts as EndsGhosts}
use Rattle.flow_base.specs.declared.transducer.Transducer.{Ghosts}
use Rattle.flow_networks.specs.declared.placed.Placed.{Placed}
use Rattle.flow_boxes.specs.declared.boxes.Boxes.{Boxes}
use Rattle.flow_boxes.specs.Contents.{view_of}
use Rattle.flow_edges.specs.declared.lanes.rings.Rings.{Rings}
use Rattle.flow_edges.specs.lanes.Rings.{Kept, SameRings, ends_of}
use Rattle.flow_shares.specs.declared.share.Share.{Share}
use Rattle.flow_shares.specs.declared.lender.Lender.{Lender}
use Rattle.flow_shares.specs.Lending.{ShareNodes, share_nodes}
use Rattle.flow_drives.specs.declared.loops.part.Part.{Part}

module _ {X Y : Type 0} {t : Ghosts X} {u : EndsGhosts Y} where
  -- what of each share is not its ends
  abbrev pub share_bodies : List (Share X Y t u) → List (ShareNodes t)
  share_bodies shares = map (λ share. share_nodes share) shares

  -- the shares whose ends were lent, and what of each is not its ends
  abbrev pub lent_shares : List (Lender X Y t u) → List (Share X Y t u)
  lent_shares lenders = map (λ lender. lender.share.value) lenders

  abbrev pub lent_bodies : List (Lender X Y t u) → List (ShareNodes t)
  lent_bodies lenders = map (λ lender. share_nodes lender.share.value) lenders

module _ {X : Type 0} {t : Ghosts X} {u : EndsGhosts Rings} where
  -- each of these shares lent the rings that are these now
  abbrev pub AreOwnRings : List (Lender X Rings t u) → List Rings → Type 0
  AreOwnRings lenders ends = AllZip (λ lender own. SameRings lender.share.value.ends own) lenders ends

  -- nothing was sent or received over them, and no certainty is lost
  abbrev pub KeepRings : List (Lender X Rings t u) → List Rings → Type 0
  KeepRings lenders ends = AllZip (λ lender own. Kept (ends_of lender.share.value.ends) (ends_of own)) lenders ends

module _ {X : Type 0} {t : Ghosts X} where
  -- the numbers of the shares of which these parts are, and the nodes of each
  abbrev pub part_numbers : List (Part X t) → List ℕ
  part_numbers parts = map (λ part. part.share.value.number) parts

  abbrev pub part_nodes : List (Part X t) → List (List (Placed X t))
  part_nodes parts = map (λ part. part.share.value.nodes.items) parts

  -- nothing was sent or received over the boxes of these shares, and no certainty is lost
  abbrev pub KeepBoxes : List (Part X t) → List Boxes → Type 0
  KeepBoxes parts boxes = AllZip (λ part ends. Kept (view_of part.share.value.ends) (view_of ends)) parts boxes
