-- What is found in shares at rest: by the number of a node its share, its place there and its state, and by the number of
-- an edge its two ends.
use Rattle.std.proofs.Common.{◌≡◌, ℕ, ◌<◌, ◌≤◌, true, List, length, get_or, refl, sym, ◌∙◌, ap, subst, arith}
use Rattle.std.proofs.lemmas.List.{get_or_default}
use Rattle.std.specs.Io.Iter.{u64_saturate}
use Rattle.flow_messages.specs.declared.ends.Ends.{Ghosts as EndsGhosts}
use Rattle.flow_base.specs.declared.transducer.Transducer.{Ghosts}
use Rattle.flow_networks.specs.declared.edge.Edge.{Edge}
use Rattle.flow_networks.specs.declared.placed.Placed.{Placed}
use Rattle.flow_networks.specs.Edges.{edge_at}
use Rattle.flow_networks.specs.Networks.{state_at}
use Rattle.flow_networks.specs.Places.{placed_state}
use Rattle.flow_edges.specs.declared.lanes.rings.Rings.{Rings}
use Rattle.flow_edges.specs.lanes.Rings.{ends_of}
use Rattle.flow_shares.specs.meetings.RingMeetings.{RingsJoin, rings_join_ends}
use Rattle.flow_shares.specs.Deals.{share_of}
use Rattle.flow_shares.specs.declared.share.Share.{Share}
use Rattle.flow_shares.specs.meetings.Joints.{nodes_at}
use Rattle.flow_shares.specs.meetings.Deals.{nodes_in, ends_in}
use Rattle.flow_drives.proofs.OfLoops.ShareLists.{count_dealt, count_ends}
use Rattle.flow_drives.specs.Apart.{states_apart, traffic_apart, RestApart}
use Rattle.flow_drives.proofs.Apart.{state_found, ends_found}
use Rattle.flow_drives.proofs.Holding.{ends_there, sent_counted, received_counted}
use Rattle.flow_drives.proofs.Noted.{nodes_found}

no_more : (a b : ℕ) → a < b → a ≤ b
no_more a b less = omega arith

module _ {X : Type 0} {t : Ghosts X} {u : EndsGhosts Rings} {share places : List ℕ} {edges : List Edge} {shares : List (Share X Rings t u)}
    {capacity : ℕ} (rest : RestApart share places edges shares capacity) where
  -- node k
  module _ (k : ℕ) (l : k < length places) where
    pub share_there : share_of share k < length shares
    share_there = subst (λ n. share_of share k < n) (count_dealt shares) (rest.lie.shares k l)

    -- its share was found, with these nodes, and its place
    module _ (own : Share X Rings t u) (found : (d : Share X Rings t u) → own ≡ get_or shares (share_of share k) d) (nodes : List (Placed X t)) (of : nodes ≡ own.nodes.items)
        (place : ℕ) (is : place ≡ get_or places k place) where
      nodes_are : nodes ≡ nodes_at (nodes_in shares) (share_of share k)
      nodes_are = nodes_found shares (share_of share k) own nodes share_there (found own) of

      place_is : place ≡ get_or places k 0
      place_is = is ∙ get_or_default places k place 0 l

      pub place_there : place < length nodes
      place_there =
          subst (λ p. p < length nodes) (sym place_is)
          (subst (λ (ns : List (Placed X t)). get_or places k 0 < length ns) (sym nodes_are) (rest.lie.inside k l))

      pub place_within : place ≤ length nodes
      place_within = no_more place (length nodes) place_there

      pub state_there : (x : Placed X t) → x ≡ get_or nodes place x → placed_state x ≡ state_at t.behaviour (states_apart share places shares) k
      state_there x there =
          state_found share places (nodes_in shares) k l rest.lie x
          (there ∙ ap (λ ns. get_or ns place x) nodes_are ∙ ap (λ p. get_or (nodes_at (nodes_in shares) (share_of share k)) p x) place_is)

  -- edge e
  module _ (e : ℕ) (l : e < length edges) (edge : Edge) (is : edge ≡ edge_at edges e) where
    there : (share_of share edge.writer < length (ends_in shares)) × (share_of share edge.reader < length (ends_in shares))
        × ((d : Rings) → (ends_of (get_or (ends_in shares) (share_of share edge.writer) d)).writes e ≡ true)
        × ((d : Rings) → (ends_of (get_or (ends_in shares) (share_of share edge.reader) d)).reads e ≡ true)
    there = ends_there ends_of RingsJoin rings_join_ends share edges (ends_in shares) capacity rest.joined e l edge is

    pub writer_there : share_of share edge.writer < length shares
    writer_there = subst (λ n. share_of share edge.writer < n) (count_ends shares) there.0

    pub reader_there : share_of share edge.reader < length shares
    reader_there = subst (λ n. share_of share edge.reader < n) (count_ends shares) there.1

    -- the ends of the share of its writer were found
    module _ (own : Share X Rings t u) (found : (d : Share X Rings t u) → own ≡ get_or shares (share_of share edge.writer) d) (ends : Rings) (of : ends ≡ own.ends) where
      writer_is : (b : Rings) → ends ≡ get_or (ends_in shares) (share_of share edge.writer) b
      writer_is b = of ∙ ends_found shares (share_of share edge.writer) writer_there own found b

      pub writes_there : (ends_of ends).writes e ≡ true
      writes_there = ap (λ b. (ends_of b).writes e) (writer_is ends) ∙ there.2 ends

      pub sent_there : (count : ℕ) → count ≡ u64_saturate (length ((ends_of ends).sent e)) → count ≡ u64_saturate (length ((traffic_apart share edges shares).sent e))
      sent_there count counted =
          sent_counted ends_of RingsJoin rings_join_ends share edges (ends_in shares) capacity rest.joined e l edge is (traffic_apart share edges shares) refl count
          (λ b. counted ∙ ap (λ r. u64_saturate (length ((ends_of r).sent e))) (writer_is b))

    -- and those of the share of its reader
    module _ (own : Share X Rings t u) (found : (d : Share X Rings t u) → own ≡ get_or shares (share_of share edge.reader) d) (ends : Rings) (of : ends ≡ own.ends) where
      reader_is : (b : Rings) → ends ≡ get_or (ends_in shares) (share_of share edge.reader) b
      reader_is b = of ∙ ends_found shares (share_of share edge.reader) reader_there own found b

      pub reads_there : (ends_of ends).reads e ≡ true
      reads_there = ap (λ b. (ends_of b).reads e) (reader_is ends) ∙ there.3 ends

      pub received_there : (count : ℕ) → count ≡ u64_saturate (length ((ends_of ends).received e)) → count ≡ u64_saturate (length ((traffic_apart share edges shares).received e))
      received_there count counted =
          received_counted ends_of RingsJoin rings_join_ends share edges (ends_in shares) capacity rest.joined e l edge is (traffic_apart share edges shares) refl count
          (λ b. counted ∙ ap (λ r. u64_saturate (length ((ends_of r).received e))) (reader_is b))
