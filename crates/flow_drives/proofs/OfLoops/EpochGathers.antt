-- What is known of rings of which the shares were gathered into a graph again, after epochs until no node could step.
use Rattle.std.proofs.Common.{◌≡◌, ℕ, ◌<◌, List, length, map, get_or, Some, sym, ◌∙◌, ap, subst, arith}
use Rattle.kahn.specs.Configurations.{IsSound}
use Rattle.kahn.specs.Runs.{AtRest}
use Rattle.flow_messages.specs.Ends.{View}
use Rattle.flow_messages.specs.declared.ends.Ends.{Ghosts as EndsGhosts}
use Rattle.flow_base.specs.declared.transducer.Transducer.{Ghosts}
use Rattle.flow_networks.specs.Edges.{edge_at}
use Rattle.flow_edges.specs.declared.lanes.rings.Rings.{Rings}
use Rattle.flow_edges.specs.lanes.Rings.{ends_of}
use Rattle.flow_shares.specs.meetings.RingMeetings.{RingsJoin}
use Rattle.flow_shares.specs.Deals.{share_of, AreDealt}
use Rattle.flow_shares.specs.declared.share.Share.{Share}
use Rattle.flow_shares.specs.meetings.Joints.{no_ends, states_in_shares, AreStates}
use Rattle.flow_shares.specs.meetings.RoundTheorems.{net_of}
use Rattle.flow_shares.specs.meetings.EndTheorems.{EdgesHaveMet, end_configuration}
use Rattle.flow_shares.proofs.OfMeetings.States.{are_states, states_are_one}
use Rattle.flow_shares.specs.meetings.Deals.{nodes_in, ends_in}
use Rattle.flow_shares.specs.meetings.SharedNetworks.{SharedNetwork, view_at}
use Rattle.flow_shares.proofs.OfMeetings.Lists.{mapped_twice}
use Rattle.flow_drives.specs.loops.Epochs.{AreOfOneGraph, SharesHaveMet, StandSound, StandAtRest}
use Rattle.flow_drives.proofs.OfLoops.ShareLists.{count_ends}
use Rattle.flow_drives.proofs.OfLoops.EpochMeets.{writer_is_share, reader_is_share}

-- what is seen of the rings of share s
abbrev pub seen_at : List Rings → ℕ → View
seen_at rings s = get_or (map ends_of rings) s no_ends

-- These rings have the ends of every edge, which have met. The nodes, with these states, and what the rings say of the
-- edges make a sound configuration of the network, where no node can step.
pub record HaveRested {X : Type 0} {t : Ghosts X} (network : SharedNetwork t) (states : List t.State) (rings : List Rings) : Type 0 where
  -- the rings of the share that writes an edge, and of the share that reads it, are among them
  pub writers : (e : ℕ) → e < length network.edges → share_of network.share (edge_at network.edges e).writer < length rings
  pub readers : (e : ℕ) → e < length network.edges → share_of network.share (edge_at network.edges e).reader < length rings
  pub met : EdgesHaveMet network.share network.edges (seen_at rings) network.capacity
  pub sound : ∥ IsSound t.behaviour.process (net_of network.nodes network.edges) (end_configuration t network.share network.edges states (seen_at rings)) ∥₁
  pub rest : AtRest t.behaviour.process (net_of network.nodes network.edges) (Some network.capacity) (end_configuration t network.share network.edges states (seen_at rings))
  -- its two ends are there
  pub joined : (e : ℕ) (d : Rings) → e < length network.edges →
      RingsJoin (get_or rings (share_of network.share (edge_at network.edges e).writer) d)
      (get_or rings (share_of network.share (edge_at network.edges e).reader) d) e

module _ {X : Type 0} {t : Ghosts X} {u : EndsGhosts Rings} (network : SharedNetwork t) (shares : List (Share X Rings t u)) (graph : AreOfOneGraph network shares) where
  module _ (rings : List Rings) (taken : rings ≡ ends_in shares) where
    count : length rings ≡ length shares
    count = ap length taken ∙ count_ends shares

    -- both shares of each edge are among those of which these are the rings
    pub writer_inside_rings : (e : ℕ) → e < length network.edges → share_of network.share (edge_at network.edges e).writer < length rings
    writer_inside_rings e l = omega (arith, writer_is_share network shares graph e l, count)

    pub reader_inside_rings : (e : ℕ) → e < length network.edges → share_of network.share (edge_at network.edges e).reader < length rings
    reader_inside_rings e l = omega (arith, reader_is_share network shares graph e l, count)

    -- what is seen of them is what the shares see
    seen_is : u.view ≡ ends_of → view_at shares ≡ seen_at rings
    seen_is sees =
        ap {B = ℕ → View} (λ (vs : List View) (s : ℕ). get_or vs s no_ends)
        (sym (mapped_twice u.view (λ (share : Share X Rings t u). share.ends) shares) ∙ ap (λ (v : Rings → View). map v (ends_in shares)) sees ∙ ap (map ends_of) (sym taken))

  module _ (sound : StandSound network shares) (rest : StandAtRest network shares) (met : SharesHaveMet network shares)
      (states : List t.State) (are : (deals : AreDealt network.share network.nodes (nodes_in shares)) → AreStates network.share network.nodes (nodes_in shares) deals states)
      (rings : List Rings) (taken : rings ≡ ends_in shares) (sees : u.view ≡ ends_of) where
    -- the nodes have the states in which they came to rest
    same_states : states_in_shares network.share network.nodes (nodes_in shares) graph.deals ≡ states
    same_states =
        states_are_one network.share network.edges network.nodes network.fit (nodes_in shares) graph.deals graph.deals _ states
        (are_states network.share network.edges network.nodes network.fit (nodes_in shares) graph.deals) (are graph.deals)

    -- what holds of where the shares stand holds of these states and these rings
    of_joint : (Q : List t.State → (ℕ → View) → Type 0) → Q (states_in_shares network.share network.nodes (nodes_in shares) graph.deals) (view_at shares) → Q states (seen_at rings)
    of_joint Q q = subst (λ v. Q states v) (seen_is rings taken sees) (subst (λ s. Q s (view_at shares)) same_states q)

    pub have_rested : HaveRested network states rings
    have_rested = record {
      writers = writer_inside_rings rings taken;
      readers = reader_inside_rings rings taken;
      met = subst (λ v. EdgesHaveMet network.share network.edges v network.capacity) (seen_is rings taken sees) met;
      sound = of_joint (λ s v. ∥ IsSound t.behaviour.process (net_of network.nodes network.edges) (end_configuration t network.share network.edges s v) ∥₁) (sound graph);
      rest = of_joint (λ s v. AtRest t.behaviour.process (net_of network.nodes network.edges) (Some network.capacity) (end_configuration t network.share network.edges s v)) (rest graph);
      joined = λ e d l.
          subst (λ rs. RingsJoin (get_or rs (share_of network.share (edge_at network.edges e).writer) d)
          (get_or rs (share_of network.share (edge_at network.edges e).reader) d) e) (sym taken) (graph.joined e d l);
    }
