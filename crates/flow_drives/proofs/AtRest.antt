-- What holds of the nodes and edges of a graph at rest, in one graph or in shares.
use Rattle.std.proofs.Common.{◌≡◌, ℕ, ◌+◌, ◌<◌, ◌≤◌, length, sym, ◌∙◌, ap, subst, arith}
use Rattle.std.proofs.lemmas.Bool.{cases_lt}
use Rattle.std.proofs.Props.{props}
use mathlib.Core.Logic.{∥∥₁_elim}
use Rattle.kahn.specs.Networks.{IsWired}
use Rattle.flow_base.specs.declared.transducer.Transducer.{Ghosts}
use Rattle.flow_networks.specs.declared.edge.Edge.{Edge}
use Rattle.flow_networks.specs.Edges.{edge_at}
use Rattle.flow_networks.specs.Graphs.{edges_of}
use Rattle.flow_networks.specs.Skeletons.{edges_in}
use Rattle.flow_networks.specs.Networks.{network_of}
use Rattle.flow_networks.proofs.Nets.{graph_wired}
use Rattle.flow_edges.specs.lanes.Rings.{ends_of}
use Rattle.flow_shares.specs.meetings.RingMeetings.{RingsJoin}
use Rattle.flow_shares.specs.meetings.Deals.{nodes_in, ends_in}
use Rattle.flow_drives.specs.declared.parts.Parts.{Parts}
use Rattle.flow_drives.specs.declared.parts.Parts.TheVariants.{Together, Apart}
use Rattle.flow_drives.specs.declared.rested.Rested.{Rested}
use Rattle.flow_drives.specs.declared.ring_shares.RingShares.{RingShares}
use Rattle.flow_drives.specs.Apart.{HaveSlots, HaveStates, traffic_apart}
use Rattle.flow_drives.specs.Drives.{IsSoundAt, RestsAt}
use Rattle.flow_drives.specs.Edges.{AreJoined}
use Rattle.flow_drives.specs.Parts.{states_at, edges_at, traffic_at, capacity_at, share_at, shares_at, StayInShares}
use Rattle.flow_drives.specs.Resteds.{AreTheShares}
use Rattle.flow_drives.proofs.Holding.{all_ends_fit, ends_fit}

between : (a b c : ℕ) → a < b → b < c → a < c
between a b c less more = omega arith

module _ {X : Type 0} {t : Ghosts X} where
  pub are_sound : (parts : Parts X t) → IsSoundAt t.behaviour (states_at parts) (edges_at parts) (traffic_at parts)
  are_sound (Together gathered) = gathered.sound
  are_sound (Apart shares) = shares.rest.sound

  pub are_at_rest : (parts : Parts X t) → RestsAt t.behaviour (states_at parts) (edges_at parts) (capacity_at parts) (traffic_at parts)
  are_at_rest (Together gathered) = gathered.rest
  are_at_rest (Apart shares) = shares.rest.rest

  pub are_wired : (parts : Parts X t) → IsWired (network_of t.behaviour (states_at parts) (edges_at parts))
  are_wired (Together gathered) = graph_wired gathered.graph
  are_wired (Apart shares) = shares.rest.built.wired

  -- no edge holds more than the capacity
  pub all_fit : (parts : Parts X t) (e : ℕ) → length ((traffic_at parts).sent e) ≤ length ((traffic_at parts).received e) + capacity_at parts
  all_fit (Together gathered) e = all_ends_fit (edges_of gathered.graph) gathered.all_ends gathered.there e
  all_fit (Apart shares) e =
      ∥∥₁_elim shares.rest.joined (hlevel props)
      (λ joined. ends_fit ends_of shares.share.items (edges_in shares.skeleton) (ends_in shares.shares.items) shares.capacity joined.met e (cases_lt e (length (edges_in shares.skeleton))))

  -- the writer of an edge is one of the nodes
  pub writer_among : (parts : Parts X t) (e : ℕ) → e < length (edges_at parts) → (edge : Edge) → edge ≡ edge_at (edges_at parts) e → edge.writer < length (states_at parts)
  writer_among parts e l edge is =
      let wired = are_wired parts in
      subst (λ (k : Edge). k.writer < length (states_at parts)) (sym is) (between _ _ _ (wired.forward e l) (wired.inside e l))

  -- the shares of a graph that was driven over rings
  pub are_the_shares : (rested : Rested X t) (shares : RingShares X t) → rested.parts ≡ Apart shares → AreTheShares rested shares.shares.items
  are_the_shares rested shares is = record {
    over = subst (λ (parts : Parts X t). StayInShares parts) (sym is) tt;
    count = sym (ap (λ (parts : Parts X t). shares_at parts) is);
    nodes = subst (λ (parts : Parts X t). ∥ HaveStates (share_at parts) (edges_at parts) (nodes_in shares.shares.items) (states_at parts) ∥₁) (sym is) shares.rest.nodes;
    traffic = ap (λ (parts : Parts X t). traffic_at parts) is ∙ sym (ap (λ (parts : Parts X t). traffic_apart (share_at parts) (edges_at parts) shares.shares.items) is);
    joined = subst (λ (parts : Parts X t). ∥ AreJoined ends_of (share_at parts) (edges_at parts) (ends_in shares.shares.items) RingsJoin (capacity_at parts) ∥₁) (sym is) shares.rest.joined;
    slots = subst (λ (parts : Parts X t). HaveSlots (share_at parts) (edges_at parts) (ends_in shares.shares.items) (capacity_at parts)) (sym is) shares.rest.slots;
    fed = shares.rest.fed;
  }
