-- What led to a graph at rest: from the shares of a graph that was dealt out, and so of the graph that is driven.
use Rattle.std.proofs.Common.{◌≡◌, ℕ, List, Result, Ok, Err, IfOk, subst}
use Rattle.flow_messages.specs.declared.ends.Ends.{Ghosts as EndsGhosts}
use Rattle.flow_base.specs.declared.transducer.Transducer.{Ghosts}
use Rattle.flow_networks.specs.declared.graph.Graph.{Graph}
use Rattle.flow_networks.specs.Graphs.{states_of, edges_of}
use Rattle.flow_networks.specs.Places.{states_in}
use Rattle.flow_networks.specs.Shapes.{IsSameNetwork}
use Rattle.flow_boxes.specs.declared.boxes.Boxes.{Boxes}
use Rattle.flow_edges.specs.declared.lanes.rings.Rings.{Rings}
use Rattle.flow_shares.specs.Deals.{AreDealt}
use Rattle.flow_shares.specs.declared.share.Share.{Share}
use Rattle.flow_shares.specs.meetings.BoxMeetings.{BoxesJoin, box_slots}
use Rattle.flow_shares.specs.meetings.RingMeetings.{RingsJoin, ring_slots}
use Rattle.flow_shares.specs.meetings.Deals.{nodes_in, IsDealt}
use Rattle.flow_shares.specs.meetings.Joints.{AreStates}
use Rattle.flow_shares.specs.meetings.SharedNetworks.{SharedNetwork, shared_network}
use Rattle.flow_shares.specs.declared.meetings.dealt.Dealt.{Dealt}
use Rattle.flow_drives.specs.declared.all_ends.SharedEnds.{SharedEnds}
use Rattle.flow_drives.specs.declared.config.Config.{Config}
use Rattle.flow_drives.specs.declared.rested.Rested.{Rested}
use Rattle.flow_drives.specs.Apart.{HaveStates}
use Rattle.flow_drives.specs.Configs.{IsLawful}
use Rattle.flow_drives.specs.Led.{RoundsLed, EpochsLed, LedInRounds, LedInEpochs}
use Rattle.flow_drives.proofs.Dealt.{are_dealt_out}
use Rattle.flow_drives.proofs.Gathered.{of_lines}

-- where something was made, what follows of it holds
pub made_so : {A E : Type 0} {P Q : A → Type 0} (r : Result A E) → ((x : A) → P x → Q x) → IfOk r P → IfOk r Q
made_so (Ok x) follows p = follows x p
made_so (Err e) follows p = tt

-- the nodes that were gathered have the states that they had in their shares
module _ {X : Type 0} {t : Ghosts X} {u : EndsGhosts Boxes} (network : SharedNetwork t) (graph : Graph X t) (shared : SharedEnds Boxes)
    (same : IsSameNetwork t.behaviour (states_in network.nodes) network.edges (states_of graph) (edges_of graph))
    (share : shared.share.items ≡ network.share) (capacity : shared.capacity ≡ network.capacity) (shares : List (Share X Boxes t u)) where
  pub have_states : (deals : AreDealt network.share network.nodes (nodes_in shares)) → AreStates network.share network.nodes (nodes_in shares) deals (states_of graph)
      → HaveStates shared.share.items (edges_of graph) (nodes_in shares) (states_of graph)
  have_states deals are =
      of_lines network shared.share.items (edges_of graph) shared.capacity share same.same_edges capacity (λ s e n. HaveStates s e (nodes_in shares) (states_of graph))
      (record { nodes = network.nodes; fit = network.fit; deals = deals; are = are })

-- what led from shares that were dealt out led from those of the graph, by the configuration
module _ {X : Type 0} {t : Ghosts X} (graph was : Graph X t) (config : Config) (share : List ℕ) (capacity : ℕ) (lawful : IsLawful config) (rested : Rested X t)
    (same_graph : was ≡ graph) (same_share : share ≡ config.share.items) (same_capacity : capacity ≡ config.capacity) where
  of_graph : (Q : Graph X t → List ℕ → ℕ → Type 0) → Q was share capacity → Q graph config.share.items config.capacity
  of_graph Q q = subst (λ g. Q g config.share.items config.capacity) same_graph (subst (λ s. Q was s config.capacity) same_share (subst (λ n. Q was share n) same_capacity q))

  pub led_in_rounds : {u : EndsGhosts Boxes} (dealt : Dealt X Boxes t u) → IsDealt BoxesJoin box_slots was config.threads share capacity dealt
      → RoundsLed (shared_network was share capacity) dealt.shares.items rested → LedInRounds u graph config rested
  led_in_rounds dealt is led = record {
    dealt = dealt.shares.items;
    are_dealt = are_dealt_out BoxesJoin box_slots graph config dealt (of_graph (λ g s n. IsDealt BoxesJoin box_slots g config.threads s n dealt) is) lawful;
    led = of_graph (λ g s n. RoundsLed (shared_network g s n) dealt.shares.items rested) led;
  }

  pub led_in_epochs : {u : EndsGhosts Rings} (dealt : Dealt X Rings t u) → IsDealt RingsJoin ring_slots was config.threads share capacity dealt
      → EpochsLed (shared_network was share capacity) dealt.shares.items rested → LedInEpochs u graph config rested
  led_in_epochs dealt is led = record {
    dealt = dealt.shares.items;
    are_dealt = are_dealt_out RingsJoin ring_slots graph config dealt (of_graph (λ g s n. IsDealt RingsJoin ring_slots g config.threads s n dealt) is) lawful;
    led = of_graph (λ g s n. EpochsLed (shared_network g s n) dealt.shares.items rested) led;
  }
