-- What dealing a graph out gives: its shares.
use Rattle.std.specs.Prelude.{◌≡◌, ℕ, List, length}
use Rattle.flow_messages.specs.declared.ends.Ends.{Ghosts as EndsGhosts}
use Rattle.flow_base.specs.declared.transducer.Transducer.{Ghosts}
use Rattle.flow_networks.specs.declared.graph.Graph.{Graph}
use Rattle.flow_networks.specs.Graphs.{states_of, edges_of}
use Rattle.flow_networks.specs.Skeletons.{nodes_of}
use Rattle.flow_networks.specs.EdgeKinds.{edge_kinds}
use Rattle.flow_boxes.specs.declared.boxes.Boxes.{Boxes}
use Rattle.flow_edges.specs.declared.lanes.rings.Rings.{Rings}
use Rattle.flow_shares.specs.declared.meetings.owners.EdgeOwners.{EdgeOwners}
use Rattle.flow_shares.specs.meetings.BoxMeetings.{BoxesJoin, box_slots}
use Rattle.flow_shares.specs.meetings.RingMeetings.{RingsJoin, ring_slots}
use Rattle.flow_shares.specs.Deals.{AreJustDealt}
use Rattle.flow_shares.specs.declared.share.Share.{Share}
use Rattle.flow_shares.specs.meetings.Open.{AreOwners, AreFreshEnds}
use Rattle.flow_shares.specs.declared.meetings.dealt.Dealt.{Dealt}
use Rattle.flow_shares.specs.meetings.Deals.{nodes_in, ends_in, AreNew, IsDealt}
use Rattle.flow_shares.specs.meetings.SharedNetworks.{SharedNetwork, shared_network}
use Rattle.flow_drives.specs.loops.Epochs.{AreOfOneGraph}
use Rattle.flow_drives.specs.Configs.{IsLawful}
use Rattle.flow_drives.specs.declared.config.Config.{Config}

-- the network in which the configuration deals the graph out
abbrev pub network_under : {X : Type 0} {t : Ghosts X} → Graph X t → Config → SharedNetwork t
network_under graph config = shared_network graph config.share.items config.capacity

module _ {X Y : Type 0} {t : Ghosts X} {u : EndsGhosts Y} where
  -- the graph was dealt out as the configuration says
  abbrev pub IsDealtUnder : (Y → Y → ℕ → Type 0) → (Y → ℕ → ℕ) → Graph X t → Config → Dealt X Y t u → Type 0
  IsDealtUnder joins places graph config dealt = IsDealt joins places graph config.threads config.share.items config.capacity dealt

  -- The graph was dealt out to these shares, as the configuration says.
  pub record AreDealtOut (joins : Y → Y → ℕ → Type 0) (places : Y → ℕ → ℕ) (graph : Graph X t) (config : Config) (shares : List (Share X Y t u)) : Type 0 where
    pub lawful : IsLawful config
    -- there is one share for each thread
    pub count : length shares ≡ config.threads
    -- each has its number, and was never run
    pub new : AreNew shares
    -- each node lies in its share, at one place there, and nothing else does
    pub nodes : AreJustDealt config.share.items (nodes_of graph) (nodes_in shares)
    -- of each edge of the graph, the shares of its writer and its reader
    pub owners : List EdgeOwners
    pub are_owners : AreOwners config.share.items (edges_of graph) owners
    -- each end of each edge lies in the share that its owner names, and nowhere else, all are fresh, and each takes
    -- the items of its writer's port
    pub ends : AreFreshEnds u.view joins places owners (edge_kinds t.behaviour (states_of graph) (edges_of graph)) config.capacity (ends_in shares)

-- over boxes
abbrev pub AreDealtOverBoxes : {X : Type 0} {t : Ghosts X} {u : EndsGhosts Boxes} → Graph X t → Config → List (Share X Boxes t u) → Type 0
AreDealtOverBoxes graph config shares = AreDealtOut BoxesJoin box_slots graph config shares

-- over rings
abbrev pub AreDealtOverRings : {X : Type 0} {t : Ghosts X} {u : EndsGhosts Rings} → Graph X t → Config → List (Share X Rings t u) → Type 0
AreDealtOverRings graph config shares = AreDealtOut RingsJoin ring_slots graph config shares

-- and these are the shares of that graph
abbrev pub AreSharesOf : {X : Type 0} {t : Ghosts X} {u : EndsGhosts Rings} → Graph X t → Config → List (Share X Rings t u) → Type 0
AreSharesOf graph config shares = AreOfOneGraph (network_under graph config) shares
