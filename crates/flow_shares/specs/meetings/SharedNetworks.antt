-- A graph whose nodes were dealt out to shares, whatever the shares have done since.
use Rattle.std.specs.Prelude.{◌≡◌, ℕ, ◌+◌, ◌<◌, false, List, length, map, slice_index_or}
use Rattle.std.specs.List.{All}
use Rattle.kahn.specs.Basics.{total}
use Rattle.flow_messages.specs.Ends.{View}
use Rattle.flow_messages.specs.declared.ends.Ends.{Ghosts as EndsGhosts}
use Rattle.flow_base.specs.declared.transducer.Transducer.{Ghosts}
use Rattle.flow_networks.specs.declared.edge.Edge.{Edge}
use Rattle.flow_networks.specs.declared.placed.Placed.{Placed}
use Rattle.flow_networks.specs.declared.graph.Graph.{Graph}
use Rattle.flow_networks.specs.Graphs.{states_of, edges_of}
use Rattle.flow_networks.specs.Places.{states_in}
use Rattle.flow_networks.specs.Shapes.{IsSameNetwork}
use Rattle.flow_networks.specs.Skeletons.{nodes_of, FitTogether}
use Rattle.flow_shares.specs.Deals.{AreDealt}
use Rattle.flow_shares.specs.declared.share.Share.{Share}
use Rattle.flow_shares.specs.Looks.{IsLookedAt}
use Rattle.flow_shares.specs.Shares.{AreStuck}
use Rattle.flow_shares.specs.meetings.Joints.{no_ends, end_view, AreStates}

-- What was dealt out, and to whom: the nodes and edges of a graph, the list that names a share for each node, and how
-- many messages an edge holds at most.
pub record SharedNetwork {X : Type 0} (t : Ghosts X) : Type 0 where
  pub nodes : List (Placed X t)
  pub edges : List Edge
  pub fit : FitTogether nodes edges
  pub share : List ℕ
  pub capacity : ℕ

module _ {X : Type 0} {t : Ghosts X} where
  -- a graph as it was built, dealt out so
  abbrev pub shared_network : Graph X t → List ℕ → ℕ → SharedNetwork t
  shared_network graph share capacity = record {
    nodes = nodes_of graph;
    edges = edges_of graph;
    fit = record { built = graph.built; seated = graph.seated };
    share = share;
    capacity = capacity;
  }

  -- how many messages were sent and received on all edges, where share s sees `view_at s`
  abbrev pub moves_by : SharedNetwork t → (ℕ → View) → ℕ
  moves_by network view_at =
      let view = end_view network.share network.edges view_at in
      total (λ e. length (view.sent e) + length (view.received e)) (length network.edges)

  -- the nodes of this graph, in other states, and its edges make the network that was dealt out
  abbrev pub IsGraphOf : SharedNetwork t → Graph X t → Type 0
  IsGraphOf network graph = IsSameNetwork t.behaviour (states_in network.nodes) network.edges (states_of graph) (edges_of graph)

  -- each node of this graph has the state that it has in its share
  abbrev pub HasStatesOf : SharedNetwork t → List (List (Placed X t)) → Graph X t → Type 0
  HasStatesOf network dealt graph =
      (deals : AreDealt network.share network.nodes dealt) → AreStates network.share network.nodes dealt deals (states_of graph)

module _ {X Y : Type 0} {t : Ghosts X} {u : EndsGhosts Y} where
  -- what share s sees
  abbrev pub view_at : List (Share X Y t u) → ℕ → View
  view_at shares s = slice_index_or (map (λ share. u.view share.ends) shares) s no_ends

  abbrev pub numbers_of : List (Share X Y t u) → List ℕ
  numbers_of shares = map (λ share. share.number) shares

  -- memory was refused to none of them
  abbrev pub AreFed : List (Share X Y t u) → Type 0
  AreFed shares = All (λ share. share.starved ≡ false) shares

  -- the last pumps moved no message
  abbrev pub AreCalm : List (Share X Y t u) → Type 0
  AreCalm shares = All (λ share. share.moved ≡ false) shares

  -- no node of any of them can step by what its own ends are certain of
  abbrev pub NoneCanStep : List (Share X Y t u) → Type 0
  NoneCanStep shares = All (λ share. AreStuck (u.view share.ends) share.nodes.items) shares

  -- They are the shares that they were, but that their ends may be certain of more.
  pub record AreLookedAt (shares later : List (Share X Y t u)) : Type 0 where
    pub count : length later ≡ length shares
    pub each : (s : ℕ) (d : Share X Y t u) → s < length shares → IsLookedAt (slice_index_or shares s d) (slice_index_or later s d)
