-- A graph that was dealt out to shares.
use Rattle.std.specs.Prelude.{◌≡◌, ℕ, ◌<◌, false, List, length, map, slice_index_or}
use Rattle.std.specs.List.{All}
use Rattle.flow_messages.specs.Ends.{View}
use Rattle.flow_messages.specs.declared.ends.Ends.{Ghosts as EndsGhosts}
use Rattle.flow_base.specs.declared.transducer.Transducer.{Ghosts}
use Rattle.flow_networks.specs.declared.placed.Placed.{Placed}
use Rattle.flow_networks.specs.declared.graph.Graph.{Graph}
use Rattle.flow_networks.specs.Graphs.{states_of, edges_of}
use Rattle.flow_networks.specs.Skeletons.{nodes_of, edges_in}
use Rattle.flow_networks.specs.EdgeKinds.{edge_kinds}
use Rattle.flow_shares.specs.Deals.{AreJustDealt}
use Rattle.flow_shares.specs.declared.share.Share.{Share}
use Rattle.flow_shares.specs.Shares.{HasItsEnds, AreApart, IsOwn}
use Rattle.flow_shares.specs.declared.meetings.dealt.Dealt.{Dealt}
use Rattle.flow_shares.specs.meetings.Open.{AreOwners, AreFreshEnds}

-- These nodes make a share with the ends of which this is seen.
pub record MakeAShare {X : Type 0} {t : Ghosts X} (view : View) (nodes : List (Placed X t)) : Type 0 where
  pub there : All (HasItsEnds view) nodes
  pub apart : AreApart nodes
  pub own : All (IsOwn view) nodes

module _ {X Y : Type 0} {t : Ghosts X} {u : EndsGhosts Y} where
  -- the nodes, and the ends, of each share
  abbrev pub nodes_in : List (Share X Y t u) → List (List (Placed X t))
  nodes_in shares = map (λ share. share.nodes.items) shares

  abbrev pub ends_in : List (Share X Y t u) → List Y
  ends_in shares = map (λ share. share.ends) shares

  -- it was never run
  pub record IsNew (share : Share X Y t u) : Type 0 where
    pub spent : share.spent ≡ false
    pub starved : share.starved ≡ false
    pub moved : share.moved ≡ false

  -- Share s has the number s, and was never run.
  pub record AreNew (shares : List (Share X Y t u)) : Type 0 where
    pub numbers : (s : ℕ) (d : Share X Y t u) → s < length shares → (slice_index_or shares s d).number ≡ s
    pub each : All IsNew shares

  -- The graph was dealt out to so many shares, as the list says of its nodes.
  pub record IsDealt (joins : Y → Y → ℕ → Type 0) (places : Y → ℕ → ℕ) (graph : Graph X t) (threads : ℕ) (share : List ℕ) (capacity : ℕ) (dealt : Dealt X Y t u) : Type 0 where
    -- there are as many shares
    pub count : length dealt.shares.items ≡ threads
    -- each has its number, and was never run
    pub new : AreNew dealt.shares.items
    -- each node lies in its share, at one place there, and nothing else does
    pub nodes : AreJustDealt share (nodes_of graph) (nodes_in dealt.shares.items)
    -- the skeleton has the edges of the graph
    pub skeleton : edges_in dealt.skeleton ≡ edges_of graph
    -- the owners name the shares of the writer and the reader of each edge
    pub owners : AreOwners share (edges_of graph) dealt.owners.items
    -- each end of each edge lies in the share that the owner names, and nowhere else, all are fresh, and each takes
    -- the items of its writer's port
    pub ends : AreFreshEnds u.view joins places dealt.owners.items (edge_kinds t.behaviour (states_of graph) (edges_of graph)) capacity (ends_in dealt.shares.items)
