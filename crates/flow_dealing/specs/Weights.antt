-- The weights of a graph's nodes and edges, and what a dealing tells of them.
use Rattle.std.specs.Prelude.{◌≡◌, ℕ, ◌<◌, ◌≤◌, List, length, slice_index}
use Rattle.std.specs.List.{AllZip, sum}
use Rattle.std.specs.Io.Iter.{u64_saturate}
use Rattle.flow_base.specs.declared.transducer.Transducer.{Ghosts}
use Rattle.flow_dealing.specs.declared.cut.link.Link.{Link}
use Rattle.flow_dealing.specs.cut.Loads.{IsDealing, by_turns, greatest_load}
use Rattle.flow_networks.specs.declared.edge.Edge.{Edge}
use Rattle.flow_networks.specs.declared.graph.Graph.{Graph}
use Rattle.flow_networks.specs.Edges.{edge_at}
use Rattle.flow_networks.specs.Graphs.{edges_of, states_of}
use Rattle.flow_dealing.specs.Counts.{AreOfItsRun}
use Rattle.flow_dealing.specs.declared.dealing.Dealing.{Dealing}
use Rattle.flow_dealing.specs.declared.tried.Tried.{Tried}

-- each edge has its link, between the nodes that it joins
abbrev pub JoinAs : List Edge → List Link → Type 0
JoinAs edges links = AllZip (λ edge link. (link.writer ≡ edge.writer) × (link.reader ≡ edge.reader)) edges links

-- each link costs something, and no less than its edge had messages
abbrev pub CostFor : (counts : List ℕ) → List Link → Type 0
CostFor counts links = AllZip (λ count link. (0 < link.cost) × (count ≤ link.cost)) counts links

-- The nodes that edge e joins have something to do, and no less than it had messages.
pub record HaveWork (counts : List ℕ) (edges : List Edge) (work : List ℕ) (e : ℕ) : Type 0 where
  pub some_written : 0 < slice_index work (edge_at edges e).writer
  pub some_read : 0 < slice_index work (edge_at edges e).reader
  pub written : slice_index counts e ≤ slice_index work (edge_at edges e).writer
  pub read : slice_index counts e ≤ slice_index work (edge_at edges e).reader

-- so have those that each edge joins
abbrev pub AllHaveWork : (counts : List ℕ) → List Edge → (work : List ℕ) → Type 0
AllHaveWork counts edges work = (e : ℕ) → e < length edges → HaveWork counts edges work e

-- each of so many nodes has a share, below the number of threads
abbrev pub DealsNodes : (nodes threads : ℕ) → Dealing → Type 0
DealsNodes nodes threads dealing = IsDealing nodes threads dealing.share.items

-- So much work of each node, and these links, are what the dealing weighs.
pub record Weighs (nodes threads : ℕ) (edges : List Edge) (counts work : List ℕ) (links : List Link) (dealing : Dealing) : Type 0 where
  -- each node has its work, by the messages at its edges
  pub each : length work ≡ nodes
  pub busy : AllHaveWork counts edges work
  -- each edge is a link, whose cost is by its messages
  pub joins : JoinAs edges links
  pub costs : CostFor counts links
  -- the work of all nodes
  pub all : dealing.work ≡ u64_saturate (sum work)
  -- the greatest load of a thread
  pub load : dealing.load ≡ u64_saturate (greatest_load work links dealing.share.items threads)
  -- and what that is by turns
  pub turns : dealing.by_turns ≡ u64_saturate (greatest_load work links (by_turns threads nodes) threads)

-- the messages are those of a run of the graph's network, at this capacity
abbrev pub IsWeighed : {X : Type 0} {t : Ghosts X} (capacity threads : ℕ) → Graph X t → Dealing → Type 0
IsWeighed capacity threads graph dealing =
    (counts : List ℕ) × (work : List ℕ) × (links : List Link) × AreOfItsRun capacity graph counts
    × Weighs (length (states_of graph)) threads (edges_of graph) counts work links dealing

-- So much work of each node, and these links, are what was found where so many messages went over each edge.
pub record AreFound (nodes : ℕ) (edges : List Edge) (counts : List ℕ) (tried : Tried) : Type 0 where
  -- all messages
  pub messages : tried.messages ≡ u64_saturate (sum counts)
  -- each node has its work in one thread, by the messages at its edges, and its work over rings
  pub each : length tried.alone.items ≡ nodes
  pub busy : AllHaveWork counts edges tried.alone.items
  pub each_over_rings : length tried.rings.items ≡ nodes
  pub busy_over_rings : AllHaveWork counts edges tried.rings.items
  -- each edge is a link, whose cost is by its messages
  pub joins : JoinAs edges tried.links.items
  pub costs : CostFor counts tried.links.items

-- the messages are those of a run of the graph's network, at this capacity
abbrev pub IsTrialOf : {X : Type 0} {t : Ghosts X} (capacity : ℕ) → Graph X t → Tried → Type 0
IsTrialOf capacity graph tried =
    (counts : List ℕ) × AreOfItsRun capacity graph counts × AreFound (length (states_of graph)) (edges_of graph) counts tried
