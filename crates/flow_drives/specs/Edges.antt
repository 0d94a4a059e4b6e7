-- The edges of a graph at rest: both ends of each in shares, or in one table.
use Rattle.std.specs.Prelude.{◌≡◌, ℕ, ◌+◌, ◌<◌, List, [], length, map, slice_index_or}
use Rattle.kahn.specs.Basics.{total}
use Rattle.flow_messages.specs.Ends.{View}
use Rattle.flow_messages.specs.Tables.{ends_of, capacity_of}
use Rattle.flow_messages.specs.declared.table.Table.{Table}
use Rattle.flow_networks.specs.declared.edge.Edge.{Edge}
use Rattle.flow_networks.specs.Edges.{edge_at}
use Rattle.flow_networks.specs.Visits.{HasAllEnds}
use Rattle.flow_boxes.specs.declared.boxes.Boxes.{Boxes}
use Rattle.flow_boxes.specs.Contents.{view_of}
use Rattle.flow_shares.specs.meetings.BoxMeetings.{BoxesJoin}
use Rattle.flow_shares.specs.Deals.{share_of}
use Rattle.flow_shares.specs.meetings.Joints.{no_ends, end_view}
use Rattle.flow_shares.specs.meetings.EndTheorems.{EdgesHaveMet}
use Rattle.flow_drives.specs.declared.all_ends.AllEnds.{AllEnds}
use Rattle.flow_drives.specs.declared.all_ends.AllEnds.TheVariants.{Whole, Shared}
use Rattle.flow_drives.specs.declared.all_ends.SharedEnds.{SharedEnds}

module _ {Y : Type 0} (view : Y → View) where
  -- what share s sees, where the shares have these ends
  abbrev pub seen_by : List Y → ℕ → View
  seen_by ends s = slice_index_or (map view ends) s no_ends

  module _ (share : List ℕ) (edges : List Edge) (ends : List Y) where
    -- what was sent and received on these edges
    abbrev pub traffic_by : View
    traffic_by = end_view share edges (seen_by ends)

    -- the share that writes edge e, and the share that reads it
    abbrev writer : ℕ → ℕ
    writer e = share_of share (edge_at edges e).writer

    abbrev reader : ℕ → ℕ
    reader e = share_of share (edge_at edges e).reader

    -- Both ends of each of these edges are there and are the two of one edge, which have met and hold at most so many
    -- messages.
    pub record AreJoined (joins : Y → Y → ℕ → Type 0) (most : ℕ) : Type 0 where
      pub writers : (e : ℕ) → e < length edges → writer e < length ends
      pub readers : (e : ℕ) → e < length edges → reader e < length ends
      pub joined : (e : ℕ) (d : Y) → e < length edges → joins (slice_index_or ends (writer e) d) (slice_index_or ends (reader e) d) e
      pub met : EdgesHaveMet share edges (seen_by ends) most

-- what was sent and received on these edges
abbrev pub traffic_in : List Edge → AllEnds → View
traffic_in edges (Whole table) = ends_of table
traffic_in edges (Shared boxes) = traffic_by view_of boxes.share.items edges boxes.ends.items

-- how many messages were sent and received on these edges in all, where this was
abbrev pub moves_over : List Edge → View → ℕ
moves_over edges traffic = total (λ e. length (traffic.sent e) + length (traffic.received e)) (length edges)

-- how many messages each edge holds at most
abbrev pub capacity_in : AllEnds → ℕ
capacity_in (Whole table) = capacity_of table
capacity_in (Shared boxes) = boxes.capacity

-- which share has each node, where the ends lie in shares, and how many shares there are
abbrev pub share_in : AllEnds → List ℕ
share_in (Whole table) = []
share_in (Shared boxes) = boxes.share.items

abbrev pub shares_in : AllEnds → ℕ
shares_in (Whole table) = 0
shares_in (Shared boxes) = length boxes.ends.items

-- what is there for the share that has this node; d where there is none
abbrev pub at_share : {A : Type 0} → List ℕ → List A → ℕ → A → A
at_share share things node d = slice_index_or things (share_of share node) d

-- the ends of that share
abbrev pub node_ends : {Y : Type 0} → SharedEnds Y → ℕ → Y → Y
node_ends shared node d = at_share shared.share.items shared.ends.items node d

-- the fact holds of what that share sees
abbrev pub SeenAt : {Y : Type 0} → (Y → View) → SharedEnds Y → ℕ → (View → Type 0) → Type 0
SeenAt view shared node Fact = (d : _) → Fact (view (node_ends shared node d))

-- Both ends of each of these edges are there, and have met.
pub record AreThere (edges : List Edge) (all_ends : AllEnds) : Type 0 where
  pub whole : (table : Table) → all_ends ≡ Whole table → HasAllEnds (length edges) (ends_of table)
  pub shared : (boxes : SharedEnds Boxes) → all_ends ≡ Shared boxes → ∥ AreJoined view_of boxes.share.items edges boxes.ends.items BoxesJoin boxes.capacity ∥₁
