-- The edges of a graph at rest: each has its ends, and holds at most the capacity.
use Rattle.std.proofs.Common.{ℕ, ◌≡◌, ◌+◌, ◌<◌, ◌≤◌, ◌⊎◌, inl, inr, true, List, [], ◌∷◌, length, get_or, refl, sym, ◌∙◌, ap, subst, arith}
use Rattle.std.proofs.lemmas.List.{get_or-map}
use Rattle.std.proofs.lemmas.Bool.{cases_lt}
use Rattle.std.specs.List.{All}
use Rattle.std.specs.Io.Iter.{u64_saturate}
use Rattle.std.proofs.Props.{props}
use mathlib.Core.Logic.{∥∥₁_elim}
use Rattle.flow_messages.specs.Ends.{View, held}
use Rattle.flow_messages.specs.Signals.{Signal}
use Rattle.flow_messages.specs.TableLaws.{whole_table, table_holds}
use Rattle.flow_messages.specs.Tables.{ends_of, capacity_of}
use Rattle.flow_messages.proofs.Waiting.{waits-length}
use Rattle.flow_networks.specs.declared.edge.Edge.{Edge}
use Rattle.flow_networks.specs.Edges.{edge_at}
use Rattle.flow_boxes.specs.Contents.{view_of}
use Rattle.flow_shares.specs.Deals.{share_of}
use Rattle.flow_shares.specs.meetings.Joints.{no_ends}
use Rattle.flow_shares.specs.meetings.EndTheorems.{EdgesHaveMet}
use Rattle.flow_shares.proofs.OfMeetings.Parts.{any_of}
use Rattle.flow_shares.proofs.OfMeetings.Views.{sent_at, received_at, none_sent}
use Rattle.flow_drives.specs.declared.all_ends.AllEnds.{AllEnds}
use Rattle.flow_drives.specs.declared.all_ends.AllEnds.TheVariants.{Whole, Shared}
use Rattle.flow_drives.specs.Edges.{seen_by, traffic_by, AreJoined, traffic_in, capacity_in, AreThere}

-- where the ends of all edges have met, no edge holds more than the capacity
module _ {Y : Type 0} (view : Y → View) (share : List ℕ) (edges : List Edge) (ends : List Y) (most : ℕ) (met : EdgesHaveMet share edges (seen_by view ends) most) (e : ℕ) where
  pub ends_fit : (e < length edges) ⊎ (length edges ≤ e) → let traffic = traffic_by view share edges ends in length (traffic.sent e) ≤ length (traffic.received e) + most
  ends_fit (inl l) =
      omega (arith, ap length (sent_at share edges (seen_by view ends) e l), ap length (received_at share edges (seen_by view ends) e l), (met e l).fits)
  ends_fit (inr above) = omega (arith, ap length (none_sent share edges (seen_by view ends) e above))

-- no edge holds more than the capacity
pub all_ends_fit : (edges : List Edge) (all_ends : AllEnds) → AreThere edges all_ends → (e : ℕ) →
    length ((traffic_in edges all_ends).sent e) ≤ length ((traffic_in edges all_ends).received e) + capacity_in all_ends
all_ends_fit edges (Whole table) there e =
    omega (arith, table_holds table e, ap length ((whole_table table).coming e), waits-length (capacity_of table) (ends_of table) e (whole_table table))
all_ends_fit edges (Shared boxes) there e =
    ∥∥₁_elim (there.shared boxes refl) (hlevel props) (λ joined. ends_fit view_of boxes.share.items edges boxes.ends.items boxes.capacity joined.met e (cases_lt e (length edges)))

-- the ends of an edge, in the shares of its two nodes
module _ {Y : Type 0} (view : Y → View) (joins : Y → Y → ℕ → Type 0) (join_ends : (a b : Y) (e : ℕ) → joins a b e → ((view a).writes e ≡ true) × ((view b).reads e ≡ true))
    (share : List ℕ) (edges : List Edge) (ends : List Y) (most : ℕ) (there : ∥ AreJoined view share edges ends joins most ∥₁) (e : ℕ) (l : e < length edges) where
  abbrev writer : ℕ
  writer = share_of share (edge_at edges e).writer

  abbrev reader : ℕ
  reader = share_of share (edge_at edges e).reader

  writer_below : writer < length ends
  writer_below = ∥∥₁_elim there (hlevel props) (λ all. all.writers e l)

  reader_below : reader < length ends
  reader_below = ∥∥₁_elim there (hlevel props) (λ all. all.readers e l)

  writes : (d : Y) → (view (get_or ends writer d)).writes e ≡ true
  writes d = ∥∥₁_elim there (hlevel props) (λ all. (join_ends (get_or ends writer d) (get_or ends reader d) e (all.joined e d l)).0)

  reads : (d : Y) → (view (get_or ends reader d)).reads e ≡ true
  reads d = ∥∥₁_elim there (hlevel props) (λ all. (join_ends (get_or ends writer d) (get_or ends reader d) e (all.joined e d l)).1)

  sent_is : (d : Y) → (traffic_by view share edges ends).sent e ≡ (view (get_or ends writer d)).sent e
  sent_is d = sent_at share edges (seen_by view ends) e l ∙ ap (λ (v : View). v.sent e) (get_or-map view ends writer d no_ends writer_below)

  received_is : (d : Y) → (traffic_by view share edges ends).received e ≡ (view (get_or ends reader d)).received e
  received_is d = received_at share edges (seen_by view ends) e l ∙ ap (λ (v : View). v.received e) (get_or-map view ends reader d no_ends reader_below)

  -- what counting at the ends of the edge takes, where its two nodes are these
  pub ends_there : (edge : Edge) → edge ≡ edge_at edges e
      → (share_of share edge.writer < length ends) × (share_of share edge.reader < length ends)
      × ((d : Y) → (view (get_or ends (share_of share edge.writer) d)).writes e ≡ true) × ((d : Y) → (view (get_or ends (share_of share edge.reader) d)).reads e ≡ true)
  ends_there edge is =
      subst (λ (k : Edge). (share_of share k.writer < length ends) × (share_of share k.reader < length ends)
      × ((d : Y) → (view (get_or ends (share_of share k.writer) d)).writes e ≡ true)
      × ((d : Y) → (view (get_or ends (share_of share k.reader) d)).reads e ≡ true))
      (sym is) (writer_below, reader_below, writes, reads)

  -- what is counted at its ends is what was sent and received
  module _ (edge : Edge) (is : edge ≡ edge_at edges e) (traffic : View) (same : traffic ≡ traffic_by view share edges ends) (count : ℕ) where
    pub sent_counted : ((d : Y) → count ≡ u64_saturate (length ((view (get_or ends (share_of share edge.writer) d)).sent e))) → count ≡ u64_saturate (length (traffic.sent e))
    sent_counted counted =
        let d = any_of ends writer writer_below in
        subst (λ (k : Edge). count ≡ u64_saturate (length ((view (get_or ends (share_of share k.writer) d)).sent e))) is (counted d)
        ∙ ap (λ (l : List Signal). u64_saturate (length l)) (sym (ap (λ (v : View). v.sent e) same ∙ sent_is d))

    pub received_counted : ((d : Y) → count ≡ u64_saturate (length ((view (get_or ends (share_of share edge.reader) d)).received e))) → count ≡ u64_saturate (length (traffic.received e))
    received_counted counted =
        let d = any_of ends reader reader_below in
        subst (λ (k : Edge). count ≡ u64_saturate (length ((view (get_or ends (share_of share k.reader) d)).received e))) is (counted d)
        ∙ ap (λ (l : List Signal). u64_saturate (length l)) (sym (ap (λ (v : View). v.received e) same ∙ received_is d))
