-- What is known of all edges where their ends have met.
use Rattle.std.proofs.Common.{◌≡◌, ℕ, ◌<◌, List, [], ◌++◌, drop, length, get_or, refl, sym, ◌∙◌, ap, subst, arith, append-nil, length-append}
use Rattle.std.proofs.Math.Seq.{drop-append_seam}
use Rattle.std.proofs.lemmas.List.{get_or-map, length-map}
use Rattle.flow_messages.specs.Signals.{Signal}
use Rattle.flow_messages.specs.Ends.{SameTraffic}
use Rattle.flow_networks.specs.declared.edge.Edge.{Edge}
use Rattle.flow_networks.specs.Edges.{edge_at}
use Rattle.flow_edges.specs.lanes.Rings.{Kept}
use Rattle.flow_boxes.specs.declared.boxes.Boxes.{Boxes}
use Rattle.flow_boxes.specs.Contents.{Contents, contents, view_of}
use Rattle.flow_boxes.specs.Rounds.{IsLinked, IsCarried}
use Rattle.flow_shares.specs.declared.meetings.owners.EdgeOwners.{EdgeOwners}
use Rattle.flow_shares.specs.meetings.Met.{Met, met_held}
use Rattle.flow_shares.specs.meetings.BoxMeetings.{BoxesJoin}
use Rattle.flow_shares.specs.Deals.{share_of}
use Rattle.flow_shares.specs.meetings.Joints.{no_contents, boxes_at, writer_boxes, reader_boxes, BoxesHaveMet}
use Rattle.flow_shares.specs.meetings.RoundTheorems.{NothingMoved}
use Rattle.flow_shares.proofs.OfMeetings.Parts.{any_of, no_length}
use Rattle.flow_shares.specs.meetings.Open.{AreOwners}
use Rattle.flow_drives.specs.loops.Standing.{boxes_seen, AreLinked}

-- boxes that are linked and have met are carried
pub are_carried : (w r : Contents) (e : ℕ) → IsLinked w r e → Met w.ends r.ends w.capacity e → IsCarried w r e
are_carried w r e linked met =
    let came = length-append (r.ends.received e) (r.ends.coming e) in
    let none : w.leaving e ≡ [] =
    no_length (w.leaving e)
    (omega (
      arith,
      ap length linked.in_order,
      length-append (r.ends.received e ++ r.ends.coming e) (w.leaving e),
      came,
      met_held w.ends r.ends w.capacity e met,
    )) in
    let arrived : r.ends.received e ++ r.ends.coming e ≡ w.ends.sent e =
    sym (append-nil (r.ends.received e ++ r.ends.coming e)) ∙ ap (λ (x : List Signal). (r.ends.received e ++ r.ends.coming e) ++ x) (sym none) ∙ linked.in_order in
    record {
      arrived = arrived;
      coming = sym (drop-append_seam (r.ends.received e) (r.ends.coming e)) ∙ ap (drop (length (r.ends.received e))) arrived;
      leaving = none;
      room = omega (arith, linked.bound, met.room, ap length none, ap length arrived, came);
    }

pub seen_at : (boxes : List Boxes) (s : ℕ) (d : Boxes) → s < length boxes → boxes_at (boxes_seen boxes) s ≡ contents (get_or boxes s d)
seen_at boxes s d l = get_or-map contents boxes s d no_contents l

module _ (share : List ℕ) (edges : List Edge) (owners : List EdgeOwners) (are : AreOwners share edges owners) (boxes : List Boxes) (capacity : ℕ)
    (linked : AreLinked share edges (boxes_seen boxes) capacity) where
  long : length (boxes_seen boxes) ≡ length boxes
  long = length-map boxes contents

  abbrev writer : ℕ → ℕ
  writer e = share_of share (edge_at edges e).writer

  abbrev reader : ℕ → ℕ
  reader e = share_of share (edge_at edges e).reader

  inside : (e : ℕ) → e < length owners → e < length edges
  inside e l = omega (arith, l, are.count)

  pub writers_inside : (e : ℕ) (w : EdgeOwners) → e < length owners → (get_or owners e w).writer < length boxes
  writers_inside e w l = omega (arith, are.writers e w (inside e l), linked.writers e (inside e l), long)

  pub readers_inside : (e : ℕ) (w : EdgeOwners) → e < length owners → (get_or owners e w).reader < length boxes
  readers_inside e w l = omega (arith, are.readers e w (inside e l), linked.readers e (inside e l), long)

  -- the boxes that the owner names are those of the edge
  module _ (now : List Boxes) (same : length now ≡ length boxes) (e : ℕ) (w : EdgeOwners) (d : Boxes) (l : e < length owners) where
    pub writer_is : writer_boxes share edges (boxes_seen now) e ≡ contents (get_or now (get_or owners e w).writer d)
    writer_is = seen_at now (writer e) d (omega (arith, linked.writers e (inside e l), long, same)) ∙ ap (λ s. contents (get_or now s d)) (sym (are.writers e w (inside e l)))

    pub reader_is : reader_boxes share edges (boxes_seen now) e ≡ contents (get_or now (get_or owners e w).reader d)
    reader_is = seen_at now (reader e) d (omega (arith, linked.readers e (inside e l), long, same)) ∙ ap (λ s. contents (get_or now s d)) (sym (are.readers e w (inside e l)))

  pub all_join : (e : ℕ) (w : EdgeOwners) (d : Boxes) → e < length owners → BoxesJoin (get_or boxes (get_or owners e w).writer d) (get_or boxes (get_or owners e w).reader d) e
  all_join e w d l =
      subst (λ a. IsLinked a (contents (get_or boxes (get_or owners e w).reader d)) e) (writer_is boxes refl e w d l)
      (subst (λ b. IsLinked (writer_boxes share edges (boxes_seen boxes) e) b e) (reader_is boxes refl e w d l) (linked.linked e (inside e l)))

  module _ (now : List Boxes) (same : length now ≡ length boxes)
      (kept : (k : ℕ) (d : Boxes) → k < length boxes → Kept (view_of (get_or boxes k d)) (view_of (get_or now k d)))
      (places : (k e : ℕ) (d : Boxes) → k < length boxes → (contents (get_or now k d)).capacity ≡ (contents (get_or boxes k d)).capacity)
      (joined : (e : ℕ) (w : EdgeOwners) (d : Boxes) → e < length owners → BoxesJoin (get_or now (get_or owners e w).writer d) (get_or now (get_or owners e w).reader d) e)
      (met : (e : ℕ) (w : EdgeOwners) (d : Boxes) → e < length owners →
      Met (view_of (get_or now (get_or owners e w).writer d)) (view_of (get_or now (get_or owners e w).reader d))
      (contents (get_or now (get_or owners e w).writer d)).capacity e) where
    none : EdgeOwners
    none = record { writer = 0; reader = 0 }

    owner : (e : ℕ) → e < length edges → e < length owners
    owner e l = omega (arith, l, are.count)

    -- some boxes
    some : (e : ℕ) → e < length edges → Boxes
    some e l = any_of boxes (writer e) (omega (arith, linked.writers e l, long))

    pub have_met : BoxesHaveMet share edges (boxes_seen now) capacity
    have_met = record {
      linked = linked_at;
      carried = λ e l.
          let d = some e l in
          let h = owner e l in
          subst (λ a. IsCarried a (reader_boxes share edges (boxes_seen now) e) e) (sym (writer_is now same e none d h))
          (subst (λ b. IsCarried (contents (get_or now (get_or owners e none).writer d)) b e) (sym (reader_is now same e none d h)) (are_carried _ _ e (joined e none d h) (met e none d h)));
      capacity = λ e l.
          let d = some e l in
          let h = owner e l in
          ap (λ (b : Contents). b.capacity) (writer_is now same e none d h)
          ∙ places (get_or owners e none).writer e d (writers_inside e none h)
          ∙ ap (λ (b : Contents). b.capacity) (sym (writer_is boxes refl e none d h))
          ∙ linked.capacity e l;
    }
      where
        linked_at : (e : ℕ) → e < length edges → IsLinked (writer_boxes share edges (boxes_seen now) e) (reader_boxes share edges (boxes_seen now) e) e
        linked_at e l =
            let d = some e l in
            let h = owner e l in
            subst (λ a. IsLinked a (reader_boxes share edges (boxes_seen now) e) e) (sym (writer_is now same e none d h))
            (subst (λ b. IsLinked (contents (get_or now (get_or owners e none).writer d)) b e) (sym (reader_is now same e none d h)) (joined e none d h))

    pub nothing_moved : NothingMoved (length (boxes_seen boxes)) (boxes_seen boxes) (boxes_seen now)
    nothing_moved s l =
        let h : s < length boxes = omega (arith, l, long) in
        let d = any_of boxes s h in
        subst (λ (a : Contents). SameTraffic a.ends (boxes_at (boxes_seen now) s).ends) (sym (seen_at boxes s d h))
        (subst (λ (b : Contents). SameTraffic (view_of (get_or boxes s d)) b.ends) (sym (seen_at now s d (omega (arith, h, same)))) (kept s d h).traffic)
