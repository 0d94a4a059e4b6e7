-- Boxes that meet at an edge.
use Rattle.std.proofs.Common.{◌≡◌, ◌≢◌, ℕ, ◌+◌, length, true, refl, ◌∙◌}
use Rattle.flow_boxes.specs.declared.boxes.Boxes.{Boxes}
use Rattle.flow_boxes.specs.Contents.{Contents, contents, view_of}
use Rattle.flow_boxes.specs.Rounds.{SameBoxes, IsLinked, KeepsRound, CarriesAt}
use Rattle.flow_boxes.specs.RoundLaws.{same_boxes_refl}
use Rattle.flow_boxes.proofs.Linking.{writer-linked, reader-linked, writer-elsewhere, reader-elsewhere}
use Rattle.flow_edges.specs.lanes.Rings.{Kept}
use Rattle.flow_shares.specs.meetings.Met.{Met, kept_refl}

-- the writer's box, which is in a, and the reader's, which is in b, are the two of edge e
abbrev pub BoxesJoin : Boxes → Boxes → ℕ → Type 0
BoxesJoin a b e = IsLinked (contents a) (contents b) e

-- how many messages each edge holds at most
abbrev pub box_slots : Boxes → ℕ → ℕ
box_slots a e = (contents a).capacity

-- before and after a carrying at edge e: nothing was sent or received, and no certainty is lost
pub record BoxesMeet (e : ℕ) (a b : Boxes) : Type 0 where
  pub carries : CarriesAt e (contents a) (contents b)
  pub kept : Kept (view_of a) (view_of b)

-- what is not held is room
abbrev pub RoomIsRest : Boxes → Boxes → ℕ → Type 0
RoomIsRest a b e = (view_of a).room e + length ((view_of b).coming e) ≡ box_slots a e

-- the fact holds wherever the two boxes of an edge have met
abbrev pub WhereBoxesMet : (Boxes → Boxes → ℕ → Type 0) → Type 0
WhereBoxesMet Fact = (a b : Boxes) (e : ℕ) → BoxesJoin a b e → Met (view_of a) (view_of b) (box_slots a e) e → Fact a b e

-- the same boxes are there, with the same capacity
abbrev pub BoxesStay : Boxes → Boxes → Type 0
BoxesStay a b = SameBoxes (contents a) (contents b)

carries_refl : (e : ℕ) (a : Contents) → CarriesAt e a a
carries_refl e a = record {
  boxes = same_boxes_refl a;
  traffic = record { sent = λ k. refl; received = λ k. refl };
  others = record {
    writes = λ k ne. refl;
    reads = λ k ne. refl;
    sent = λ k ne. refl;
    received = λ k ne. refl;
    coming = λ k ne. refl;
    room = λ k ne. refl;
    leaving = λ k ne. refl;
    kinds = λ k. refl;
    count = refl;
    capacity = refl;
  };
}

pub boxes_join_ends : (a b : Boxes) (e : ℕ) → BoxesJoin a b e → ((view_of a).writes e ≡ true) × ((view_of b).reads e ≡ true)
boxes_join_ends a b e joined = (joined.writes, joined.reads)

pub boxes_meet_refl : (e : ℕ) (a : Boxes) → BoxesMeet e a a
boxes_meet_refl e a = record { carries = carries_refl e (contents a); kept = kept_refl (view_of a) }

pub boxes_meet_kept : (e : ℕ) (a b : Boxes) → BoxesMeet e a b → Kept (view_of a) (view_of b)
boxes_meet_kept e a b met = met.kept

pub boxes_meet_slots : (e : ℕ) (a b : Boxes) → BoxesMeet e a b → (k : ℕ) → box_slots b k ≡ box_slots a k
boxes_meet_slots e a b met k = met.carries.boxes.capacity

pub boxes_meet_same : (e : ℕ) (a b : Boxes) → BoxesMeet e a b → BoxesStay a b
boxes_meet_same e a b met = met.carries.boxes

pub boxes_same_stay : (a b : Boxes) → KeepsRound (contents a) (contents b) → BoxesStay a b
boxes_same_stay a b keeps = keeps.boxes

pub boxes_stay_trans : (a b c : Boxes) → BoxesStay a b → BoxesStay b c → BoxesStay a c
boxes_stay_trans a b c p q = record {
  ends = record { kinds = λ k. q.ends.kinds k ∙ p.ends.kinds k; writes = λ k. q.ends.writes k ∙ p.ends.writes k; reads = λ k. q.ends.reads k ∙ p.ends.reads k };
  count = q.count ∙ p.count;
  capacity = q.capacity ∙ p.capacity;
}

pub boxes_join_writer : (a a' b : Boxes) (e k : ℕ) → BoxesJoin a b k → k ≢ e → BoxesMeet e a a' → BoxesJoin a' b k
boxes_join_writer a a' b e k joined ne met = writer-elsewhere (contents a) (contents a') (contents b) e k joined ne met.carries.others

pub boxes_join_reader : (a b b' : Boxes) (e k : ℕ) → BoxesJoin a b k → k ≢ e → BoxesMeet e b b' → BoxesJoin a b' k
boxes_join_reader a b b' e k joined ne met = reader-elsewhere (contents a) (contents b) (contents b') e k joined ne met.carries.others

pub boxes_stay_joined : (a a' b b' : Boxes) (e : ℕ) → BoxesJoin a b e → KeepsRound (contents a) (contents a') → KeepsRound (contents b) (contents b') → BoxesJoin a' b' e
boxes_stay_joined a a' b b' e joined p q = reader-linked (contents a') (contents b) (contents b') e (writer-linked (contents a) (contents a') (contents b) e joined p) q

pub boxes_keep_slots : (a b : Boxes) → KeepsRound (contents a) (contents b) → (k : ℕ) → box_slots b k ≡ box_slots a k
boxes_keep_slots a b keeps k = keeps.boxes.capacity
