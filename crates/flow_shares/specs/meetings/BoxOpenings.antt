-- Boxes of which an edge is opened.
use Rattle.std.proofs.Common.{◌≡◌, ◌≢◌, ℕ, ◌<◌, ◌∙◌, arith}
use Rattle.std.specs.Prelude.{Some}
use Rattle.flow_messages.specs.declared.message.Kind.{Kind}
use Rattle.flow_boxes.specs.declared.boxes.Boxes.{Boxes}
use Rattle.flow_boxes.specs.Contents.{contents}
use Rattle.flow_boxes.specs.Rounds.{OthersSame}
use Rattle.flow_boxes.proofs.Linking.{writer-elsewhere, reader-elsewhere}
use Rattle.flow_shares.specs.meetings.BoxMeetings.{BoxesJoin, box_slots, boxes_meet_refl}

-- edge e has a number among these and is of this kind, and each of them holds so many messages at most
pub record BoxesHavePlace (a : Boxes) (e : ℕ) (kind : Kind) (capacity : ℕ) : Type 0 where
  pub number : e < (contents a).count
  pub of_kind : (contents a).ends.kind e ≡ Some kind
  pub most : (contents a).capacity ≡ capacity

-- before and after boxes of edge e were opened: nothing changed at the others
abbrev pub BoxesOpen : ℕ → Boxes → Boxes → Type 0
BoxesOpen e a b = OthersSame e (contents a) (contents b)

pub boxes_opens_refl : (e : ℕ) (a : Boxes) → BoxesOpen e a a
boxes_opens_refl e a = (boxes_meet_refl e a).carries.others

pub boxes_opens_place : (e : ℕ) (a b : Boxes) → BoxesOpen e a b → (k : ℕ) (kind : Kind) (capacity : ℕ) → BoxesHavePlace a k kind capacity → BoxesHavePlace b k kind capacity
boxes_opens_place e a b opens k kind capacity place = record {
  number = omega (arith, place.number, opens.count);
  of_kind = opens.kinds k ∙ place.of_kind;
  most = opens.capacity ∙ place.most;
}

pub boxes_opens_places : (e : ℕ) (a b : Boxes) → BoxesOpen e a b → (k : ℕ) → k ≢ e → box_slots b k ≡ box_slots a k
boxes_opens_places e a b opens k ne = opens.capacity

pub boxes_open_join_writer : (a a' b : Boxes) (e k : ℕ) → BoxesJoin a b k → k ≢ e → BoxesOpen e a a' → BoxesJoin a' b k
boxes_open_join_writer a a' b e k joined ne opens = writer-elsewhere (contents a) (contents a') (contents b) e k joined ne opens

pub boxes_open_join_reader : (a b b' : Boxes) (e k : ℕ) → BoxesJoin a b k → k ≢ e → BoxesOpen e b b' → BoxesJoin a b' k
boxes_open_join_reader a b b' e k joined ne opens = reader-elsewhere (contents a) (contents b) (contents b') e k joined ne opens
