-- Messages that are put while there is room.
use Rattle.std.proofs.Common.{◌≡◌, ℕ, ◌+◌, ◌<◌, ◌≤◌, false, List, [], ◌∷◌, ◌++◌, Result, Ok, IsOk, OnOk, refl, ap, subst, ◌∙◌, arith}
use Rattle.flow_edges.specs.EdgeWriter.{EdgeWriter}
use Rattle.flow_edges.specs.Item.{Item}
use Rattle.flow_edges.specs.Msg.{Msg}
use Rattle.flow_edges.specs.Msg.TheVariants.{Item as ItemMsg}
use Rattle.flow_edges.specs.Refused.{Refused}
use Rattle.flow_edges.specs.Signals.{signals, ended}
use Rattle.flow_edges.specs.Edge.{sent, certain_room}

-- an edge is open where nothing was put on it, one item, or two
pub open_at_first : ended (signals []) ≡ false
unfolding signals ended
open_at_first = refl

pub open_after_one : (x : Item) → ended (signals (ItemMsg x ∷ [])) ≡ false
unfolding signals ended
open_after_one x = refl

pub open_after_two : (x y : Item) → ended (signals (ItemMsg x ∷ ItemMsg y ∷ [])) ≡ false
unfolding signals ended
open_after_two x y = refl

-- The writer has put these messages, and is certain of room for so many more.
pub record HasPut (w : EdgeWriter) (ms : List Msg) (room : ℕ) : Type 0 where
  pub sent_is : sent w ≡ ms
  pub room_is : room ≤ certain_room w

-- it may put one more
pub may_put : (w : EdgeWriter) (ms : List Msg) (room : ℕ) (r : Result (Unit {0}) Refused) → HasPut w ms (room + 1) → ended (signals ms) ≡ false
    → (ended (signals (sent w)) ≡ false → 0 < certain_room w → IsOk r) → IsOk r
may_put w ms room r has is_open succeeds =
    succeeds (ap (λ (all : List Msg). ended (signals all)) has.sent_is ∙ is_open) (omega (arith, has.room_is))

-- and then it has
pub has_put : (w w' : EdgeWriter) (ms : List Msg) (m : Msg) (room : ℕ) (r : Result (Unit {0}) Refused) → HasPut w ms (room + 1) → r ≡ Ok tt
    → OnOk r ((sent w' ≡ sent w ++ m ∷ []) × (certain_room w ≤ certain_room w' + 1)) → HasPut w' (ms ++ m ∷ []) room
has_put w w' ms m room r has is ok =
    let put = subst (λ (o : Result (Unit {0}) Refused). OnOk o ((sent w' ≡ sent w ++ m ∷ []) × (certain_room w ≤ certain_room w' + 1))) is ok in
    record {
      sent_is = put.0 ∙ ap (λ (all : List Msg). all ++ m ∷ []) has.sent_is;
      room_is = omega (arith, has.room_is, put.1);
    }
