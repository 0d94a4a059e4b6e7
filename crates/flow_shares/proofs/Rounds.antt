-- One turn more of a share.
use Rattle.std.proofs.Common.{◌≡◌, ℕ, zero, suc, ◌+◌, ◌*◌, ◌<◌, ◌≤◌, ◌⊎◌, Bool, true, false, List, refl, sym, ◌∙◌, subst, arith}
use Rattle.std.specs.List.{All}
use Rattle.flow_messages.specs.Ends.{View, SameEnds, SameTraffic}
use Rattle.flow_base.specs.declared.transducer.Transducer.{Ghosts}
use Rattle.flow_base.proofs.Carried.{same_ends_refl, same_ends_then}
use Rattle.flow_networks.specs.declared.placed.Placed.{Placed}
use Rattle.flow_networks.specs.Skeletons.{AreSamePlaces}
use Rattle.flow_shares.specs.Shares.{HasItsEnds, IsOwn, AreApart, AreStuck, HaveMoved, HaveMovedAndLost, count_of, HaveMovedForTurns, SpareOthers}
use Rattle.flow_shares.proofs.Later.{same_places_refl, same_places_then, apart_later, there_later}
use Rattle.flow_shares.proofs.Moves.{moved_none, moved_then, lost_then, own_later}
use Rattle.flow_shares.proofs.Spares.{spared_none, spared_then}
use Rattle.flow_shares.proofs.Counts.{count_then, count_some, turn_counted}
use Rattle.flow_shares.proofs.Between.{moved_grows, same_first}

module _ {X : Type 0} {t : Ghosts X} where
  -- So many turns were made, of which the last `idle` moved nothing.
  pub record Turned (turns idle idle_turns : ℕ) (nodes later : List (Placed X t)) (a v : View) : Type 0 where
    pub places : AreSamePlaces nodes later
    pub ends : SameEnds a v
    pub moved : HaveMoved nodes later a v
    pub spares : SpareOthers nodes a v
    pub first : turns ≡ 0 → (later ≡ nodes) × (v ≡ a)
    pub few : idle < idle_turns
    pub often : turns ≤ idle_turns * count_of moved + idle
    pub progress : 0 < turns → SameTraffic a v → AreStuck a nodes

  -- What one turn made of the nodes and of their ends; `any` says whether one of them made a step.
  pub record OneTurn (mid later : List (Placed X t)) (v w : View) (any : Bool) : Type 0 where
    pub places : AreSamePlaces mid later
    pub ends : SameEnds v w
    pub moved : HaveMoved mid later v w
    pub spares : SpareOthers mid v w
    pub busy : any ≡ true → SameTraffic v w → ⊥
    pub calm : any ≡ false → SameTraffic v w
    pub stuck : any ≡ false → AreStuck v mid × AreStuck w later

  -- what is kept back is put out, which their view does not see
  pub turn_put_out : (mid later : List (Placed X t)) (v w out : View) (any : Bool) → out ≡ w → OneTurn mid later v w any → OneTurn mid later v out any
  turn_put_out mid later v w out any is = subst (λ z. OneTurn mid later v z any) (sym is)

  pub turned_none : (nodes : List (Placed X t)) (a : View) (idle_turns : ℕ) → 0 < idle_turns → Turned 0 0 idle_turns nodes nodes a a
  turned_none nodes a idle_turns some = record {
    places = same_places_refl nodes;
    ends = same_ends_refl a;
    moved = moved_none nodes a;
    spares = spared_none nodes a;
    first = λ h. (refl, refl);
    few = some;
    often = omega arith;
    progress = λ h. absurd (omega (arith, h));
  }

  module _ {turns idle idle_turns : ℕ} {nodes mid : List (Placed X t)} {a v : View} (turned : Turned turns idle idle_turns nodes mid a v) where
    -- all of its turns were made
    pub turned_end : (most : ℕ) → most ≤ turns → HaveMovedForTurns most idle_turns nodes mid a v
    turned_end most all = record { moved = turned.moved; often = omega (arith, all, turned.often, turned.few) }

    -- what a turn asks for
    pub there_now : All (HasItsEnds a) nodes → All (HasItsEnds v) mid
    there_now = there_later nodes mid turned.places a v turned.ends

    pub apart_now : AreApart nodes → AreApart mid
    apart_now = apart_later nodes mid turned.places

    pub own_now : All (IsOwn a) nodes → All (IsOwn v) mid
    own_now = own_later nodes mid a v turned.places turned.moved

    -- memory was refused in a turn
    pub turn_lost : (later : List (Placed X t)) (w : View) → HaveMovedAndLost mid later v w → HaveMovedAndLost nodes later a w
    turn_lost later w = lost_then nodes mid later a v w turned.places turned.moved

    pub turn_places : (later : List (Placed X t)) → AreSamePlaces mid later → AreSamePlaces nodes later
    turn_places later = same_places_then nodes mid later turned.places

    pub turn_ends : (w : View) → SameEnds v w → SameEnds a w
    turn_ends w = same_ends_then a v w turned.ends

    pub turn_spares : (w : View) → SpareOthers mid v w → SpareOthers nodes a w
    turn_spares w = spared_then nodes mid a v w turned.places turned.spares

    pub moved_more : {later : List (Placed X t)} {w : View} → HaveMoved mid later v w → HaveMoved nodes later a w
    moved_more {later} {w} = moved_then nodes mid later a v w turned.places turned.moved

    -- one turn more
    module _ {later : List (Placed X t)} {w : View} {any : Bool} (went : OneTurn mid later v w any) where
      still : (one : Bool) → (one ≡ true → SameTraffic v w → ⊥) → (one ≡ false → AreStuck v mid × AreStuck w later) → SameTraffic v w → AreStuck v mid
      still true busy stuck same = absurd (busy refl same)
      still false busy stuck same = (stuck refl).0

      was_stuck : (n : ℕ) → Turned n idle idle_turns nodes mid a v → SameTraffic a w → AreStuck a nodes
      was_stuck zero now same =
          let start = now.first refl in
          subst (λ (z : List (Placed X t)). AreStuck a z) start.0
          (subst (λ (z : View). AreStuck z mid) start.1 (still any went.busy went.stuck (subst (λ (z : View). SameTraffic z w) (sym start.1) same)))
      was_stuck (suc n) now same = now.progress (omega arith) (same_first a v w (moved_grows nodes mid a v now.moved) (moved_grows mid later v w went.moved) same)

      pub turned_next : (now : ℕ) → now < idle_turns → ((any ≡ true) × (now ≡ 0)) ⊎ ((any ≡ false) × (now ≡ idle + 1)) → Turned (turns + 1) now idle_turns nodes later a w
      turned_next now few step = record {
        places = turn_places later went.places;
        ends = turn_ends w went.ends;
        moved = moved_then nodes mid later a v w turned.places turned.moved went.moved;
        spares = turn_spares w went.spares;
        first = λ h. absurd (omega (arith, h));
        few = few;
        often = subst (λ n. turns + 1 ≤ idle_turns * n + now) (sym (count_then nodes mid later a v w turned.places turned.moved went.moved))
            (turn_counted turns idle idle_turns (count_of turned.moved) (count_of went.moved) now any turned.often turned.few (λ some. count_some mid later v w went.moved (went.busy some)) step);
        progress = λ h same. was_stuck turns turned same;
      }

      -- and the last
      pub stuck_last : SameTraffic a w → AreStuck a nodes
      stuck_last = was_stuck turns turned

-- whether anything moved in turns and then in one more
pub still_calm : {a v w : View} → SameTraffic a v → SameTraffic v w → SameTraffic a w
still_calm before last = record { sent = λ k. last.sent k ∙ before.sent k; received = λ k. last.received k ∙ before.received k }

module _ {X : Type 0} {t : Ghosts X} {nodes mid later : List (Placed X t)} {a v w : View} (before : HaveMoved nodes mid a v) (last : HaveMoved mid later v w) where
  same_before : SameTraffic a w → SameTraffic a v
  same_before same = same_first a v w (moved_grows nodes mid a v before) (moved_grows mid later v w last) same

  pub busy_before : (SameTraffic a v → ⊥) → SameTraffic a w → ⊥
  busy_before busy same = busy (same_before same)

  pub busy_last : (SameTraffic v w → ⊥) → SameTraffic a w → ⊥
  busy_last busy same = let was = same_before same in busy (record { sent = λ k. same.sent k ∙ sym (was.sent k); received = λ k. same.received k ∙ sym (was.received k) })

-- a share that is put together again
module _ {X : Type 0} {t : Ghosts X} {nodes later out : List (Placed X t)} {v w : View} (nodes_are : out ≡ later) (view_is : w ≡ v) (places : AreSamePlaces nodes later) where
  pub there_out : {a : View} → SameEnds a v → All (HasItsEnds a) nodes → All (HasItsEnds w) out
  there_out {a} ends there =
      subst (λ (z : List (Placed X t)). All (HasItsEnds w) z) (sym nodes_are)
      (subst (λ (z : View). All (HasItsEnds z) later) (sym view_is) (there_later nodes later places a v ends there))

  pub apart_out : AreApart nodes → AreApart out
  apart_out apart = subst (λ (z : List (Placed X t)). AreApart z) (sym nodes_are) (apart_later nodes later places apart)

  pub own_out : {a : View} → HaveMoved nodes later a v → All (IsOwn a) nodes → All (IsOwn w) out
  own_out {a} moved own = subst (λ (z : List (Placed X t)). All (IsOwn w) z) (sym nodes_are) (subst (λ (z : View). All (IsOwn z) later) (sym view_is) (own_later nodes later a v places moved own))

  pub often_out : {a : View} {turns idle_turns : ℕ} → HaveMovedForTurns turns idle_turns nodes later a v → HaveMovedForTurns turns idle_turns nodes out a w
  often_out {a} {turns} {idle_turns} often =
      subst (λ (z : List (Placed X t)). HaveMovedForTurns turns idle_turns nodes z a w) (sym nodes_are)
      (subst (λ (z : View). HaveMovedForTurns turns idle_turns nodes later a z) (sym view_is) often)
