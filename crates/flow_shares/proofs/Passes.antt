-- One visit more in a turn.
use Rattle.std.proofs.Common.{◌≡◌, ℕ, ◌+◌, ◌<◌, ◌≤◌, Bool, true, false, ◌||◌, List, length, get_or, set, refl, sym, ◌∙◌, subst}
use Rattle.std.specs.List.{All}
use Rattle.kahn.specs.Processes.{Does}
use Rattle.flow_messages.specs.Ends.{View, SameEnds, SameTraffic}
use Rattle.flow_base.specs.Transducers.{BehaviourLaws}
use Rattle.flow_base.specs.declared.transducer.Transducer.{Ghosts}
use Rattle.flow_base.specs.Visits.{Visited, BrokeOff}
use Rattle.flow_base.proofs.Carried.{same_ends_refl, same_ends_then}
use Rattle.flow_networks.specs.declared.placed.Placed.{Placed}
use Rattle.flow_networks.specs.Over.{is_over}
use Rattle.flow_networks.specs.Places.{placed_state, IsSamePlace}
use Rattle.flow_networks.specs.Skeletons.{AreSamePlaces}
use Rattle.flow_shares.specs.Shares.{inputs_of, outputs_of, HasItsEnds, IsOwn, AreApart, AreStuck, TakesMemory, HaveMoved, HaveMovedAndLost, SpareOthers}
use Rattle.flow_shares.proofs.Later.{same_places_refl, same_places_then, same_places_set, apart_later, there_later}
use Rattle.flow_shares.proofs.Moves.{moved_none, moved_then, lost_then, own_later}
use Rattle.flow_shares.proofs.Between.{moved_grows, same_first, same_second}
use Rattle.flow_shares.proofs.Visits.{visit_moved, visit_history, visit_lost, visit_starves}
use Rattle.flow_shares.proofs.Busy.{quiet}
use Rattle.flow_shares.proofs.Spares.{spared_none, visit_spares, spared_then}
use Rattle.flow_shares.proofs.Calm.{AreCalm, calm_none, calm_over, calm_next, calm_end}

module _ {X : Type 0} {t : Ghosts X} where
  -- The nodes before n had their visit, or are over; `any` says whether one of them made a step.
  pub record Passed (n : ℕ) (nodes later : List (Placed X t)) (a v : View) (any : Bool) : Type 0 where
    pub places : AreSamePlaces nodes later
    pub ends : SameEnds a v
    pub moved : HaveMoved nodes later a v
    pub spares : SpareOthers nodes a v
    pub busy : any ≡ true → SameTraffic a v → ⊥
    pub calm : any ≡ false → AreCalm n nodes later a v

  pub passed_none : (nodes : List (Placed X t)) (a : View) → Passed 0 nodes nodes a a false
  passed_none nodes a = record {
    places = same_places_refl nodes;
    ends = same_ends_refl a;
    moved = moved_none nodes a;
    spares = spared_none nodes a;
    busy = λ h. cc;
    calm = λ h. calm_none nodes a;
  }

  pub passed_out : (n : ℕ) (nodes later out : List (Placed X t)) (a v w : View) (any one : Bool) → out ≡ later → w ≡ v → one ≡ any → Passed n nodes later a v any → Passed n nodes out a w one
  passed_out n nodes later out a v w any one nodes_are view_is one_is passed =
      subst (λ (z : List (Placed X t)). Passed n nodes z a w one) (sym nodes_are)
      (subst (λ (z : View). Passed n nodes later a z one) (sym view_is) (subst (λ (z : Bool). Passed n nodes later a v z) (sym one_is) passed))

  -- a node that is over is passed by
  pub passed_by : {nodes mid : List (Placed X t)} {a v : View} {k : ℕ} {any : Bool} → Passed k nodes mid a v any → (x : Placed X t) → k < length mid → x ≡ get_or mid k x
      → is_over (t.behaviour.process.want (placed_state x)) ≡ true → Passed (k + 1) nodes mid a v any
  passed_by {nodes} {mid} {a} {v} {k} passed x inside is over = record {
    places = passed.places;
    ends = passed.ends;
    moved = passed.moved;
    spares = passed.spares;
    busy = passed.busy;
    calm = λ still. calm_over nodes mid a v k x inside is over (passed.calm still);
  }

  -- where none made a step, none can
  pub passed_end : {nodes later : List (Placed X t)} {a v : View} {k : ℕ} {any : Bool} → Passed k nodes later a v any → length nodes ≤ k → any ≡ false →
      AreStuck a nodes × AreStuck v later
  passed_end {nodes} {later} {a} {v} {k} passed all still = calm_end nodes later a v passed.places k all (passed.calm still)

  module _ (laws : BehaviourLaws t.behaviour) {nodes mid : List (Placed X t)} {a v : View} {k : ℕ} {any : Bool} (passed : Passed k nodes mid a v any)
      (there : All (HasItsEnds a) nodes) (apart : AreApart nodes) (own : All (IsOwn a) nodes) (x : Placed X t) (inside : k < length mid) (is : x ≡ get_or mid k x) where
    -- the ends of the node to be visited are there
    pub node_there : HasItsEnds v x
    node_there = subst (HasItsEnds v) (sym is) (there_later nodes mid passed.places a v passed.ends there k x inside)

    apart_mid : AreApart mid
    apart_mid = apart_later nodes mid passed.places apart

    node_own : IsOwn v x
    node_own = subst (IsOwn v) (sym is) (own_later nodes mid a v passed.places passed.moved own k x inside)

    module _ {y : Placed X t} {w : View} (place : IsSamePlace x y) (ends : SameEnds v w) where
      pub places_next : AreSamePlaces nodes (set mid k y)
      places_next = same_places_then nodes mid (set mid k y) passed.places (same_places_set mid k x y inside is place)

      pub ends_next : SameEnds a w
      ends_next = same_ends_then a v w passed.ends ends

      -- it was visited
      module _ {one : Bool} (visited : Visited (inputs_of x) (outputs_of x) t.behaviour (placed_state x) v (placed_state y) w one) where
        moved_next : HaveMoved mid (set mid k y) v w
        moved_next = visit_moved laws mid k x y inside is apart_mid visited.history visited.does v w node_own visited.carried

        busy_here : one ≡ true → SameTraffic v w → ⊥
        unfolding moved_next
        busy_here busy same =
            visited.some busy (sym (visit_history laws mid k x y inside is apart_mid visited.history visited.does v w node_own visited.carried)
            ∙ quiet laws mid (set mid k y) v w moved_next same k x inside)

        busy_next : (before now : Bool) → (before ≡ true → SameTraffic a v → ⊥) → (now ≡ true → SameTraffic v w → ⊥) → before || now ≡ true → SameTraffic a w → ⊥
        busy_next true now first second h same = first refl (same_first a v w (moved_grows nodes mid a v passed.moved) (moved_grows mid (set mid k y) v w moved_next) same)
        busy_next false now first second h same = second h (same_second a v w (moved_grows nodes mid a v passed.moved) (moved_grows mid (set mid k y) v w moved_next) same)

        calm_here : one ≡ false → AreCalm k nodes mid a v → AreCalm (k + 1) nodes (set mid k y) a w
        calm_here still calm =
            calm_next laws nodes mid passed.places.count apart_mid k x y inside is place a v w (visited.calm still)
            (subst (λ h. Does t.behaviour.process (placed_state x) h (placed_state y)) (visited.none still) visited.does) (visited.stuck still) calm

        calm_both : (before now : Bool) → (before ≡ false → AreCalm k nodes mid a v) →
            (now ≡ false → AreCalm k nodes mid a v → AreCalm (k + 1) nodes (set mid k y) a w) → before || now ≡ false →
            AreCalm (k + 1) nodes (set mid k y) a w
        calm_both true now first second h = cc
        calm_both false now first second h = second h (first refl)

        pub passed_next : Passed (k + 1) nodes (set mid k y) a w (any || one)
        passed_next = record {
          places = places_next;
          ends = ends_next;
          moved = moved_then nodes mid (set mid k y) a v w passed.places passed.moved moved_next;
          spares = spared_then nodes mid a v w passed.places passed.spares (visit_spares mid k x inside is v w visited.spares);
          busy = busy_next any one passed.busy busy_here;
          calm = calm_both any one passed.calm calm_here;
        }

      -- memory was refused to it
      module _ (broke : BrokeOff (inputs_of x) (outputs_of x) t.behaviour (placed_state x) v (placed_state y) w) where
        pub passed_lost : HaveMovedAndLost nodes (set mid k y) a w
        passed_lost = lost_then nodes mid (set mid k y) a v w passed.places passed.moved (visit_lost laws mid k x y inside is apart_mid v w node_own broke)

        pub passed_starves : TakesMemory (set mid k y)
        passed_starves = visit_starves laws mid k x y inside is apart_mid v w node_own broke
