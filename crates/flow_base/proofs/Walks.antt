-- One part of a visit, and then another.
use Rattle.std.proofs.Common.{◌≡◌, ℕ, ◌+◌, Bool, ◌||◌, false, List, Result, Ok, Err, refl, ap, subst}
use Rattle.std.specs.Prelude.{IsErr}
use Rattle.std.specs.declared.alloc.AllocError.{AllocError}
use Rattle.flow_messages.specs.Ends.{SameEnds, View}
use Rattle.flow_messages.specs.declared.ends.Ends.{Ghosts as EndsGhosts}
use Rattle.flow_base.specs.Transducers.{Behaviour, BehaviourLaws}
use Rattle.flow_base.specs.Visits.{BrokeOff, IsPlaced, Visited}
use Rattle.flow_base.specs.Walks.{Visit, Walk}
use Rattle.flow_base.proofs.Carried.{same_ends_refl, same_ends_then}
use Rattle.flow_base.proofs.Kernels.{went_none, went_further}
use Rattle.flow_base.proofs.Visiting.{broken}
use Rattle.flow_base.proofs.Visits.{Made, broke_on, visited_on}

-- the same ends, and still the same
pub ends_on : {a v w : View} → SameEnds a v → SameEnds v w → SameEnds a w
ends_on {a = a} {v = v} {w = w} first next = same_ends_then a v w first next

module _ {E S : Type 0} {view : E → View} {same : E → E → Type 0} {inputs outputs : List ℕ} {b : Behaviour S} where
  -- no step
  pub walk_none : {s : S} {a : E} → ((x : E) → same x x) → Walk view same inputs outputs b s a s a 0
  walk_none {s = s} {a = a} same_refl = record {
    same = same_refl a;
    ends = same_ends_refl (view a);
    went = went_none b inputs outputs s (view a);
  }

  -- and then more
  pub walk_then : ((a v w : E) → same a v → same v w → same a w) → {s t u : S} {a v w : E} {n k : ℕ} →
      Walk view same inputs outputs b s a t v n → Walk view same inputs outputs b t v u w k → Walk view same inputs outputs b s a u w (n + k)
  walk_then same_trans {a = a} {v = v} {w = w} first next = record {
    same = same_trans a v w first.same next.same;
    ends = ends_on first.ends next.ends;
    went = went_further b inputs outputs first.went next.went;
  }

module _ {E : Type 0} (e : EndsGhosts E) (trans : (a v w : E) → e.same a v → e.same v w → e.same a w) {S : Type 0} {b : Behaviour S} (laws : BehaviourLaws b) {ins outs : List ℕ} {s t u : S}
    (a v w : E) (placed : IsPlaced b ins outs s (e.view a)) (same : e.same a v) {any : Bool} (made : Made b ins outs s (e.view a) t (e.view v) any)
    (still : e.same v w) (ends : SameEnds (e.view v) (e.view w)) where
  -- some steps, and then a visit
  pub then_visited : {more : Bool} (all : Bool) → (any || more) ≡ all → Visited ins outs b t (e.view v) u (e.view w) more → Visit e.view e.same ins outs b s a u w (Ok all)
  then_visited all is later = record {
    same = trans a v w same still;
    ends = ends_on made.ends ends;
    visited = subst (Visited ins outs b s (e.view a) u (e.view w)) is (visited_on laws placed made ends later);
    broke = tt;
  }

  -- until memory was refused
  pub then_broke : (r : Result Bool AllocError) → IsErr r → BrokeOff ins outs b t (e.view v) u (e.view w) → Visit e.view e.same ins outs b s a u w r
  then_broke r is later = broken e a w (trans a v w same still) (ends_on made.ends ends) (broke_on laws placed made later) r is

  -- no step, and then a visit
  pub then_visit : (r : Result Bool AllocError) → any ≡ false → Visit e.view e.same ins outs b t v u w r → Visit e.view e.same ins outs b s a u w r
  then_visit (Ok more) none later = then_visited more (ap (λ x. x || more) none) later.visited
  then_visit (Err refused) none later = then_broke (Err refused) refl later.broke
