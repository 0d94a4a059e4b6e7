-- Ends of edges at no port of the nodes lose nothing of which they are certain.
use Rattle.std.proofs.Common.{◌≡◌, ℕ, ◌<◌, List, length, get_or, refl, sym, subst, arith}
use Rattle.flow_messages.specs.Ends.{View}
use Rattle.flow_base.specs.declared.transducer.Transducer.{Ghosts}
use Rattle.flow_base.specs.Visits.{IsNone, SparesOthers}
use Rattle.flow_base.proofs.Carried.{prefix_same, prefix_then}
use Rattle.flow_networks.specs.declared.placed.Placed.{Placed}
use Rattle.flow_networks.specs.Skeletons.{AreSamePlaces}
use Rattle.flow_shares.specs.Shares.{inputs_of, outputs_of, SpareOthers}
use Rattle.flow_shares.proofs.Later.{all_inputs_later, all_outputs_later}

module _ {X : Type 0} {t : Ghosts X} where
  pub spared_none : (nodes : List (Placed X t)) (a : View) → SpareOthers nodes a a
  spared_none nodes a = record { coming = λ e none. prefix_same (a.coming e) (a.coming e) refl; room = λ e none. omega arith }

  -- a visit of one of them
  pub visit_spares : (nodes : List (Placed X t)) (k : ℕ) (x : Placed X t) → k < length nodes → x ≡ get_or nodes k x → (v w : View) →
      SparesOthers (inputs_of x) (outputs_of x) v w → SpareOthers nodes v w
  visit_spares nodes k x inside is v w spares = record {
    coming = λ e none. spares.coming e (subst (λ (z : Placed X t). IsNone (inputs_of z) e) (sym is) (none k x inside));
    room = λ e none. spares.room e (subst (λ (z : Placed X t). IsNone (outputs_of z) e) (sym is) (none k x inside));
  }

  -- moves that follow each other
  pub spared_then : (nodes mid : List (Placed X t)) (a v w : View) → AreSamePlaces nodes mid → SpareOthers nodes a v → SpareOthers mid v w → SpareOthers nodes a w
  spared_then nodes mid a v w same first second = record {
    coming = λ e none. prefix_then (a.coming e) (v.coming e) (w.coming e) (first.coming e none) (second.coming e (all_inputs_later nodes mid same (λ edges. IsNone edges e) none));
    room = λ e none.
        let before = first.room e none in
        let since = second.room e (all_outputs_later nodes mid same (λ edges. IsNone edges e) none) in
        omega (arith, before, since);
  }
