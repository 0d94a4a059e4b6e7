-- A worker as a transducer keeps its promises where the ends of its streams are read and written.
use Rattle.std.specs.Prelude.{◌≡◌, ℕ, ◌+◌, ◌-◌, ◌<◌, List, [], ◌∷◌, Bool, true, false, cond, nat_lt, refl, ◌↔◌}
use Rattle.std.proofs.Common.{sym, ◌∙◌, ap, subst, arith}
use Rattle.std.proofs.lemmas.Bool.Decides.{nat_tests}
use Rattle.snesl_data.specs.declared.fault.FaultKind.TheVariants.{Shape}
use Rattle.kahn.specs.declared.want.Want.TheVariants.{Read, Write, Ended, Faulted as Stopped}
use Rattle.flow_messages.specs.Signals.{Signal, carry, stop}
use Rattle.flow_base.specs.Lists.{Lists, push, with_port, First}
use Rattle.flow_base.specs.Ports.{at_port, put_back, first_of_list, First-from}
use Rattle.flow_base.specs.Machines.{Machine}
use Rattle.flow_base.specs.Promises.{Keeps}
use Rattle.flow_base.specs.Nodes.{node_state, behaviour_of, opened, node_after_read}
use Rattle.flow_base.specs.ClosedLists.{EndsFrom, ends_less, ends_more, end_due, none_due, due_none}
use Rattle.flow_base.specs.NodePromises.{owes_in, over_in, promise_of, closing_owes}
use Rattle.flow_base.specs.declared.node.Phase.TheVariants.{Closing, Ending}

less : (n q : ℕ) → q < n → n - (q + 1) < n - q
less n q lt = omega arith

module _ {P S : Type 0} (m : Machine P S) where
  -- the end of input p is due
  pub closing_keeps : (s : P × S) (p at : ℕ) (b : Bool) → nat_lt p (m.inputs s.0) ≡ b →
      Keeps (behaviour_of m) (promise_of m) (node_state s (Closing p) at) (cond b (Read p) (Stopped (record { kind = Shape; at = at })))
  closing_keeps s p at false e = record { place = refl; never = λ i o h. let lt = h.0 in grind (arith, nat_tests) }
  closing_keeps s p at true e = record {
    port = lt;
    full = λ i o h. First-from (i p) stop [] (λ _ _. Unit {0}) (end_due p (m.inputs s.0) i lt h.1) tt;
    steps = steps;
    stays = stays;
    open_yet = grind (arith, nat_tests);
    ends = over (nat_lt (p + 1) (m.inputs s.0)) p (grind (arith, nat_tests));
    still_in = still;
    still_out = λ message k h. absurd (cc);
    kinds = λ x other. refl;
    of_kind = λ x held. subst (λ w. m.of_kind w.0 w.1) (same x) held;
    in_range = λ dialect x held own range. subst (λ w. m.in_range dialect w.0 w.1) (same x) own;
  }
    where
      lt : p < m.inputs s.0
      lt = grind (arith, nat_tests)

      over : (b : Bool) (k : ℕ) → nat_lt k (p + 1) ≡ true → over_in (cond b (Closing (p + 1)) (Ending 0)) k ≡ true
      over true k h = h
      over false k h = refl

      steps : (x : Signal) (i o : Lists Signal) →
          owes_in m (Closing p) s (push p x i) o ↔ owes_in m (node_after_read m (Closing p) (node_state s (Closing p) at) x).phase
          (node_after_read m (Closing p) (node_state s (Closing p) at) x).worker i o
      steps (carry x) i o = (
        λ h.
            let e : carry x ∷ i p ≡ stop ∷ [] = sym (at_port p (carry x ∷ i p) i) ∙ end_due p (m.inputs s.0) (push p (carry x) i) lt h.1 in
            absurd (cc),
        λ h. absurd h,
      )
      steps stop i o = (
        λ h. (closing_owes m (nat_lt (p + 1) (m.inputs s.0)) s (p + 1) i o refl).0 (ends_less p (m.inputs s.0) i lt h.1, h.2),
        λ h. let g = (closing_owes m (nat_lt (p + 1) (m.inputs s.0)) s (p + 1) i o refl).1 h in (lt, ends_more p (m.inputs s.0) i lt g.0, g.1),
      )

      stays : (x : Signal) → (behaviour_of m).opening (node_after_read m (Closing p) (node_state s (Closing p) at) x) ≡ opened (s.0, m.start) at
      stays (carry x) = refl
      stays stop = refl

      still : (x : Signal) (k : ℕ) → nat_lt k p ≡ true → over_in (node_after_read m (Closing p) (node_state s (Closing p) at) x).phase k ≡ true
      still (carry x) k h = refl
      still stop k h = over (nat_lt (p + 1) (m.inputs s.0)) k (grind (arith, nat_tests))

      same : (x : Signal) → s ≡ (node_after_read m (Closing p) (node_state s (Closing p) at) x).worker
      same (carry x) = refl
      same stop = refl

  -- what is left after the end of output q
  abbrev After : P × S → ℕ → Lists Signal → Lists Signal → Signal → List Signal → Type 0
  After s q i o x r = (x ≡ stop) × owes_in m (Ending (q + 1)) s i (with_port q r o)

  -- the end of output q is due
  pub ending_keeps : (s : P × S) (q at : ℕ) (b : Bool) → nat_lt q (m.outputs s.0) ≡ b → Keeps (behaviour_of m) (promise_of m) (node_state s (Ending q) at) (cond b (Write q) Ended)
  ending_keeps s q at false e = record {
    nothing = (λ r lt. refl, due_none q (m.outputs s.0) (λ _. []) e (λ r lt. refl));
    ins = λ i o h. h.0;
    outs = λ i o h. none_due q (m.outputs s.0) o e h.1;
  }
  ending_keeps s q at true e = record {
    port = lt;
    steps = λ i o. (λ h. forth i o h, λ h. back i o h);
    falls = less (m.outputs s.0) q lt;
    stays = refl;
    open_yet = grind (arith, nat_tests);
    ends = λ h. grind (arith, nat_tests);
    still_in = λ k h. refl;
    still_out = λ k h. grind (arith, nat_tests);
    of_kind = λ held. (tt, held);
    in_range = λ dialect held own. (tt, own);
  }
    where
      lt : q < m.outputs s.0
      lt = grind (arith, nat_tests)

      forth : (i o : Lists Signal) → owes_in m (Ending q) s i o → First (o q) (After s q i o)
      forth i o h =
          let filled = end_due q (m.outputs s.0) o lt h.1 in
          let whole : push q stop (with_port q [] o) ≡ o = put_back q stop [] o filled in
          First-from (o q) stop [] (After s q i o) filled (refl, (h.0, ends_less q (m.outputs s.0) (with_port q [] o) lt (subst (λ l. EndsFrom q (m.outputs s.0) l) (sym whole) h.1)))

      back : (i o : Lists Signal) → First (o q) (After s q i o) → owes_in m (Ending q) s i o
      back i o h =
          let first = first_of_list (o q) (After s q i o) h in
          let whole : push q stop (with_port q first.1 o) ≡ o = put_back q stop first.1 o (first.2 ∙ ap (λ x. x ∷ first.1) first.3.0) in
          (first.3.1.0, subst (λ l. EndsFrom q (m.outputs s.0) l) whole (ends_more q (m.outputs s.0) (with_port q first.1 o) lt first.3.1.1))
