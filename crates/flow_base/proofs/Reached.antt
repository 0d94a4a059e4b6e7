-- A state that was reached stays so with more steps, and wants only ports that there are.
use Rattle.std.proofs.Common.{◌≡◌, ℕ, ◌<◌, true, List, [], ◌∷◌, ◌++◌, refl, sym, ◌∙◌, ap, subst}
use mathlib.Core.Logic.{∥∥₁_elim, ∥∥₁_map}
use native.Mathlib.Bridge.{le_prop}
use Rattle.kahn.specs.declared.want.Want.TheVariants.{Read, Write}
use Rattle.kahn.specs.Processes.{Event, Reads, Writes, Does, IsLawfulProcess, writes}
use Rattle.kahn.proofs.History.{does_then, writes_push}
use Rattle.std.proofs.Props.{props}
use Rattle.flow_messages.specs.declared.message.Kind.{Kind}
use Rattle.flow_messages.specs.Kinds.{fits}
use Rattle.flow_messages.specs.Signals.{Signal, carry, stop}
use Rattle.flow_base.specs.Ranges.{SignalsOfKind}
use Rattle.flow_base.specs.Transducers.{Behaviour, BehaviourLaws}
use Rattle.flow_base.specs.Visits.{IsReached}

last_of_kind : (k : Kind) (ms : List Signal) (m : Signal) → SignalsOfKind k (ms ++ m ∷ []) → fits k m ≡ true
last_of_kind k [] (carry x) h = h.0
last_of_kind k [] stop h = refl
last_of_kind k (n ∷ ms) m h = last_of_kind k ms m h.1

module _ {S : Type 0} (b : Behaviour S) (laws : BehaviourLaws b) where
  -- all states of a history opened alike
  pub opening_does : (h : List (Event Signal)) (s t : S) → Does b.process s h t → b.opening t ≡ b.opening s
  opening_does [] s t same = ap b.opening (sym same)
  opening_does (Reads p m ∷ h) s t (wants, does) = opening_does h (b.process.read s m) t does ∙ laws.read_opening s p m wants
  opening_does (Writes q m ∷ h) s t (wants, is, does) = opening_does h (b.process.wrote s) t does ∙ laws.wrote_opening s q wants

  pub reached_does : (h : List (Event Signal)) (s t : S) → Does b.process s h t → IsReached b s → IsReached b t
  reached_does h s t does reached = ∥∥₁_map reached (λ (before, first). (
    before ++ h,
    subst (λ o. Does b.process o (before ++ h) t) (sym (opening_does h s t does)) (does_then b.process (b.opening s) s t before h first does),
  ))

  pub opening_read : (s s' : S) (p : ℕ) (m : Signal) → b.process.want s ≡ Read p → s' ≡ b.process.read s m → b.opening s' ≡ b.opening s
  opening_read s s' p m wants is = opening_does (Reads p m ∷ []) s s' (wants, sym is)

  pub opening_wrote : (s s' : S) (q : ℕ) → b.process.want s ≡ Write q → s' ≡ b.process.wrote s → b.opening s' ≡ b.opening s
  opening_wrote s s' q wants is = opening_does (Writes q (b.process.written s) ∷ []) s s' (wants, refl, sym is)

  pub reached_read : (s s' : S) (p : ℕ) (m : Signal) → b.process.want s ≡ Read p → s' ≡ b.process.read s m → IsReached b s → IsReached b s'
  reached_read s s' p m wants is reached = reached_does (Reads p m ∷ []) s s' (wants, sym is) reached

  pub reached_wrote : (s s' : S) (q : ℕ) → b.process.want s ≡ Write q → s' ≡ b.process.wrote s → IsReached b s → IsReached b s'
  reached_wrote s s' q wants is reached = reached_does (Writes q (b.process.written s) ∷ []) s s' (wants, refl, sym is) reached

  lawful_at : (s : S) → IsLawfulProcess b.process (b.opening s) (b.inputs (b.opening s)) (b.outputs (b.opening s))
  lawful_at s = (laws.opened (b.opening s) (laws.same_opening s)).lawful

  -- what it writes is the end, or of the kind of its port
  pub written_fits : (s : S) (q : ℕ) → b.process.want s ≡ Write q → IsReached b s → fits (b.kind_out s q) (b.process.written s) ≡ true
  written_fits s q wants reached =
      let o = b.opening s in
      let m = b.process.written s in
      subst (λ k. fits k m ≡ true) (laws.same_kinds_out s q) (∥∥₁_elim reached (hlevel props) (λ (h, does). (
      let start = laws.opened o (laws.same_opening s) in
      let more : Does b.process o (h ++ Writes q m ∷ []) (b.process.wrote s) = does_then b.process o s (b.process.wrote s) h (Writes q m ∷ []) does (wants, refl, refl) in
      last_of_kind (b.kind_out o q) (writes q h) m
      (subst (SignalsOfKind (b.kind_out o q)) (writes_push q q m h refl)
      (start.of_kind (h ++ Writes q m ∷ []) (b.process.wrote s) more q (start.lawful.out_port h s q does wants)))
      )))

  -- a node wants only ports that it has
  pub wants_input : (s : S) (p : ℕ) → b.process.want s ≡ Read p → IsReached b s → p < b.inputs s
  wants_input s p wants reached = subst (λ n. p < n) (laws.same_inputs s) (∥∥₁_elim reached (λ x y. le_prop x y) (λ (h, does). (lawful_at s).in_port h s p does wants))

  pub wants_output : (s : S) (q : ℕ) → b.process.want s ≡ Write q → IsReached b s → q < b.outputs s
  wants_output s q wants reached = subst (λ n. q < n) (laws.same_outputs s) (∥∥₁_elim reached (λ x y. le_prop x y) (λ (h, does). (lawful_at s).out_port h s q does wants))
