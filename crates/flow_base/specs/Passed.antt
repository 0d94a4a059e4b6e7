-- A transducer that keeps its promises: which ends have passed, and of which kind and in which range its items are.
use Rattle.std.specs.Prelude.{◌≡◌, ℕ, ◌<◌, List, [], ◌∷◌, true, refl}
use Rattle.std.proofs.Common.{inl, inr, sym, ◌∙◌, ap, subst}
use Rattle.snesl_data.specs.declared.dialect.Dialect.{Dialect}
use Rattle.kahn.specs.declared.want.Want.TheVariants.{Read, Write}
use Rattle.kahn.specs.Processes.{Event, Reads, Writes, Does, reads, writes, HasEnd}
use Rattle.kahn.proofs.Prefix.{reads_first, reads_later, writes_first, writes_later}
use Rattle.flow_messages.specs.Signals.{Signal, stop}
use Rattle.flow_base.specs.Ports.{ports}
use Rattle.flow_base.specs.Ranges.{SignalInRange, SignalsInRange, SignalOfKind, SignalsOfKind}
use Rattle.flow_base.specs.Transducers.{Behaviour}
use Rattle.flow_base.specs.Promises.{Promise, PromiseLaws}
use Rattle.flow_base.specs.Histories.{no_end, end_cases}
use Rattle.flow_base.specs.Runs.{keeps, inputs_stay}

module _ {S : Type 0} (b : Behaviour S) (promise : Promise S) (laws : PromiseLaws b promise) where
  in_stays : (h : List (Event Signal)) (s t : S) (p : ℕ) → Does b.process s h t → promise.over_in s p ≡ true → promise.over_in t p ≡ true
  in_stays [] s t p same over = ap (λ k. promise.over_in k p) (sym same) ∙ over
  in_stays (Reads q m ∷ h) s t p (wants, does) over = in_stays h (b.process.read s m) t p does ((keeps b promise laws s (Read q) wants).still_in m p over)
  in_stays (Writes q m ∷ h) s t p (wants, is, does) over = in_stays h (b.process.wrote s) t p does ((keeps b promise laws s (Write q) wants).still_in p over)

  out_stays : (h : List (Event Signal)) (s t : S) (q : ℕ) → Does b.process s h t → promise.over_out s q ≡ true → promise.over_out t q ≡ true
  out_stays [] s t q same over = ap (λ k. promise.over_out k q) (sym same) ∙ over
  out_stays (Reads p m ∷ h) s t q (wants, does) over = out_stays h (b.process.read s m) t q does ((keeps b promise laws s (Read p) wants).still_out m q over)
  out_stays (Writes p m ∷ h) s t q (wants, is, does) over = out_stays h (b.process.wrote s) t q does ((keeps b promise laws s (Write p) wants).still_out q over)

  -- where the end of a port is in the history, it has passed
  pub passed_in : (h : List (Event Signal)) (s t : S) (p : ℕ) → Does b.process s h t → HasEnd b.process (reads p h) → promise.over_in t p ≡ true
  passed_in [] s t p does has = absurd (no_end b.process has)
  passed_in (Writes q m ∷ h) s t p (wants, is, does) has = passed_in h (b.process.wrote s) t p does has
  passed_in (Reads q m ∷ h) s t p (wants, does) has = elim (ports p q) [
    | inl here ↦
        elim (end_cases b.process m (reads p h) (subst (λ l. HasEnd b.process l) (reads_first p q m h here) has)) [
          | inl last ↦
              let over : promise.over_in (b.process.read s m) p ≡ true = ap (λ x. promise.over_in (b.process.read s x) p) (last ∙ laws.end)
              ∙ ap (λ k. promise.over_in (b.process.read s stop) k) here ∙ (keeps b promise laws s (Read q) wants).ends in
              in_stays h (b.process.read s m) t p does over
          | inr later ↦ passed_in h (b.process.read s m) t p does later
        ]
    | inr other ↦ passed_in h (b.process.read s m) t p does (subst (λ l. HasEnd b.process l) (reads_later p q m h other) has)
  ]

  pub passed_out : (h : List (Event Signal)) (s t : S) (q : ℕ) → Does b.process s h t → HasEnd b.process (writes q h) → promise.over_out t q ≡ true
  passed_out [] s t q does has = absurd (no_end b.process has)
  passed_out (Reads p m ∷ h) s t q (wants, does) has = passed_out h (b.process.read s m) t q does has
  passed_out (Writes p m ∷ h) s t q (wants, is, does) has = elim (ports q p) [
    | inl here ↦
        elim (end_cases b.process m (writes q h) (subst (λ l. HasEnd b.process l) (writes_first q p m h here) has)) [
          | inl last ↦
              let over : promise.over_out (b.process.wrote s) q ≡ true = ap (λ k. promise.over_out (b.process.wrote s) k) here ∙ (keeps b promise laws s (Write p) wants).ends (is ∙ last ∙ laws.end) in
              out_stays h (b.process.wrote s) t q does over
          | inr later ↦ passed_out h (b.process.wrote s) t q does later
        ]
    | inr other ↦ passed_out h (b.process.wrote s) t q does (subst (λ l. HasEnd b.process l) (writes_later q p m h other) has)
  ]

  kinds_stay : (s t : S) (q : ℕ) → b.opening t ≡ b.opening s → b.kind_out t q ≡ b.kind_out s q
  kinds_stay s t q e = sym (laws.same_kinds_out t q) ∙ ap (λ k. b.kind_out k q) e ∙ laws.same_kinds_out s q

  -- each item that goes out is of the kind of its port
  pub of_kind_out : (start : S) (h : List (Event Signal)) (s t : S) → b.opening s ≡ b.opening start → Does b.process s h t → b.of_kind s → (q : ℕ) → SignalsOfKind (b.kind_out start q) (writes q h)
  of_kind_out start [] s t same does held q = tt
  of_kind_out start (Reads p m ∷ h) s t same (wants, does) held q =
      let law = keeps b promise laws s (Read p) wants in
      of_kind_out start h (b.process.read s m) t (law.stays m ∙ same) does (law.of_kind m held) q
  of_kind_out start (Writes p m ∷ h) s t same (wants, is, does) held q =
      let law = keeps b promise laws s (Write p) wants in
      let kept = law.of_kind held in
      let there : SignalsOfKind (b.kind_out start q) (writes q h) = of_kind_out start h (b.process.wrote s) t (law.stays ∙ same) does kept.1 q in
      let here : SignalOfKind (b.kind_out start p) m =
      subst (λ x. SignalOfKind (b.kind_out start p) x) is
      (subst (λ kind. SignalOfKind kind (b.process.written s)) (kinds_stay start s p same) kept.0) in
      elim (ports q p) [
        | inl same_port ↦ subst (λ l. SignalsOfKind (b.kind_out start q) l) (sym (writes_first q p m h same_port)) (subst (λ k. SignalOfKind (b.kind_out start k) m) (sym same_port) here, there)
        | inr other ↦ subst (λ l. SignalsOfKind (b.kind_out start q) l) (sym (writes_later q p m h other)) there
      ]

  -- where the integers that are held and those that came in lie in the range of the dialect, so do those that go out
  pub in_range_out : (dialect : Dialect) (start : S) (h : List (Event Signal)) (s t : S) → b.opening s ≡ b.opening start → Does b.process s h t → b.of_kind s → b.in_range dialect s →
      ((p : ℕ) → p < b.inputs start → SignalsInRange dialect (reads p h)) → (q : ℕ) → SignalsInRange dialect (writes q h)
  in_range_out dialect start [] s t same does held own range q = tt
  in_range_out dialect start (Reads p m ∷ h) s t same (wants, does) held own range q =
      let law = keeps b promise laws s (Read p) wants in
      let port : p < b.inputs start = subst (λ n. p < n) (inputs_stay b promise laws start s same) law.port in
      let here : SignalInRange dialect m × SignalsInRange dialect (reads p h) = subst (λ l. SignalsInRange dialect l) (reads_first p p m h refl) (range p port) in
      let others : (k : ℕ) → k < b.inputs start → SignalsInRange dialect (reads k h) =
      λ k lt. elim (ports k p) [
        | inl is ↦ subst (λ j. SignalsInRange dialect (reads j h)) (sym is) here.1
        | inr other ↦ subst (λ l. SignalsInRange dialect l) (reads_later k p m h other) (range k lt)
      ] in
      in_range_out dialect start h (b.process.read s m) t (law.stays m ∙ same) does (law.of_kind m held) (law.in_range dialect m held own here.0) others q
  in_range_out dialect start (Writes p m ∷ h) s t same (wants, is, does) held own range q =
      let law = keeps b promise laws s (Write p) wants in
      let kept = law.in_range dialect held own in
      let there : SignalsInRange dialect (writes q h) = in_range_out dialect start h (b.process.wrote s) t (law.stays ∙ same) does (law.of_kind held).1 kept.1 range q in
      elim (ports q p) [
        | inl same_port ↦ subst (λ l. SignalsInRange dialect l) (sym (writes_first q p m h same_port)) (subst (λ x. SignalInRange dialect x) is kept.0, there)
        | inr other ↦ subst (λ l. SignalsInRange dialect l) (sym (writes_later q p m h other)) there
      ]
