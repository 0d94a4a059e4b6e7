-- What the history of one node carries over the edges at its ports.
use Rattle.std.proofs.Common.{◌≡◌, ℕ, ◌<◌, Bool, false, cond, eqb, List, [], ◌∷◌, ◌++◌, ◌⊎◌, inl, inr, refl, sym, ◌∙◌, ap, subst, append-nil}
use Rattle.std.proofs.Common.{append_assoc, eq-eqb, ne_eqb, Result, Ok, Err, IfOk, OnErr}
use Rattle.std.specs.declared.alloc.AllocError.{AllocError}
use Rattle.std.proofs.lemmas.Bool.{cases_eq, cases_Bool}
use Rattle.kahn.specs.declared.want.Want.TheVariants.{Read, Write}
use Rattle.kahn.specs.Processes.{Process, Event, Reads, Writes, Does, HasEnd, IsLawfulProcess, reads, writes}
use Rattle.kahn.specs.Networks.{Network, IsWired}
use Rattle.kahn.proofs.History.{does_then, writes_push, writes_push_other, writes_push_read}
use Rattle.flow_messages.specs.Signals.{Signal, stop, ended}
use Rattle.flow_messages.specs.Ends.{View}
use Rattle.flow_base.specs.Transducers.{Behaviour, BehaviourLaws}
use Rattle.flow_base.specs.Visits.{Visited, BrokeOff, read_from, sent_after}
use Rattle.flow_networks.proofs.Reached.{Follows, follows_does}
use Rattle.flow_networks.proofs.Turns.{ended_has}

-- a visited node opened as before, and its state is reached
pub follows_visit : {S : Type 0} (b : Behaviour S) (laws : BehaviourLaws b) (inputs outputs : List ℕ) (s : S) (a : View) (s' : S) (v : View) (r : Result Bool AllocError)
    → IfOk r (λ any. Visited inputs outputs b s a s' v any) → OnErr r (BrokeOff inputs outputs b s a s' v) → Follows b laws s s'
follows_visit b laws inputs outputs s a s' v (Ok any) visited broke = follows_does b laws s s' visited.history visited.does
follows_visit b laws inputs outputs s a s' v (Err e) visited broke = follows_does b laws s s' broke.history broke.does

-- two tests that say the same
same_test : (e f p q : ℕ) → (e ≡ f → p ≡ q) → (p ≡ q → e ≡ f) → eqb e f ≡ eqb p q
same_test e f p q to from = go (cases_eq e f)
  where
    go : (e ≡ f) ⊎ (e ≡ f → ⊥) → eqb e f ≡ eqb p q
    go (inl same) = eq-eqb e f same ∙ sym (eq-eqb p q (to same))
    go (inr other) = ne_eqb e f other ∙ sym (ne_eqb p q (λ h. other (from h)))

module _ {S : Type 0} (P : Process S Signal) (is_end : P.end ≡ stop) (net : Network S) (wired : IsWired net) (k : ℕ) (inside : k < net.nodes)
    (lawful : IsLawfulProcess P (net.opening k) (net.inputs k) (net.outputs k))
    (into from : ℕ → ℕ) (into_is : (p : ℕ) → p < net.inputs k → into p ≡ net.in_edge k p) (from_is : (q : ℕ) → q < net.outputs k → from q ≡ net.out_edge k q) where
  -- the edge at an input port that the node wants to read, and at an output port that it wants to write
  place_in : (before : List (Event Signal)) (s : S) (p : ℕ) → Does P (net.opening k) before s → P.want s ≡ Read p → (into p < net.edges) × (net.reader (into p) ≡ k) × (net.reader_port (into p) ≡ p)
  place_in before s p did wants =
      let port = lawful.in_port before s p did wants in
      subst (λ e. (e < net.edges) × (net.reader e ≡ k) × (net.reader_port e ≡ p)) (sym (into_is p port)) (wired.in_edge k p inside port)

  place_out : (before : List (Event Signal)) (s : S) (q : ℕ) → Does P (net.opening k) before s → P.want s ≡ Write q → (from q < net.edges) × (net.writer (from q) ≡ k) × (net.writer_port (from q) ≡ q)
  place_out before s q did wants =
      let port = lawful.out_port before s q did wants in
      subst (λ e. (e < net.edges) × (net.writer e ≡ k) × (net.writer_port e ≡ q)) (sym (from_is q port)) (wired.out_edge k q inside port)

  did_read : (before : List (Event Signal)) (s : S) (p : ℕ) (m : Signal) → Does P (net.opening k) before s → P.want s ≡ Read p → Does P (net.opening k) (before ++ Reads p m ∷ []) (P.read s m)
  did_read before s p m did wants = does_then P (net.opening k) s (P.read s m) before (Reads p m ∷ []) did (wants, refl)

  did_write : (before : List (Event Signal)) (s : S) (q : ℕ) (m : Signal) → Does P (net.opening k) before s → P.want s ≡ Write q → P.written s ≡ m →
      Does P (net.opening k) (before ++ Writes q m ∷ []) (P.wrote s)
  did_write before s q m did wants is = does_then P (net.opening k) s (P.wrote s) before (Writes q m ∷ []) did (wants, is, refl)

  -- from an edge that goes to it, what it read at that port
  pub read_own : (e : ℕ) → e < net.edges → net.reader e ≡ k → (before h : List (Event Signal)) (s t : S) → Does P (net.opening k) before s →
      Does P s h t → read_from into e h ≡ reads (net.reader_port e) h
  unfolding read_from
  read_own e there at before [] s t did does = refl
  read_own e there at before (Reads p m ∷ h) s t did (wants, rest) =
      let place = place_in before s p did wants in
      let more = read_own e there at (before ++ Reads p m ∷ []) h (P.read s m) t (did_read before s p m did wants) rest in
      ap (λ c. cond c (m ∷ read_from into e h) (read_from into e h))
      (same_test e (into p) (net.reader_port e) p (λ h. ap net.reader_port h ∙ place.2)
      (λ h. wired.one_in e (into p) there place.0 (at ∙ sym place.1) (h ∙ sym place.2)))
      ∙ ap (λ l. cond (eqb (net.reader_port e) p) (m ∷ l) l) more
  read_own e there at before (Writes q m ∷ h) s t did (wants, is, rest) = read_own e there at (before ++ Writes q m ∷ []) h (P.wrote s) t (did_write before s q m did wants is) rest

  -- and nothing from others
  pub read_other : (e : ℕ) → (e < net.edges → net.reader e ≡ k → ⊥) → (before h : List (Event Signal)) (s t : S) → Does P (net.opening k) before s → Does P s h t → read_from into e h ≡ []
  unfolding read_from
  read_other e away before [] s t did does = refl
  read_other e away before (Reads p m ∷ h) s t did (wants, rest) =
      let place = place_in before s p did wants in
      ap (λ c. cond c (m ∷ read_from into e h) (read_from into e h)) (ne_eqb e (into p) (λ same. away (subst (λ f. f < net.edges) (sym same) place.0) (ap net.reader same ∙ place.1)))
      ∙ read_other e away (before ++ Reads p m ∷ []) h (P.read s m) t (did_read before s p m did wants) rest
  read_other e away before (Writes q m ∷ h) s t did (wants, is, rest) = read_other e away (before ++ Writes q m ∷ []) h (P.wrote s) t (did_write before s q m did wants is) rest

  -- no lawful node writes after an end
  still_open : (before : List (Event Signal)) (s : S) (q : ℕ) (sent : List Signal) → Does P (net.opening k) before s → P.want s ≡ Write q → sent ≡ writes q before → ended sent ≡ false
  still_open before s q sent did wants is = elim (cases_Bool (ended sent)) [
    | inl closed ↦ absurd (lawful.open_out before s q did wants (subst (HasEnd P) is (ended_has P is_end sent closed)))
    | inr free ↦ free
  ]

  -- to an edge that comes from it, what it wrote at that port
  pub sent_own : (e : ℕ) → e < net.edges → net.writer e ≡ k → (before h : List (Event Signal)) (s t : S) → Does P (net.opening k) before s →
      Does P s h t → (sent : List Signal) → sent ≡ writes (net.writer_port e) before
      → sent_after from e sent h ≡ sent ++ writes (net.writer_port e) h
  unfolding sent_after
  sent_own e there at before [] s t did does sent is = sym (append-nil sent)
  sent_own e there at before (Reads p m ∷ h) s t did (wants, rest) sent is =
      sent_own e there at (before ++ Reads p m ∷ []) h (P.read s m) t (did_read before s p m did wants) rest sent (is ∙ sym (writes_push_read (net.writer_port e) p m before))
  sent_own e there at before (Writes q m ∷ h) s t did (wants, written, rest) sent is =
      go (λ sent' is'. sent_own e there at (before ++ Writes q m ∷ []) h (P.wrote s) t (did_write before s q m did wants written) rest sent' is') (cases_eq (net.writer_port e) q)
    where
      place : (from q < net.edges) × (net.writer (from q) ≡ k) × (net.writer_port (from q) ≡ q)
      place = place_out before s q did wants

      go : ((sent' : List Signal) → sent' ≡ writes (net.writer_port e) (before ++ Writes q m ∷ []) → sent_after from e sent' h ≡ sent' ++ writes (net.writer_port e) h)
          → (net.writer_port e ≡ q) ⊎ (net.writer_port e ≡ q → ⊥) → sent_after from e sent (Writes q m ∷ h) ≡ sent ++ writes (net.writer_port e) (Writes q m ∷ h)
      go more (inl same) =
          ap (λ c. sent_after from e (cond c (cond (ended sent) sent (sent ++ m ∷ [])) sent) h) (eq-eqb e (from q) (wired.one_out e (from q) there place.0 (at ∙ sym place.1) (same ∙ sym place.2)))
          ∙ ap (λ c. sent_after from e (cond c sent (sent ++ m ∷ [])) h) (still_open before s q sent did wants (is ∙ ap (λ p. writes p before) same))
          ∙ more (sent ++ m ∷ []) (ap (λ l. l ++ m ∷ []) is ∙ sym (writes_push (net.writer_port e) q m before same))
          ∙ append_assoc sent (m ∷ []) (writes (net.writer_port e) h)
          ∙ sym (ap (λ c. sent ++ cond c (m ∷ writes (net.writer_port e) h) (writes (net.writer_port e) h)) (eq-eqb (net.writer_port e) q same))
      go more (inr other) =
          ap (λ c. sent_after from e (cond c (cond (ended sent) sent (sent ++ m ∷ [])) sent) h) (ne_eqb e (from q) (λ same. other (ap net.writer_port same ∙ place.2)))
          ∙ more sent (is ∙ sym (writes_push_other (net.writer_port e) q m before other))
          ∙ sym (ap (λ c. sent ++ cond c (m ∷ writes (net.writer_port e) h) (writes (net.writer_port e) h)) (ne_eqb (net.writer_port e) q other))

  -- and nothing to others
  pub sent_other : (e : ℕ) → (e < net.edges → net.writer e ≡ k → ⊥) → (before h : List (Event Signal)) (s t : S) → Does P (net.opening k) before s →
      Does P s h t → (sent : List Signal) → sent_after from e sent h ≡ sent
  unfolding sent_after
  sent_other e away before [] s t did does sent = refl
  sent_other e away before (Reads p m ∷ h) s t did (wants, rest) sent = sent_other e away (before ++ Reads p m ∷ []) h (P.read s m) t (did_read before s p m did wants) rest sent
  sent_other e away before (Writes q m ∷ h) s t did (wants, is, rest) sent =
      let place = place_out before s q did wants in
      ap (λ c. sent_after from e (cond c (cond (ended sent) sent (sent ++ m ∷ [])) sent) h)
      (ne_eqb e (from q) (λ same. away (subst (λ f. f < net.edges) (sym same) place.0) (ap net.writer same ∙ place.1)))
      ∙ sent_other e away (before ++ Writes q m ∷ []) h (P.wrote s) t (did_write before s q m did wants is) rest sent
