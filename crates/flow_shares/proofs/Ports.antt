-- What the events of one node take from the edges at its ports, and what they put there.
use Rattle.std.proofs.Common.{◌≡◌, ℕ, ◌<◌, false, cond, eqb, List, [], ◌∷◌, ◌++◌, length, ◌⊎◌, inl, inr, refl, sym, ◌∙◌, ap, subst, arith, append-nil, append_assoc, eq-eqb, ne_eqb}
use Rattle.std.proofs.lemmas.Bool.{cases_eq, cases_Bool}
use Rattle.std.proofs.Math.Bool.{Bool-set}
use mathlib.Core.Logic.{∥∥₁_elim, ∥∥₁_map}
use Rattle.kahn.specs.declared.want.Want.TheVariants.{Read, Write}
use Rattle.kahn.specs.Processes.{Process, Event, Reads, Writes, Does, HasEnd, reads, writes}
use Rattle.kahn.proofs.History.{does_then, writes_push, writes_push_other, writes_push_read}
use Rattle.flow_messages.specs.Signals.{Signal, ended}
use Rattle.flow_base.specs.Transducers.{Behaviour, BehaviourLaws}
use Rattle.flow_base.specs.Visits.{read_from, sent_after, edge_of, IsReached}
use Rattle.flow_base.proofs.Reached.{opening_read, opening_wrote, wants_input, wants_output}
use Rattle.flow_networks.proofs.Reached.{Follows, follows_read, follows_wrote, follows_inputs, follows_outputs}
use Rattle.flow_networks.proofs.Turns.{ended_has}

-- no edge is at two of these ports
abbrev pub AreOwn : List ℕ → Type 0
AreOwn edges = (p q : ℕ) → p < length edges → q < length edges → edge_of edges p ≡ edge_of edges q → p ≡ q

-- the edge is at none of these ports
abbrev pub IsAway : List ℕ → ℕ → Type 0
IsAway edges e = (p : ℕ) → p < length edges → e ≡ edge_of edges p → ⊥

-- two tests that say the same
same_test : (e f p q : ℕ) → (e ≡ f → p ≡ q) → (p ≡ q → e ≡ f) → eqb e f ≡ eqb p q
same_test e f p q to from = go (cases_eq e f)
  where
    go : (e ≡ f) ⊎ (e ≡ f → ⊥) → eqb e f ≡ eqb p q
    go (inl same) = eq-eqb e f same ∙ sym (eq-eqb p q (to same))
    go (inr other) = ne_eqb e f other ∙ sym (ne_eqb p q (λ h. other (from h)))

module _ {S : Type 0} (b : Behaviour S) (laws : BehaviourLaws b) (edges : List ℕ) where
  abbrev P : Process S Signal
  P = b.process

  -- A node that came to this state has these edges at its input ports.
  pub record HasInputs (s : S) : Type 0 where
    pub reached : IsReached b s
    pub each : length edges ≡ b.inputs s

  inputs_later : (s s' : S) → Follows b laws s s' → HasInputs s → HasInputs s'
  inputs_later s s' follows has = record { reached = follows.reached has.reached; each = follows_inputs b laws s s' follows (length edges) has.each }

  inputs_read : (s : S) (p : ℕ) (m : Signal) → P.want s ≡ Read p → HasInputs s → HasInputs (P.read s m)
  inputs_read s p m wants = inputs_later s (P.read s m) (follows_read b laws s (P.read s m) p m wants (inl refl))

  inputs_wrote : (s : S) (q : ℕ) → P.want s ≡ Write q → HasInputs s → HasInputs (P.wrote s)
  inputs_wrote s q wants = inputs_later s (P.wrote s) (follows_wrote b laws s (P.wrote s) q wants (inl refl))

  pub input_port : (s : S) (p : ℕ) → P.want s ≡ Read p → HasInputs s → p < length edges
  input_port s p wants has = omega (arith, has.each, wants_input b laws s p wants has.reached)

  -- from the edge at one of its ports it took what it read there
  pub read_own : AreOwn edges → (p : ℕ) → p < length edges → (h : List (Event Signal)) (s t : S) → HasInputs s → Does P s h t → read_from (edge_of edges) (edge_of edges p) h ≡ reads p h
  unfolding read_from
  read_own own p inside [] s t has does = refl
  read_own own p inside (Reads q m ∷ h) s t has (wants, rest) =
      let e = edge_of edges p in
      let more = read_own own p inside h (P.read s m) t (inputs_read s q m wants has) rest in
      ap (λ c. cond c (m ∷ read_from (edge_of edges) e h) (read_from (edge_of edges) e h))
      (same_test e (edge_of edges q) p q (own p q inside (input_port s q wants has)) (λ same. ap (edge_of edges) same))
      ∙ ap (λ l. cond (eqb p q) (m ∷ l) l) more
  read_own own p inside (Writes q m ∷ h) s t has (wants, is, rest) = read_own own p inside h (P.wrote s) t (inputs_wrote s q wants has) rest

  -- and nothing from others
  pub read_other : (e : ℕ) → IsAway edges e → (h : List (Event Signal)) (s t : S) → HasInputs s → Does P s h t → read_from (edge_of edges) e h ≡ []
  unfolding read_from
  read_other e away [] s t has does = refl
  read_other e away (Reads q m ∷ h) s t has (wants, rest) =
      ap (λ c. cond c (m ∷ read_from (edge_of edges) e h) (read_from (edge_of edges) e h)) (ne_eqb e (edge_of edges q) (away q (input_port s q wants has)))
      ∙ read_other e away h (P.read s m) t (inputs_read s q m wants has) rest
  read_other e away (Writes q m ∷ h) s t has (wants, is, rest) = read_other e away h (P.wrote s) t (inputs_wrote s q wants has) rest

  -- A node that came to this state has these edges at its output ports.
  pub record HasOutputs (s : S) : Type 0 where
    pub reached : IsReached b s
    pub each : length edges ≡ b.outputs s

  outputs_later : (s s' : S) → Follows b laws s s' → HasOutputs s → HasOutputs s'
  outputs_later s s' follows has = record { reached = follows.reached has.reached; each = follows_outputs b laws s s' follows (length edges) has.each }

  outputs_read : (s : S) (p : ℕ) (m : Signal) → P.want s ≡ Read p → HasOutputs s → HasOutputs (P.read s m)
  outputs_read s p m wants = outputs_later s (P.read s m) (follows_read b laws s (P.read s m) p m wants (inl refl))

  outputs_wrote : (s : S) (q : ℕ) → P.want s ≡ Write q → HasOutputs s → HasOutputs (P.wrote s)
  outputs_wrote s q wants = outputs_later s (P.wrote s) (follows_wrote b laws s (P.wrote s) q wants (inl refl))

  pub output_port : (s : S) (q : ℕ) → P.want s ≡ Write q → HasOutputs s → q < length edges
  output_port s q wants has = omega (arith, has.each, wants_output b laws s q wants has.reached)

  -- what was sent is what it wrote at port q on its way to this state
  abbrev pub WroteAll : ℕ → S → List Signal → Type 0
  WroteAll q s sent = ∥ ((before : List (Event Signal)) × Does P (b.opening s) before s × (sent ≡ writes q before)) ∥₁

  all_read : (q : ℕ) (s : S) (sent : List Signal) (p : ℕ) (m : Signal) → P.want s ≡ Read p → WroteAll q s sent → WroteAll q (P.read s m) sent
  all_read q s sent p m wants all = ∥∥₁_map all (λ (before, did, is). (
    before ++ Reads p m ∷ [],
    subst (λ o. Does P o (before ++ Reads p m ∷ []) (P.read s m)) (sym (opening_read b laws s (P.read s m) p m wants refl))
        (does_then P (b.opening s) s (P.read s m) before (Reads p m ∷ []) did (wants, refl)),
    is ∙ sym (writes_push_read q p m before),
  ))

  did_write : (s : S) (q : ℕ) (m : Signal) (before : List (Event Signal)) → P.want s ≡ Write q → P.written s ≡ m → Does P (b.opening s) before s →
      Does P (b.opening (P.wrote s)) (before ++ Writes q m ∷ []) (P.wrote s)
  did_write s q m before wants is did =
      subst (λ o. Does P o (before ++ Writes q m ∷ []) (P.wrote s)) (sym (opening_wrote b laws s (P.wrote s) q wants refl))
      (does_then P (b.opening s) s (P.wrote s) before (Writes q m ∷ []) did (wants, is, refl))

  all_wrote : (p q : ℕ) (s : S) (sent : List Signal) (m : Signal) → p ≡ q → P.want s ≡ Write q → P.written s ≡ m → WroteAll p s sent → WroteAll p (P.wrote s) (sent ++ m ∷ [])
  all_wrote p q s sent m same wants written all =
      ∥∥₁_map all (λ (before, did, is).
      (before ++ Writes q m ∷ [], did_write s q m before wants written did, ap (λ l. l ++ m ∷ []) is ∙ sym (writes_push p q m before same)))

  all_other : (p q : ℕ) (s : S) (sent : List Signal) (m : Signal) → (p ≡ q → ⊥) → P.want s ≡ Write q → P.written s ≡ m → WroteAll p s sent → WroteAll p (P.wrote s) sent
  all_other p q s sent m other wants written all =
      ∥∥₁_map all (λ (before, did, is).
      (before ++ Writes q m ∷ [], did_write s q m before wants written did, is ∙ sym (writes_push_other p q m before other)))

  -- it writes nothing after its end
  still_open : (s : S) (q : ℕ) (sent : List Signal) → P.want s ≡ Write q → WroteAll q s sent → ended sent ≡ false
  still_open s q sent wants all = ∥∥₁_elim all (hlevel Bool-set) (λ (before, did, is). elim (cases_Bool (ended sent)) [
    | inl closed ↦ absurd ((laws.opened (b.opening s) (laws.same_opening s)).lawful.open_out before s q did wants (subst (HasEnd P) is (ended_has P laws.end sent closed)))
    | inr free ↦ free
  ])

  -- to the edge at one of its ports it put what it wrote there
  pub sent_own : AreOwn edges → (p : ℕ) → p < length edges → (h : List (Event Signal)) (s t : S) → HasOutputs s → Does P s h t → (sent : List Signal)
      → WroteAll p s sent → sent_after (edge_of edges) (edge_of edges p) sent h ≡ sent ++ writes p h
  unfolding sent_after
  sent_own own p inside [] s t has does sent all = sym (append-nil sent)
  sent_own own p inside (Reads q m ∷ h) s t has (wants, rest) sent all = sent_own own p inside h (P.read s m) t (outputs_read s q m wants has) rest sent (all_read p s sent q m wants all)
  sent_own own p inside (Writes q m ∷ h) s t has (wants, written, rest) sent all = go (sent_own own p inside h (P.wrote s) t (outputs_wrote s q wants has) rest) (cases_eq p q)
    where
      e : ℕ
      e = edge_of edges p

      go : ((sent' : List Signal) → WroteAll p (P.wrote s) sent' → sent_after (edge_of edges) (edge_of edges p) sent' h ≡ sent' ++ writes p h) →
          (p ≡ q) ⊎ (p ≡ q → ⊥) → sent_after (edge_of edges) (edge_of edges p) sent (Writes q m ∷ h) ≡ sent ++ writes p (Writes q m ∷ h)
      go more (inl same) =
          ap (λ c. sent_after (edge_of edges) (edge_of edges p) (cond c (cond (ended sent) sent (sent ++ m ∷ [])) sent) h) (eq-eqb (edge_of edges p) (edge_of edges q) (ap (edge_of edges) same))
          ∙ ap (λ c. sent_after (edge_of edges) (edge_of edges p) (cond c sent (sent ++ m ∷ [])) h) (still_open s q sent wants (subst (λ k. WroteAll k s sent) same all))
          ∙ more (sent ++ m ∷ []) (all_wrote p q s sent m same wants written all)
          ∙ append_assoc sent (m ∷ []) (writes p h)
          ∙ sym (ap (λ c. sent ++ cond c (m ∷ writes p h) (writes p h)) (eq-eqb p q same))
      go more (inr other) =
          ap (λ c. sent_after (edge_of edges) (edge_of edges p) (cond c (cond (ended sent) sent (sent ++ m ∷ [])) sent) h)
          (ne_eqb (edge_of edges p) (edge_of edges q) (λ same. other (own p q inside (output_port s q wants has) same)))
          ∙ more sent (all_other p q s sent m other wants written all)
          ∙ sym (ap (λ c. sent ++ cond c (m ∷ writes p h) (writes p h)) (ne_eqb p q other))

  -- and nothing to others
  pub sent_other : (e : ℕ) → IsAway edges e → (h : List (Event Signal)) (s t : S) → HasOutputs s → Does P s h t → (sent : List Signal) → sent_after (edge_of edges) e sent h ≡ sent
  unfolding sent_after
  sent_other e away [] s t has does sent = refl
  sent_other e away (Reads q m ∷ h) s t has (wants, rest) sent = sent_other e away h (P.read s m) t (outputs_read s q m wants has) rest sent
  sent_other e away (Writes q m ∷ h) s t has (wants, is, rest) sent =
      ap (λ c. sent_after (edge_of edges) e (cond c (cond (ended sent) sent (sent ++ m ∷ [])) sent) h) (ne_eqb e (edge_of edges q) (away q (output_port s q wants has)))
      ∙ sent_other e away h (P.wrote s) t (outputs_wrote s q wants has) rest sent
