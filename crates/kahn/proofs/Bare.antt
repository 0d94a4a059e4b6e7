-- What may come next depends on the states and on what the edges hold, and not on what was received.
use Rattle.std.proofs.Common.{◌≡◌, ℕ, ◌+◌, Option, None, List, [], ◌∷◌, ◌++◌, length, ◌⊎◌, refl, sym, ◌∙◌, ap, subst, inl, inr, arith, append_assoc, length-append}
use Rattle.std.proofs.lemmas.Bool.{cases_eq}
use Rattle.std.proofs.lemmas.List.{append_cancel_left}
use Rattle.kahn.specs.Basics.{updated, Begins}
use Rattle.kahn.specs.Processes.{Process, Event, Reads, Writes, Settles}
use Rattle.kahn.specs.Networks.{Network, IsWired}
use Rattle.kahn.specs.Configurations.{Configuration, held, Flows, IsConfigurationOf}
use Rattle.kahn.specs.Runs.{Can, next, Run, AtRest, Maximal, HasRoom}
use Rattle.kahn.proofs.Basics.{updated_at, updated_other}
use Rattle.kahn.proofs.Finite.{all_events, most_events, run_then, unbounded_run}
use Rattle.kahn.proofs.Confluence.{goes_on}

module _ {State Message : Type 0} (P : Process State Message) (net : Network State) where
  -- the same states, with nothing received yet
  abbrev pub bare : (ℕ → State) → (ℕ → List Message) → Configuration State Message
  bare state h = record { state = state; sent = h; received = λ e. [] }

  pub fits_flows : (state : ℕ → State) (h : ℕ → List Message) (c : Configuration State Message) → IsConfigurationOf state h c → Flows net c
  fits_flows state h c (same, fits) e inside = (h e, fits e)

  pub held_is : (state : ℕ → State) (h : ℕ → List Message) (c : Configuration State Message) → IsConfigurationOf state h c → (e : ℕ) → held c e ≡ length (h e)
  held_is state h c (same, fits) e = omega (arith, ap length (fits e), length-append (c.received e) (h e))

  -- the next message of the edge, and what it holds after that
  first_of_held : (state : ℕ → State) (h : ℕ → List Message) (c : Configuration State Message) → IsConfigurationOf state h c →
      (e : ℕ) (m : Message) (some : Begins (c.received e ++ m ∷ []) (c.sent e)) → m ∷ some.0 ≡ h e
  first_of_held state h c (same, fits) e m (rest, is) =
      append_cancel_left (c.received e) (m ∷ rest) (h e) (sym (append_assoc (c.received e) (m ∷ []) rest) ∙ is ∙ sym (fits e))

  module _ (limit : Option ℕ) where
    pub fits_can : (state : ℕ → State) (h : ℕ → List Message) (c d : Configuration State Message) → IsConfigurationOf state h c →
        IsConfigurationOf state h d → (a : Event Message) → Can P net limit c a → Can P net limit d a
    fits_can state h c d fits_c fits_d (Reads e m) (inside, wants, some) = (
      inside,
      ap (λ s. P.want (s (net.reader e))) (fits_d.0 ∙ sym fits_c.0) ∙ wants,
      (some.0, append_assoc (d.received e) (m ∷ []) some.0 ∙ ap (λ l. d.received e ++ l) (first_of_held state h c fits_c e m some) ∙ fits_d.1 e),
    )
    fits_can state h c d fits_c fits_d (Writes e m) (inside, wants, is, room) = (
      inside,
      ap (λ s. P.want (s (net.writer e))) (fits_d.0 ∙ sym fits_c.0) ∙ wants,
      ap (λ s. P.written (s (net.writer e))) (fits_d.0 ∙ sym fits_c.0) ∙ is,
      subst (λ n. HasRoom limit n) (held_is state h c fits_c e ∙ sym (held_is state h d fits_d e)) room,
    )

  -- what the edges hold after an event
  abbrev pub state_after : (ℕ → State) → Event Message → ℕ → State
  state_after state (Reads e m) = updated state (net.reader e) (P.read (state (net.reader e)) m)
  state_after state (Writes e m) = updated state (net.writer e) (P.wrote (state (net.writer e)))

  pub fits_read : (state : ℕ → State) (h : ℕ → List Message) (c : Configuration State Message) → IsConfigurationOf state h c →
      (e : ℕ) (m : Message) (rest : List Message) → m ∷ rest ≡ h e →
      IsConfigurationOf (state_after state (Reads e m)) (updated h e rest) (next P net c (Reads e m))
  fits_read state h c (same, fits) e m rest is =
      (ap (λ s. updated s (net.reader e) (P.read (s (net.reader e)) m)) same, λ f. go f (cases_eq f e))
    where
      go : (f : ℕ) → ((f ≡ e) ⊎ (f ≡ e → ⊥)) → updated c.received e (c.received e ++ m ∷ []) f ++ updated h e rest f ≡ c.sent f
      go f (inl at) = rw (updated_at c.received e f (c.received e ++ m ∷ []) at, updated_at h e f rest at)
          (append_assoc (c.received e) (m ∷ []) rest ∙ ap (λ l. c.received e ++ l) is ∙ fits e ∙ ap c.sent (sym at))
      go f (inr other) = rw (updated_other c.received e f (c.received e ++ m ∷ []) other, updated_other h e f rest other) (fits f)

  pub fits_write : (state : ℕ → State) (h : ℕ → List Message) (c : Configuration State Message) → IsConfigurationOf state h c → (e : ℕ) (m : Message)
      → IsConfigurationOf (state_after state (Writes e m)) (updated h e (h e ++ m ∷ [])) (next P net c (Writes e m))
  fits_write state h c (same, fits) e m =
      (ap (λ s. updated s (net.writer e) (P.wrote (s (net.writer e)))) same, λ f. go f (cases_eq f e))
    where
      go : (f : ℕ) → ((f ≡ e) ⊎ (f ≡ e → ⊥)) → c.received f ++ updated h e (h e ++ m ∷ []) f ≡ updated c.sent e (c.sent e ++ m ∷ []) f
      go f (inl at) = rw (updated_at c.sent e f (c.sent e ++ m ∷ []) at, updated_at h e f (h e ++ m ∷ []) at, at) (sym (append_assoc (c.received e) (h e) (m ∷ [])) ∙ ap (λ l. l ++ m ∷ []) (fits e))
      go f (inr other) = rw (updated_other c.sent e f (c.sent e ++ m ∷ []) other, updated_other h e f (h e ++ m ∷ []) other) (fits f)

  -- after an event two alike configurations are alike
  pub fits_next : (limit : Option ℕ) (state : ℕ → State) (h : ℕ → List Message) (c d : Configuration State Message) → IsConfigurationOf state h c →
      IsConfigurationOf state h d → (a : Event Message) → Can P net limit c a → (g : ℕ → List Message)
      × IsConfigurationOf (state_after state a) g (next P net c a) × IsConfigurationOf (state_after state a) g (next P net d a)
  fits_next limit state h c d fits_c fits_d (Reads e m) (inside, wants, some) =
      let is : m ∷ some.0 ≡ h e = first_of_held state h c fits_c e m some in
      (updated h e some.0, fits_read state h c fits_c e m some.0 is, fits_read state h d fits_d e m some.0 is)
  fits_next limit state h c d fits_c fits_d (Writes e m) can = (updated h e (h e ++ m ∷ []), fits_write state h c fits_c e m, fits_write state h d fits_d e m)

  pub fits_run : (limit : Option ℕ) (events : List (Event Message)) (state : ℕ → State) (h : ℕ → List Message) (c d r : Configuration State Message) →
      IsConfigurationOf state h c → IsConfigurationOf state h d → Run P net limit events c r → AtRest P net limit r → (q : Configuration State Message)
      × Run P net limit events d q × AtRest P net limit q
  fits_run limit [] state h c d r fits_c fits_d same rest =
      (d, refl, λ a can. rest a (subst (λ x. Can P net limit x a) same (fits_can limit state h d c fits_d fits_c a can)))
  fits_run limit (a ∷ more) state h c d r fits_c fits_d (can, run) rest =
      let after : (g : ℕ → List Message) × IsConfigurationOf (state_after state a) g (next P net c a)
      × IsConfigurationOf (state_after state a) g (next P net d a) = fits_next limit state h c d fits_c fits_d a can in
      let then : (q : Configuration State Message) × Run P net limit more (next P net d a) q × AtRest P net limit q =
      fits_run limit more (state_after state a) after.0 (next P net c a) (next P net d a) r after.1 after.2 run rest in
      (then.0, (fits_can limit state h c d fits_c fits_d a can, then.1), then.2)

  module _ (wired : IsWired net) (settles : Settles P) where
    -- how many events are still to come where the nodes have these states and the edges hold these
    -- messages, if nothing bounds the edges: a measure
    pub to_come : (ℕ → State) → (ℕ → List Message) → ℕ
    to_come state h = most_events P net wired settles (bare state h) (λ e inside. (h e, refl))

    pub to_come_is : (state : ℕ → State) (h : ℕ → List Message) (c : Configuration State Message) (fits : IsConfigurationOf state h c)
        (events : List (Event Message)) (r : Configuration State Message) → Run P net None events c r → AtRest P net None r → to_come state h
        ≡ length events
    unfolding to_come most_events
    to_come_is state h c fits events r run rest =
        let all : (more : List (Event Message)) × (end : Configuration State Message) × Maximal P net None more (bare state h) end =
        all_events P net wired settles (bare state h) (λ e inside. (h e, refl)) in
        let other : (q : Configuration State Message) × Run P net None all.0 c q × AtRest P net None q =
        fits_run None all.0 state h (bare state h) c all.1 (refl, λ e. refl) fits all.2.run all.2.rest in
        let a : (left : List (Event Message)) × Run P net None left other.0 r × (length events ≡ length all.0 + length left) = goes_on P net wired None all.0 events c other.0 r run rest other.1 in
        let b : (left : List (Event Message)) × Run P net None left r other.0 × (length all.0 ≡ length events + length left) = goes_on P net wired None events all.0 c r other.0 other.1 other.2 run in
        omega (arith, a.2, b.2)

    -- the measure falls by one at each event
    pub to_come_falls : (limit : Option ℕ) (state state' : ℕ → State) (h h' : ℕ → List Message) (c d : Configuration State Message) →
        IsConfigurationOf state h c → IsConfigurationOf state' h' d → (events : List (Event Message)) → Run P net limit events c d → to_come state h
        ≡ length events + to_come state' h'
    to_come_falls limit state state' h h' c d fits_c fits_d events run =
        let all : (more : List (Event Message)) × (end : Configuration State Message) × Maximal P net None more d end = all_events P net wired settles d (fits_flows state' h' d fits_d) in
        let whole : Run P net None (events ++ all.0) c all.1 = run_then P net None events all.0 c d all.1 (unbounded_run P net limit events c d run) all.2.run in
        omega (arith, to_come_is state h c fits_c (events ++ all.0) all.1 whole all.2.rest, to_come_is state' h' d fits_d all.0 all.1 all.2.run all.2.rest, length-append events all.0)
