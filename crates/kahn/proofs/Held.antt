-- One turn of a node, by what the edges hold.
use Rattle.std.proofs.Common.{◌≡◌, ℕ, ◌<◌, Option, true, false, List, [], ◌∷◌, ◌++◌, length, ◌⊎◌, refl, sym, ◌∙◌, ap, subst, inl, inr, arith, append-nil, append_assoc}
use Rattle.std.proofs.lemmas.Bool.{cases_eq}
use Rattle.kahn.specs.declared.want.Want.TheVariants.{Read, Write}
use Rattle.kahn.specs.Basics.{updated}
use Rattle.kahn.specs.Processes.{Process, Event, Reads, Writes, Settles}
use Rattle.kahn.specs.Networks.{Network, IsWired, actor}
use Rattle.kahn.specs.Configurations.{Configuration, IsConfigurationOf}
use Rattle.kahn.specs.Runs.{Can, next, HasRoom}
use Rattle.kahn.specs.Turns.{Turn, IsSwept}
use Rattle.kahn.proofs.Basics.{updated_at, updated_other}
use Rattle.kahn.proofs.Traffic.{moved_run}
use Rattle.kahn.proofs.Turns.{nothing_held, no_room}
use Rattle.kahn.proofs.Bare.{fits_read, fits_write, held_is, to_come, to_come_falls}

-- a function that changed at one number only
pub updated_from : {X : Type 0} (f g : ℕ → X) (e : ℕ) → ((i : ℕ) → (i ≡ e → ⊥) → g i ≡ f i) → g ≡ updated f e (g e)
updated_from f g e same = λ t i. each i t
  where
    each : (i : ℕ) → g i ≡ updated f e (g e) i
    each i = go (cases_eq i e)
      where
        go : ((i ≡ e) ⊎ (i ≡ e → ⊥)) → g i ≡ updated f e (g e) i
        go (inl at) = ap g at ∙ sym (updated_at f e i (g e) at)
        go (inr other) = same i other ∙ sym (updated_other f e i (g e) other)

-- and one that did not change there either
pub same_from : {X : Type 0} (f g : ℕ → X) (e : ℕ) → g e ≡ f e → ((i : ℕ) → (i ≡ e → ⊥) → g i ≡ f i) → g ≡ f
same_from f g e here same = λ t i. each i t
  where
    each : (i : ℕ) → g i ≡ f i
    each i = go (cases_eq i e)
      where
        go : ((i ≡ e) ⊎ (i ≡ e → ⊥)) → g i ≡ f i
        go (inl at) = ap g at ∙ here ∙ ap f (sym at)
        go (inr other) = same i other

module _ {State Message : Type 0} (P : Process State Message) (net : Network State) (wired : IsWired net) (limit : Option ℕ) (state : ℕ → State)
    (h : ℕ → List Message) (c : Configuration State Message) (fits : IsConfigurationOf state h c) (k : ℕ) where
  -- a turn in which nothing happens
  pub turn_same : (h' : ℕ → List Message) → h' ≡ h → ((a : Event Message) → actor net a ≡ k → Can P net limit c a → ⊥) →
      (d : Configuration State Message) × IsConfigurationOf state h' d × Turn P net limit k c d false
  turn_same h' same none = (c, (fits.0, λ e. ap (λ f. c.received e ++ f e) same ∙ fits.1 e), (refl, none))

  -- a node with no edge for what it wants
  pub turn_idle : (h' : ℕ → List Message) → h' ≡ h →
      ((p e : ℕ) → P.want (state k) ≡ Read p → e < net.edges → net.reader e ≡ k → net.reader_port e ≡ p → ⊥) →
      ((p e : ℕ) → P.want (state k) ≡ Write p → e < net.edges → net.writer e ≡ k → net.writer_port e ≡ p → ⊥) → (d : Configuration State Message)
      × IsConfigurationOf state h' d × Turn P net limit k c d false
  turn_idle h' same no_input no_output = turn_same h' same none
    where
      none : (a : Event Message) → actor net a ≡ k → Can P net limit c a → ⊥
      none (Reads e m) at (inside, wants, some) = no_input (net.reader_port e) e (ap (λ s. P.want (s k)) (sym fits.0) ∙ ap (λ x. P.want (c.state x)) (sym at) ∙ wants) inside at refl
      none (Writes e m) at (inside, wants, is, room) = no_output (net.writer_port e) e (ap (λ s. P.want (s k)) (sym fits.0) ∙ ap (λ x. P.want (c.state x)) (sym at) ∙ wants) inside at refl

  module _ (e : ℕ) (inside : e < net.edges) where
    pub turn_none : net.reader e ≡ k → P.want (state k) ≡ Read (net.reader_port e) → h e ≡ [] → (h' : ℕ → List Message) → h' ≡ h →
        (d : Configuration State Message) × IsConfigurationOf state h' d × Turn P net limit k c d false
    turn_none at wants none h' same =
        turn_same h' same (nothing_held P net wired limit c k e inside at (ap (λ s. P.want (s k)) fits.0 ∙ wants) (sym (append-nil (c.received e)) ∙ ap (λ l. c.received e ++ l) (sym none) ∙ fits.1 e))

    pub turn_full : net.writer e ≡ k → P.want (state k) ≡ Write (net.writer_port e) → (HasRoom limit (length (h e)) → ⊥) → (h' : ℕ → List Message) →
        h' ≡ h → (d : Configuration State Message) × IsConfigurationOf state h' d × Turn P net limit k c d false
    turn_full at wants full h' same =
        turn_same h' same (no_room P net wired limit c k e inside at (ap (λ s. P.want (s k)) fits.0 ∙ wants) (λ room. full (subst (λ n. HasRoom limit n) (held_is P net state h c fits e) room)))

    pub turn_read : net.reader e ≡ k → P.want (state k) ≡ Read (net.reader_port e) → (m : Message) (h' : ℕ → List Message) → h e ≡ m ∷ h' e →
        ((f : ℕ) → (f ≡ e → ⊥) → h' f ≡ h f) → (state' : ℕ → State) → state' ≡ updated state k (P.read (state k) m) → (d : Configuration State Message)
        × IsConfigurationOf state' h' d × Turn P net limit k c d true
    turn_read at wants m h' taken others state' is =
        let after : IsConfigurationOf (updated state (net.reader e) (P.read (state (net.reader e)) m)) (updated h e (h' e)) (next P net c (Reads e m))
        = fits_read P net state h c fits e m (h' e) (sym taken) in (
          next P net c (Reads e m),
          (after.0 ∙ ap (λ x. updated state x (P.read (state x) m)) at ∙ sym is, λ f. ap (λ x. (next P net c (Reads e m)).received f ++ x f) (updated_from h h' e others) ∙ after.1 f),
          (
            Reads e m,
            at,
            (
              inside,
              ap (λ s. P.want (s (net.reader e))) fits.0 ∙ ap (λ x. P.want (state x)) at ∙ wants,
              (h' e, append_assoc (c.received e) (m ∷ []) (h' e) ∙ ap (λ l. c.received e ++ l) (sym taken) ∙ fits.1 e),
            ),
            refl,
          ),
        )

    pub turn_write : net.writer e ≡ k → P.want (state k) ≡ Write (net.writer_port e) → HasRoom limit (length (h e)) → (m : Message) → m
        ≡ P.written (state k) → (h' : ℕ → List Message) → h' e ≡ h e ++ m ∷ [] → ((f : ℕ) → (f ≡ e → ⊥) → h' f ≡ h f) → (state' : ℕ → State) → state'
        ≡ updated state k (P.wrote (state k)) → (d : Configuration State Message) × IsConfigurationOf state' h' d × Turn P net limit k c d true
    turn_write at wants room m is_m h' put others state' is =
        let after : IsConfigurationOf (updated state (net.writer e) (P.wrote (state (net.writer e)))) (updated h e (h e ++ m ∷ []))
        (next P net c (Writes e m)) = fits_write P net state h c fits e m in (
          next P net c (Writes e m),
          (after.0 ∙ ap (λ x. updated state x (P.wrote (state x))) at ∙ sym is, λ f. ap (λ x. c.received f ++ x f) (updated_from h h' e others ∙ ap (λ l. updated h e l) put) ∙ after.1 f),
          (
            Writes e m,
            at,
            (
              inside,
              ap (λ s. P.want (s (net.writer e))) fits.0 ∙ ap (λ x. P.want (state x)) at ∙ wants,
              ap (λ s. P.written (s (net.writer e))) fits.0 ∙ ap (λ x. P.written (state x)) at ∙ sym is_m,
              subst (λ n. HasRoom limit n) (sym (held_is P net state h c fits e)) room,
            ),
            refl,
          ),
        )

-- the measure falls in a pass that made a step
pub sweep_falls : {State Message : Type 0} (P : Process State Message) (net : Network State) (wired : IsWired net) (settles : Settles P)
    (limit : Option ℕ) (k : ℕ) (state state' : ℕ → State) (h h' : ℕ → List Message) (c d : Configuration State Message) → IsConfigurationOf state h c
    → IsConfigurationOf state' h' d → IsSwept P net limit k c d true → to_come P net wired settles state' h' < to_come P net wired settles state h
sweep_falls P net wired settles limit k state state' h h' c d fits_c fits_d s =
    omega (arith, to_come_falls P net wired settles limit state state' h h' c d fits_c fits_d s.reaches.0 s.reaches.1, s.busy refl, moved_run P net limit s.reaches.0 c d s.reaches.1)
