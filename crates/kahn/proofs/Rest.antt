-- At rest either every node has ended, or some node has faulted, or some edge is full.
use Rattle.std.proofs.Common.{◌≡◌, ℕ, zero, suc, ◌<◌, ◌≤◌, Some, List, [], ◌∷◌, ◌++◌, ◌⊎◌, refl, sym, ◌∙◌, ap, subst, inl, inr, arith, append-nil, append_assoc}
use Rattle.std.proofs.lemmas.Bool.{cases_eq, cases_lt}
use Rattle.kahn.specs.declared.want.Want.{Want}
use Rattle.kahn.specs.declared.want.Want.TheVariants.{Read, Write, Ended, Faulted}
use Rattle.kahn.specs.Processes.{Process, Reads, Writes, reads, writes, HasEnd}
use Rattle.kahn.specs.Networks.{Network, IsWired, AllLawful}
use Rattle.kahn.specs.Configurations.{Configuration, held, IsReached, IsSound, IsBlocked, IsLeastBlocked, NoneFaulted, AllEnded}
use Rattle.kahn.specs.Runs.{AtRest}
use Rattle.kahn.proofs.Search.{search_below}
use Rattle.kahn.proofs.Finite.{is_write}

module _ {State Message : Type 0} (P : Process State Message) (net : Network State) (capacity : ℕ) (c : Configuration State Message) where
  decide_blocked : (e : ℕ) → e < net.edges → IsBlocked P net capacity c e ⊎ (IsBlocked P net capacity c e → ⊥)
  decide_blocked e inside = go (is_write (P.want (c.state (net.writer e))) (net.writer_port e)) (cases_lt (held c e) capacity)
    where
      go : (P.want (c.state (net.writer e)) ≡ Write (net.writer_port e)) ⊎ (P.want (c.state (net.writer e)) ≡ Write (net.writer_port e) → ⊥) →
          (held c e < capacity) ⊎ (capacity ≤ held c e) → IsBlocked P net capacity c e ⊎ (IsBlocked P net capacity c e → ⊥)
      go (inr other) room = inr (λ h. other h.0)
      go (inl wants) (inl room) = inr (λ h. absurd (omega (arith, h.1)))
      go (inl wants) (inr full) = inl (wants, full)

  module _ (wired : IsWired net) (lawful : AllLawful P net) (sound : IsSound P net c) (rest : AtRest P net (Some capacity) c)
      (fine : NoneFaulted P net c) (none : (e : ℕ) → e < net.edges → IsBlocked P net capacity c e → ⊥) where
    -- a node whose writers have all ended has ended
    ended_next : (k : ℕ) → k < net.nodes → ((j : ℕ) → j < k → P.want (c.state j) ≡ Ended) → P.want (c.state k) ≡ Ended
    ended_next k inside before = go (P.want (c.state k)) refl
      where
        no_message : (e p : ℕ) → e < net.edges → net.reader e ≡ k → net.reader_port e ≡ p → P.want (c.state k) ≡ Read p → (rest_of : List Message) →
            c.received e ++ rest_of ≡ c.sent e → c.received e ≡ c.sent e
        no_message e p inside_e at port wants [] same = sym (append-nil (c.received e)) ∙ same
        no_message e p inside_e at port wants (m ∷ more) same =
            absurd (rest (Reads e m) (inside_e, ap (λ x. P.want (c.state x)) at ∙ wants ∙ ap Read (sym port), (more, append_assoc (c.received e) (m ∷ []) more ∙ same)))

        reader_waits : (p : ℕ) → P.want (c.state k) ≡ Read p → (e : ℕ) → (e < net.edges) × (net.reader e ≡ k) × (net.reader_port e ≡ p) → ⊥
        reader_waits p wants e (inside_e, at, port) =
            let before_e : net.writer e < net.reader e = wired.forward e inside_e in
            let early : net.writer e < k = omega arith in
            let inside_w : net.writer e < net.nodes = omega arith in
            let w : IsReached P net c (net.writer e) = sound.reached (net.writer e) inside_w in
            let r : IsReached P net c k = sound.reached k inside in
            let out : HasEnd P (writes (net.writer_port e) w.history) =
            (lawful (net.writer e) inside_w).all_out w.history (c.state (net.writer e)) (net.writer_port e) w.does (before (net.writer e) early)
            (wired.writer_out e inside_e) in
            let same : c.received e ≡ c.sent e = no_message e p inside_e at port wants (sound.flows e inside_e).0 (sound.flows e inside_e).1 in
            let lists : writes (net.writer_port e) w.history ≡ reads p r.history = sym (w.sent e inside_e refl) ∙ sym same ∙ r.received e inside_e at ∙ ap (λ x. reads x r.history) port in
            (lawful k inside).open_in r.history (c.state k) p r.does wants (subst (λ l. HasEnd P l) lists out)

        writer_waits : (p : ℕ) → P.want (c.state k) ≡ Write p → (e : ℕ) → (e < net.edges) × (net.writer e ≡ k) × (net.writer_port e ≡ p) → ⊥
        writer_waits p wants e (inside_e, at, port) =
            let wants_e : P.want (c.state (net.writer e)) ≡ Write (net.writer_port e) = ap (λ x. P.want (c.state x)) at ∙ wants ∙ ap Write (sym port) in
            full wants_e (cases_lt (held c e) capacity)
          where
            full : P.want (c.state (net.writer e)) ≡ Write (net.writer_port e) → (held c e < capacity) ⊎ (capacity ≤ held c e) → ⊥
            full wants_e (inl room) = rest (Writes e (P.written (c.state (net.writer e)))) (inside_e, wants_e, refl, room)
            full wants_e (inr full_e) = none e inside_e (wants_e, full_e)

        go : (w : Want) → P.want (c.state k) ≡ w → P.want (c.state k) ≡ Ended
        go (Read p) is = absurd
            (reader_waits p is (net.in_edge k p)
            (wired.in_edge k p inside ((lawful k inside).in_port (sound.reached k inside).history (c.state k) p (sound.reached k inside).does is)))
        go (Write p) is = absurd
            (writer_waits p is (net.out_edge k p)
            (wired.out_edge k p inside ((lawful k inside).out_port (sound.reached k inside).history (c.state k) p (sound.reached k inside).does is)))
        go Ended is = is
        go (Faulted f) is = absurd (fine k inside f is)

    ended_below : (n k : ℕ) → k < n → n ≤ net.nodes → P.want (c.state k) ≡ Ended
    ended_below zero k l h = absurd (omega arith)
    ended_below (suc n) k l h = go (ended_below n) (cases_eq k n)
      where
        go : ((j : ℕ) → j < n → n ≤ net.nodes → P.want (c.state j) ≡ Ended) → ((k ≡ n) ⊎ (k ≡ n → ⊥)) → P.want (c.state k) ≡ Ended
        go below (inl e) = rw e (ended_next n (omega arith) (λ j l. below j l (omega arith)))
        go below (inr ne) = below k (omega arith) (omega arith)

  -- at rest with no fault every node has ended, or a full edge keeps its writer waiting: the least such
  pub stalled_or_ended : IsWired net → AllLawful P net → IsSound P net c → AtRest P net (Some capacity) c → NoneFaulted P net c → AllEnded P net c ⊎ ((e : ℕ) × IsLeastBlocked P net capacity c e)
  stalled_or_ended wired lawful sound rest fine = go (search_below (IsBlocked P net capacity c) net.edges decide_blocked)
    where
      go : ((e : ℕ) × (e < net.edges) × IsBlocked P net capacity c e × ((f : ℕ) → f < e → IsBlocked P net capacity c f → ⊥)) ⊎
          ((e : ℕ) → e < net.edges → IsBlocked P net capacity c e → ⊥) → AllEnded P net c ⊎ ((e : ℕ) × IsLeastBlocked P net capacity c e)
      go (inl (e, inside, blocked, least)) = inr (e, (inside, blocked, least))
      go (inr none) = inl (λ k inside. ended_below wired lawful sound rest fine none net.nodes k inside (omega arith))
