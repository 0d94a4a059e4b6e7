-- Soundness from the parts that shares keep.
use Rattle.std.proofs.Common.{◌≡◌, ℕ, zero, suc, ◌<◌, ◌⊎◌, sym, ◌∙◌, subst, inl, inr, arith}
use Rattle.std.proofs.lemmas.Bool.{cases_eq}
use mathlib.Core.Logic.{∥∥₁_map, ∥∥₁_elim, ∥∥₁_prop}
use Rattle.kahn.specs.Processes.{Process}
use Rattle.kahn.specs.Networks.{Network}
use Rattle.kahn.specs.Configurations.{Configuration, Flows, IsReached, IsSound}

-- finitely many choices at once
pub all_below : (Q : ℕ → Type 0) (n : ℕ) → ((k : ℕ) → k < n → ∥ Q k ∥₁) → ∥ ((k : ℕ) → k < n → Q k) ∥₁
all_below Q zero each = ∣ (λ k l. absurd (omega arith)) ∣₁
all_below Q (suc n) each =
    ∥∥₁_elim (all_below Q n (λ k l. each k (omega arith))) ∥∥₁_prop (λ below. ∥∥₁_map (each n (omega arith)) (λ here k l. at below here k l (cases_eq k n)))
  where
    at : ((k : ℕ) → k < n → Q k) → Q n → (k : ℕ) → k < suc n → ((k ≡ n) ⊎ (k ≡ n → ⊥)) → Q k
    at below here k l (inl e) = subst Q (sym e) here
    at below here k l (inr ne) = below k (omega arith)

module _ {State Message : Type 0} (P : Process State Message) (net : Network State) where
  -- each node's part, kept as a bare fact, and what a meeting shows of the edges
  pub sound_from : (c : Configuration State Message) → ((k : ℕ) → k < net.nodes → ∥ IsReached P net c k ∥₁) → Flows net c → ∥ IsSound P net c ∥₁
  sound_from c each flows = ∥∥₁_map (all_below (IsReached P net c) net.nodes each) (λ reached. record { reached = reached; flows = flows })

  -- a node's part speaks of its own state and of the lists of its own ends alone
  pub reached_own : (c d : Configuration State Message) (k : ℕ) → IsReached P net c k → d.state k ≡ c.state k →
      ((e : ℕ) → e < net.edges → net.reader e ≡ k → d.received e ≡ c.received e) → ((e : ℕ) → e < net.edges → net.writer e ≡ k → d.sent e ≡ c.sent e) →
      IsReached P net d k
  reached_own c d k r state received sent =
      record {
        history = r.history;
        does = rw state r.does;
        received = λ e inside at. received e inside at ∙ r.received e inside at;
        sent = λ e inside at. sent e inside at ∙ r.sent e inside at;
      }
