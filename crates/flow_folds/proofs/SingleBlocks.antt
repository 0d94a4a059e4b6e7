-- Blocks of workers that read port 0 and write port 0, or nothing.
use Rattle.std.proofs.Common.{◌≡◌, ℕ, ◌+◌, ◌<◌, ◌≤◌, Bool, true, false, cond, eqb, List, [], ◌∷◌, ◌++◌, length, refl, sym, ap, arith, length-append}
use mathlib.Core.List.{IsPrefix}
use Rattle.kahn.specs.declared.want.Want.TheVariants.{Read, Write}
use Rattle.flow_messages.specs.Cells.{Cell}
use Rattle.flow_messages.specs.Signals.{Signal, carry, ended}
use Rattle.flow_messages.specs.Ends.{View, TakenAll, PutAll}
use Rattle.flow_base.specs.Transducers.{Behaviour}
use Rattle.flow_base.specs.Visits.{edge_of, Went}
use Rattle.flow_base.proofs.Batches.{Batch, block_then, batch_none, batch_read, batch_write, batch_then, batch_as, shifted_none, shifted_skip, shifted_put, went_batch}

-- no message on any edge
abbrev no_messages : List Signal
no_messages = []

pub block_none : (b : Bool) → cond b no_messages no_messages ≡ no_messages
block_none true = refl
block_none false = refl

-- what is shown is certain
pub shown_certain : (k : ℕ) (ms c : List Signal) → IsPrefix ms c → k ≤ length ms → k ≤ length c
shown_certain k ms c (more, is) within = omega (arith, within, length-append ms more, ap length is)

module _ (inputs outputs : List ℕ) {S : Type 0} (b : Behaviour S) where
  -- a block of port 0, which nothing is written for
  abbrev pub Swallows : S → S → List Signal → ℕ → Type 0
  Swallows s t xs n = Batch inputs outputs b s t (λ e. cond (eqb e (edge_of inputs 0)) xs []) (λ e. []) n

  pub swallows_none : (s : S) → Swallows s s [] 0
  swallows_none s = batch_as inputs outputs b (batch_none inputs outputs b s) _ _ (λ e. sym (block_none (eqb e (edge_of inputs 0)))) (λ e. refl)

  pub swallows_one : (s t : S) (m : Signal) → b.process.want s ≡ Read 0 → t ≡ b.process.read s m → Swallows s t (m ∷ []) 1
  swallows_one s t m wants is = batch_as inputs outputs b (batch_read inputs outputs b (batch_none inputs outputs b s) 0 m t wants is) _ _ (λ e. refl) (λ e. refl)

  pub swallows_more : {s t u : S} {n k : ℕ} (xs ys : List Signal) → Swallows s t xs n → Swallows t u ys k → Swallows s u (xs ++ ys) (n + k)
  swallows_more xs ys first next = batch_as inputs outputs b (batch_then inputs outputs b first next) _ _ (λ e. block_then (eqb e (edge_of inputs 0)) xs ys) (λ e. refl)

  pub swallows_went : {s t u : S} {a v : View} {n k : ℕ} (xs : List Signal) → 0 < length inputs → Went inputs outputs b s a t v n → Swallows t u xs k
      → 0 < k → (w : View) → TakenAll v (edge_of inputs 0) xs w → Went inputs outputs b s a u w (n + k)
  swallows_went {v = v} xs one went rounds some w taken = went_batch inputs outputs b went rounds some w (shifted_skip inputs outputs (shifted_none inputs outputs v) 0 xs w one taken)

  -- a block of port 0 to a block of port 0
  abbrev pub Singles : S → S → List Signal → List Signal → ℕ → Type 0
  Singles s t xs zs n = Batch inputs outputs b s t (λ e. cond (eqb e (edge_of inputs 0)) xs []) (λ e. cond (eqb e (edge_of outputs 0)) zs []) n

  pub singles_none : (s : S) → Singles s s [] [] 0
  singles_none s = batch_as inputs outputs b (batch_none inputs outputs b s) _ _ (λ e. sym (block_none (eqb e (edge_of inputs 0)))) (λ e. sym (block_none (eqb e (edge_of outputs 0))))

  pub singles_read : (s t : S) (m : Signal) → b.process.want s ≡ Read 0 → t ≡ b.process.read s m → Singles s t (m ∷ []) [] 1
  singles_read s t m wants is =
      batch_as inputs outputs b (batch_read inputs outputs b (batch_none inputs outputs b s) 0 m t wants is) _ _ (λ e. refl)
      (λ e. sym (block_none (eqb e (edge_of outputs 0))))

  pub singles_one : (s t u : S) (m : Signal) (x : Cell) → b.process.want s ≡ Read 0 → t ≡ b.process.read s m → b.process.want t ≡ Write 0 → carry x
      ≡ b.process.written t → u ≡ b.process.wrote t → Singles s u (m ∷ []) (carry x ∷ []) 2
  singles_one s t u m x wants is wants_then told is_then =
      batch_as inputs outputs b
      (batch_write inputs outputs b (batch_read inputs outputs b (batch_none inputs outputs b s) 0 m t wants is) 0 x u wants_then told is_then) _ _
      (λ e. refl) (λ e. refl)

  pub singles_more : {s t u : S} {n k : ℕ} (xs zs ys ws : List Signal) → Singles s t xs zs n → Singles t u ys ws k → Singles s u (xs ++ ys) (zs ++ ws) (n + k)
  singles_more xs zs ys ws first next =
      batch_as inputs outputs b (batch_then inputs outputs b first next) _ _ (λ e. block_then (eqb e (edge_of inputs 0)) xs ys)
      (λ e. block_then (eqb e (edge_of outputs 0)) zs ws)

  pub singles_went : {s t u : S} {a v : View} {n k : ℕ} (xs zs : List Signal) → 0 < length inputs → 0 < length outputs →
      Went inputs outputs b s a t v n → Singles t u xs zs k → 0 < k → ended zs ≡ false → (w x : View) → TakenAll v (edge_of inputs 0) xs w →
      PutAll w (edge_of outputs 0) zs x → Went inputs outputs b s a u x (n + k)
  singles_went {v = v} xs zs one out went rounds some free w x taken put =
      went_batch inputs outputs b went rounds some x
      (shifted_put inputs outputs (shifted_skip inputs outputs (shifted_none inputs outputs v) 0 xs w one taken) 0 zs x out free put)
