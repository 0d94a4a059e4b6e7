-- What was taken from an edge, one put or one take later.
use Rattle.std.proofs.Common.{◌≡◌, ℕ, ◌+◌, ◌-◌, false, List, ◌++◌, length, take, sym, ap, ◌∙◌, arith, append_assoc, length-append}
use Rattle.std.proofs.Math.Seq.{take-append_seam}
use Rattle.std.specs.Io.Iter.{u64_saturate}
use Rattle.flow_messages.specs.declared.message.Msg.{Msg}
use Rattle.flow_messages.specs.Lines.{gone}
use Rattle.flow_messages.specs.Signals.{signals, ended, has_end}
use Rattle.flow_messages.proofs.Signals.{ended-rest}

-- what stands before those that are held is what is gone
pub gone_is : {X : Type 0} (r c s : List X) → r ++ c ≡ s → gone s c ≡ r
gone_is r c s is =
    let count : length s - length c ≡ length r = omega (arith, ap length is, length-append r c) in
    ap (λ n. take n s) count ∙ ap (take (length r)) (sym is) ∙ take-append_seam r c

module _ {X : Type 0} (s c : List X) (fifo : gone s c ++ c ≡ s) where
  in_order : (ms : List X) → gone s c ++ (c ++ ms) ≡ s ++ ms
  in_order ms = sym (append_assoc (gone s c) c ms) ∙ ap (λ l. l ++ ms) fifo

  -- what was put is held
  pub gone_put : (ms : List X) → gone (s ++ ms) (c ++ ms) ≡ gone s c
  gone_put ms = gone_is (gone s c) (c ++ ms) (s ++ ms) (in_order ms)

  pub fifo_put : (ms : List X) → gone (s ++ ms) (c ++ ms) ++ (c ++ ms) ≡ s ++ ms
  fifo_put ms = ap (λ l. l ++ (c ++ ms)) (gone_put ms) ∙ in_order ms

  -- what was taken is gone
  pub gone_rest : (xs rest : List X) → c ≡ xs ++ rest → gone s rest ≡ gone s c ++ xs
  gone_rest xs rest is = gone_is (gone s c ++ xs) rest s (append_assoc (gone s c) xs rest ∙ ap (λ l. gone s c ++ l) (sym is) ∙ fifo)

  pub fifo_rest : (xs rest : List X) → c ≡ xs ++ rest → gone s rest ++ rest ≡ s
  fifo_rest xs rest is = ap (λ l. l ++ rest) (gone_rest xs rest is) ∙ append_assoc (gone s c) xs rest ∙ ap (λ l. gone s c ++ l) (sym is) ∙ fifo

  pub count_put : (ms : List X) (n : ℕ) → n ≡ u64_saturate (length (gone s c)) → n ≡ u64_saturate (length (gone (s ++ ms) (c ++ ms)))
  count_put ms n is = is ∙ ap (λ l. u64_saturate (length l)) (sym (gone_put ms))

  pub count_rest : (xs rest : List X) (n k m : ℕ) → c ≡ xs ++ rest → n ≡ u64_saturate (length (gone s c)) → length xs ≡ k → m ≡ u64_saturate (n + k) → m ≡ u64_saturate (length (gone s rest))
  count_rest xs rest n k m is counts size sum = omega (arith, ap length (gone_rest xs rest is), length-append (gone s c) xs)

  pub sent_length : length (gone s c) + length c ≡ length s
  sent_length = sym (length-append (gone s c) c) ∙ ap length fifo

-- what is held has no stop where none was sent
pub open_held : (s c : List Msg) → gone s c ++ c ≡ s → ended (signals s) ≡ false → has_end c ≡ false
open_held s c fifo free = ended-rest (gone s c) c (ap (λ l. ended (signals l)) fifo ∙ free)
