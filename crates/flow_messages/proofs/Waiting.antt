-- What follows where both ends of each edge are seen.
use Rattle.std.proofs.Common.{◌≡◌, ℕ, ◌+◌, ◌-◌, ◌<◌, ◌≤◌, ◌↔◌, true, List, [], ◌∷◌, ◌++◌, length, drop, refl, ap, sym, ◌∙◌, arith, append_assoc, append-nil, length-append}
use Rattle.std.proofs.lemmas.List.{drop-append-le}
use Rattle.std.proofs.Math.Seq.{drop-append_seam}
use mathlib.Core.List.{IsPrefix}
use Rattle.flow_messages.specs.Signals.{Signal, carry, stop, orderly}
use Rattle.flow_messages.specs.Ends.{View, held, Put, Taken}
use Rattle.flow_messages.specs.Whole.{IsWhole, waiting}

no_items : {X : Type 0} (xs : List X) → length xs ≡ 0 → xs ≡ []
no_items [] h = refl
no_items (x ∷ xs) h = absurd (omega arith)

module _ (capacity : ℕ) (v : View) (e : ℕ) (whole : IsWhole capacity v) where
  -- what was received and what waits are together as long as what was sent
  pub waits-length : length (v.received e) + length (waiting v e) ≡ length (v.sent e)
  waits-length = sym (length-append (v.received e) (waiting v e)) ∙ ap length (whole.in_order e)

  pub held-count : held v e ≡ length (v.sent e) - length (v.received e)
  held-count = omega (arith, waits-length, ap length (whole.coming e))

  pub room-count : v.writes e ≡ true → (0 < v.room e) ↔ (length (v.sent e) - length (v.received e) < capacity)
  room-count there =
      let sum : v.room e + held v e ≡ capacity = whole.room e there in
      let count : held v e ≡ length (v.sent e) - length (v.received e) = held-count in
      (λ more. omega arith, λ less. omega arith)

  pub none-waits : held v e ≡ 0 → v.received e ≡ v.sent e
  none-waits none =
      let r = v.received e in
      let empty : waiting v e ≡ [] = no_items (waiting v e) (omega (arith, ap length (whole.coming e))) in
      sym (append-nil r) ∙ ap (λ (w : List Signal). r ++ w) (sym empty) ∙ whole.in_order e

module _ (capacity : ℕ) (a b : View) (e : ℕ) (m : Signal) where
  pub put-waits : IsWhole capacity a → Put a e m b → waiting b e ≡ waiting a e ++ m ∷ []
  put-waits whole put =
      let low : length (a.received e) ≤ length (a.sent e) = omega (arith, waits-length capacity a e whole) in
      ap (λ (r : List Signal). drop (length r) (b.sent e)) (put.received e)
      ∙ ap (drop (length (a.received e))) put.sent
      ∙ drop-append-le (length (a.received e)) (a.sent e) (m ∷ []) low

  pub put-room : IsWhole capacity a → IsWhole capacity b → Put a e m b → a.writes e ≡ true → 0 < a.room e
  put-room whole whole' put there =
      let longer : length (waiting b e) ≡ length (waiting a e) + 1 = ap length (put-waits whole put) ∙ length-append (waiting a e) (m ∷ []) in
      omega (arith, whole.room e there, whole'.room e (put.ends.writes e ∙ there), ap length (whole.coming e), ap length (whole'.coming e))

  pub taken-begins : IsWhole capacity b → Taken a e m b → (a.received e ++ m ∷ []) ++ waiting b e ≡ a.sent e
  taken-begins whole taken =
      ap (λ (r : List Signal). r ++ waiting b e) (sym taken.received) ∙ whole.in_order e ∙ taken.sent e

  pub taken-waits : IsWhole capacity b → Taken a e m b → waiting a e ≡ m ∷ waiting b e
  taken-waits whole taken =
      ap (drop (length (a.received e))) (sym (taken-begins whole taken) ∙ append_assoc (a.received e) (m ∷ []) (waiting b e))
      ∙ drop-append_seam (a.received e) (m ∷ waiting b e)

-- of a list that begins m ∷ after: it is m and a prefix of `after`, if it is anything
pub first-certain : (m : Signal) (before after : List Signal) → 0 < length before → IsPrefix before (m ∷ after) → IsPrefix (m ∷ []) before
first-certain m [] after some begins = absurd (omega (arith, some))
first-certain m (n ∷ before) after some (rest, is) = let same : m ≡ n = cc in (before, ap (λ (x : Signal). x ∷ before) same)

pub others-certain : (m : Signal) (before after : List Signal) → IsPrefix before (m ∷ after) → IsPrefix (drop 1 before) after
others-certain m [] after begins = (after, refl)
others-certain m (n ∷ before) after (rest, is) = (rest, cc)

-- in an orderly list nothing stands after a stop
pub nothing-behind : (before after : List Signal) → orderly (before ++ stop ∷ after) ≡ true → after ≡ []
unfolding orderly
nothing-behind [] [] h = refl
nothing-behind [] (m ∷ after) h = cc
nothing-behind (carry x ∷ before) after h = nothing-behind before after h
nothing-behind (stop ∷ []) after h = cc
nothing-behind (stop ∷ m ∷ before) after h = cc
