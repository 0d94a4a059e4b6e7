use Rattle.std.proofs.Common.{◌≡◌, ◌⊎◌, ℕ, ◌+◌, ◌<◌, ◌≤◌, List, [], ◌∷◌, ◌++◌, length, get_or, inl, inr, ap, ◌∙◌, arith}
use Rattle.std.proofs.lemmas.Bool.{cases_lt}
use Rattle.std.proofs.lemmas.List.{get_or_push, get_or_append_left}
use Rattle.flow_networks.proofs.Refused.{nothing_made}
use Rattle.flow_networks.proofs.serial.numbers_below.Goals as goal

-- with one more, number k stands at k
one_more : (xs ys : List ℕ) (n : ℕ) → ys ≡ xs ++ n ∷ [] → length xs ≡ n → ((k d : ℕ) → k < n → get_or xs k d ≡ k) → (k d : ℕ) → k < n + 1 → get_or ys k d ≡ k
one_more xs ys n is count each k d below = ap (λ zs. get_or zs k d) is ∙ cases (cases_lt k n) where
  cases : (k < n) ⊎ (n ≤ k) → get_or (xs ++ n ∷ []) k d ≡ k
  cases (inl less) = get_or_append_left xs (n ∷ []) d k (omega (arith, less, count)) ∙ each k d less
  cases (inr more) =
      let last : n ≡ k = omega (arith, more, below) in
      get_or_push xs n d k (count ∙ last) ∙ last

pub loop-number-preserved : goal.loop-number-preserved
loop-number-preserved c = record {
  count = omega (arith, c.in_ok-push.ensures.len, c.loop-number.invariant.count);
  each = one_more c.loop-number.numbers.items c.push.new.self.items c.loop-number.number c.in_ok-push.ensures.items c.loop-number.invariant.count c.loop-number.invariant.each;
}

pub returns-in_err-numbers : goal.returns-in_err-numbers
returns-in_err-numbers c =
    let h = c.from_residual.ensures.1 in
    record { below = nothing_made c.from_residual.result _ _ h; all = nothing_made c.from_residual.result _ _ h }

pub returns-in_err-push : goal.returns-in_err-push
returns-in_err-push c =
    let r = c.from_residual-in_err-push.result in
    let h = c.from_residual-in_err-push.ensures.1 in
    record { below = nothing_made r _ _ h; all = nothing_made r _ _ h }

pub returns-clause-all : goal.returns-clause-all
returns-clause-all c k inside = (k, omega (arith, c.loop-number.invariant.count, c.loop-number-test.false), c.loop-number.invariant.each k k (omega (arith, c.loop-number-test.false)))
