-- What a start was asked, question after question.
use Rattle.std.proofs.Common.{◌≡◌, ◌∙◌, ◌+◌, ◌≤◌, ◌++◌, ℕ, zero, suc, List, [], ◌∷◌, ap, sym, subst, arith, append-nil, append_assoc}
use Rattle.std.specs.List.{range_with_len}
use Rattle.std.specs.Io.Iter.{u64_saturate}
use Rattle.flow_shares.specs.Starts.{AskedForEach, AskedForFirst, AskedAtEach, each_again}

-- one number more
range_more : (from count number : ℕ) → from + count ≡ number → range_with_len from (suc count) ≡ range_with_len from count ++ number ∷ []
range_more from zero number is = let same : from ≡ number = omega (arith, is) in ap (λ k. k ∷ []) same
range_more from (suc count) number is = ap (λ rest. from ∷ rest) (range_more (from + 1) count number (omega (arith, is)))

-- it was asked for the thread after these
pub asked_next : (count number more : ℕ) (before now after : List ℕ) → AskedForEach count before now → after ≡ now ++ number ∷ [] → number ≡ count → more ≡ count + 1 → AskedForEach more before after
asked_next count number more before now after was is same next =
    let on : suc count ≡ more = omega (arith, next) in
    let numbers : range_with_len 0 count ++ number ∷ [] ≡ range_with_len 0 more = sym (range_more 0 count number (omega (arith, same))) ∙ ap (range_with_len 0) on in
    is ∙ ap (λ l. l ++ number ∷ []) was ∙ append_assoc before (range_with_len 0 count) (number ∷ []) ∙ ap (λ l. before ++ l) numbers

-- of the first of so many threads
pub asked_first : (first count : ℕ) (before after : List ℕ) → first ≤ count → AskedForEach first before after → AskedForFirst count before after
asked_first first count before after few asked = (first, few, asked)

-- of none of them
pub asked_none : (count : ℕ) (before : List ℕ) → AskedForFirst count before before
asked_none count before = (0, omega arith, sym (append-nil before))

-- no turn was made yet
pub each_none : (count : ℕ) (before : List ℕ) → AskedAtEach 0 count before before
each_none count before = record { times = 0; counted = omega arith; asked = sym (append-nil before) }

-- one turn more
pub each_next : (turns more count again : ℕ) (before now after : List ℕ) → AskedAtEach turns count before now → AskedForEach again now after → again
    ≡ count → more ≡ u64_saturate (turns + 1) → AskedAtEach more count before after
each_next turns more count again before now after was asked same counted = record {
  times = suc was.times;
  counted = omega (arith, counted, was.counted);
  asked = asked ∙ ap (λ l. l ++ range_with_len 0 again) was.asked ∙ ap (λ n. (before ++ each_again was.times count) ++ range_with_len 0 n) same
      ∙ append_assoc before (each_again was.times count) (range_with_len 0 count);
}

-- of as many threads
pub each_same : (turns first second : ℕ) (before after : List ℕ) → first ≡ second → AskedAtEach turns first before after → AskedAtEach turns second before after
each_same turns first second before after same asked = subst (λ count. AskedAtEach turns count before after) same asked
