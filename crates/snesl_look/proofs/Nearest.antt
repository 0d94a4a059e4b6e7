-- How far a search for the nearest of others has come.
use Rattle.std.proofs.Common.{◌≡◌, ◌∙◌, ℕ, Bool, true, false, IsTrue, ◌+◌, ◌<◌, ◌≤◌, ◌⊎◌, List, arith, inl, inr, length, refl, subst, sym, ⊎_elim}
use Rattle.std.proofs.Math.Nat.{eq-or-lt_of_le}
use Rattle.std.proofs.lemmas.Slice.Eq.{bytes_eq-Decides}
use Rattle.std.specs.Str.{bytes_eq}
use Rattle.snesl_look.specs.Names.{IsNearestAt, IsOther, distance_at, most_edits}

-- no test passes and fails
pub both_ways : (test : Bool) → IsTrue test → ¬ (test ≡ false)
both_ways true holds fails = cc
both_ways false holds fails = cc

-- a test that failed tells words apart
pub told_apart : (test : Bool) (xs ys : List ℕ) → test ≡ bytes_eq xs ys → test ≡ false → ¬ (xs ≡ ys)
told_apart test xs ys is fails same = both_ways (bytes_eq xs ys) ((bytes_eq-Decides xs ys).1 same) (sym is ∙ fails)

-- of the others before `end` that at `found`, if one is within the limit, is the first of the nearest
pub record NearestSoFar (IsOne : ℕ → Type 0) (distance : ℕ → ℕ) (limit end found least : ℕ) : Type 0 where
  pub nearest : (k : ℕ) → k < end → IsOne k → least ≤ distance k
  pub first : (k : ℕ) → k < found → IsOne k → least < distance k
  pub reached : found ≤ end
  pub is : (least ≡ limit) ⊎ (IsOne found × (distance found ≡ least))

-- before the first place none is
pub begins : (IsOne : ℕ → Type 0) (distance : ℕ → ℕ) (limit : ℕ) → NearestSoFar IsOne distance limit 0 0 limit
begins IsOne distance limit = record {
  nearest = λ k before. absurd (omega (arith, before));
  first = λ k before. absurd (omega (arith, before));
  reached = omega arith;
  is = inl refl;
}

-- one that is nearer is found
pub nearer : (IsOne : ℕ → Type 0) (distance : ℕ → ℕ) (limit end found least edits : ℕ) → NearestSoFar IsOne distance limit end found least
    → IsOne end → edits ≡ distance end → edits < least → NearestSoFar IsOne distance limit (end + 1) end edits
nearer IsOne distance limit end found least edits so_far one is less = record {
  nearest = λ k before other. ⊎_elim
      (λ (e : k ≡ end). rw e (omega (arith, is)))
      (λ (lower : k < end). omega (arith, less, so_far.nearest k lower other))
      (eq-or-lt_of_le {n = k} {m = end} (omega (arith, before)));
  first = λ k before other. omega (arith, less, so_far.nearest k before other);
  reached = omega arith;
  is = inr (one, sym is);
}

-- one that is no nearer is passed by, and so is a place with none
pub goes_on : (IsOne : ℕ → Type 0) (distance : ℕ → ℕ) (limit end found least : ℕ) → NearestSoFar IsOne distance limit end found least
    → (IsOne end → least ≤ distance end) → NearestSoFar IsOne distance limit (end + 1) found least
goes_on IsOne distance limit end found least so_far far = record {
  nearest = λ k before other. ⊎_elim
      (λ (e : k ≡ end). rw e (far (subst IsOne e other)))
      (λ (lower : k < end). so_far.nearest k lower other)
      (eq-or-lt_of_le {n = k} {m = end} (omega (arith, before)));
  first = so_far.first;
  reached = omega (arith, so_far.reached);
  is = so_far.is;
}

-- at the end of the text the one that was found is the first of the nearest
pub is_nearest : (text : List ℕ) (at : ℕ) (word : List ℕ) (limit end found least : ℕ) → limit ≡ most_edits word + 1 → length text ≤ end
    → NearestSoFar (IsOther text at) (distance_at text word) limit end found least → least < limit → IsNearestAt text at word found
is_nearest text at word limit end found least bound over whole less = ⊎_elim
    (λ (e : least ≡ limit). absurd (omega (arith, e, less)))
    (λ (one : IsOther text at found × (distance_at text word found ≡ least)). let is = one.1 in record {
      other = one.0;
      near = omega (arith, is, less, bound);
      nearest = λ k other. omega (arith, is, whole.nearest k (omega (arith, over, other.0.0)) other);
      first = λ k before other. omega (arith, is, whole.first k before other);
    })
    whole.is
