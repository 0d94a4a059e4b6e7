-- The order in which faults are named: of two faults one is named before the other, and both before each
-- other only where they are one.
use Rattle.std.proofs.Common.{◌≡◌, ℕ, ◌+◌, ◌<◌, ◌≤◌, ◌⊎◌, List, [], ◌∷◌, ◌++◌, length, get_or, take, eqb, cond, add-one, refl, sym, ◌∙◌, ap, subst, inl, inr, arith}
use Rattle.std.proofs.lemmas.Bool.{cases_lt}
use Rattle.std.proofs.lemmas.List.Elements.{All-cons, All-nil, All-head, All-tail, All-push, All-weaker, All-contains, Contains-append_left, Contains-push, Contains-push_cases}
use Rattle.std.proofs.Math.Seq.{take-suc}
use Rattle.std.specs.List.{Contains}
use Rattle.snesl_data.specs.declared.fault.Fault.{Fault}
use Rattle.snesl_data.specs.declared.fault.FaultKind.{FaultKind}
use Rattle.snesl_data.specs.declared.fault.FaultKind.TheVariants.{Divide, Overflow, NegativeCount, Length, Part, The, EmptyMax, Index, Shape}
use Rattle.snesl_data.specs.Faults.{number_of_fault}
use Rattle.kahn.specs.Faults.{rank_of, ComesFirst, IsNamedBefore, IsNamedOf}

-- the kind of this number
kind_of : ℕ → FaultKind
kind_of n =
    cond (eqb n 1) Divide
    (cond (eqb n 2) Overflow (cond (eqb n 3) NegativeCount (cond (eqb n 4) Length (cond (eqb n 5) Part (cond (eqb n 6) The (cond (eqb n 7) EmptyMax (cond (eqb n 8) Index Shape)))))))

kind_of-number : (k : FaultKind) → kind_of (number_of_fault k) ≡ k
unfolding kind_of
kind_of-number Divide = refl
kind_of-number Overflow = refl
kind_of-number NegativeCount = refl
kind_of-number Length = refl
kind_of-number Part = refl
kind_of-number The = refl
kind_of-number EmptyMax = refl
kind_of-number Index = refl
kind_of-number Shape = refl

-- two faults of one number at one offset are one
same_fault : (f g : Fault) → f.at ≡ g.at → number_of_fault f.kind ≡ number_of_fault g.kind → f ≡ g
same_fault f g at number =
    let kind : f.kind ≡ g.kind = sym (kind_of-number f.kind) ∙ ap kind_of number ∙ kind_of-number g.kind in
    λ i. record { kind = kind i; at = at i }

comes_first_one : (f g : Fault) → ComesFirst f g → ComesFirst g f → f ≡ g
comes_first_one f g (inl less) (inl more) = absurd (omega arith)
comes_first_one f g (inl less) (inr (same, number)) = absurd (omega arith)
comes_first_one f g (inr (same, number)) (inl more) = absurd (omega arith)
comes_first_one f g (inr (same, number)) (inr (again, back)) = same_fault f g same (omega arith)

comes_first_then : (f g h : Fault) → ComesFirst f g → ComesFirst g h → ComesFirst f h
comes_first_then f g h (inl less) (inl more) = inl (omega arith)
comes_first_then f g h (inl less) (inr (same, number)) = inl (omega arith)
comes_first_then f g h (inr (same, number)) (inl more) = inl (omega arith)
comes_first_then f g h (inr (same, number)) (inr (again, after)) = inr (same ∙ again, omega arith)

-- two faults that are each named before the other are one
pub named_before_one : (f g : Fault) → IsNamedBefore f g → IsNamedBefore g f → f ≡ g
named_before_one f g (inl less) (inl more) = absurd (omega arith)
named_before_one f g (inl less) (inr (same, first)) = absurd (omega arith)
named_before_one f g (inr (same, first)) (inl more) = absurd (omega arith)
named_before_one f g (inr (same, first)) (inr (again, back)) = comes_first_one f g first back

pub named_before_then : (f g h : Fault) → IsNamedBefore f g → IsNamedBefore g h → IsNamedBefore f h
named_before_then f g h (inl less) (inl more) = inl (omega arith)
named_before_then f g h (inl less) (inr (same, first)) = inl (omega arith)
named_before_then f g h (inr (same, first)) (inl more) = inl (omega arith)
named_before_then f g h (inr (same, first)) (inr (again, after)) = inr (same ∙ again, comes_first_then f g h first after)

pub named_before_itself : (f : Fault) → IsNamedBefore f f
named_before_itself f = inr (refl, inr (refl, omega arith))

-- of two faults one is named before the other
pub named_before_either : (f g : Fault) → IsNamedBefore f g ⊎ IsNamedBefore g f
named_before_either f g = ranks (cases_lt (rank_of f.kind) (rank_of g.kind)) (cases_lt (rank_of g.kind) (rank_of f.kind))
  where
    numbers : rank_of f.kind ≡ rank_of g.kind → f.at ≡ g.at →
        (number_of_fault f.kind < number_of_fault g.kind) ⊎ (number_of_fault g.kind ≤ number_of_fault f.kind) → IsNamedBefore f g ⊎ IsNamedBefore g f
    numbers rank at (inl less) = inl (inr (rank, inr (at, omega arith)))
    numbers rank at (inr more) = inr (inr (sym rank, inr (sym at, more)))

    places : rank_of f.kind ≡ rank_of g.kind → (f.at < g.at) ⊎ (g.at ≤ f.at) → (g.at < f.at) ⊎ (f.at ≤ g.at) → IsNamedBefore f g ⊎ IsNamedBefore g f
    places rank (inl less) back = inl (inr (rank, inl less))
    places rank (inr no_less) (inl more) = inr (inr (sym rank, inl more))
    places rank (inr no_less) (inr no_more) = numbers rank (omega arith) (cases_lt (number_of_fault f.kind) (number_of_fault g.kind))

    ranks : (rank_of f.kind < rank_of g.kind) ⊎ (rank_of g.kind ≤ rank_of f.kind) → (rank_of g.kind < rank_of f.kind) ⊎ (rank_of f.kind ≤ rank_of g.kind) → IsNamedBefore f g ⊎ IsNamedBefore g f
    ranks (inl less) back = inl (inl less)
    ranks (inr no_less) (inl more) = inr (inl more)
    ranks (inr no_less) (inr no_more) = places (omega arith) (cases_lt f.at g.at) (cases_lt g.at f.at)

-- of the faults xs no other is named
pub named_of_one : (xs : List Fault) (f g : Fault) → IsNamedOf xs f → IsNamedOf xs g → f ≡ g
named_of_one xs f g a b =
    named_before_one f g (All-contains (λ x. IsNamedBefore f x) xs g a.first b.stands) (All-contains (λ x. IsNamedBefore g x) xs f b.first a.stands)

-- what it says of a fault that it is named of two
module _ (f h r : Fault) (named : IsNamedOf (f ∷ h ∷ []) r) where
  pub named_one_of_two : (f ≡ r) ⊎ (h ≡ r)
  named_one_of_two = last (Contains-push_cases (f ∷ []) h r named.stands)
    where
      first : Contains [] r ⊎ (f ≡ r) → f ≡ r
      first (inl none) = absurd (omega (arith, none.1))
      first (inr same) = same

      last : Contains (f ∷ []) r ⊎ (h ≡ r) → (f ≡ r) ⊎ (h ≡ r)
      last (inl has) = inl (first (Contains-push_cases [] f r has))
      last (inr same) = inr same

  pub named_before_first : IsNamedBefore r f
  named_before_first = All-head (λ g. IsNamedBefore r g) f (h ∷ []) named.first

  pub named_before_second : IsNamedBefore r h
  named_before_second = All-head (λ g. IsNamedBefore r g) h [] (All-tail (λ g. IsNamedBefore r g) f (h ∷ []) named.first)

-- the first fault is named of itself alone
pub named_alone : (xs : List Fault) (x : Fault) → xs ≡ [] → IsNamedOf (xs ++ x ∷ []) x
named_alone xs x none =
    rw none (record { stands = Contains-push [] x; first = All-cons (λ g. IsNamedBefore x g) x [] (named_before_itself x) (All-nil (λ g. IsNamedBefore x g)) })

-- the one that is named of xs and of one more
pub named_push : (xs : List Fault) (x f r : Fault) → IsNamedOf xs f → IsNamedOf (f ∷ x ∷ []) r → IsNamedOf (xs ++ x ∷ []) r
named_push xs x f r of_xs of_two =
    record {
      stands = stands (named_one_of_two f x r of_two);
      first = All-push (λ g. IsNamedBefore r g) xs x
          (All-weaker (λ g. IsNamedBefore f g) (λ g. IsNamedBefore r g) (λ g before. named_before_then r f g (named_before_first f x r of_two) before) xs of_xs.first)
          (named_before_second f x r of_two);
    }
  where
    stands : (f ≡ r) ⊎ (x ≡ r) → Contains (xs ++ x ∷ []) r
    stands (inl same) = Contains-append_left xs (x ∷ []) r (subst (λ y. Contains xs y) same of_xs.stands)
    stands (inr same) = subst (λ y. Contains (xs ++ x ∷ []) y) same (Contains-push xs x)

-- of two faults one is named
pub named_of_two : (f h : Fault) → (r : Fault) × IsNamedOf (f ∷ h ∷ []) r
named_of_two f h = go (named_before_either f h)
  where
    two : (r : Fault) → Contains (f ∷ h ∷ []) r → IsNamedBefore r f → IsNamedBefore r h → IsNamedOf (f ∷ h ∷ []) r
    two r stands first second =
        record {
          stands = stands;
          first =
              All-cons (λ g. IsNamedBefore r g) f (h ∷ []) first (All-cons (λ g. IsNamedBefore r g) h [] second (All-nil (λ g. IsNamedBefore r g)));
        }

    go : IsNamedBefore f h ⊎ IsNamedBefore h f → (r : Fault) × IsNamedOf (f ∷ h ∷ []) r
    go (inl before) = (f, two f (Contains-append_left (f ∷ []) (h ∷ []) f (Contains-push [] f)) (named_before_itself f) before)
    go (inr before) = (h, two h (Contains-push (f ∷ []) h) before (named_before_itself h))

-- the same along a list
pub named_along : (xs : List Fault) (i : ℕ) (x f r : Fault) → i < length xs → IsNamedOf (take i xs) f → IsNamedOf (f ∷ get_or xs i x ∷ []) r → IsNamedOf (take (i + 1) xs) r
named_along xs i x f r inside of_xs of_two = rw (add-one i, take-suc xs i x inside) (named_push (take i xs) (get_or xs i x) f r of_xs of_two)

pub named_at_first : (xs : List Fault) (i : ℕ) (x : Fault) → i < length xs → take i xs ≡ [] → IsNamedOf (take (i + 1) xs) (get_or xs i x)
named_at_first xs i x inside none = rw (add-one i, take-suc xs i x inside) (named_alone (take i xs) (get_or xs i x) none)
