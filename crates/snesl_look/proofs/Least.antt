-- The distance of two names is the least number of edits that make one of the other.
use Rattle.std.proofs.Common.{◌≡◌, ◌≢◌, ◌⊎◌, ℕ, zero, suc, ◌+◌, ◌<◌, ◌≤◌, ◌++◌, List, [], ◌∷◌, ap, arith, eq-eqb, inl, inr, length, length-append, min, nat_eq, ne_eqb, refl, subst, sym, ⊎_elim}
use Rattle.std.proofs.lemmas.Bool.{cases_eq, cases_lt}
use Rattle.std.proofs.lemmas.Int.{clamps}
use Rattle.strsim.specs.Edits.{cost}
use Rattle.snesl_look.specs.Names.{Edits, distance, keeps, nothing, puts_in, replaces, takes_out}
use Rattle.snesl_look.proofs.Edits.{from_none, last_bytes, to_none}

-- a name has no byte, or a last one
HasLast : List ℕ → Type 0
HasLast xs = (ys : List ℕ) × (y : ℕ) × (xs ≡ ys ++ y ∷ [])

last_of : (xs : List ℕ) → (xs ≡ []) ⊎ HasLast xs
unfolding HasLast
last_of [] = inl refl
last_of (x ∷ xs) = ⊎_elim
    (λ (none : xs ≡ []). inr ([], x, ap (λ rest. x ∷ rest) none))
    (λ (found : HasLast xs). inr (x ∷ found.0, found.1, ap (λ rest. x ∷ rest) found.2))
    (last_of xs)

-- bytes cost nothing where they are the same
cost_same : (x : ℕ) → cost nat_eq x x ≡ 0
cost_same x = rw (eq-eqb x x refl) refl

cost_other : (x y : ℕ) → x ≢ y → cost nat_eq x y ≡ 1
cost_other x y other = rw (ne_eqb x y other) refl

cost_few : (x y : ℕ) → cost nat_eq x y ≤ 1
cost_few x y = ⊎_elim (λ (same : x ≡ y). rw same (omega (arith, cost_same y))) (λ (other : x ≢ y). omega (arith, cost_other x y other)) (cases_eq x y)

-- a byte more makes a distance of at most one more
more_to : (from to : List ℕ) (y : ℕ) → distance from (to ++ y ∷ []) ≤ distance from to + 1
unfolding HasLast
more_to from to y = ⊎_elim
    (λ (none : from ≡ []). rw none (omega (arith, from_none to, from_none (to ++ y ∷ []), length-append to (y ∷ []))))
    (λ (found : HasLast from). rw found.2 (omega (arith, clamps, last_bytes found.0 to found.1 y)))
    (last_of from)

more_from : (from to : List ℕ) (x : ℕ) → distance (from ++ x ∷ []) to ≤ distance from to + 1
unfolding HasLast
more_from from to x = ⊎_elim
    (λ (none : to ≡ []). rw none (omega (arith, to_none from, to_none (from ++ x ∷ []), length-append from (x ∷ []))))
    (λ (found : HasLast to). rw found.2 (omega (arith, clamps, last_bytes from found.0 x found.1)))
    (last_of to)

-- no edits are fewer
pub none_fewer : {from to : List ℕ} {n : ℕ} → Edits from to n → distance from to ≤ n
none_fewer nothing = omega (arith, from_none [])
none_fewer (keeps from to n x edits) = omega (arith, clamps, last_bytes from to x x, cost_same x, none_fewer edits)
none_fewer (puts_in from to n y edits) = omega (arith, more_to from to y, none_fewer edits)
none_fewer (takes_out from to n x edits) = omega (arith, more_from from to x, none_fewer edits)
none_fewer (replaces from to n x y edits) = omega (arith, clamps, last_bytes from to x y, cost_few x y, none_fewer edits)

-- the least of three is one of them
least_of : (a b c : ℕ) → (min a (min b c) ≡ a) ⊎ ((min a (min b c) ≡ b) ⊎ (min a (min b c) ≡ c))
least_of a b c = ⊎_elim
    (λ (l : min b c < a). ⊎_elim
    (λ (m : c < b). inr (inr (omega (arith, clamps, l, m))))
    (λ (m : b ≤ c). inr (inl (omega (arith, clamps, l, m))))
    (cases_lt c b))
    (λ (l : a ≤ min b c). inl (omega (arith, clamps, l)))
    (cases_lt (min b c) a)

-- a last byte is kept or replaced, by its cost
last_edit : (from to : List ℕ) (n x y : ℕ) → Edits from to n → Edits (from ++ x ∷ []) (to ++ y ∷ []) (n + cost nat_eq x y)
last_edit from to n x y edits = ⊎_elim
    (λ (same : x ≡ y). let none : n ≡ n + cost nat_eq x y = rw same (omega (arith, cost_same y)) in
    subst (λ count. Edits (from ++ x ∷ []) (to ++ y ∷ []) count) none
    (subst (λ last. Edits (from ++ x ∷ []) (to ++ last ∷ []) n) same (keeps from to n x edits)))
    (λ (other : x ≢ y). let one : n + 1 ≡ n + cost nat_eq x y = omega (arith, cost_other x y other) in
    subst (λ count. Edits (from ++ x ∷ []) (to ++ y ∷ []) count) one (replaces from to n x y edits))
    (cases_eq x y)

-- so many edits make one name of the other, if that is so of all names that have fewer bytes in all
by_ends : (size : ℕ) → ((from to : List ℕ) → length from + length to < size → Edits from to (distance from to)) → (from to : List ℕ)
    → length from + length to ≤ size → (from ≡ []) ⊎ HasLast from → (to ≡ []) ⊎ HasLast to → Edits from to (distance from to)
unfolding HasLast
by_ends size fewer from to within (inl a) (inl b) = rw (a, b) (subst (Edits [] []) (sym (from_none [])) nothing)
by_ends size fewer from to within (inl a) (inr f) =
    let long : length to ≡ length f.0 + 1 = rw f.2 (length-append f.0 (f.1 ∷ [])) in
    let one : distance [] f.0 + 1 ≡ distance [] (f.0 ++ f.1 ∷ []) = omega (arith, from_none f.0, from_none (f.0 ++ f.1 ∷ []), length-append f.0 (f.1 ∷ [])) in
    let edits = fewer [] f.0 (omega (arith, long, within)) in
    rw (a, f.2) (subst (Edits [] (f.0 ++ f.1 ∷ [])) one (puts_in [] f.0 (distance [] f.0) f.1 edits))
by_ends size fewer from to within (inr f) (inl b) =
    let long : length from ≡ length f.0 + 1 = rw f.2 (length-append f.0 (f.1 ∷ [])) in
    let one : distance f.0 [] + 1 ≡ distance (f.0 ++ f.1 ∷ []) [] = omega (arith, to_none f.0, to_none (f.0 ++ f.1 ∷ []), length-append f.0 (f.1 ∷ [])) in
    let edits = fewer f.0 [] (omega (arith, long, within)) in
    rw (b, f.2) (subst (Edits (f.0 ++ f.1 ∷ []) []) one (takes_out f.0 [] (distance f.0 []) f.1 edits))
by_ends size fewer from to within (inr f) (inr t) =
    let xs = f.0 ++ f.1 ∷ [] in
    let ys = t.0 ++ t.1 ∷ [] in
    let long_xs : length xs ≡ length f.0 + 1 = length-append f.0 (f.1 ∷ []) in
    let long_ys : length ys ≡ length t.0 + 1 = length-append t.0 (t.1 ∷ []) in
    let room : length f.0 + 1 + (length t.0 + 1) ≤ size = omega (arith, long_xs, long_ys, ap length f.2, ap length t.2, within) in
    let cases = last_bytes f.0 t.0 f.1 t.1 in
    rw (f.2, t.2, cases) (⊎_elim
    (λ e. subst (Edits xs ys) (sym e) (puts_in xs t.0 (distance xs t.0) t.1 (fewer xs t.0 (omega (arith, long_xs, room)))))
    (λ rest. ⊎_elim
    (λ e. subst (Edits xs ys) (sym e) (last_edit f.0 t.0 (distance f.0 t.0) f.1 t.1 (fewer f.0 t.0 (omega (arith, room)))))
    (λ e. subst (Edits xs ys) (sym e) (takes_out f.0 ys (distance f.0 ys) f.1 (fewer f.0 ys (omega (arith, long_ys, room)))))
    rest)
    (least_of (distance xs t.0 + 1) (distance f.0 t.0 + cost nat_eq f.1 t.1) (distance f.0 ys + 1)))

made_within : (size : ℕ) (from to : List ℕ) → length from + length to < size → Edits from to (distance from to)
made_within zero from to within = absurd (omega (arith, within))
made_within (suc size) from to within = by_ends size (made_within size) from to (omega (arith, within)) (last_of from) (last_of to)

-- so many edits make one name of the other
pub made : (from to : List ℕ) → Edits from to (distance from to)
made from to = made_within (suc (length from + length to)) from to (omega arith)
