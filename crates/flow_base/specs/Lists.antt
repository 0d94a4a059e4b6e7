-- Lists of items, one for each port.
use Rattle.std.specs.Prelude.{◌≡◌, ℕ, zero, suc, ◌==◌, List, [], ◌∷◌, cond, ◌↔◌}

-- for each port a list
abbrev pub Lists : Type 0 → Type 0
Lists A = ℕ → List A

-- xs with the list of port p replaced
abbrev pub with_port : {A : Type 0} → ℕ → List A → Lists A → Lists A
with_port p list xs q = cond (q == p) list (xs q)

-- one item more, in front, at port p
abbrev pub push : {A : Type 0} → ℕ → A → Lists A → Lists A
push p x xs = with_port p (x ∷ xs p) xs

-- nothing at the first n ports
abbrev pub NothingAt : {A : Type 0} → ℕ → Lists A → Type 0
NothingAt zero xs = Unit {0}
NothingAt (suc n) xs = NothingAt n xs × (xs n ≡ [])

-- there is a first item, of which P holds, with the rest
abbrev pub First : {A : Type 0} → List A → (A → List A → Type 0) → Type 0
First [] P = ⊥
First (x ∷ rest) P = P x rest

-- there is a first item
abbrev pub HasFirst : {A : Type 0} → List A → Type 0
HasFirst xs = First xs (λ _ _. Unit {0})

pub First-full : {A : Type 0} (xs : List A) (P : A → List A → Type 0) → First xs P → HasFirst xs
First-full [] P h = h
First-full (x ∷ rest) P h = tt

pub iff_refl : {A : Type 0} → A ↔ A
iff_refl = (λ h. h, λ h. h)
