-- The lists of values are what each of them puts on the edges, one after another.
use Rattle.std.specs.Prelude.{◌≡◌, ℕ, ◌+◌, ◌⊎◌, List, [], ◌∷◌, ◌++◌, length, map, refl}
use Rattle.std.proofs.Common.{inl, inr, sym, ◌∙◌, ap, arith, append_assoc, append-nil}
use Rattle.std.proofs.Math.Path.{fun_ext, ap₂}
use Rattle.std.proofs.lemmas.Bool.{cases_lt}
use Rattle.snesl_data.specs.Types.{Ty, int, bool, pair, vec, seq}
use Rattle.snesl_data.specs.Values.{Value}
use Rattle.flow_base.specs.Lists.{Lists}
use Rattle.flow_base.specs.Ports.{by_port}
use Rattle.flow_base.specs.Flags.{T, elements, flags, concatenation, lengths}
use Rattle.flow_base.specs.Segments.{concatenation_by, elements-append}
use Rattle.flow_values.specs.Shapes.{cell_for, first_of, second_of, elements_of}
use Rattle.flow_values.specs.Flats.{no_cells, only_at, ◌⊕◌, width, flat, spread, spread_all}
use Rattle.flow_values.specs.laws.Sides.{only_here, only_there, only_moves, sides_assoc, nothing_more, both_empty, spread_below, spread_above, all_below, all_none}

-- lists at one port, one after the other
only_append : {A : Type 0} (p : ℕ) (xs ys : List A) → only_at p (xs ++ ys) ≡ only_at p xs ⊕ only_at p ys
only_append p xs ys =
    fun_ext (by_port (λ q. only_at p (xs ++ ys) q ≡ only_at p xs q ++ only_at p ys q) p
    (only_here p (xs ++ ys) ∙ sym (ap₂ (λ a b. a ++ b) (only_here p xs) (only_here p ys)))
    (λ q n. only_there p q (xs ++ ys) n ∙ sym (both_empty (only_at p xs q) (only_at p ys q) (only_there p q xs n) (only_there p q ys n))))

only_none : {A : Type 0} (p : ℕ) → only_at p [] ≡ no_cells {A = A}
only_none {A = A} p = fun_ext (by_port (λ q. only_at {A = A} p [] q ≡ []) p (only_here p []) (λ q n. only_there p q [] n))

-- two of which at each port one is empty, in either order
swap : {A : Type 0} (xs ys : Lists A) → ((q : ℕ) → (xs q ≡ []) ⊎ (ys q ≡ [])) → xs ⊕ ys ≡ ys ⊕ xs
swap xs ys empty =
    fun_ext (λ q. elim (empty q) [
      | inl e ↦ ap (λ l. l ++ ys q) e ∙ sym (append-nil (ys q)) ∙ sym (ap (λ l. ys q ++ l) e)
      | inr e ↦ ap (λ l. xs q ++ l) e ∙ append-nil (xs q) ∙ sym (ap (λ l. l ++ xs q) e)
    ])

-- the middle two change places
middle : {A : Type 0} (a b c d : Lists A) → b ⊕ c ≡ c ⊕ b → (a ⊕ b) ⊕ (c ⊕ d) ≡ (a ⊕ c) ⊕ (b ⊕ d)
middle a b c d e =
    sides_assoc a b (c ⊕ d)
    ∙ ap (λ l. a ⊕ l) (sym (sides_assoc b c d) ∙ ap (λ l. l ⊕ d) e ∙ sides_assoc c b d)
    ∙ sym (sides_assoc a c (b ⊕ d))

concatenation_by-append : {A B : Type 0} (f : A → List B) (xs ys : List A) → concatenation_by f (xs ++ ys) ≡ concatenation_by f xs ++ concatenation_by f ys
concatenation_by-append f [] ys = refl
concatenation_by-append f (x ∷ xs) ys = ap (λ l. f x ++ l) (concatenation_by-append f xs ys) ∙ sym (append_assoc (f x) (concatenation_by f xs) (concatenation_by f ys))

all_append : (ty : Ty) (p : ℕ) (vs ws : List Value) → spread_all ty p (vs ++ ws) ≡ spread_all ty p vs ⊕ spread_all ty p ws
all_append ty p vs ws = fun_ext (λ q. concatenation_by-append (λ v. spread ty p v q) vs ws)

leaf_all : (p : ℕ) (vs : List Value) → only_at p (map cell_for vs) ≡ (λ q. concatenation_by (λ v. only_at p (cell_for v ∷ []) q) vs)
leaf_all p [] = only_none p
leaf_all p (v ∷ vs) = only_append p (cell_for v ∷ []) (map cell_for vs) ∙ ap (λ l. only_at p (cell_for v ∷ []) ⊕ l) (leaf_all p vs)

pair_all : (first second : Ty) (p : ℕ) (vs : List Value) → spread_all first p (map first_of vs) ⊕ spread_all second (p + width first) (map second_of vs) ≡ spread_all (pair first second) p vs
pair_all first second p [] = refl
pair_all first second p (v ∷ vs) =
    let m = p + width first in
    let lefts = spread_all first p (map first_of vs) in
    let right = spread second m (second_of v) in
    let apart : (q : ℕ) → (lefts q ≡ []) ⊎ (right q ≡ []) =
    λ q. elim (cases_lt q m) [
      | inl lt ↦ inr (spread_below second m (second_of v) q lt)
      | inr le ↦ inl (all_none first p q (λ w. spread_above first p w q le) (map first_of vs))
    ] in
    middle (spread first p (first_of v)) lefts right (spread_all second m (map second_of vs)) (swap lefts right apart)
    ∙ ap (λ l. spread (pair first second) p v ⊕ l) (pair_all first second p vs)

seq_all : (item : Ty) (p : ℕ) (vs : List Value) → only_at p (flags (lengths (map elements_of vs))) ⊕ spread_all item (p + 1) (concatenation (map elements_of vs)) ≡ spread_all (seq item) p vs
seq_all item p [] = ap (λ l. l ⊕ no_cells) (only_none p)
seq_all item p (v ∷ vs) =
    let es = elements_of v in
    let own = elements (length es) (T ∷ []) in
    let later = flags (lengths (map elements_of vs)) in
    let others = concatenation (map elements_of vs) in
    ap₂ (λ a b. a ⊕ b) (ap (only_at p) (sym (elements-append (length es) later)) ∙ only_append p own later) (all_append item (p + 1) es others)
    ∙ middle (only_at p own) (only_at p later) (spread_all item (p + 1) es) (spread_all item (p + 1) others)
    (only_moves p later (spread_all item (p + 1) es) (all_below item (p + 1) es p (omega arith)))
    ∙ ap (λ l. spread (seq item) p v ⊕ l) (seq_all item p vs)

-- the lists of values are what each puts on the edges
pub flat_each : (ty : Ty) (p : ℕ) (vs : List Value) → flat ty p vs ≡ spread_all ty p vs
flat_each int p vs = leaf_all p vs
flat_each bool p vs = leaf_all p vs
flat_each (vec item) p vs = leaf_all p vs
flat_each (pair first second) p vs = ap₂ (λ a b. a ⊕ b) (flat_each first p (map first_of vs)) (flat_each second (p + width first) (map second_of vs)) ∙ pair_all first second p vs
flat_each (seq item) p vs = ap (λ l. only_at p (flags (lengths (map elements_of vs))) ⊕ l) (flat_each item (p + 1) (concatenation (map elements_of vs))) ∙ seq_all item p vs

pub flat_one : (ty : Ty) (p : ℕ) (v : Value) → flat ty p (v ∷ []) ≡ spread ty p v
flat_one ty p v = flat_each ty p (v ∷ []) ∙ nothing_more (spread ty p v)
