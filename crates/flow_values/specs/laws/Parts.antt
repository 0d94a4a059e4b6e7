-- Values of concrete types as items: on their edges, and built of them.
use Rattle.std.specs.Prelude.{◌≡◌, ℕ, suc, ◌+◌, Bool, true, false, List, [], ◌∷◌, ◌++◌, Some, None, cond, length, refl}
use Rattle.std.proofs.Common.{arith, sym, ◌∙◌, ap, append_assoc, length-append}
use Rattle.std.proofs.Math.Path.{ap₂}
use Rattle.snesl_data.specs.Types.{Ty, int, bool, pair, vec, seq, is_concrete}
use Rattle.snesl_data.specs.Values.{Value, an_int, a_bool, a_pair, a_vec}
use Rattle.flow_messages.specs.Cells.{Cell, flag, int as int_cell, datum}
use Rattle.flow_base.specs.Lists.{Lists}
use Rattle.flow_values.specs.Shapes.{is_a, kinds_of, cell_for, first_of, second_of}
use Rattle.flow_values.specs.Flats.{no_cells, only_at, ◌⊕◌, width, spread}
use Rattle.flow_values.specs.laws.Sides.{sides_assoc, nothing_more}
use Rattle.flow_values.specs.laws.Kinds.{both_true, and_true}
use Rattle.flow_values.specs.Parts.{parts, Built, with_first, and_then, built}

-- one item at each port from p on
abbrev pub in_row : {A : Type 0} → ℕ → List A → Lists A
in_row p [] = no_cells
in_row p (x ∷ xs) = only_at p (x ∷ []) ⊕ in_row (p + 1) xs

pub in_row-append : {A : Type 0} (p : ℕ) (xs ys : List A) → in_row p (xs ++ ys) ≡ in_row p xs ⊕ in_row (p + length xs) ys
in_row-append p [] ys = let e : p ≡ p + 0 = omega arith in ap (λ q. in_row q ys) e
in_row-append p (x ∷ xs) ys =
    let e : (p + 1) + length xs ≡ p + suc (length xs) = omega arith in
    ap (λ l. only_at p (x ∷ []) ⊕ l) (in_row-append (p + 1) xs ys ∙ ap (λ q. in_row (p + 1) xs ⊕ in_row q ys) e)
    ∙ sym (sides_assoc (only_at p (x ∷ [])) (in_row (p + 1) xs) (in_row (p + suc (length xs)) ys))

pub parts-length : (ty : Ty) (v : Value) → is_concrete ty ≡ true → length (parts ty v) ≡ width ty
parts-length int v c = refl
parts-length bool v c = refl
parts-length (vec item) v c = refl
parts-length (pair first second) v c =
    let both = both_true (is_concrete first) (is_concrete second) c in
    length-append (parts first (first_of v)) (parts second (second_of v))
    ∙ ap₂ (λ a b. a + b) (parts-length first (first_of v) both.0) (parts-length second (second_of v) both.1)
    ∙ sym (length-append (kinds_of first) (kinds_of second))
parts-length (seq item) v c = absurd (cc)

-- what a value of a concrete type puts on its edges are its items
pub spread-parts : (ty : Ty) (p : ℕ) (v : Value) → is_concrete ty ≡ true → spread ty p v ≡ in_row p (parts ty v)
spread-parts int p v c = sym (nothing_more (only_at p (cell_for v ∷ [])))
spread-parts bool p v c = sym (nothing_more (only_at p (cell_for v ∷ [])))
spread-parts (vec item) p v c = sym (nothing_more (only_at p (cell_for v ∷ [])))
spread-parts (pair first second) p v c =
    let both = both_true (is_concrete first) (is_concrete second) c in
    let size = parts-length first (first_of v) both.0 in
    ap₂ (λ a b. a ⊕ b) (spread-parts first p (first_of v) both.0) (spread-parts second (p + width first) (second_of v) both.1 ∙ ap (λ n. in_row (p + n) (parts second (second_of v))) (sym size))
    ∙ sym (in_row-append p (parts first (first_of v)) (parts second (second_of v)))
spread-parts (seq item) p v c = absurd (cc)

-- it is built of its items
pub built-parts : (ty : Ty) (v : Value) (rest : List Cell) → is_concrete ty ≡ true → is_a ty v ≡ true → built ty (parts ty v ++ rest) ≡ Some (v, rest)
built-parts int (an_int n) rest c is = refl
built-parts int _ rest c is = absurd (cc)
built-parts bool (a_bool b) rest c is = refl
built-parts bool _ rest c is = absurd (cc)
built-parts (vec item) (a_vec vs) rest c is = ap (λ b. cond b (Some (a_vec vs, rest)) None) is
built-parts (vec item) _ rest c is = absurd (cc)
built-parts (pair first second) (a_pair a b) rest c is =
    let both = both_true (is_concrete first) (is_concrete second) c in
    let are = both_true (is_a first a) (is_a second b) is in
    ap (λ l. and_then (built second) (built first l)) (append_assoc (parts first a) (parts second b) rest)
    ∙ ap (and_then (built second)) (built-parts first a (parts second b ++ rest) both.0 are.0)
    ∙ ap (with_first a) (built-parts second b rest both.1 are.1)
built-parts (pair first second) _ rest c is = absurd (cc)
built-parts (seq item) v rest c is = absurd (cc)

abbrev left_with : Value → List Cell → Built
left_with v rest = Some (v, rest)

some_same : (a v : Value) (l rest : List Cell) → left_with a l ≡ left_with v rest → (a ≡ v) × (l ≡ rest)
some_same a v l rest e =
    let one : Value × List Cell = (a, l) in
    let other : Value × List Cell = (v, rest) in
    let both : one ≡ other = cc in
    (ap (λ z. z.0) both, ap (λ z. z.1) both)

-- and only of them
pub built-is : (ty : Ty) (cells : List Cell) (v : Value) (rest : List Cell) → built ty cells ≡ Some (v, rest) → (is_a ty v ≡ true) × (cells ≡ parts ty v ++ rest)
built-is int (int_cell n ∷ cells) v rest e =
    let same = some_same (an_int n) v cells rest e in
    (ap (is_a int) (sym same.0), ap₂ (λ x l. cell_for x ∷ l) same.0 same.1)
built-is int _ v rest e = absurd (cc)
built-is bool (flag b ∷ cells) v rest e =
    let same = some_same (a_bool b) v cells rest e in
    (ap (is_a bool) (sym same.0), ap₂ (λ x l. cell_for x ∷ l) same.0 same.1)
built-is bool _ v rest e = absurd (cc)
built-is (vec item) (datum a ∷ cells) v rest e = go a (is_a (vec item) a) refl e
  where
    go : (a : Value) (b : Bool) → is_a (vec item) a ≡ b → cond b (left_with a cells) None ≡ left_with v rest → (is_a (vec item) v ≡ true) × (datum a ∷ cells ≡ parts (vec item) v ++ rest)
    go (a_vec vs) true is e =
        let same = some_same (a_vec vs) v cells rest e in
        (ap (is_a (vec item)) (sym same.0) ∙ is, ap₂ (λ x l. cell_for x ∷ l) same.0 same.1)
    go _ true is e = absurd (cc)
    go _ false is e = absurd (cc)
built-is (vec item) _ v rest e = absurd (cc)
built-is (pair first second) cells v rest e = go (λ l b k. built-is second l b k) (built first cells) (λ a l. built-is first cells a l) e
  where
    second_is : (a : Value) (l : List Cell) (r : Built) →
        ((b : Value) (k : List Cell) → r ≡ left_with b k → (is_a second b ≡ true) × (l ≡ parts second b ++ k)) → (is_a first a ≡ true)
        × (cells ≡ parts first a ++ l) → with_first a r ≡ left_with v rest → (is_a (pair first second) v ≡ true)
        × (cells ≡ parts (pair first second) v ++ rest)
    second_is a l None ih there e = absurd (cc)
    second_is a l (Some (b, k)) ih there e =
        let same = some_same (a_pair a b) v k rest e in
        let h = ih b k refl in (
          ap (is_a (pair first second)) (sym same.0) ∙ and_true (is_a first a) (is_a second b) there.0 h.0,
          there.1 ∙ ap (λ m. parts first a ++ m) h.1 ∙ sym (append_assoc (parts first a) (parts second b) k) ∙ ap₂ (λ x m. parts (pair first second) x ++ m) same.0 same.1,
        )

    go : ((l : List Cell) (b : Value) (k : List Cell) → built second l ≡ left_with b k → (is_a second b ≡ true) × (l ≡ parts second b ++ k)) →
        (r : Built) → ((a : Value) (l : List Cell) → r ≡ left_with a l → (is_a first a ≡ true) × (cells ≡ parts first a ++ l)) →
        and_then (built second) r ≡ left_with v rest → (is_a (pair first second) v ≡ true) × (cells ≡ parts (pair first second) v ++ rest)
    go of_second None ih e = absurd (cc)
    go of_second (Some (a, l)) ih e = second_is a l (built second l) (of_second l) (ih a l refl) e
built-is (seq item) cells v rest e = absurd (cc)
