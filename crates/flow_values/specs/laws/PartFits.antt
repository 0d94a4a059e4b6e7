-- The items that may stand at each place among those of a value: what fits is of its kind, and each item of a value fits.
use Rattle.std.specs.Prelude.{◌≡◌, ℕ, zero, suc, ◌+◌, ◌-◌, ◌<◌, ◌≤◌, true, false, List, [], ◌∷◌, ◌++◌, Some, cond, nat_lt, length, refl}
use Rattle.std.specs.List.{slice_get}
use Rattle.std.proofs.Common.{inl, inr, arith, sym, ◌∙◌, ap}
use Rattle.std.proofs.lemmas.Bool.{cases_lt}
use Rattle.std.proofs.lemmas.Bool.Decides.{nat_tests}
use Rattle.snesl_data.specs.Types.{Ty, int, bool, pair, vec, seq, is_concrete}
use Rattle.snesl_data.specs.Values.{Value, an_int, a_bool, a_pair, a_vec}
use Rattle.flow_messages.specs.Cells.{Cell, flag, int as int_cell, datum, is_of}
use Rattle.flow_values.specs.Shapes.{is_a, kinds_of, kind_at}
use Rattle.flow_values.specs.Flats.{width}
use Rattle.flow_values.specs.laws.Kinds.{both_true, kind_left, kind_right}
use Rattle.flow_values.specs.Parts.{parts, part_fits}
use Rattle.flow_values.specs.laws.Parts.{parts-length}

-- of a pair the places of the first part come first
module _ (first second : Ty) (k : ℕ) (x : Cell) where
  pub in_first : k < width first → part_fits (pair first second) k x ≡ part_fits first k x
  in_first lt =
      let inside : nat_lt k (width first) ≡ true = grind (arith, nat_tests, lt) in
      ap (λ b. cond b (part_fits first k x) (part_fits second (k - width first) x)) inside

  pub in_second : width first ≤ k → part_fits (pair first second) k x ≡ part_fits second (k - width first) x
  in_second le =
      let outside : nat_lt k (width first) ≡ false = grind (arith, nat_tests, le) in
      ap (λ b. cond b (part_fits first k x) (part_fits second (k - width first) x)) outside

-- what is not of the kind of its edge does not fit
pub part_kind : (ty : Ty) (k : ℕ) (x : Cell) → is_of (kind_at (kinds_of ty) k) x ≡ false → part_fits ty k x ≡ false
part_kind int zero (int_cell n) e = absurd (cc)
part_kind int _ _ e = refl
part_kind bool zero (flag b) e = absurd (cc)
part_kind bool _ _ e = refl
part_kind (vec item) zero (datum v) e = absurd (cc)
part_kind (vec item) _ _ e = refl
part_kind (seq item) k x e = refl
part_kind (pair first second) k x e = elim (cases_lt k (width first)) [
  | inl lt ↦
      let same = kind_left (kinds_of first) (kinds_of second) k lt in
      in_first first second k x lt ∙ part_kind first k x (ap (λ kind. is_of kind x) (sym same) ∙ e)
  | inr le ↦
      let j = k - width first in
      let is : k ≡ width first + j = omega arith in
      let same = ap (kind_at (kinds_of first ++ kinds_of second)) is ∙ kind_right (kinds_of first) (kinds_of second) j in
      in_second first second k x le ∙ part_kind second j x (ap (λ kind. is_of kind x) (sym same) ∙ e)
]

-- what stands at a place of one list after another
pub get_left : (xs ys : List Cell) (k : ℕ) → k < length xs → slice_get (xs ++ ys) k ≡ slice_get xs k
get_left [] ys k lt = absurd (omega arith)
get_left (x ∷ xs) ys zero lt = refl
get_left (x ∷ xs) ys (suc k) lt = get_left xs ys k (omega arith)

pub get_right : (xs ys : List Cell) (k : ℕ) → slice_get (xs ++ ys) (length xs + k) ≡ slice_get ys k
get_right [] ys k = let e : 0 + k ≡ k = omega arith in ap (slice_get ys) e
get_right (x ∷ xs) ys k = let e : suc (length xs) + k ≡ suc (length xs + k) = omega arith in ap (slice_get (x ∷ xs ++ ys)) e ∙ get_right xs ys k

-- each item of a value fits
fits_at : (ty : Ty) (v : Value) (k : ℕ) (x : Cell) → is_concrete ty ≡ true → is_a ty v ≡ true → slice_get (parts ty v) k ≡ Some x → part_fits ty k x ≡ true
fits_at int (an_int n) zero x c is e = let same : int_cell n ≡ x = cc in ap (part_fits int 0) (sym same)
fits_at int (an_int n) (suc k) x c is e = absurd (cc)
fits_at int _ k x c is e = absurd (cc)
fits_at bool (a_bool b) zero x c is e = let same : flag b ≡ x = cc in ap (part_fits bool 0) (sym same)
fits_at bool (a_bool b) (suc k) x c is e = absurd (cc)
fits_at bool _ k x c is e = absurd (cc)
fits_at (vec item) (a_vec vs) zero x c is e = let same : datum (a_vec vs) ≡ x = cc in ap (part_fits (vec item) 0) (sym same) ∙ is
fits_at (vec item) (a_vec vs) (suc k) x c is e = absurd (cc)
fits_at (vec item) _ k x c is e = absurd (cc)
fits_at (pair first second) (a_pair a b) k x c is e =
    let both = both_true (is_concrete first) (is_concrete second) c in
    let are = both_true (is_a first a) (is_a second b) is in
    let size = parts-length first a both.0 in
    elim (cases_lt k (width first)) [
      | inl lt ↦
          let there = get_left (parts first a) (parts second b) k (omega (arith, lt, size)) in
          in_first first second k x lt ∙ fits_at first a k x both.0 are.0 (sym there ∙ e)
      | inr le ↦
          let j = k - width first in
          let is : k ≡ length (parts first a) + j = omega (arith, le, size) in
          let there = ap (slice_get (parts first a ++ parts second b)) is ∙ get_right (parts first a) (parts second b) j in
          in_second first second k x le ∙ fits_at second b j x both.1 are.1 (sym there ∙ e)
    ]
fits_at (pair first second) _ k x c is e = absurd (cc)
fits_at (seq item) v k x c is e = absurd (cc)

-- the next item of a value fits after these of its items
pub part_is : (ty : Ty) (v : Value) (got : List Cell) (x : Cell) (cells : List Cell) → is_concrete ty ≡ true → is_a ty v ≡ true → parts ty v ≡ got ++ x ∷ cells → part_fits ty (length got) x ≡ true
part_is ty v got x cells c is are =
    let place : length got ≡ length got + 0 = omega arith in
    fits_at ty v (length got) x c is (ap (λ l. slice_get l (length got)) are ∙ ap (slice_get (got ++ x ∷ cells)) place ∙ get_right got (x ∷ cells) 0)
