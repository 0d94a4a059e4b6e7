-- The columns that values put on the edges of their type: of pairs those of both parts, and of sequences flags and those of all
-- elements.
use Rattle.std.specs.Prelude.{◌≡◌, ◌≢◌, ℕ, zero, suc, ◌+◌, ◌<◌, ◌≤◌, List, [], ◌∷◌, ◌++◌, map, length, ◌↔◌, refl}
use Rattle.std.proofs.Common.{inl, inr, arith, sym, ◌∙◌, ap, length-append, append-nil}
use Rattle.std.proofs.Math.Path.{ap₂}
use Rattle.snesl_data.specs.Types.{Ty, int, bool, pair, vec, seq}
use Rattle.snesl_data.specs.Values.{Value}
use Rattle.flow_messages.specs.Cells.{Cell}
use Rattle.flow_base.specs.Lists.{Lists}
use Rattle.flow_base.specs.Ports.{ports, each_port}
use Rattle.flow_base.specs.Flags.{flags, concatenation, lengths}
use Rattle.flow_base.specs.Columns.{columns, columns_same, column_is}
use Rattle.flow_values.specs.Shapes.{kinds_of, cell_for, first_of, second_of, elements_of}
use Rattle.flow_values.specs.Flats.{only_at, width, flat, Outputs}
use Rattle.flow_values.specs.laws.Flats.{flat_each}
use Rattle.flow_values.specs.laws.Sides.{only_here, only_there, spread_above, all_below, all_none}
use Rattle.flow_nodes.specs.functions.Made.{columns_of_values}

-- the columns of two numbers of ports
columns_add : (m n : ℕ) (i : Lists Cell) → columns (m + n) i ≡ columns m i ++ columns n (λ q. i (m + q))
columns_add zero n i =
    let e : zero + n ≡ n = omega arith in
    ap (λ k. columns k i) e ∙ columns_same n i (λ q. i (zero + q)) (λ q lt. let f : q ≡ zero + q = omega arith in ap i f)
columns_add (suc m) n i =
    let e : suc m + n ≡ suc (m + n) = omega arith in
    ap (λ k. columns k i) e
    ∙ ap (λ cs. i 0 ∷ cs)
    (columns_add m n (λ q. i (suc q))
    ∙ ap (λ cs. columns m (λ q. i (suc q)) ++ cs)
    (columns_same n (λ q. i (suc (m + q))) (λ q. i (suc m + q)) (λ q lt. let f : suc (m + q) ≡ suc m + q = omega arith in ap i f)))

pub columns_length : (n : ℕ) (i : Lists Cell) → length (columns n i) ≡ n
columns_length zero i = refl
columns_length (suc n) i = ap suc (columns_length n (λ q. i (suc q)))

-- values on edges from a later port are at as much later ports
only_shift : (k p q : ℕ) (xs : List Cell) → only_at (k + p) xs (k + q) ≡ only_at p xs q
only_shift k p q xs = elim (ports q p) [
  | inl e ↦ ap (λ r. only_at (k + p) xs (k + r)) e ∙ only_here (k + p) xs ∙ sym (ap (only_at p xs) e ∙ only_here p xs)
  | inr ne ↦ let other : k + q ≢ k + p = omega arith in only_there (k + p) (k + q) xs other ∙ sym (only_there p q xs ne)
]

flat_shift : (ty : Ty) (k p q : ℕ) (vs : List Value) → flat ty (k + p) vs (k + q) ≡ flat ty p vs q
flat_shift int k p q vs = only_shift k p q (map cell_for vs)
flat_shift bool k p q vs = only_shift k p q (map cell_for vs)
flat_shift (vec item) k p q vs = only_shift k p q (map cell_for vs)
flat_shift (pair first second) k p q vs =
    let e : k + p + width first ≡ k + (p + width first) = omega arith in
    ap₂ (λ a b. a ++ b) (flat_shift first k p q (map first_of vs)) (ap (λ r. flat second r (map second_of vs) (k + q)) e ∙ flat_shift second k (p + width first) q (map second_of vs))
flat_shift (seq item) k p q vs =
    let e : k + p + 1 ≡ k + (p + 1) = omega arith in
    ap₂ (λ a b. a ++ b) (only_shift k p q (flags (lengths (map elements_of vs))))
    (ap (λ r. flat item r (concatenation (map elements_of vs)) (k + q)) e ∙ flat_shift item k (p + 1) q (concatenation (map elements_of vs)))

flat_below : (ty : Ty) (p q : ℕ) (vs : List Value) → q < p → flat ty p vs q ≡ []
flat_below ty p q vs lt = ap (λ l. l q) (flat_each ty p vs) ∙ all_below ty p vs q lt

flat_above : (ty : Ty) (p q : ℕ) (vs : List Value) → p + width ty ≤ q → flat ty p vs q ≡ []
flat_above ty p q vs le = ap (λ l. l q) (flat_each ty p vs) ∙ all_none ty p q (λ v. spread_above ty p v q le) vs

append_left : (xs ys : List Cell) → ys ≡ [] → xs ++ ys ≡ xs
append_left xs ys e = ap (λ l. xs ++ l) e ∙ append-nil xs

append_right : (xs ys : List Cell) → xs ≡ [] → xs ++ ys ≡ ys
append_right xs ys e = ap (λ l. l ++ ys) e

pub laid_pair : (first second : Ty) (vs : List Value) → columns_of_values (pair first second) vs ≡ columns_of_values first (map first_of vs) ++ columns_of_values second (map second_of vs)
laid_pair first second vs =
    let m = width first in
    let n = width second in
    let l = flat first 0 (map first_of vs) in
    let r = flat second (0 + m) (map second_of vs) in
    let all = flat (pair first second) 0 vs in
    let left : columns m all ≡ columns m l = columns_same m all l (λ q lt. append_left (l q) (r q) (flat_below second (0 + m) q (map second_of vs) (omega arith))) in
    let right : columns n (λ q. all (m + q)) ≡ columns n (flat second 0 (map second_of vs)) =
    columns_same n (λ q. all (m + q)) (flat second 0 (map second_of vs)) (λ q lt.
    let e : 0 + m ≡ m + 0 = omega arith in
    append_right (l (m + q)) (r (m + q)) (flat_above first 0 (m + q) (map first_of vs) (omega arith))
    ∙ ap (λ p. flat second p (map second_of vs) (m + q)) e ∙ flat_shift second m 0 q (map second_of vs)) in
    ap (λ k. columns k all) (length-append (kinds_of first) (kinds_of second)) ∙ columns_add m n all ∙ ap₂ (λ a b. a ++ b) left right

pub laid_seq : (item : Ty) (vs : List Value) → columns_of_values (seq item) vs ≡ flags (lengths (map elements_of vs)) ∷ columns_of_values item (concatenation (map elements_of vs))
laid_seq item vs =
    let n = width item in
    let f = flags (lengths (map elements_of vs)) in
    let others = concatenation (map elements_of vs) in
    let all = flat (seq item) 0 vs in
    let first : all 0 ≡ f = append_left (only_at 0 f 0) (flat item (0 + 1) others 0) (flat_below item (0 + 1) 0 others (omega arith)) ∙ only_here 0 f in
    let behind : columns n (λ q. all (suc q)) ≡ columns n (flat item 0 others) =
    columns_same n (λ q. all (suc q)) (flat item 0 others) (λ q lt.
    let other : suc q ≢ 0 = omega arith in
    let e : suc q ≡ 1 + q = omega arith in
    append_right (only_at 0 f (suc q)) (flat item (0 + 1) others (suc q)) (only_there 0 (suc q) f other) ∙ ap (flat item (0 + 1) others) e ∙ flat_shift item 1 0 q others) in
    ap₂ (λ l cs. l ∷ cs) first behind

pub laid_length : (ty : Ty) (vs : List Value) → length (columns_of_values ty vs) ≡ width ty
laid_length ty vs = columns_length (width ty) (flat ty 0 vs)

-- lists at so many ports are values where their columns are
pub laid_is : (ty : Ty) (o : Lists Cell) (vs : List Value) → Outputs (width ty) o (flat ty 0 vs) ↔ (columns (width ty) o ≡ columns_of_values ty vs)
laid_is ty o vs = (
  λ h. columns_same (width ty) o (flat ty 0 vs) h,
  λ e q lt. sym (column_is (width ty) o q lt) ∙ ap (λ cs. each_port cs q) e ∙ column_is (width ty) (flat ty 0 vs) q lt,
)
