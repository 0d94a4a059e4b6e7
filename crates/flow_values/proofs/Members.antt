-- Values of a type, one after another.
use Rattle.std.proofs.Common.{◌≡◌, ℕ, zero, suc, ◌+◌, ◌<◌, ℤ, Bool, true, false, ◌&&◌, List, [], ◌∷◌, length, take, map, get_or, nat_eq, refl, sym, ap, ◌∙◌, arith}
use Rattle.snesl_data.specs.declared.datum.Datum.{Datum}
use Rattle.snesl_data.specs.Types.{Ty, int, bool, pair, vec, seq}
use Rattle.snesl_data.specs.Values.{an_int, a_bool, value_of, values_of}
use Rattle.flow_values.specs.Shapes.{is_a, all_are, is_int_type, is_bool_type}

-- whether all of these are of the type
abbrev each_is : Ty → List Datum → Bool
each_is item ds = all_are item (values_of (map value_of ds))

and_false : (b : Bool) → b && false ≡ false
and_false true = refl
and_false false = refl

-- one that is not of the type is among them
pub one_is_not : (item : Ty) (ds : List Datum) (i : ℕ) (d : Datum) → i < length ds → d ≡ get_or ds i d → is_a item (value_of d) ≡ false → each_is item ds ≡ false
one_is_not item [] i d lt at h = absurd (omega arith)
one_is_not item (x ∷ ds) zero d lt at h = ap (λ b. b && each_is item ds) (ap (λ x. is_a item (value_of x)) (sym at) ∙ h)
one_is_not item (x ∷ ds) (suc i) d lt at h = ap (λ b. is_a item (value_of x) && b) (one_is_not item ds i d (omega arith) at h) ∙ and_false (is_a item (value_of x))

and_both : (a b c : Bool) → (b ≡ true → c ≡ true) → a && b ≡ true → a && c ≡ true
and_both true b c h e = h e
and_both false b c h e = absurd (cc)

-- all before are of the type, and the next one
pub one_more_is : (item : Ty) (ds : List Datum) (i : ℕ) (d : Datum) → i < length ds → d ≡ get_or ds i d → is_a item (value_of d) ≡ true →
    each_is item (take i ds) ≡ true → each_is item (take (i + 1) ds) ≡ true
one_more_is item [] i d lt at h all = absurd (omega arith)
one_more_is item (x ∷ ds) zero d lt at h all = ap (λ b. b && true) (ap (λ x. is_a item (value_of x)) (sym at) ∙ h)
one_more_is item (x ∷ ds) (suc i) d lt at h all =
    let next : suc i + 1 ≡ suc (i + 1) = omega arith in
    let others : each_is item (take i ds) ≡ true → each_is item (take (i + 1) ds) ≡ true = λ e. one_more_is item ds i d (omega arith) at h e in
    ap (λ n. each_is item (take n (x ∷ ds))) next ∙ and_both (is_a item (value_of x)) (each_is item (take i ds)) (each_is item (take (i + 1) ds)) others all

-- integers are of the type of integers
all_ints : (ns : List ℤ) → all_are int (values_of (map an_int ns)) ≡ true
all_ints [] = refl
all_ints (n ∷ ns) = all_ints ns

all_bools : (bs : List Bool) → all_are bool (values_of (map a_bool bs)) ≡ true
all_bools [] = refl
all_bools (b ∷ bs) = all_bools bs

none_at : (k : ℕ) → false ≡ nat_eq k 0 → k ≡ 0 → ⊥
none_at k some none = let e : false ≡ true = some ∙ ap (λ k. nat_eq k 0) none in absurd (cc)

-- and of no other, where there is one
pub ints_are : (item : Ty) (ns : List ℤ) (k : ℕ) → k ≡ length ns → false ≡ nat_eq k 0 → is_int_type item ≡ all_are item (values_of (map an_int ns))
ints_are item [] k is some = absurd (none_at k some is)
ints_are int (n ∷ ns) k is some = sym (all_ints ns)
ints_are bool (n ∷ ns) k is some = refl
ints_are (pair first second) (n ∷ ns) k is some = refl
ints_are (vec item) (n ∷ ns) k is some = refl
ints_are (seq item) (n ∷ ns) k is some = refl

pub bools_are : (item : Ty) (bs : List Bool) (k : ℕ) → k ≡ length bs → false ≡ nat_eq k 0 → is_bool_type item ≡ all_are item (values_of (map a_bool bs))
bools_are item [] k is some = absurd (none_at k some is)
bools_are int (b ∷ bs) k is some = refl
bools_are bool (b ∷ bs) k is some = sym (all_bools bs)
bools_are (pair first second) (b ∷ bs) k is some = refl
bools_are (vec item) (b ∷ bs) k is some = refl
bools_are (seq item) (b ∷ bs) k is some = refl
