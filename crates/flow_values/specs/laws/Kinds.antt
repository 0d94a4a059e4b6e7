-- What a value puts on its edges is of their kinds, and there is something on its first.
use Rattle.std.specs.Prelude.{◌≡◌, ℕ, zero, suc, ◌+◌, ◌-◌, ◌<◌, Bool, ◌≢◌, ◌&&◌, true, false, List, [], ◌∷◌, ◌++◌, length, refl}
use Rattle.std.proofs.Common.{inl, inr, sym, ◌∙◌, ap, subst, arith}
use Rattle.std.proofs.lemmas.Bool.{cases_lt}
use Rattle.snesl_data.specs.Types.{Ty, int, bool, pair, vec, seq}
use Rattle.snesl_data.specs.Values.{Value, Values, an_int, a_bool, a_pair, a_vec, a_seq, no_values, more_values, list_of}
use Rattle.flow_messages.specs.Cells.{Cell, is_of}
use Rattle.flow_messages.specs.declared.message.Kind.{Kind}
use Rattle.flow_messages.specs.declared.message.Kind.TheVariants.{Bool as BoolKind, Int as IntKind, Vec as VecKind}
use Rattle.flow_base.specs.Lists.{HasFirst}
use Rattle.flow_base.specs.Ranges.{AllOf}
use Rattle.flow_base.specs.Flags.{T, elements}
use Rattle.flow_values.specs.Shapes.{is_a, all_are, kinds_of, cell_for, first_of, second_of, elements_of, kind_at}
use Rattle.flow_values.specs.Flats.{only_at, width, spread, spread_all}
use Rattle.flow_values.specs.laws.Sides.{only_here, only_there, spread_below, spread_above, all_below}

pub both_true : (a b : Bool) → a && b ≡ true → (a ≡ true) × (b ≡ true)
both_true true b e = (refl, e)
both_true false b e = absurd (cc)

pub and_true : (a b : Bool) → a ≡ true → b ≡ true → a && b ≡ true
and_true a b e f = rw (e, f) refl

pub full_append : (xs ys : List Cell) → HasFirst xs → HasFirst (xs ++ ys)
full_append [] ys h = absurd h
full_append (x ∷ xs) ys h = tt

elements_full : (n : ℕ) → HasFirst (elements n (T ∷ []))
elements_full zero = tt
elements_full (suc n) = tt

pub flags_here : (p n : ℕ) → HasFirst (only_at p (elements n (T ∷ [])) p)
flags_here p n = subst (λ l. HasFirst l) (sym (only_here p (elements n (T ∷ [])))) (elements_full n)

-- at its first edge a value has an item
pub spread_full : (ty : Ty) (p : ℕ) (v : Value) → HasFirst (spread ty p v p)
spread_full int p v = subst (λ l. HasFirst l) (sym (only_here p (cell_for v ∷ []))) tt
spread_full bool p v = subst (λ l. HasFirst l) (sym (only_here p (cell_for v ∷ []))) tt
spread_full (vec item) p v = subst (λ l. HasFirst l) (sym (only_here p (cell_for v ∷ []))) tt
spread_full (pair first second) p v = full_append (spread first p (first_of v) p) (spread second (p + width first) (second_of v) p) (spread_full first p (first_of v))
spread_full (seq item) p v = full_append (only_at p (elements (length (elements_of v)) (T ∷ [])) p) (spread_all item (p + 1) (elements_of v) p) (flags_here p (length (elements_of v)))

all_append : (kind : Kind) (xs ys : List Cell) → AllOf kind xs → AllOf kind ys → AllOf kind (xs ++ ys)
all_append kind [] ys h g = g
all_append kind (x ∷ xs) ys h g = (h.0, all_append kind xs ys h.1 g)

all_flags : (n : ℕ) → AllOf BoolKind (elements n (T ∷ []))
all_flags zero = (refl, tt)
all_flags (suc n) = (refl, all_flags n)

none_of : (kind : Kind) (xs : List Cell) → xs ≡ [] → AllOf kind xs
none_of kind xs e = subst (λ l. AllOf kind l) (sym e) tt

pub kind_left : (xs ys : List Kind) (k : ℕ) → k < length xs → kind_at (xs ++ ys) k ≡ kind_at xs k
kind_left [] ys k lt = absurd (omega arith)
kind_left (x ∷ xs) ys zero lt = refl
kind_left (x ∷ xs) ys (suc k) lt = kind_left xs ys k (omega arith)

pub kind_right : (xs ys : List Kind) (k : ℕ) → kind_at (xs ++ ys) (length xs + k) ≡ kind_at ys k
kind_right [] ys k = let e : 0 + k ≡ k = omega arith in ap (kind_at ys) e
kind_right (x ∷ xs) ys k = let e : suc (length xs) + k ≡ suc (length xs + k) = omega arith in ap (kind_at (x ∷ xs ++ ys)) e ∙ kind_right xs ys k

-- the only item, at the only edge
leaf_kind : (kind : Kind) (p k : ℕ) (x : Cell) → is_of kind x ≡ true → AllOf (kind_at (kind ∷ []) k) (only_at p (x ∷ []) (p + k))
leaf_kind kind p zero x e = let here : p + 0 ≡ p = omega arith in subst (λ l. AllOf kind l) (sym (ap (only_at p (x ∷ [])) here ∙ only_here p (x ∷ []))) (e, tt)
leaf_kind kind p (suc k) x e = let n : p + suc k ≢ p = omega arith in none_of (kind_at (kind ∷ []) (suc k)) (only_at p (x ∷ []) (p + suc k)) (only_there p (p + suc k) (x ∷ []) n)

module _ (first second : Ty) (p : ℕ) (a b : Value) where
  abbrev left : ℕ → List Cell
  left k = spread first p a (p + k)

  abbrev right : ℕ → List Cell
  right k = spread second (p + width first) b (p + k)

  pair_kinds : ((k : ℕ) → AllOf (kind_at (kinds_of first) k) (left k)) → ((j : ℕ) → AllOf (kind_at (kinds_of second) j) (spread second (p + width first) b ((p + width first) + j))) →
      (k : ℕ) → AllOf (kind_at (kinds_of first ++ kinds_of second) k) (left k ++ right k)
  pair_kinds of_first of_second k = elim (cases_lt k (width first)) [
    | inl lt ↦
        let none : right k ≡ [] = spread_below second (p + width first) b (p + k) (omega arith) in
        let same = kind_left (kinds_of first) (kinds_of second) k lt in
        subst (λ kind. AllOf kind (left k ++ right k)) (sym same) (all_append (kind_at (kinds_of first) k) (left k) (right k) (of_first k) (none_of (kind_at (kinds_of first) k) (right k) none))
    | inr le ↦
        let j = k - width first in
        let is : k ≡ width first + j = omega arith in
        let there : p + k ≡ (p + width first) + j = omega arith in
        let none : left k ≡ [] = spread_above first p a (p + k) (omega arith) in
        let same : kind_at (kinds_of first ++ kinds_of second) k ≡ kind_at (kinds_of second) j = ap (kind_at (kinds_of first ++ kinds_of second)) is
        ∙ kind_right (kinds_of first) (kinds_of second) j in
        let others : AllOf (kind_at (kinds_of second) j) (right k) = subst (λ q. AllOf (kind_at (kinds_of second) j) (spread second (p + width first) b q)) (sym there) (of_second j) in
        subst (λ kind. AllOf kind (left k ++ right k)) (sym same) (all_append (kind_at (kinds_of second) j) (left k) (right k) (none_of (kind_at (kinds_of second) j) (left k) none) others)
  ]

-- of all that are of the kind, all that they put there is
values_kinds : (item : Ty) (p q : ℕ) (kind : Kind) → ((v : Value) → is_a item v ≡ true → AllOf kind (spread item p v q)) → (vs : Values) →
    all_are item vs ≡ true → AllOf kind (spread_all item p (list_of vs) q)
values_kinds item p q kind h no_values are = tt
values_kinds item p q kind h (more_values v vs) are =
    let both = both_true (is_a item v) (all_are item vs) are in
    all_append kind (spread item p v q) (spread_all item p (list_of vs) q) (h v both.0) (values_kinds item p q kind h vs both.1)

seq_kinds : (item : Ty) (p : ℕ) (vs : Values) → ((j : ℕ) → AllOf (kind_at (kinds_of item) j) (spread_all item (p + 1) (list_of vs) ((p + 1) + j))) →
    (k : ℕ) → AllOf (kind_at (BoolKind ∷ kinds_of item) k) (spread (seq item) p (a_seq vs) (p + k))
seq_kinds item p vs of_items zero =
    let here : p + 0 ≡ p = omega arith in
    let flags = elements (length (list_of vs)) (T ∷ []) in
    let none = all_below item (p + 1) (list_of vs) p (omega arith) in
    subst (λ q. AllOf BoolKind (spread (seq item) p (a_seq vs) q)) (sym here)
    (all_append BoolKind (only_at p flags p) (spread_all item (p + 1) (list_of vs) p)
    (subst (λ l. AllOf BoolKind l) (sym (only_here p flags)) (all_flags (length (list_of vs))))
    (none_of BoolKind (spread_all item (p + 1) (list_of vs) p) none))
seq_kinds item p vs of_items (suc k) =
    let n : p + suc k ≢ p = omega arith in
    let there : p + suc k ≡ (p + 1) + k = omega arith in
    let kind = kind_at (kinds_of item) k in
    let flags = elements (length (list_of vs)) (T ∷ []) in
    all_append kind (only_at p flags (p + suc k)) (spread_all item (p + 1) (list_of vs) (p + suc k))
    (none_of kind (only_at p flags (p + suc k)) (only_there p (p + suc k) flags n))
    (subst (λ q. AllOf kind (spread_all item (p + 1) (list_of vs) q)) (sym there) (of_items k))

-- what a value puts on the k-th of its edges is of that edge's kind
pub spread_kinds : (ty : Ty) (p k : ℕ) (v : Value) → is_a ty v ≡ true → AllOf (kind_at (kinds_of ty) k) (spread ty p v (p + k))
spread_kinds int p k (an_int n) is = leaf_kind IntKind p k (cell_for (an_int n)) refl
spread_kinds int p k _ is = absurd (cc)
spread_kinds bool p k (a_bool b) is = leaf_kind BoolKind p k (cell_for (a_bool b)) refl
spread_kinds bool p k _ is = absurd (cc)
spread_kinds (vec item) p k (a_vec vs) is = leaf_kind VecKind p k (cell_for (a_vec vs)) refl
spread_kinds (vec item) p k _ is = absurd (cc)
spread_kinds (pair first second) p k (a_pair a b) is =
    let both = both_true (is_a first a) (is_a second b) is in
    pair_kinds first second p a b (λ k. spread_kinds first p k a both.0) (λ j. spread_kinds second (p + width first) j b both.1) k
spread_kinds (pair first second) p k _ is = absurd (cc)
spread_kinds (seq item) p k (a_seq vs) is = seq_kinds item p vs (λ j. values_kinds item (p + 1) ((p + 1) + j) (kind_at (kinds_of item) j) (λ v one. spread_kinds item (p + 1) j v one) vs is) k
spread_kinds (seq item) p k _ is = absurd (cc)
