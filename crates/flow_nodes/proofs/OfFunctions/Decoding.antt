-- What lists of cells encode: each decoder gives just what was encoded.
use Rattle.std.specs.Prelude.{◌≡◌, ℕ, zero, suc, ℤ, Bool, true, false, List, [], ◌∷◌, map, replicate, Option, Some, None, option_map, refl}
use Rattle.std.specs.List.{list_all}
use Rattle.std.proofs.Common.{sym, ◌∙◌, ap, subst, map-id}
use Rattle.snesl_data.specs.Values.{Value}
use Rattle.snesl_data.specs.declared.operators.scalar.Scalar.{Scalar}
use Rattle.flow_messages.specs.Cells.{Cell, unit, flag, int, datum, is_of}
use Rattle.flow_messages.specs.declared.message.Kind.{Kind}
use Rattle.flow_base.specs.Flags.{F, T, elements, flags}
use Rattle.flow_base.specs.Ranges.{AllOf}
use Rattle.flow_folds.specs.Scalars.{cell_of_scalar, scalar_in}
use Rattle.flow_folds.specs.ScalarCells.{scalar_in-cell, scalar_in-some}
use Rattle.flow_values.specs.laws.Kinds.{both_true}
use Rattle.flow_nodes.specs.functions.Lists.{bind, each}
use Rattle.flow_nodes.specs.functions.Decoded.{one_in_segment, numbers, truth_in, integer_in, value_in, truths, integers, scalars, units, items_of_kind}
use Rattle.flow_nodes.proofs.OfFunctions.Options.{bind_gives, map_gives, only_if_gives, only_if_true, some_same, each_forth, each_back}

-- numbers

numbers_elements : (n : ℕ) (xs : List Cell) → numbers (elements n (T ∷ xs)) ≡ option_map (λ ns. n ∷ ns) (numbers xs)
numbers_elements zero xs = refl
numbers_elements (suc n) xs = ap (λ o. bind o one_in_segment) (numbers_elements n xs) ∙ go (numbers xs)
  where
    go : (o : Option (List ℕ)) → bind (option_map (λ ns. n ∷ ns) o) one_in_segment ≡ option_map (λ ns. suc n ∷ ns) o
    go None = refl
    go (Some ns) = refl

pub numbers_forth : (ns : List ℕ) → numbers (flags ns) ≡ Some ns
numbers_forth [] = refl
numbers_forth (n ∷ ns) = numbers_elements n (flags ns) ∙ ap (option_map (λ ns. n ∷ ns)) (numbers_forth ns)

more_back : (xs : List Cell) (ms ns : List ℕ) → xs ≡ flags ms → one_in_segment ms ≡ Some ns → F ∷ xs ≡ flags ns
more_back xs [] ns is e = absurd (cc)
more_back xs (m ∷ ms) ns is e = let same : suc m ∷ ms ≡ ns = cc in ap (λ l. F ∷ l) is ∙ ap flags same

pub numbers_back : (xs : List Cell) (ns : List ℕ) → numbers xs ≡ Some ns → xs ≡ flags ns
numbers_back [] ns e = let same : [] ≡ ns = cc in ap flags same
numbers_back (flag true ∷ xs) ns e =
    let g = map_gives (λ ns. zero ∷ ns) (numbers xs) e in
    ap (λ l. T ∷ l) (numbers_back xs g.0 g.1) ∙ ap flags (sym g.2)
numbers_back (flag false ∷ xs) ns e = let g = bind_gives (numbers xs) one_in_segment e in more_back xs g.0 ns (numbers_back xs g.0 g.1) g.2
numbers_back (unit ∷ xs) ns e = absurd (cc)
numbers_back (int n ∷ xs) ns e = absurd (cc)
numbers_back (datum v ∷ xs) ns e = absurd (cc)

-- truth values

pub truths_forth : (bs : List Bool) → truths (map flag bs) ≡ Some bs
truths_forth bs = each_forth truth_in flag (λ b. b) (λ b. refl) bs ∙ ap Some (map-id bs)

truth_is : (x : Cell) (b : Bool) → truth_in x ≡ Some b → (c : Bool) × (x ≡ flag c) × (b ≡ c)
truth_is (flag c) b e = let same : b ≡ c = cc in (c, refl, same)
truth_is _ b e = absurd (cc)

pub truths_back : (xs : List Cell) (bs : List Bool) → truths xs ≡ Some bs → xs ≡ map flag bs
truths_back xs bs e = let g = each_back truth_in flag (λ b. b) truth_is xs bs e in g.1 ∙ ap (map flag) (sym (g.2 ∙ map-id g.0))

-- integers

pub integers_forth : (ns : List ℤ) → integers (map int ns) ≡ Some ns
integers_forth ns = each_forth integer_in int (λ n. n) (λ n. refl) ns ∙ ap Some (map-id ns)

integer_is : (x : Cell) (n : ℤ) → integer_in x ≡ Some n → (m : ℤ) × (x ≡ int m) × (n ≡ m)
integer_is (int m) n e = let same : n ≡ m = cc in (m, refl, same)
integer_is _ n e = absurd (cc)

pub integers_back : (xs : List Cell) (ns : List ℤ) → integers xs ≡ Some ns → xs ≡ map int ns
integers_back xs ns e = let g = each_back integer_in int (λ n. n) integer_is xs ns e in g.1 ∙ ap (map int) (sym (g.2 ∙ map-id g.0))

-- scalars

pub scalars_forth : (ks : List Scalar) → scalars (map cell_of_scalar ks) ≡ Some ks
scalars_forth ks = each_forth scalar_in cell_of_scalar (λ k. k) scalar_in-cell ks ∙ ap Some (map-id ks)

pub scalars_back : (xs : List Cell) (ks : List Scalar) → scalars xs ≡ Some ks → xs ≡ map cell_of_scalar ks
scalars_back xs ks e = let g = each_back scalar_in cell_of_scalar (λ k. k) (λ x k e. (k, scalar_in-some x k e, refl)) xs ks e in g.1 ∙ ap (map cell_of_scalar) (sym (g.2 ∙ map-id g.0))

-- values that are items

pub data_forth : (vs : List Value) → each value_in (map datum vs) ≡ Some vs
data_forth vs = each_forth value_in datum (λ v. v) (λ v. refl) vs ∙ ap Some (map-id vs)

datum_is : (x : Cell) (v : Value) → value_in x ≡ Some v → (w : Value) × (x ≡ datum w) × (v ≡ w)
datum_is (datum w) v e = let same : v ≡ w = cc in (w, refl, same)
datum_is _ v e = absurd (cc)

pub data_back : (xs : List Cell) (vs : List Value) → each value_in xs ≡ Some vs → xs ≡ map datum vs
data_back xs vs e = let g = each_back value_in datum (λ v. v) datum_is xs vs e in g.1 ∙ ap (map datum) (sym (g.2 ∙ map-id g.0))

-- Units

pub units_forth : (n : ℕ) → units (replicate n unit) ≡ Some n
units_forth zero = refl
units_forth (suc n) = ap (option_map suc) (units_forth n)

pub units_back : (xs : List Cell) (n : ℕ) → units xs ≡ Some n → xs ≡ replicate n unit
units_back [] n e = let same : zero ≡ n = some_same zero n e in ap (λ n. replicate n unit) same
units_back (unit ∷ xs) n e =
    let g = map_gives suc (units xs) e in
    ap (λ l. unit ∷ l) (units_back xs g.0 g.1) ∙ ap (λ n. replicate n unit) (sym g.2)
units_back (flag b ∷ xs) n e = absurd (cc)
units_back (int m ∷ xs) n e = absurd (cc)
units_back (datum v ∷ xs) n e = absurd (cc)

-- items of a kind

all_of_forth : (kind : Kind) (xs : List Cell) → AllOf kind xs → list_all (is_of kind) xs ≡ true
all_of_forth kind [] h = refl
all_of_forth kind (x ∷ xs) h = rw h.0 (all_of_forth kind xs h.1)

all_of_back : (kind : Kind) (xs : List Cell) → list_all (is_of kind) xs ≡ true → AllOf kind xs
all_of_back kind [] e = tt
all_of_back kind (x ∷ xs) e =
    let both = both_true (is_of kind x) (list_all (is_of kind) xs) e in
    (both.0, all_of_back kind xs both.1)

pub items_forth : (kind : Kind) (xs : List Cell) → AllOf kind xs → items_of_kind kind xs ≡ Some xs
items_forth kind xs h = only_if_true (list_all (is_of kind) xs) xs (all_of_forth kind xs h)

pub items_back : (kind : Kind) (xs ys : List Cell) → items_of_kind kind xs ≡ Some ys → (xs ≡ ys) × AllOf kind ys
items_back kind xs ys e =
    let g = only_if_gives (list_all (is_of kind) xs) xs e in
    (sym g.1, subst (AllOf kind) (sym g.1) (all_of_back kind xs g.0))

-- So no two lists have the same encoding.

pub flags_injective : (ns ms : List ℕ) → flags ns ≡ flags ms → ns ≡ ms
flags_injective ns ms e = some_same ns ms (sym (numbers_forth ns) ∙ ap numbers e ∙ numbers_forth ms)

pub truths_injective : (bs cs : List Bool) → map flag bs ≡ map flag cs → bs ≡ cs
truths_injective bs cs e = some_same bs cs (sym (truths_forth bs) ∙ ap truths e ∙ truths_forth cs)

pub integers_injective : (ns ms : List ℤ) → map int ns ≡ map int ms → ns ≡ ms
integers_injective ns ms e = some_same ns ms (sym (integers_forth ns) ∙ ap integers e ∙ integers_forth ms)

pub scalars_injective : (ks ls : List Scalar) → map cell_of_scalar ks ≡ map cell_of_scalar ls → ks ≡ ls
scalars_injective ks ls e = some_same ks ls (sym (scalars_forth ks) ∙ ap scalars e ∙ scalars_forth ls)

pub units_injective : (n m : ℕ) → replicate n unit ≡ replicate m unit → n ≡ m
units_injective n m e = some_same n m (sym (units_forth n) ∙ ap units e ∙ units_forth m)
