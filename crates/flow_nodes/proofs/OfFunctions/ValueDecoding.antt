-- What the columns of a type's edges encode: just the values of the type that were put there.
use Rattle.std.specs.Prelude.{◌≡◌, ℕ, ℤ, Bool, true, List, [], ◌∷◌, ◌++◌, map, length, take, drop, Option, Some, option_map, refl}
use Rattle.std.proofs.Common.{sym, ◌∙◌, ap, subst}
use Rattle.std.proofs.Math.Path.{ap₂}
use Rattle.std.proofs.lemmas.List.{take-append-drop}
use Rattle.std.proofs.Math.Seq.{take-append_seam}
use Rattle.snesl_data.specs.Types.{Ty, int, bool, pair, vec, seq}
use Rattle.snesl_data.specs.Values.{Value, Values, an_int, a_bool, a_pair, a_vec, a_seq, no_values, more_values, list_of, values_of}
use Rattle.flow_messages.specs.Cells.{Cell, datum}
use Rattle.flow_base.specs.Flags.{flags, concatenation, lengths}
use Rattle.flow_base.specs.Columns.{Columns}
use Rattle.flow_values.specs.Shapes.{is_a, all_are, cell_for, first_of, second_of, elements_of}
use Rattle.flow_values.specs.Flats.{width}
use Rattle.flow_values.specs.laws.Kinds.{both_true, and_true}
use Rattle.flow_nodes.specs.functions.Lists.{each, paired}
use Rattle.flow_nodes.specs.functions.Decoded.{numbers, truths, integers, value_in, of_type, grouped, a_pair_of, a_seq_of, values}
use Rattle.flow_nodes.specs.functions.Made.{columns_of_values}
use Rattle.flow_nodes.proofs.OfFunctions.Options.{bind_gives, map_gives, only_if_gives, only_if_true, some_same, paired_forth, paired_back, cut_forth, cut_back, map_map}
use Rattle.flow_nodes.proofs.OfFunctions.Decoding.{numbers_forth, numbers_back, truths_forth, truths_back, integers_forth, integers_back, data_forth, data_back}
use Rattle.flow_nodes.proofs.OfFunctions.Edges.{laid_pair, laid_seq, laid_length}

-- all values are of the type
abbrev pub AllAre : Ty → List Value → Type 0
AllAre ty vs = all_are ty (values_of vs) ≡ true

pub list_values : (vs : List Value) → list_of (values_of vs) ≡ vs
list_values [] = refl
list_values (v ∷ vs) = ap (λ l. v ∷ l) (list_values vs)

pub values_list : (vs : Values) → values_of (list_of vs) ≡ vs
values_list no_values = refl
values_list (more_values v vs) = ap (more_values v) (values_list vs)

pub all_split : (ty : Ty) (v : Value) (vs : List Value) → AllAre ty (v ∷ vs) → (is_a ty v ≡ true) × AllAre ty vs
all_split ty v vs h = both_true (is_a ty v) (all_are ty (values_of vs)) h

pub all_cons : (ty : Ty) (v : Value) (vs : List Value) → is_a ty v ≡ true → AllAre ty vs → AllAre ty (v ∷ vs)
all_cons ty v vs h g = and_true (is_a ty v) (all_are ty (values_of vs)) h g

pub all_joined : (ty : Ty) (us vs : List Value) → AllAre ty us → AllAre ty vs → AllAre ty (us ++ vs)
all_joined ty [] vs h g = g
all_joined ty (u ∷ us) vs h g = let s = all_split ty u us h in all_cons ty u (us ++ vs) s.0 (all_joined ty us vs s.1 g)

pub all_apart : (ty : Ty) (us vs : List Value) → AllAre ty (us ++ vs) → AllAre ty us × AllAre ty vs
all_apart ty [] vs h = (refl, h)
all_apart ty (u ∷ us) vs h = let s = all_split ty u (us ++ vs) h in let g = all_apart ty us vs s.1 in (all_cons ty u us s.0 g.0, g.1)

-- all that are of the type come of something, where each does
all_map : {Z : Type 0} (ty : Ty) (make : Z → Value) → ((v : Value) → is_a ty v ≡ true → (z : Z) × (v ≡ make z)) → (vs : List Value) → AllAre ty vs → (zs : List Z) × (vs ≡ map make zs)
all_map ty make h [] are = ([], refl)
all_map ty make h (v ∷ vs) are =
    let s = all_split ty v vs are in
    let one = h v s.0 in
    let others = all_map ty make h vs s.1 in
    (one.0 ∷ others.0, ap₂ (λ v vs. v ∷ vs) one.1 others.1)

all_made : {Z : Type 0} (ty : Ty) (make : Z → Value) → ((z : Z) → is_a ty (make z) ≡ true) → (zs : List Z) → AllAre ty (map make zs)
all_made ty make h [] = refl
all_made ty make h (z ∷ zs) = all_cons ty (make z) (map make zs) (h z) (all_made ty make h zs)

-- what values of a type come of

int_is : (v : Value) → is_a int v ≡ true → (n : ℤ) × (v ≡ an_int n)
int_is (an_int n) is = (n, refl)
int_is _ is = absurd (cc)

bool_is : (v : Value) → is_a bool v ≡ true → (b : Bool) × (v ≡ a_bool b)
bool_is (a_bool b) is = (b, refl)
bool_is _ is = absurd (cc)

vec_is : (item : Ty) (v : Value) → is_a (vec item) v ≡ true → (vs : Values) × (v ≡ a_vec vs)
vec_is item (a_vec vs) is = (vs, refl)
vec_is item _ is = absurd (cc)

pair_is : (first second : Ty) (v : Value) → is_a (pair first second) v ≡ true → (p : Value × Value) × (v ≡ a_pair_of p)
pair_is first second (a_pair a b) is = ((a, b), refl)
pair_is first second _ is = absurd (cc)

seq_is : (item : Ty) (v : Value) → is_a (seq item) v ≡ true → (vs : List Value) × (v ≡ a_seq_of vs)
seq_is item (a_seq vs) is = (list_of vs, ap a_seq (sym (values_list vs)))
seq_is item _ is = absurd (cc)

-- the parts of pairs

lefts_of : (ps : List (Value × Value)) → map first_of (map a_pair_of ps) ≡ map (λ p. p.0) ps
lefts_of ps = map_map first_of a_pair_of ps

rights_of : (ps : List (Value × Value)) → map second_of (map a_pair_of ps) ≡ map (λ p. p.1) ps
rights_of ps = map_map second_of a_pair_of ps

pairs_apart : (first second : Ty) (ps : List (Value × Value)) → AllAre (pair first second) (map a_pair_of ps) → AllAre first (map (λ p. p.0) ps) × AllAre second (map (λ p. p.1) ps)
pairs_apart first second [] are = (refl, refl)
pairs_apart first second (p ∷ ps) are =
    let s = all_split (pair first second) (a_pair_of p) (map a_pair_of ps) are in
    let both = both_true (is_a first p.0) (is_a second p.1) s.0 in
    let others = pairs_apart first second ps s.1 in
    (all_cons first p.0 (map (λ p. p.0) ps) both.0 others.0, all_cons second p.1 (map (λ p. p.1) ps) both.1 others.1)

pairs_made : (first second : Ty) (ps : List (Value × Value)) → AllAre first (map (λ p. p.0) ps) → AllAre second (map (λ p. p.1) ps) → AllAre (pair first second) (map a_pair_of ps)
pairs_made first second [] h g = refl
pairs_made first second (p ∷ ps) h g =
    let l = all_split first p.0 (map (λ p. p.0) ps) h in
    let r = all_split second p.1 (map (λ p. p.1) ps) g in
    all_cons (pair first second) (a_pair_of p) (map a_pair_of ps) (and_true (is_a first p.0) (is_a second p.1) l.0 r.0) (pairs_made first second ps l.1 r.1)

-- the elements of sequences

pub elements_made : (gs : List (List Value)) → map elements_of (map a_seq_of gs) ≡ gs
elements_made [] = refl
elements_made (g ∷ gs) = ap₂ (λ g gs. g ∷ gs) (list_values g) (elements_made gs)

pub groups_apart : (item : Ty) (gs : List (List Value)) → AllAre (seq item) (map a_seq_of gs) → AllAre item (concatenation gs)
groups_apart item [] are = refl
groups_apart item (g ∷ gs) are =
    let s = all_split (seq item) (a_seq_of g) (map a_seq_of gs) are in
    all_joined item g (concatenation gs) s.0 (groups_apart item gs s.1)

pub groups_made : (item : Ty) (gs : List (List Value)) → AllAre item (concatenation gs) → AllAre (seq item) (map a_seq_of gs)
groups_made item [] are = refl
groups_made item (g ∷ gs) are =
    let s = all_apart item g (concatenation gs) are in
    all_cons (seq item) (a_seq_of g) (map a_seq_of gs) s.0 (groups_made item gs s.1)

-- groups of values

pub grouped_forth : (item : Ty) (gs : List (List Value)) → values item (columns_of_values item (concatenation gs)) ≡ Some (concatenation gs) →
    grouped (flags (lengths gs)) (values item (columns_of_values item (concatenation gs))) ≡ Some gs
grouped_forth item gs e = rw (numbers_forth (lengths gs), e) (cut_forth gs)

pub grouped_back : (f : List Cell) (o : Option (List Value)) (gs : List (List Value)) → grouped f o ≡ Some gs → (f ≡ flags (lengths gs)) × (o ≡ Some (concatenation gs))
grouped_back f o gs e =
    let s1 = bind_gives (numbers f) _ e in
    let s2 = bind_gives o _ s1.2 in
    let c = cut_back s1.0 s2.0 gs s2.2 in
    (numbers_back f s1.0 s1.1 ∙ ap flags c.0, s2.1 ∙ ap Some c.1)

-- vectors

vectors_forth : (item : Ty) (vs : List Value) → AllAre (vec item) vs → each (of_type (vec item)) vs ≡ Some vs
vectors_forth item [] are = refl
vectors_forth item (v ∷ vs) are =
    let s = all_split (vec item) v vs are in
    rw (only_if_true (is_a (vec item) v) v s.0, vectors_forth item vs s.1) refl

vectors_back : (item : Ty) (vs ws : List Value) → each (of_type (vec item)) vs ≡ Some ws → (vs ≡ ws) × AllAre (vec item) ws
vectors_back item [] ws e = let same : [] ≡ ws = cc in (same, ap (λ ws. all_are (vec item) (values_of ws)) (sym same))
vectors_back item (v ∷ vs) ws e =
    let s1 = bind_gives (of_type (vec item) v) _ e in
    let s2 = map_gives _ (each (of_type (vec item)) vs) s1.2 in
    let one = only_if_gives (is_a (vec item) v) v s1.1 in
    let others = vectors_back item vs s2.0 s2.1 in
    let all : v ∷ vs ≡ ws = ap₂ (λ v vs. v ∷ vs) (sym one.1) others.0 ∙ sym s2.2 in
    (all, subst (AllAre (vec item)) all (all_cons (vec item) v vs one.0 (subst (AllAre (vec item)) (sym others.0) others.1)))

pub vector_cells : (item : Ty) (vs : List Value) → AllAre (vec item) vs → map cell_for vs ≡ map datum vs
vector_cells item [] are = refl
vector_cells item (a_vec vs ∷ others) are = ap (λ l. datum (a_vec vs) ∷ l) (vector_cells item others (all_split (vec item) (a_vec vs) others are).1)
vector_cells item (_ ∷ others) are = absurd (cc)

pub data_vectors_forth : (item : Ty) (vs : List Value) → AllAre (vec item) vs → values (vec item) (map datum vs ∷ []) ≡ Some vs
data_vectors_forth item vs are = rw (data_forth vs) (vectors_forth item vs are)

pub data_vectors_back : (item : Ty) (xs : List Cell) (vs : List Value) → values (vec item) (xs ∷ []) ≡ Some vs → (xs ≡ map datum vs) × AllAre (vec item) vs
data_vectors_back item xs vs e =
    let s1 = bind_gives (each value_in xs) _ e in
    let g = vectors_back item s1.0 vs s1.2 in
    (data_back xs s1.0 s1.1 ∙ ap (map datum) g.0, g.1)

-- the columns of two types, one after the other

front_columns : (n : ℕ) (xs ys : Columns) → length xs ≡ n → take n (xs ++ ys) ≡ xs
front_columns n xs ys e = ap (λ k. take k (xs ++ ys)) (sym e) ∙ take-append_seam xs ys

after_columns : (n : ℕ) (xs ys : Columns) → length xs ≡ n → drop n (xs ++ ys) ≡ ys
after_columns n xs ys e = ap (λ k. drop k (xs ++ ys)) (sym e) ∙ go xs
  where
    go : (xs : Columns) → drop (length xs) (xs ++ ys) ≡ ys
    go [] = refl
    go (x ∷ xs) = go xs

-- values

pub values_forth : (ty : Ty) (vs : List Value) → AllAre ty vs → values ty (columns_of_values ty vs) ≡ Some vs
values_forth int vs are =
    let g = all_map int an_int int_is vs are in
    ap (λ vs. values int (columns_of_values int vs)) g.1
    ∙ ap (λ xs. option_map (map an_int) (integers xs)) (map_map cell_for an_int g.0)
    ∙ ap (option_map (map an_int)) (integers_forth g.0) ∙ ap Some (sym g.1)
values_forth bool vs are =
    let g = all_map bool a_bool bool_is vs are in
    ap (λ vs. values bool (columns_of_values bool vs)) g.1
    ∙ ap (λ xs. option_map (map a_bool) (truths xs)) (map_map cell_for a_bool g.0)
    ∙ ap (option_map (map a_bool)) (truths_forth g.0) ∙ ap Some (sym g.1)
values_forth (vec item) vs are = ap (λ xs. values (vec item) (xs ∷ [])) (vector_cells item vs are) ∙ data_vectors_forth item vs are
values_forth (pair first second) vs are =
    let g = all_map (pair first second) a_pair_of (pair_is first second) vs are in
    let ps = g.0 in
    let l = map (λ p. p.0) ps in
    let r = map (λ p. p.1) ps in
    let apart = pairs_apart first second ps (subst (AllAre (pair first second)) g.1 are) in
    let laid_are : columns_of_values (pair first second) vs ≡ columns_of_values first l ++ columns_of_values second r =
    ap (columns_of_values (pair first second)) g.1 ∙ laid_pair first second (map a_pair_of ps)
    ∙ ap₂ (λ a b. columns_of_values first a ++ columns_of_values second b) (lefts_of ps) (rights_of ps) in
    let left : values first (take (width first) (columns_of_values first l ++ columns_of_values second r)) ≡ Some l =
    ap (values first) (front_columns (width first) (columns_of_values first l) (columns_of_values second r) (laid_length first l))
    ∙ values_forth first l apart.0 in
    let right : values second (drop (width first) (columns_of_values first l ++ columns_of_values second r)) ≡ Some r =
    ap (values second) (after_columns (width first) (columns_of_values first l) (columns_of_values second r) (laid_length first l))
    ∙ values_forth second r apart.1 in
    ap (values (pair first second)) laid_are ∙ rw (left, right, paired_forth ps) (ap Some (sym g.1))
values_forth (seq item) vs are =
    let g = all_map (seq item) a_seq_of (seq_is item) vs are in
    let gs = g.0 in
    let items_are = groups_apart item gs (subst (AllAre (seq item)) g.1 are) in
    let laid_are : columns_of_values (seq item) vs ≡ flags (lengths gs) ∷ columns_of_values item (concatenation gs) =
    ap (columns_of_values (seq item)) g.1 ∙ laid_seq item (map a_seq_of gs)
    ∙ ap (λ gs. flags (lengths gs) ∷ columns_of_values item (concatenation gs)) (elements_made gs) in
    ap (values (seq item)) laid_are ∙ ap (option_map (map a_seq_of)) (grouped_forth item gs (values_forth item (concatenation gs) items_are)) ∙ ap Some (sym g.1)

pub values_back : (ty : Ty) (all : Columns) (vs : List Value) → values ty all ≡ Some vs → (all ≡ columns_of_values ty vs) × AllAre ty vs
values_back int (xs ∷ []) vs e =
    let s = map_gives (map an_int) (integers xs) e in
    (ap (λ l. l ∷ []) (integers_back xs s.0 s.1 ∙ sym (map_map cell_for an_int s.0)) ∙ ap (columns_of_values int) (sym s.2), subst (AllAre int) (sym s.2) (all_made int an_int (λ n. refl) s.0))
values_back int [] vs e = absurd (cc)
values_back int (xs ∷ ys ∷ all) vs e = absurd (cc)
values_back bool (xs ∷ []) vs e =
    let s = map_gives (map a_bool) (truths xs) e in
    (ap (λ l. l ∷ []) (truths_back xs s.0 s.1 ∙ sym (map_map cell_for a_bool s.0)) ∙ ap (columns_of_values bool) (sym s.2), subst (AllAre bool) (sym s.2) (all_made bool a_bool (λ b. refl) s.0))
values_back bool [] vs e = absurd (cc)
values_back bool (xs ∷ ys ∷ all) vs e = absurd (cc)
values_back (vec item) (xs ∷ []) vs e =
    let g = data_vectors_back item xs vs e in
    (ap (λ l. l ∷ []) (g.0 ∙ sym (vector_cells item vs g.1)), g.1)
values_back (vec item) [] vs e = absurd (cc)
values_back (vec item) (xs ∷ ys ∷ all) vs e = absurd (cc)
values_back (pair first second) all vs e =
    let s1 = bind_gives (values first (take (width first) all)) _ e in
    let s2 = bind_gives (values second (drop (width first) all)) _ s1.2 in
    let s3 = map_gives (map a_pair_of) (paired s1.0 s2.0) s2.2 in
    let ps = s3.0 in
    let p = paired_back s1.0 s2.0 ps s3.1 in
    let l = values_back first (take (width first) all) s1.0 s1.1 in
    let r = values_back second (drop (width first) all) s2.0 s2.1 in
    let laid_are : columns_of_values (pair first second) vs ≡ columns_of_values first s1.0 ++ columns_of_values second s2.0 =
    ap (columns_of_values (pair first second)) s3.2 ∙ laid_pair first second (map a_pair_of ps)
    ∙ ap₂ (λ a b. columns_of_values first a ++ columns_of_values second b) (lefts_of ps ∙ sym p.0) (rights_of ps ∙ sym p.1) in (
      sym (take-append-drop (width first) all) ∙ ap₂ (λ a b. a ++ b) l.0 r.0 ∙ sym laid_are,
      subst (AllAre (pair first second)) (sym s3.2) (pairs_made first second ps (subst (AllAre first) p.0 l.1) (subst (AllAre second) p.1 r.1)),
    )
values_back (seq item) (f ∷ others) vs e =
    let s = map_gives (map a_seq_of) (grouped f (values item others)) e in
    let gs = s.0 in
    let g = grouped_back f (values item others) gs s.1 in
    let ih = values_back item others (concatenation gs) g.1 in
    let laid_are : columns_of_values (seq item) vs ≡ flags (lengths gs) ∷ columns_of_values item (concatenation gs) =
    ap (columns_of_values (seq item)) s.2 ∙ laid_seq item (map a_seq_of gs)
    ∙ ap (λ gs. flags (lengths gs) ∷ columns_of_values item (concatenation gs)) (elements_made gs) in
    (ap₂ (λ f cs. f ∷ cs) g.0 ih.0 ∙ sym laid_are, subst (AllAre (seq item)) (sym s.2) (groups_made item gs ih.1))
values_back (seq item) [] vs e = absurd (cc)

-- no two lists of values of one type are laid out alike
pub laid_injective : (ty : Ty) (vs ws : List Value) → AllAre ty vs → AllAre ty ws → columns_of_values ty vs ≡ columns_of_values ty ws → vs ≡ ws
laid_injective ty vs ws h g e = some_same vs ws (sym (values_forth ty vs h) ∙ ap (values ty) e ∙ values_forth ty ws g)
