-- The rows of the nodes over values of a type as functions.
use Rattle.std.specs.Prelude.{◌≡◌, suc, ℤ, true, List, [], ◌∷◌, map, Some, option_map, refl}
use Rattle.std.proofs.Common.{sym, ◌∙◌, ap, subst}
use Rattle.std.proofs.Math.Path.{ap₂}
use Rattle.snesl_data.specs.Types.{Ty, vec, seq, is_concrete}
use Rattle.snesl_data.specs.Values.{Value, an_int, a_bool, a_pair, a_vec, a_seq, list_of, values_of}
use Rattle.flow_messages.specs.Cells.{Cell, int, datum}
use Rattle.flow_base.specs.Lists.{Lists}
use Rattle.flow_base.specs.Flags.{flags, concatenation, lengths}
use Rattle.flow_base.specs.Columns.{columns}
use Rattle.flow_values.specs.Shapes.{is_a, all_are, elements_of}
use Rattle.flow_values.specs.Flats.{width}
use Rattle.flow_values.specs.Rows.{PrintRow, AreTabs, TabRow, SeqRow, element_at, Picked, IndexRow}
use Rattle.flow_nodes.specs.functions.Lists.{bind, each, paired}
use Rattle.flow_nodes.specs.functions.Decoded.{integer_in, integers, grouped, values}
use Rattle.flow_nodes.specs.functions.Made.{columns_of_values, of_one, print_made, tab_of, tab_made, seq_made, picked, index_made}
use Rattle.flow_nodes.specs.functions.RowsAreFunctions.{IsFunction}
use Rattle.flow_nodes.proofs.OfFunctions.Options.{bind_gives, map_gives, only_if_gives, only_if_true, each_forth, paired_map, paired_back, map_map}
use Rattle.flow_nodes.proofs.OfFunctions.Decoding.{integers_back}
use Rattle.flow_nodes.proofs.OfFunctions.SegmentRows.{same_column}
use Rattle.flow_nodes.proofs.OfFunctions.Edges.{laid_seq, laid_is}
use Rattle.flow_nodes.proofs.OfFunctions.ValueDecoding.{AllAre, list_values, values_list, all_split, all_cons, all_joined, all_apart, grouped_forth, grouped_back}
use Rattle.flow_nodes.proofs.OfFunctions.ValueDecoding.{data_vectors_forth, data_vectors_back, values_forth, values_back}

-- Print

one_value : (vs : List Value) → of_one vs ≡ Some [] → (v : Value) × (vs ≡ v ∷ [])
one_value (v ∷ []) e = (v, refl)
one_value [] e = absurd (cc)
one_value (v ∷ w ∷ vs) e = absurd (cc)

print_from : (ty : Ty) (i : Lists Cell) → PrintRow ty i → print_made ty (columns (width ty) i) ≡ Some []
print_from ty i row =
    let one = row.value ∷ [] in
    ap (print_made ty) ((laid_is ty i one).0 row.edges_are) ∙ ap (λ o. bind o of_one) (values_forth ty one (all_cons ty row.value [] row.is_one refl))

print_to : (ty : Ty) (i : Lists Cell) → print_made ty (columns (width ty) i) ≡ Some [] → PrintRow ty i
print_to ty i e =
    let s = bind_gives (values ty (columns (width ty) i)) of_one e in
    let one = one_value s.0 s.2 in
    let b = values_back ty (columns (width ty) i) s.0 s.1 in
    record {
      value = one.0;
      is_one = (all_split ty one.0 [] (subst (AllAre ty) one.1 b.1)).0;
      edges_are = (laid_is ty i (one.0 ∷ [])).1 (b.0 ∙ ap (columns_of_values ty) one.1);
    }

pub print_row : (ty : Ty) → IsFunction (λ i _. PrintRow ty i) (print_made ty) (width ty) 0
print_row ty i o = (print_from ty i, print_to ty i)

-- Tab

tabs_apart : (ty : Ty) (vs : List Value) → AreTabs ty vs → AllAre ty (concatenation (map elements_of vs))
tabs_apart ty [] h = refl
tabs_apart ty (a_vec vs ∷ others) h = all_joined ty (list_of vs) (concatenation (map elements_of others)) (ap (all_are ty) (values_list vs) ∙ h.1) (tabs_apart ty others h.2)
tabs_apart ty (an_int n ∷ others) h = let no = h.1 in absurd (cc)
tabs_apart ty (a_bool b ∷ others) h = let no = h.1 in absurd (cc)
tabs_apart ty (a_pair a b ∷ others) h = let no = h.1 in absurd (cc)
tabs_apart ty (a_seq vs ∷ others) h = let no = h.1 in absurd (cc)

tabs_forth : (ty : Ty) (vs : List Value) → AreTabs ty vs → each (tab_of ty) (map elements_of vs) ≡ Some vs
tabs_forth ty [] h = refl
tabs_forth ty (a_vec vs ∷ others) h =
    let one : tab_of ty (list_of vs) ≡ Some (a_vec vs) = only_if_true (is_concrete ty) (a_vec (values_of (list_of vs))) h.0 ∙ ap (λ vs. Some (a_vec vs)) (values_list vs) in
    rw (one, tabs_forth ty others h.2) refl
tabs_forth ty (an_int n ∷ others) h = let no = h.1 in absurd (cc)
tabs_forth ty (a_bool b ∷ others) h = let no = h.1 in absurd (cc)
tabs_forth ty (a_pair a b ∷ others) h = let no = h.1 in absurd (cc)
tabs_forth ty (a_seq vs ∷ others) h = let no = h.1 in absurd (cc)

tabs_back : (ty : Ty) (gs : List (List Value)) (vs : List Value) → AllAre ty (concatenation gs) → each (tab_of ty) gs ≡ Some vs → AreTabs ty vs × (map elements_of vs ≡ gs)
tabs_back ty [] vs are e = let same : [] ≡ vs = cc in (subst (AreTabs ty) same tt, ap (map elements_of) (sym same))
tabs_back ty (g ∷ gs) vs are e =
    let s1 = bind_gives (tab_of ty g) _ e in
    let s2 = map_gives _ (each (tab_of ty) gs) s1.2 in
    let apart = all_apart ty g (concatenation gs) are in
    let one = only_if_gives (is_concrete ty) (a_vec (values_of g)) s1.1 in
    let others = tabs_back ty gs s2.0 apart.1 s2.1 in
    let all : vs ≡ a_vec (values_of g) ∷ s2.0 = s2.2 ∙ ap (λ v. v ∷ s2.0) one.1 in
    let first : is_a (vec ty) (a_vec (values_of g)) ≡ true = apart.0 in
    (subst (AreTabs ty) (sym all) (one.0, first, others.0), ap (map elements_of) all ∙ ap₂ (λ g gs. g ∷ gs) (list_values g) others.1)

tab_from : (ty : Ty) (i : Lists Cell) (v : List Cell) → TabRow ty i v → tab_made ty (columns (width (seq ty)) i) ≡ Some (v ∷ [])
tab_from ty i v row =
    let vs = row.vectors in
    let gs = map elements_of vs in
    ap (tab_made ty) ((laid_is (seq ty) i vs).0 row.edges_are ∙ laid_seq ty vs)
    ∙ rw (grouped_forth ty gs (values_forth ty (concatenation gs) (tabs_apart ty vs row.of_type)), tabs_forth ty vs row.of_type) (ap (λ v. Some (v ∷ [])) (sym row.v_is))

tab_to : (ty : Ty) (i : Lists Cell) (v : List Cell) → tab_made ty (columns (width (seq ty)) i) ≡ Some (v ∷ []) → TabRow ty i v
tab_to ty i v e =
    let f = i 0 in
    let others = columns (width ty) (λ p. i (suc p)) in
    let s0 = map_gives _ _ e in
    let s1 = bind_gives (grouped f (values ty others)) _ s0.1 in
    let g = grouped_back f (values ty others) s1.0 s1.1 in
    let b = values_back ty others (concatenation s1.0) g.1 in
    let t = tabs_back ty s1.0 s0.0 b.1 s1.2 in
    record {
      vectors = s0.0;
      v_is = same_column v (map datum s0.0) s0.2;
      of_type = t.0;
      edges_are = (laid_is (seq ty) i s0.0).1 (ap₂ (λ f cs. f ∷ cs) g.0 b.0 ∙ ap (λ gs. flags (lengths gs) ∷ columns_of_values ty (concatenation gs)) (sym t.1) ∙ sym (laid_seq ty s0.0));
    }

pub tab_row : (ty : Ty) → IsFunction (λ i o. TabRow ty i (o 0)) (tab_made ty) (width (seq ty)) 1
tab_row ty i o = (tab_from ty i (o 0), tab_to ty i (o 0))

-- Seq

seq_from : (item : Ty) (v : List Cell) (o : Lists Cell) → SeqRow item v o → seq_made item (v ∷ []) ≡ Some (columns (width (seq item)) o)
seq_from item v o row =
    ap (λ v. seq_made item (v ∷ [])) row.v_is
    ∙ ap (option_map (columns_of_values (seq item))) (data_vectors_forth item row.vectors row.of_type) ∙ ap Some (sym ((laid_is (seq item) o row.vectors).0 row.edges_are))

seq_to : (item : Ty) (v : List Cell) (o : Lists Cell) → seq_made item (v ∷ []) ≡ Some (columns (width (seq item)) o) → SeqRow item v o
seq_to item v o e =
    let s = map_gives (columns_of_values (seq item)) (values (vec item) (v ∷ [])) e in
    let d = data_vectors_back item v s.0 s.1 in
    record { vectors = s.0; v_is = d.0; of_type = d.1; edges_are = (laid_is (seq item) o s.0).1 s.2 }

pub seq_row : (item : Ty) → IsFunction (λ i o. SeqRow item (i 0) o) (seq_made item) 1 (width (seq item))
seq_row item i o = (seq_from item (i 0) o, seq_to item (i 0) o)

-- Index

abbrev vectors_of : {item : Ty} → List (Picked item) → List Value
vectors_of all = map (λ x. a_vec x.vector) all

picked_vectors : (item : Ty) (all : List (Picked item)) → AllAre (vec item) (vectors_of all)
picked_vectors item [] = refl
picked_vectors item (x ∷ all) = all_cons (vec item) (a_vec x.vector) (vectors_of all) x.of_type (picked_vectors item all)

index_from : (item : Ty) (v i : List Cell) (o : Lists Cell) → IndexRow item v i o → index_made item (v ∷ i ∷ []) ≡ Some (columns (width item) o)
index_from item v i o row =
    let all = row.all in
    let v_is : v ≡ map datum (vectors_of all) = row.v_is ∙ sym (map_map datum (λ x. a_vec x.vector) all) in
    ap₂ (λ v i. index_made item (v ∷ i ∷ [])) v_is row.i_is
    ∙ rw (
      data_vectors_forth item (vectors_of all) (picked_vectors item all),
      each_forth integer_in (λ x. int x.index) (λ x. x.index) (λ x. refl) all,
      paired_map (λ x. a_vec x.vector) (λ x. x.index) all,
      each_forth picked (λ x. (a_vec x.vector, x.index)) (λ x. x.element) (λ x. x.found) all,
    )
    (ap Some (sym ((laid_is item o (map (λ x. x.element) all)).0 row.edges_are)))

picked_back : (item : Ty) (ps : List (Value × ℤ)) (es : List Value) → AllAre (vec item) (map (λ p. p.0) ps) → each picked ps ≡ Some es →
    (all : List (Picked item)) × (map (λ p. p.0) ps ≡ vectors_of all) × (map (λ p. p.1) ps ≡ map (λ x. x.index) all) × (es ≡ map (λ x. x.element) all)
picked_back item [] es are e = let same : es ≡ [] = cc in ([], refl, refl, same)
picked_back item ((a_vec vs, n) ∷ ps) es are e =
    let s = all_split (vec item) (a_vec vs) (map (λ p. p.0) ps) are in
    let s1 = bind_gives (element_at vs n) _ e in
    let s2 = map_gives _ (each picked ps) s1.2 in
    let others = picked_back item ps s2.0 s.1 s2.1 in
    let x : Picked item = record { vector = vs; index = n; element = s1.0; of_type = s.0; found = s1.1 } in
    (x ∷ others.0, ap (λ l. a_vec vs ∷ l) others.1, ap (λ l. n ∷ l) others.2, s2.2 ∙ ap (λ l. s1.0 ∷ l) others.3)
picked_back item ((an_int m, n) ∷ ps) es are e = absurd (cc)
picked_back item ((a_bool b, n) ∷ ps) es are e = absurd (cc)
picked_back item ((a_pair a b, n) ∷ ps) es are e = absurd (cc)
picked_back item ((a_seq vs, n) ∷ ps) es are e = absurd (cc)

index_to : (item : Ty) (v i : List Cell) (o : Lists Cell) → index_made item (v ∷ i ∷ []) ≡ Some (columns (width item) o) → IndexRow item v i o
index_to item v i o e =
    let s0 = map_gives (columns_of_values item) _ e in
    let s1 = bind_gives (values (vec item) (v ∷ [])) _ s0.1 in
    let s2 = bind_gives (integers i) _ s1.2 in
    let s3 = bind_gives (paired s1.0 s2.0) _ s2.2 in
    let d = data_vectors_back item v s1.0 s1.1 in
    let p = paired_back s1.0 s2.0 s3.0 s3.1 in
    let g = picked_back item s3.0 s0.0 (subst (AllAre (vec item)) p.0 d.1) s3.2 in
    record {
      all = g.0;
      v_is = d.0 ∙ ap (map datum) (p.0 ∙ g.1) ∙ map_map datum (λ x. a_vec x.vector) g.0;
      i_is = integers_back i s2.0 s2.1 ∙ ap (map int) (p.1 ∙ g.2) ∙ map_map int (λ x. x.index) g.0;
      edges_are = (laid_is item o (map (λ x. x.element) g.0)).1 (s0.2 ∙ ap (columns_of_values item) g.3);
    }

pub index_row : (item : Ty) → IsFunction (λ i o. IndexRow item (i 0) (i 1) o) (index_made item) 2 (width item)
index_row item i o = (index_from item (i 0) (i 1) o, index_to item (i 0) (i 1) o)
