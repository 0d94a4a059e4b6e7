-- Built-in functions that count, or take values apart, at whole lists of instances.
use Rattle.std.specs.Prelude.{◌≡◌, ℕ, zero, suc, ◌+◌, ℤ, pos, negsuc, Bool, true, false, ◌&&◌, ◌==◌, List, [], ◌∷◌, ◌++◌, map, length, replicate, Option, Some, None, option_map, refl}
use Rattle.std.specs.List.{range_with_len}
use Rattle.std.specs.Result.{result_ok}
use Rattle.std.proofs.Common.{arith, sym, ap, ◌∙◌, subst, append-nil}
use Rattle.std.proofs.Math.Path.{ap₂}
use Rattle.std.proofs.lemmas.Bool.{eqb-true}
use Rattle.std.proofs.lemmas.List.FromFn.{length-map-range_with_len}
use Rattle.snesl_data.specs.declared.dialect.Dialect.{Dialect}
use Rattle.snesl_data.specs.Types.{Ty, int, pair, vec, seq, is_concrete}
use Rattle.snesl_data.specs.Values.{Value, an_int, a_vec, values_of}
use Rattle.snesl_data.specs.operators.Operators.{ranged}
use Rattle.snesl_grammar.specs.declared.tree.operator.Builtin.TheVariants.{Iota, Length, The, Tab, Seq, Fst, Snd}
use Rattle.flow_messages.specs.Cells.{int as int_cell, datum}
use Rattle.flow_base.specs.Columns.{Columns}
use Rattle.flow_base.specs.Flags.{flags, concatenation, lengths}
use Rattle.flow_scalar.specs.Rows.{numbers_from, numbers_below as cells_below}
use Rattle.flow_values.specs.Shapes.{cell_for, first_of, second_of, elements_of}
use Rattle.flow_nodes.specs.functions.Lists.{bind, each, only_if, same_lists}
use Rattle.flow_nodes.specs.functions.Decoded.{a_pair_of, a_seq_of}
use Rattle.flow_nodes.specs.functions.Made.{one, integer_cells, columns_of_values, natural, the_check_made, tab_of, tab_made, seq_made}
use Rattle.flow_nodes.proofs.OfFunctions.Options.{map_gives, some_same, only_if_true, map_map, map_append}
use Rattle.flow_nodes.proofs.OfFunctions.Mapped.{map_some_map, map_some_same}
use Rattle.flow_nodes.proofs.OfFunctions.Decoding.{numbers_forth, integers_forth}
use Rattle.flow_nodes.proofs.OfFunctions.Edges.{laid_seq}
use Rattle.flow_nodes.proofs.OfFunctions.Encoded.{length_makes, tab_makes, seq_makes}
use Rattle.flow_nodes.proofs.OfFunctions.ValueDecoding.{AllAre, list_values}
use Rattle.snesl_evaluation.specs.Answer.{Answer, gives, faults, go, go_all, answer_at}
use Rattle.snesl_evaluation.specs.Builtins.{numbers_below, the_answer, applied}
use Rattle.flow_nodes.specs.plans.Plans.{iota, length_of, the_check, tab, seq_of, streams_at}
use Rattle.snesl_translation.specs.Wires.{Wires, numbers_of, stream_of, first_wires, second_wires, item_wires, item_type}
use Rattle.snesl_translation.specs.Makings.{done, stepped, tested}
use Rattle.snesl_translation.specs.Translation.{call_streams}
use Rattle.snesl_translation.specs.Carrying.{Carries, Goes}
use Rattle.snesl_translation.proofs.Carrying.{carried_on, stream_carries, first_carries, second_carries, tested_runs, tested_stops}
use Rattle.snesl_translation.proofs.Forms.{done_makes}
use Rattle.snesl_translation.proofs.Twins.{Agrees, agree_value, all_agree, go_all_gives, step_goes, each_are}
use Rattle.snesl_translation.proofs.Views.{all_from, a_vec_of, int_from, pair_from, vec_from, cells_of_integers, cells_of_vectors, one_integers, laid_groups}
use Rattle.snesl_translation.proofs.Grouping.{grouped_from, each_lengths, each_some, vectors_of_groups, groups_of_vectors}

-- the numbers below one, as cells

below_cells : (k n : ℕ) → map cell_for (map (λ i. an_int (pos i)) (range_with_len k n)) ≡ numbers_from (pos k) n
below_cells k zero = refl
below_cells k (suc n) = ap (λ l. int_cell (pos k) ∷ l) (below_cells (k + 1) n)

cells_joined : (ks : List ℕ) → map cell_for (concatenation (map numbers_below ks)) ≡ concatenation (map cells_below ks)
cells_joined [] = refl
cells_joined (k ∷ ks) = map_append cell_for (numbers_below k) (concatenation (map numbers_below ks)) ∙ ap₂ (λ a b. a ++ b) (below_cells 0 k) (cells_joined ks)

lengths_below : (ks : List ℕ) → lengths (map numbers_below ks) ≡ ks
lengths_below [] = refl
lengths_below (k ∷ ks) = ap₂ (λ n ns. n ∷ ns) (length-map-range_with_len (λ i. an_int (pos i)) 0 k) (lengths_below ks)

ints_below : (k n : ℕ) → AllAre int (map (λ i. an_int (pos i)) (range_with_len k n))
ints_below k zero = refl
ints_below k (suc n) = ints_below (k + 1) n

-- the numbers below one as a sequence
abbrev counted : ℕ → Value
counted n = a_seq_of (numbers_below n)

counted_laid : (ks : List ℕ) → flags ks ∷ concatenation (map cells_below ks) ∷ [] ≡ columns_of_values (seq int) (map counted ks)
counted_laid ks = sym (
    ap (columns_of_values (seq int)) (sym (map_map a_seq_of numbers_below ks)) ∙ laid_groups int (map numbers_below ks)
    ∙ ap₂ (λ f c. flags f ∷ c ∷ []) (lengths_below ks) (cells_joined ks))

-- the one item, where there is no other
abbrev the_of : List Value → Option Value
the_of (v ∷ []) = Some v
the_of _ = None

two_not_one : (n : ℕ) (b : Bool) → suc (suc n) == 1 ≡ b → b ≡ false
two_not_one n false e = refl
two_not_one n true e = let no : suc (suc n) ≡ 1 = eqb-true (suc (suc n)) 1 e in absurd (omega (arith, no))

ones_only : (gs : List (List Value)) → only_if {A = Columns} (same_lists ◌==◌ (lengths gs) (replicate (length (lengths gs)) 1)) [] ≡ option_map (λ (vs : List Value). []) (each the_of gs)
ones_only [] = refl
ones_only ([] ∷ gs) = refl
ones_only ((v ∷ []) ∷ gs) = ones_only gs ∙ sym (map_some_map (λ (vs : List Value). []) (λ vs. v ∷ vs) (each the_of gs))
ones_only ((v ∷ w ∷ g) ∷ gs) =
    ap (λ b. only_if {A = Columns} (b && same_lists ◌==◌ (lengths gs) (replicate (length (lengths gs)) 1)) []) (two_not_one (length g) (suc (suc (length g)) == 1) refl)

the_made : (gs : List (List Value)) → the_check_made (flags (lengths gs) ∷ []) ≡ option_map (λ (vs : List Value). []) (each the_of gs)
the_made gs = ap (λ o. bind o (λ ns. only_if (same_lists ◌==◌ ns (replicate (length ns) 1)) [])) (numbers_forth (lengths gs)) ∙ ones_only gs

the_joined : (gs : List (List Value)) (vs : List Value) → each the_of gs ≡ Some vs → concatenation gs ≡ vs
the_joined [] vs e = some_same [] vs e
the_joined ([] ∷ gs) vs e = absurd (cc)
the_joined ((v ∷ []) ∷ gs) vs e = let g = map_gives (λ vs. v ∷ vs) (each the_of gs) e in ap (λ l. v ∷ l) (the_joined gs g.0 g.1) ∙ sym g.2
the_joined ((v ∷ w ∷ g) ∷ gs) vs e = absurd (cc)

each_tabs : (t : Ty) → is_concrete t ≡ true → (gs : List (List Value)) → each (tab_of t) gs ≡ Some (map a_vec_of gs)
each_tabs t concrete [] = refl
each_tabs t concrete (g ∷ gs) = ap₂ (λ o p. bind o (λ y. option_map (λ ys. y ∷ ys) p)) (only_if_true (is_concrete t) (a_vec_of g) concrete) (each_tabs t concrete gs)

vector_elements : (gs : List (List Value)) → map elements_of (map a_vec_of gs) ≡ gs
vector_elements [] = refl
vector_elements (g ∷ gs) = ap₂ (λ g gs. g ∷ gs) (list_values g) (vector_elements gs)

module _ (dialect : Dialect) (at : ℕ) where
  length_agrees : (g : List Value) → Agrees (applied dialect at Length (a_seq_of g ∷ [])) (option_map an_int (result_ok (ranged dialect (pos (length g)))))
  length_agrees g =
      subst (λ l. Agrees (go (answer_at at (ranged dialect (pos (length l)))) (λ n. gives (an_int n))) (option_map an_int (result_ok (ranged dialect (pos (length g))))))
      (sym (list_values g)) (agree_value an_int at (ranged dialect (pos (length g))))

  iota_agrees : (n : ℤ) → Agrees (applied dialect at Iota (an_int n ∷ [])) (option_map counted (natural n))
  iota_agrees (pos n) = refl
  iota_agrees (negsuc n) = refl

  the_alike : (g : List Value) → Agrees (the_answer at g) (the_of g)
  the_alike [] = refl
  the_alike (v ∷ []) = refl
  the_alike (v ∷ w ∷ g) = refl

  the_agrees : (g : List Value) → Agrees (applied dialect at The (a_seq_of g ∷ [])) (the_of g)
  the_agrees g = subst (λ l. Agrees (the_answer at l) (the_of g)) (sym (list_values g)) (the_alike g)

  module _ (streams : Columns) where
    pub length_goes : (u : Wires) (t : Ty) (vs : List Value) → Carries streams u (seq t) vs →
        Goes streams int (call_streams dialect at Length (u ∷ []) (length streams)) (go_all (λ v. applied dialect at Length (v ∷ [])) vs)
    length_goes u t vs c =
        let by = grouped_from streams u t vs c in
        let g = λ (g : List Value). result_ok (ranged dialect (pos (length g))) in
        step_goes streams at (length_of dialect) (stream_of u ∷ []) int (flags (lengths by.groups) ∷ []) a_seq_of (λ v. applied dialect at Length (v ∷ [])) an_int g by.groups vs by.view by.flags_there
        (length_makes dialect (lengths by.groups) ∙ ap (one integer_cells) (each_lengths (λ n. result_ok (ranged dialect (pos n))) by.groups) ∙ one_integers (each g by.groups))
        length_agrees (each_are int an_int g (λ z b e. refl) by.groups)

    pub iota_goes : (u : Wires) (vs : List Value) → Carries streams u int vs →
        Goes streams (seq int) (call_streams dialect at Iota (u ∷ []) (length streams)) (go_all (λ v. applied dialect at Iota (v ∷ [])) vs)
    iota_goes u vs c =
        let view = all_from int an_int int_from vs c.are in
        let ns = view.0 in
        let there : streams_at (stream_of u ∷ []) streams ≡ Some (integer_cells ns ∷ []) = stream_carries streams u int vs tt c
        ∙ ap (λ cs. Some (cs ∷ [])) (ap (map cell_for) view.1 ∙ cells_of_integers ns) in
        step_goes streams at iota (stream_of u ∷ []) (seq int) (integer_cells ns ∷ []) an_int (λ v. applied dialect at Iota (v ∷ [])) counted natural ns vs view.1 there
        (ap (λ o. option_map (λ ns. flags ns ∷ concatenation (map cells_below ns) ∷ []) (bind o (each natural))) (integers_forth ns)
        ∙ map_some_same (λ ks. flags ks ∷ concatenation (map cells_below ks) ∷ []) (λ ks. columns_of_values (seq int) (map counted ks)) (each natural ns) counted_laid)
        iota_agrees (each_are (seq int) counted natural (λ z b e. ints_below 0 b) ns)

    the_either : (u : Wires) (t : Ty) (gs : List (List Value)) (a : Answer (List Value)) (o : Option (List Value)) → streams_at (stream_of u ∷ []) streams ≡ Some (flags (lengths gs) ∷ [])
        → Carries streams (item_wires u) t (concatenation gs) → each the_of gs ≡ o → Agrees a o → Goes streams t (tested at the_check (stream_of u ∷ []) (item_wires u) (length streams)) a
    the_either u t gs (gives vs) (Some ws) there c e h = (
      [],
      tested_runs streams at the_check (stream_of u ∷ []) (item_wires u) (length streams) (flags (lengths gs) ∷ []) there (the_made gs ∙ ap (option_map (λ (vs : List Value). [])) e),
      ap length (sym (append-nil streams)),
      carried_on streams [] (item_wires u) t vs (subst (Carries streams (item_wires u) t) (the_joined gs ws e ∙ some_same ws vs h) c),
    )
    the_either u t gs (gives vs) None there c e h = absurd (cc)
    the_either u t gs (faults kind place) (Some ws) there c e h = absurd (cc)
    the_either u t gs (faults kind place) None there c e h =
        tested_stops streams at the_check (stream_of u ∷ []) (item_wires u) (length streams) (flags (lengths gs) ∷ []) there (the_made gs ∙ ap (option_map (λ (vs : List Value). [])) e)

    pub the_goes : (u : Wires) (t : Ty) (vs : List Value) → Carries streams u (seq t) vs →
        Goes streams t (call_streams dialect at The (u ∷ []) (length streams)) (go_all (λ v. applied dialect at The (v ∷ [])) vs)
    the_goes u t vs c =
        let by = grouped_from streams u t vs c in
        the_either u t by.groups (go_all (λ v. applied dialect at The (v ∷ [])) vs) (each the_of by.groups) by.flags_there by.items refl
        (subst (λ vs. Agrees (go_all (λ v. applied dialect at The (v ∷ [])) vs) (each the_of by.groups)) (sym by.view)
        (all_agree a_seq_of (λ v. applied dialect at The (v ∷ [])) the_of the_agrees by.groups))

    pub tab_goes : (u : Wires) (t : Ty) (vs : List Value) → is_concrete t ≡ true → Carries streams u (seq t) vs
        → Goes streams (vec t) (call_streams dialect at Tab (u ∷ []) (length streams)) (go_all (λ v. applied dialect at Tab (v ∷ [])) vs)
    tab_goes u t vs concrete c =
        let by = grouped_from streams u t vs c in
        let gs = by.groups in
        let there : streams_at (numbers_of u) streams ≡ Some (columns_of_values (seq t) (map a_seq_of gs)) = c.there ∙ ap (λ vs. Some (columns_of_values (seq t) vs)) by.view in
        let some = λ (g : List Value). Some g in
        let made : tab_made t (columns_of_values (seq t) (map a_seq_of gs)) ≡ option_map (λ bs. columns_of_values (vec t) (map a_vec_of bs)) (each some gs) =
        tab_makes t gs by.items.are ∙ ap (one (map datum)) (each_tabs t concrete gs) ∙ ap (λ cs. Some (cs ∷ [])) (sym (cells_of_vectors gs))
        ∙ ap (option_map (λ bs. columns_of_values (vec t) (map a_vec_of bs))) (sym (each_some gs)) in
        let goes : Goes streams (vec t) (stepped at (tab t) (numbers_of u) (vec t) (length streams)) (go_all (λ v. applied dialect at Tab (v ∷ [])) vs) =
        step_goes streams at (tab t) (numbers_of u) (vec t) (columns_of_values (seq t) (map a_seq_of gs)) a_seq_of (λ v. applied dialect at Tab (v ∷ [])) a_vec_of some gs vs by.view there made
        (λ g. ap (λ l. Some (a_vec (values_of l))) (sym (list_values g)))
        (λ bs e. subst (λ bs. AllAre (vec t) (map a_vec_of bs)) (some_same gs bs (sym (each_some gs) ∙ e)) (vectors_of_groups t gs by.items.are)) in
        subst (λ item. Goes streams (vec t) (stepped at (tab item) (numbers_of u) (vec item) (length streams)) (go_all (λ v. applied dialect at Tab (v ∷ [])) vs)) (sym by.items.of_type) goes

    pub seq_goes : (u : Wires) (t : Ty) (vs : List Value) → Carries streams u (vec t) vs →
        Goes streams (seq t) (call_streams dialect at Seq (u ∷ []) (length streams)) (go_all (λ v. applied dialect at Seq (v ∷ [])) vs)
    seq_goes u t vs c =
        let view = all_from (vec t) a_vec_of (vec_from t) vs c.are in
        let gs = view.0 in
        let are : AllAre (vec t) (map a_vec_of gs) = subst (AllAre (vec t)) view.1 c.are in
        let there : streams_at (stream_of u ∷ []) streams ≡ Some (map datum (map a_vec_of gs) ∷ []) = stream_carries streams u (vec t) vs tt c
        ∙ ap (λ cs. Some (cs ∷ [])) (ap (map cell_for) view.1 ∙ cells_of_vectors gs) in
        let some = λ (g : List Value). Some g in
        let same : columns_of_values (seq t) (map a_vec_of gs) ≡ columns_of_values (seq t) (map a_seq_of gs) =
        laid_seq t (map a_vec_of gs) ∙ ap (λ gs. flags (lengths gs) ∷ columns_of_values t (concatenation gs)) (vector_elements gs) ∙ sym (laid_groups t gs) in
        let made : seq_made t (map datum (map a_vec_of gs) ∷ []) ≡ option_map (λ bs. columns_of_values (seq t) (map a_seq_of bs)) (each some gs) =
        seq_makes t (map a_vec_of gs) are ∙ ap Some same ∙ ap (option_map (λ bs. columns_of_values (seq t) (map a_seq_of bs))) (sym (each_some gs)) in
        let goes : Goes streams (seq t) (stepped at (seq_of t) (stream_of u ∷ []) (seq t) (length streams)) (go_all (λ v. applied dialect at Seq (v ∷ [])) vs) =
        step_goes streams at (seq_of t) (stream_of u ∷ []) (seq t) (map datum (map a_vec_of gs) ∷ []) a_vec_of (λ v. applied dialect at Seq (v ∷ [])) a_seq_of some gs vs view.1 there made
        (λ g. ap (λ l. Some (a_seq_of l)) (sym (list_values g)))
        (λ bs e. subst (λ bs. AllAre (seq t) (map a_seq_of bs)) (some_same gs bs (sym (each_some gs) ∙ e)) (groups_of_vectors t gs are)) in
        subst (λ item. Goes streams (seq t) (stepped at (seq_of item) (stream_of u ∷ []) (seq item) (length streams))
        (go_all (λ v. applied dialect at Seq (v ∷ [])) vs)) (sym (ap item_type c.of_type)) goes

    pub fst_goes : (u : Wires) (s t : Ty) (vs : List Value) → Carries streams u (pair s t) vs →
        Goes streams s (call_streams dialect at Fst (u ∷ []) (length streams)) (go_all (λ v. applied dialect at Fst (v ∷ [])) vs)
    fst_goes u s t vs c =
        let view = all_from (pair s t) a_pair_of (pair_from s t) vs c.are in
        let f = λ (v : Value). applied dialect at Fst (v ∷ []) in
        let same : go_all f vs ≡ gives (map first_of vs) =
        ap (go_all f) view.1 ∙ go_all_gives a_pair_of f (λ p. p.0) (λ p. refl) view.0 ∙ ap gives (sym (ap (map first_of) view.1 ∙ map_map first_of a_pair_of view.0)) in
        subst (Goes streams s (done (first_wires u) (length streams))) (sym same) (done_makes streams s (first_wires u) (map first_of vs) (first_carries streams u s t vs c))

    pub snd_goes : (u : Wires) (s t : Ty) (vs : List Value) → Carries streams u (pair s t) vs →
        Goes streams t (call_streams dialect at Snd (u ∷ []) (length streams)) (go_all (λ v. applied dialect at Snd (v ∷ [])) vs)
    snd_goes u s t vs c =
        let view = all_from (pair s t) a_pair_of (pair_from s t) vs c.are in
        let f = λ (v : Value). applied dialect at Snd (v ∷ []) in
        let same : go_all f vs ≡ gives (map second_of vs) =
        ap (go_all f) view.1 ∙ go_all_gives a_pair_of f (λ p. p.1) (λ p. refl) view.0 ∙ ap gives (sym (ap (map second_of) view.1 ∙ map_map second_of a_pair_of view.0)) in
        subst (Goes streams t (done (second_wires u) (length streams))) (sym same) (done_makes streams t (second_wires u) (map second_of vs) (second_carries streams u s t vs c))
