-- What a transducer's function makes of what is encoded: the equations that proofs on programs cite.
use Rattle.std.specs.Prelude.{◌≡◌, ℕ, zero, suc, ◌+◌, ℤ, pos, Bool, true, false, List, [], ◌∷◌, ◌++◌, map, sum, replicate, Some, option_map, refl}
use Rattle.std.specs.Result.{result_ok}
use Rattle.std.proofs.Common.{arith, sym, ◌∙◌, ap}
use Rattle.std.proofs.lemmas.List.Sums.{sum_by-cons}
use Rattle.snesl_data.specs.declared.dialect.Dialect.{Dialect}
use Rattle.snesl_data.specs.Types.{Ty, vec, seq}
use Rattle.snesl_data.specs.Values.{Value}
use Rattle.snesl_data.specs.operators.Operators.{ranged, unary_value, binary_value}
use Rattle.snesl_data.specs.operators.Reductions.{reduction_of, scan_of}
use Rattle.snesl_data.specs.declared.operators.scalar.Scalar.{Scalar}
use Rattle.snesl_data.specs.declared.operators.operator.UnaryOperator.{UnaryOperator}
use Rattle.snesl_data.specs.declared.operators.operator.BinaryOperator.{BinaryOperator}
use Rattle.snesl_data.specs.declared.operators.operator.Reduction.{Reduction}
use Rattle.flow_messages.specs.Cells.{Cell, unit, flag, datum}
use Rattle.flow_messages.specs.declared.message.Kind.{Kind}
use Rattle.flow_base.specs.Flags.{F, T, elements, flags, concatenation, lengths}
use Rattle.flow_base.specs.Ranges.{AllOf}
use Rattle.flow_folds.specs.Scalars.{cell_of_scalar}
use Rattle.flow_scalar.specs.Rows.{units_for}
use Rattle.flow_segment.specs.Rows.{one_if}
use Rattle.flow_values.specs.Shapes.{is_a}
use Rattle.flow_nodes.specs.functions.Lists.{bind, each, paired, cut, dist, pack, interleave, concat_flags, append_flags}
use Rattle.flow_nodes.specs.functions.Decoded.{a_seq_of}
use Rattle.flow_nodes.specs.functions.Made.{one, scalar_cells, integer_cells, columns_of_values, const_made, unary_made, binary_made, units_of_made}
use Rattle.flow_nodes.specs.functions.Made.{scan_add_made, reduce_made, length_made, dist_made, pack_made, pack_groups_made, flag_of_bool_made, same_flags_made}
use Rattle.flow_nodes.specs.functions.Made.{concat_flags_made, the_check_made, append_flags_made, interleave_made, interleave_groups_made, of_one, print_made}
use Rattle.flow_nodes.specs.functions.Made.{tab_of, tab_made, seq_made, picked, index_made}
use Rattle.flow_nodes.proofs.OfFunctions.Decoding.{numbers_forth, truths_forth, integers_forth, scalars_forth, units_forth, items_forth}
use Rattle.flow_nodes.proofs.OfFunctions.FlagRows.{same_flags_forth, the_check_forth}
use Rattle.flow_nodes.proofs.OfFunctions.Edges.{laid_seq}
use Rattle.flow_nodes.proofs.OfFunctions.ValueDecoding.{AllAre, elements_made, all_cons, grouped_forth, data_vectors_forth, values_forth}

-- Scalars

pub const_makes : (k : Scalar) (n : ℕ) → const_made k (replicate n unit ∷ []) ≡ Some (replicate n (cell_of_scalar k) ∷ [])
const_makes k n = rw (units_forth n) refl

pub unary_makes : (dialect : Dialect) (op : UnaryOperator) (ks : List Scalar) → unary_made dialect op (scalar_cells ks ∷ []) ≡ one scalar_cells (each (λ k. result_ok (unary_value dialect op k)) ks)
unary_makes dialect op ks = rw (scalars_forth ks) refl

pub binary_makes : (dialect : Dialect) (op : BinaryOperator) (xs ys : List Scalar) →
    binary_made dialect op (scalar_cells xs ∷ scalar_cells ys ∷ []) ≡ one scalar_cells (bind (paired xs ys) (each (λ p. result_ok (binary_value dialect op p.0 p.1))))
binary_makes dialect op xs ys = rw (scalars_forth xs, scalars_forth ys) refl

copies_more : (n k : ℕ) → replicate n unit ++ replicate k unit ≡ replicate (n + k) unit
copies_more zero k = let e : k ≡ zero + k = omega arith in ap (λ k. replicate k unit) e
copies_more (suc n) k = let e : suc (n + k) ≡ suc n + k = omega arith in ap (λ l. unit ∷ l) (copies_more n k) ∙ ap (λ k. replicate k unit) e

segment_truths : (n : ℕ) (l : List Cell) (bs : List Bool) → l ≡ map flag bs → (cs : List Bool) × (elements n (T ∷ l) ≡ map flag cs) × (units_for cs ≡ replicate n unit ++ units_for bs)
segment_truths zero l bs e = (true ∷ bs, ap (λ l. T ∷ l) e, refl)
segment_truths (suc n) l bs e = let g = segment_truths n l bs e in (false ∷ g.0, ap (λ l. F ∷ l) g.1, ap (λ l. unit ∷ l) g.2)

-- flags are truth values, and there is a Unit for each element
flags_are_truths : (ns : List ℕ) → (bs : List Bool) × (flags ns ≡ map flag bs) × (units_for bs ≡ replicate (sum ns) unit)
flags_are_truths [] = ([], refl, refl)
flags_are_truths (n ∷ ns) =
    let g = flags_are_truths ns in
    let s = segment_truths n (flags ns) g.0 g.1 in
    (s.0, s.1, s.2 ∙ ap (λ l. replicate n unit ++ l) g.2 ∙ copies_more n (sum ns) ∙ ap (λ k. replicate k unit) (sym (sum_by-cons (λ x. x) n ns)))

pub units_of_makes : (ns : List ℕ) → units_of_made (flags ns ∷ []) ≡ Some (replicate (sum ns) unit ∷ [])
units_of_makes ns = let g = flags_are_truths ns in ap (λ f. units_of_made (f ∷ [])) g.1 ∙ rw (truths_forth g.0) (ap (λ l. Some (l ∷ [])) g.2)

pub scan_add_makes : (dialect : Dialect) (ns : List ℕ) (xs : List ℤ) →
    scan_add_made dialect (flags ns ∷ integer_cells xs ∷ []) ≡ one (λ sums. concatenation (map integer_cells sums)) (bind (cut ns xs) (each (λ group. result_ok (scan_of dialect group))))
scan_add_makes dialect ns xs = rw (numbers_forth ns, integers_forth xs) refl

pub reduce_makes : (dialect : Dialect) (reduction : Reduction) (ns : List ℕ) (xs : List Scalar) →
    reduce_made dialect reduction (flags ns ∷ scalar_cells xs ∷ []) ≡ one scalar_cells (bind (cut ns xs) (each (λ group. result_ok (reduction_of dialect reduction group))))
reduce_makes dialect reduction ns xs = rw (numbers_forth ns, scalars_forth xs) refl

pub length_makes : (dialect : Dialect) (ns : List ℕ) → length_made dialect (flags ns ∷ []) ≡ one integer_cells (each (λ n. result_ok (ranged dialect (pos n))) ns)
length_makes dialect ns = rw (numbers_forth ns) refl

-- Segments

pub dist_makes : (kind : Kind) (a : List Cell) (ns : List ℕ) → AllOf kind a → dist_made kind (a ∷ flags ns ∷ []) ≡ one (λ r. r) (dist ns a)
dist_makes kind a ns h = rw (items_forth kind a h, numbers_forth ns) refl

pub pack_makes : (kind : Kind) (bs : List Bool) (a : List Cell) → AllOf kind a → pack_made kind (map flag bs ∷ a ∷ []) ≡ one (λ r. r) (pack bs a)
pack_makes kind bs a h = rw (truths_forth bs, items_forth kind a h) refl

pub pack_groups_makes : (bs : List Bool) (ns : List ℕ) → pack_groups_made (map flag bs ∷ flags ns ∷ []) ≡ one flags (pack bs ns)
pack_groups_makes bs ns = rw (truths_forth bs, numbers_forth ns) refl

pub flag_of_bool_makes : (bs : List Bool) → flag_of_bool_made (map flag bs ∷ []) ≡ Some (flags (map one_if bs) ∷ [])
flag_of_bool_makes bs = rw (truths_forth bs) refl

pub same_flags_makes : (ns : List ℕ) → same_flags_made (flags ns ∷ flags ns ∷ []) ≡ Some []
same_flags_makes ns = let g = flags_are_truths ns in ap (λ f. same_flags_made (f ∷ f ∷ [])) g.1 ∙ same_flags_forth g.0

pub concat_flags_makes : (ns ms : List ℕ) → concat_flags_made (flags ns ∷ flags ms ∷ []) ≡ one flags (concat_flags ns ms)
concat_flags_makes ns ms = rw (numbers_forth ns, numbers_forth ms) refl

pub the_check_makes : (n : ℕ) → the_check_made (flags (replicate n 1) ∷ []) ≡ Some []
the_check_makes n = the_check_forth n

pub append_flags_makes : (ns ms : List ℕ) → append_flags_made (flags ns ∷ flags ms ∷ []) ≡ one flags (append_flags ns ms)
append_flags_makes ns ms = rw (numbers_forth ns, numbers_forth ms) refl

pub interleave_makes : (kind : Kind) (ns ms : List ℕ) (a b : List Cell) → AllOf kind a → AllOf kind b → interleave_made kind (flags ns ∷ flags ms ∷ a ∷ b ∷ []) ≡ one (λ r. r) (interleave ns ms a b)
interleave_makes kind ns ms a b h g = rw (numbers_forth ns, numbers_forth ms, items_forth kind a h, items_forth kind b g) refl

pub interleave_groups_makes : (ns ms ks ls : List ℕ) → interleave_groups_made (flags ns ∷ flags ms ∷ flags ks ∷ flags ls ∷ []) ≡ one flags (interleave ns ms ks ls)
interleave_groups_makes ns ms ks ls = rw (numbers_forth ns, numbers_forth ms, numbers_forth ks, numbers_forth ls) refl

-- Values of a type

pub print_makes : (ty : Ty) (v : Value) → is_a ty v ≡ true → print_made ty (columns_of_values ty (v ∷ [])) ≡ Some []
print_makes ty v is = ap (λ o. bind o of_one) (values_forth ty (v ∷ []) (all_cons ty v [] is refl))

pub tab_makes : (ty : Ty) (gs : List (List Value)) → AllAre ty (concatenation gs) → tab_made ty (columns_of_values (seq ty) (map a_seq_of gs)) ≡ one (map datum) (each (tab_of ty) gs)
tab_makes ty gs are =
    ap (tab_made ty) (laid_seq ty (map a_seq_of gs) ∙ ap (λ gs. flags (lengths gs) ∷ columns_of_values ty (concatenation gs)) (elements_made gs))
    ∙ rw (grouped_forth ty gs (values_forth ty (concatenation gs) are)) refl

pub seq_makes : (item : Ty) (vs : List Value) → AllAre (vec item) vs → seq_made item (map datum vs ∷ []) ≡ Some (columns_of_values (seq item) vs)
seq_makes item vs are = ap (option_map (columns_of_values (seq item))) (data_vectors_forth item vs are)

pub index_makes : (item : Ty) (vs : List Value) (ns : List ℤ) → AllAre (vec item) vs → index_made item (map datum vs ∷ integer_cells ns ∷ [])
    ≡ option_map (columns_of_values item) (bind (paired vs ns) (each picked))
index_makes item vs ns are = rw (data_vectors_forth item vs are, integers_forth ns) refl
