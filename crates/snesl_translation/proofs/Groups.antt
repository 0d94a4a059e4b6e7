-- Built-in functions of groups, at whole lists of instances: running sums, reductions, and `concat`.
use Rattle.std.specs.Prelude.{◌≡◌, ℕ, suc, ◌+◌, ℤ, pos, ◌+ℤ◌, List, [], ◌∷◌, ◌++◌, map, length, sum, Option, Some, None, option_map, Result, Ok, Err, refl}
use Rattle.std.specs.Result.{result_ok}
use Rattle.std.proofs.Common.{sym, ap, ◌∙◌, subst, length-append, append_assoc}
use Rattle.std.proofs.Math.Path.{ap₂}
use Rattle.std.proofs.lemmas.List.Sums.{sum_by-cons}
use Rattle.snesl_data.specs.declared.dialect.Dialect.{Dialect}
use Rattle.snesl_data.specs.declared.fault.FaultKind.{FaultKind}
use Rattle.snesl_data.specs.Types.{Ty, int, seq}
use Rattle.snesl_data.specs.Values.{Value, an_int, list_of, values_of}
use Rattle.snesl_data.specs.operators.Operators.{type_of, ranged}
use Rattle.snesl_data.specs.operators.Reductions.{and_then as result_then, reduction_type, reduction_of, scan_from, scan_of}
use Rattle.snesl_data.specs.declared.operators.scalar.Scalar.{Scalar}
use Rattle.snesl_data.specs.declared.operators.scalar.Scalar.TheVariants.{Int, Bool as Truth}
use Rattle.snesl_data.specs.declared.operators.operator.Reduction.{Reduction}
use Rattle.snesl_data.proofs.OfOperators.ReductionLaws.{reduced_type}
use Rattle.snesl_grammar.specs.declared.tree.operator.Builtin.TheVariants.{ScanAdd, Concat}
use Rattle.flow_messages.specs.Cells.{int as int_cell}
use Rattle.flow_base.specs.Columns.{Columns}
use Rattle.flow_base.specs.Flags.{flags, concatenation, lengths}
use Rattle.flow_values.specs.Shapes.{cell_for, elements_of}
use Rattle.flow_nodes.specs.functions.Lists.{bind, each, cut, concat_flags as summed_groups}
use Rattle.flow_nodes.specs.functions.Decoded.{a_seq_of}
use Rattle.flow_nodes.specs.functions.Made.{one, scalar_cells, integer_cells, columns_of_values, scan_add_made, reduce_made, concat_flags_made}
use Rattle.flow_nodes.proofs.OfFunctions.Options.{bind_gives, map_gives, some_same, cut_forth, map_map, map_joined}
use Rattle.flow_nodes.proofs.OfFunctions.Encoded.{scan_add_makes, reduce_makes, concat_flags_makes}
use Rattle.flow_nodes.proofs.OfFunctions.ValueDecoding.{AllAre, list_values, elements_made, groups_made}
use Rattle.snesl_evaluation.specs.Answer.{Answer, gives, faults, go, go_all, go_join, answer_at}
use Rattle.snesl_evaluation.specs.Builtins.{int_at, scalar_at, items_at, seq_answer, scalar_value, scalar_answer, reduce_answer, applied}
use Rattle.flow_nodes.specs.plans.Plans.{scan_add, reduce, concat_flags, streams_at}
use Rattle.snesl_translation.specs.Wires.{Wires, segments, stream_of, item_wires}
use Rattle.snesl_translation.specs.Makings.{done, stepped}
use Rattle.snesl_translation.specs.Moving.{flags_stepped}
use Rattle.snesl_translation.specs.Translation.{reduction, call_streams}
use Rattle.snesl_translation.specs.Carrying.{Carries, Makes, Goes}
use Rattle.snesl_translation.proofs.Carrying.{streams_joined, stream_carries, carried_on, stepped_makes, stepped_stops, first_stops}
use Rattle.snesl_translation.proofs.Doing.{then_does, done_does, flags_written, segments_makes}
use Rattle.snesl_translation.proofs.Instances.{map_each}
use Rattle.snesl_translation.proofs.Twins.{Agrees, agree_value, all_agree, each_are, if_ok, go_all_gives, step_goes}
use Rattle.snesl_translation.proofs.Views.{groups_from, int_from, seq_from, type_as, single_as, scalar_from, scalar_as, cells_of_scalars, cells_of_integers, one_scalars}
use Rattle.snesl_translation.proofs.Grouping.{grouped_from, grouped_carry}

-- lengths

length_same : {A B : Type 0} (f : A → B) (xs : List A) → length (map f xs) ≡ length xs
length_same f [] = refl
length_same f (x ∷ xs) = ap suc (length_same f xs)

pub lengths_inside : {A B : Type 0} (f : A → B) (ls : List (List A)) → lengths (map (map f) ls) ≡ lengths ls
lengths_inside f [] = refl
lengths_inside f (l ∷ ls) = ap₂ (λ n ns. n ∷ ns) (length_same f l) (lengths_inside f ls)

lengths_given : {A B : Type 0} (g : List A → Option (List B)) → ((l : List A) (m : List B) → g l ≡ Some m → length m ≡ length l) →
    (ls : List (List A)) (ms : List (List B)) → each g ls ≡ Some ms → lengths ms ≡ lengths ls
lengths_given g h [] ms e = ap lengths (sym (some_same [] ms e))
lengths_given g h (l ∷ ls) ms e =
    let one = bind_gives (g l) (λ y. option_map (λ ys. y ∷ ys) (each g ls)) e in
    let others = map_gives (λ ys. one.0 ∷ ys) (each g ls) one.2 in
    ap lengths others.2 ∙ ap₂ (λ n ns. n ∷ ns) (h l one.0 one.1) (lengths_given g h ls others.0 others.1)

-- running sums

ok_then : {A B : Type 0} (r : Result A FaultKind) (next : A → Result B FaultKind) → result_ok (result_then r next) ≡ bind (result_ok r) (λ x. result_ok (next x))
ok_then (Ok x) next = refl
ok_then (Err kind) next = refl

scan_length : (dialect : Dialect) (so_far : ℤ) (xs sums : List ℤ) → result_ok (scan_from dialect so_far xs) ≡ Some sums → length sums ≡ length xs
scan_length dialect so_far [] sums e = ap length (sym (some_same [] sums e))
scan_length dialect so_far (x ∷ []) sums e = ap length (sym (some_same (so_far ∷ []) sums e))
scan_length dialect so_far (x ∷ y ∷ xs) sums e =
    let next = λ (n : ℤ). result_then (scan_from dialect n (y ∷ xs)) (λ sums. Ok (so_far ∷ sums)) in
    let first = bind_gives (result_ok (ranged dialect (so_far +ℤ x))) (λ n. result_ok (next n)) (sym (ok_then (ranged dialect (so_far +ℤ x)) next) ∙ e) in
    let rest = scan_from dialect first.0 (y ∷ xs) in
    let others = bind_gives (result_ok rest) (λ sums. Some (so_far ∷ sums)) (sym (ok_then rest (λ sums. Ok (so_far ∷ sums))) ∙ first.2) in
    ap length (sym (some_same (so_far ∷ others.0) sums others.2)) ∙ ap suc (scan_length dialect first.0 (y ∷ xs) others.0 others.1)

-- a sequence of integers, and one of scalars
abbrev integer_sequence : List ℤ → Value
integer_sequence ns = a_seq_of (map an_int ns)

abbrev scalar_sequence : List Scalar → Value
scalar_sequence ks = a_seq_of (map scalar_value ks)

integers_read : (at : ℕ) (ns : List ℤ) → go_all (int_at at) (list_of (values_of (map an_int ns))) ≡ gives ns
integers_read at [] = refl
integers_read at (n ∷ ns) = ap (λ a. go a (λ ys. gives (n ∷ ys))) (integers_read at ns)

scalars_read : (at : ℕ) (ks : List Scalar) → go_all (scalar_at at) (list_of (values_of (map scalar_value ks))) ≡ gives ks
scalars_read at [] = refl
scalars_read at (Int n ∷ ks) = ap (λ a. go a (λ ys. gives (Int n ∷ ys))) (scalars_read at ks)
scalars_read at (Truth b ∷ ks) = ap (λ a. go a (λ ys. gives (Truth b ∷ ys))) (scalars_read at ks)

all_integers : (ns : List ℤ) → AllAre int (map an_int ns)
all_integers [] = refl
all_integers (n ∷ ns) = all_integers ns

-- sequences of sequences

abbrev pub nested : List (List Value) → Value
nested ls = a_seq_of (map a_seq_of ls)

parts_read : (at : ℕ) (ls : List (List Value)) → go_join (items_at at) (list_of (values_of (map a_seq_of ls))) ≡ gives (concatenation ls)
parts_read at [] = refl
parts_read at (l ∷ ls) = ap₂ (λ (l : List Value) (a : Answer (List Value)). go a (λ zs. gives (l ++ zs))) (list_values l) (parts_read at ls)

lengths_append : {A : Type 0} (ls ms : List (List A)) → lengths (ls ++ ms) ≡ lengths ls ++ lengths ms
lengths_append [] ms = refl
lengths_append (l ∷ ls) ms = ap (λ ns. length l ∷ ns) (lengths_append ls ms)

pub joined_append : {A : Type 0} (ls ms : List (List A)) → concatenation (ls ++ ms) ≡ concatenation ls ++ concatenation ms
joined_append [] ms = refl
joined_append (l ∷ ls) ms = ap (λ r. l ++ r) (joined_append ls ms) ∙ sym (append_assoc l (concatenation ls) (concatenation ms))

pub lengths_joined : {A : Type 0} (lss : List (List (List A))) → lengths (concatenation lss) ≡ concatenation (map (λ ls. lengths ls) lss)
lengths_joined [] = refl
lengths_joined (ls ∷ lss) = lengths_append ls (concatenation lss) ∙ ap (λ ns. lengths ls ++ ns) (lengths_joined lss)

lengths_length : {A : Type 0} (ls : List (List A)) → length (lengths ls) ≡ length ls
lengths_length [] = refl
lengths_length (l ∷ ls) = ap suc (lengths_length ls)

pub lengths_lengths : {A : Type 0} (lss : List (List (List A))) → lengths lss ≡ lengths (map (λ ls. lengths ls) lss)
lengths_lengths [] = refl
lengths_lengths (ls ∷ lss) = ap₂ (λ n ns. n ∷ ns) (sym (lengths_length ls)) (lengths_lengths lss)

pub joined_length : {A : Type 0} (ls : List (List A)) → sum (lengths ls) ≡ length (concatenation ls)
joined_length [] = refl
joined_length (l ∷ ls) = sum_by-cons (λ x. x) (length l) (lengths ls) ∙ ap (λ n. length l + n) (joined_length ls) ∙ sym (length-append l (concatenation ls))

joined_lengths : {A : Type 0} (lss : List (List (List A))) → map sum (map (λ ls. lengths ls) lss) ≡ lengths (map (λ ls. concatenation ls) lss)
joined_lengths [] = refl
joined_lengths (ls ∷ lss) = ap₂ (λ n ns. n ∷ ns) (joined_length ls) (joined_lengths lss)

joined_joined : {A : Type 0} (lss : List (List (List A))) → concatenation (concatenation lss) ≡ concatenation (map (λ ls. concatenation ls) lss)
joined_joined [] = refl
joined_joined (ls ∷ lss) = joined_append ls (concatenation lss) ∙ ap (λ l. concatenation ls ++ l) (joined_joined lss)

-- the sums of the lengths of each group
groups_summed : {A : Type 0} (lss : List (List (List A))) → summed_groups (lengths lss) (lengths (concatenation lss)) ≡ Some (lengths (map (λ ls. concatenation ls) lss))
groups_summed lss =
    ap (option_map (map sum)) (ap₂ cut (lengths_lengths lss) (lengths_joined lss) ∙ cut_forth (map (λ ls. lengths ls) lss))
    ∙ ap Some (joined_lengths lss)

module _ (dialect : Dialect) (at : ℕ) where
  scan_agrees : (ns : List ℤ) → Agrees (applied dialect at ScanAdd (integer_sequence ns ∷ [])) (option_map integer_sequence (result_ok (scan_of dialect ns)))
  scan_agrees ns =
      subst (λ a. Agrees (go a (λ ms. go (answer_at at (scan_of dialect ms)) (λ sums. gives (integer_sequence sums)))) (option_map integer_sequence (result_ok (scan_of dialect ns))))
      (sym (integers_read at ns)) (agree_value integer_sequence at (scan_of dialect ns))

  reduce_agrees : (r : Reduction) (ks : List Scalar) → Agrees (reduce_answer dialect at r (scalar_sequence ks)) (option_map scalar_value (result_ok (reduction_of dialect r ks)))
  reduce_agrees r ks =
      subst (λ a. Agrees (go a (λ xs. scalar_answer at (reduction_of dialect r xs))) (option_map scalar_value (result_ok (reduction_of dialect r ks))))
      (sym (scalars_read at ks)) (agree_value scalar_value at (reduction_of dialect r ks))

  pub concat_gives : (ls : List (List Value)) → applied dialect at Concat (nested ls ∷ []) ≡ gives (a_seq_of (concatenation ls))
  concat_gives ls = ap seq_answer (parts_read at ls)

  module _ (streams : Columns) where
    scan_either : (u : Wires) (nss : List (List ℤ)) (a : Answer (List Value)) (o : Option (List (List ℤ))) → streams_at (stream_of u ∷ []) streams ≡ Some (flags (lengths nss) ∷ [])
        → streams_at (stream_of (item_wires u) ∷ []) streams ≡ Some (integer_cells (concatenation nss) ∷ []) → each (λ ns. result_ok (scan_of dialect ns)) nss ≡ o
        → Agrees a (option_map (map integer_sequence) o) → Goes streams (seq int) (call_streams dialect at ScanAdd (u ∷ []) (length streams)) a
    scan_either u nss a o f_there i_there e h = go_on a o e h
      where
        there : streams_at (stream_of u ∷ stream_of (item_wires u) ∷ []) streams ≡ Some (flags (lengths nss) ∷ integer_cells (concatenation nss) ∷ [])
        there = streams_joined (stream_of u ∷ []) (stream_of (item_wires u) ∷ []) streams (flags (lengths nss) ∷ []) (integer_cells (concatenation nss) ∷ []) f_there i_there

        made : scan_add_made dialect (flags (lengths nss) ∷ integer_cells (concatenation nss) ∷ [])
            ≡ one (λ sums. concatenation (map integer_cells sums)) (each (λ ns. result_ok (scan_of dialect ns)) nss)
        made = scan_add_makes dialect (lengths nss) (concatenation nss)
            ∙ ap (λ p. one (λ sums. concatenation (map integer_cells sums)) (bind p (each (λ ns. result_ok (scan_of dialect ns))))) (cut_forth nss)

        go_on : (a : Answer (List Value)) (o : Option (List (List ℤ))) → each (λ ns. result_ok (scan_of dialect ns)) nss ≡ o → Agrees a (option_map (map integer_sequence) o)
            → Goes streams (seq int) (call_streams dialect at ScanAdd (u ∷ []) (length streams)) a
        go_on (gives vs) (Some sums) e h =
            let gs = map (map an_int) sums in
            let ws = map a_seq_of gs in
            let all : map an_int (concatenation sums) ≡ concatenation (map elements_of ws) = map_joined an_int sums ∙ ap concatenation (sym (elements_made gs)) in
            let cells : scan_add_made dialect (flags (lengths nss) ∷ integer_cells (concatenation nss) ∷ []) ≡ Some (columns_of_values int (map an_int (concatenation sums))) =
            made ∙ ap (one (λ sums. concatenation (map integer_cells sums))) e ∙ ap (λ cs. Some (cs ∷ [])) (sym (map_joined int_cell sums) ∙ sym (cells_of_integers (concatenation sums))) in
            let sizes : lengths nss ≡ lengths (map elements_of ws) =
            sym (lengths_given (λ ns. result_ok (scan_of dialect ns)) (λ ns ms d. scan_length dialect (pos 0) ns ms d) nss sums e)
            ∙ sym (lengths_inside an_int sums) ∙ ap lengths (sym (elements_made gs)) in
            let step = stepped at (scan_add dialect) (stream_of u ∷ stream_of (item_wires u) ∷ []) int (length streams) in
            let first : Makes streams int step (map an_int (concatenation sums)) =
            stepped_makes streams at (scan_add dialect) (stream_of u ∷ stream_of (item_wires u) ∷ []) int
            (flags (lengths nss) ∷ integer_cells (concatenation nss) ∷ []) (map an_int (concatenation sums)) there cells
            (all_integers (concatenation sums)) in
            let are : AllAre int (concatenation gs) = subst (AllAre int) (map_joined an_int sums) (all_integers (concatenation sums)) in
            subst (Makes streams (seq int) (call_streams dialect at ScanAdd (u ∷ []) (length streams))) (map_map a_seq_of (map an_int) sums ∙ some_same (map integer_sequence sums) vs h)
            (segments_makes streams (stream_of u) step int ws (f_there ∙ ap (λ ns. Some (flags ns ∷ [])) sizes) (subst (Makes streams int step) all first) (groups_made int gs are))
        go_on (gives vs) None e h = absurd (cc)
        go_on (faults kind place) (Some sums) e h = absurd (cc)
        go_on (faults kind place) None e h =
            first_stops (stepped at (scan_add dialect) (stream_of u ∷ stream_of (item_wires u) ∷ []) int (length streams)) (λ sums k. done (segments (stream_of u) sums) k) streams
            (stepped_stops streams at (scan_add dialect) (stream_of u ∷ stream_of (item_wires u) ∷ []) int (length streams)
            (flags (lengths nss) ∷ integer_cells (concatenation nss) ∷ []) there
            (made ∙ ap (one (λ sums. concatenation (map integer_cells sums))) e))

    pub scan_goes : (u : Wires) (vs : List Value) → Carries streams u (seq int) vs →
        Goes streams (seq int) (call_streams dialect at ScanAdd (u ∷ []) (length streams)) (go_all (λ v. applied dialect at ScanAdd (v ∷ [])) vs)
    scan_goes u vs c =
        let by = grouped_from streams u int vs c in
        let inner = groups_from int an_int int_from by.groups by.items.are in
        let nss = inner.0 in
        let g = λ (ns : List ℤ). result_ok (scan_of dialect ns) in
        let f = λ (v : Value). applied dialect at ScanAdd (v ∷ []) in
        let view : vs ≡ map integer_sequence nss = by.view ∙ ap (map a_seq_of) inner.1 ∙ map_map a_seq_of (map an_int) nss in
        let flags_there : streams_at (stream_of u ∷ []) streams ≡ Some (flags (lengths nss) ∷ []) = by.flags_there ∙ ap (λ ns. Some (flags ns ∷ [])) (ap lengths inner.1 ∙ lengths_inside an_int nss) in
        let items_there : streams_at (stream_of (item_wires u) ∷ []) streams ≡ Some (integer_cells (concatenation nss) ∷ []) =
        stream_carries streams (item_wires u) int (concatenation by.groups) tt by.items
        ∙ ap (λ cs. Some (cs ∷ [])) (ap (λ gs. map cell_for (concatenation gs)) inner.1 ∙ ap (map cell_for) (sym (map_joined an_int nss)) ∙ cells_of_integers (concatenation nss)) in
        scan_either u nss (go_all f vs) (each g nss) flags_there items_there refl
        (subst (λ vs. Agrees (go_all f vs) (option_map (map integer_sequence) (each g nss))) (sym view)
        (subst (λ o. Agrees (go_all f (map integer_sequence nss)) o) (map_each g integer_sequence nss) (all_agree integer_sequence f (λ ns. option_map integer_sequence (g ns)) scan_agrees nss)))

    pub reduce_goes : (r : Reduction) (u : Wires) (vs : List Value) → Carries streams u (seq (type_as (reduction_type r))) vs
        → Goes streams (type_as (reduction_type r)) (reduction dialect at r (type_as (reduction_type r)) u (length streams)) (go_all (reduce_answer dialect at r) vs)
    reduce_goes r u vs c =
        let s = reduction_type r in
        let by = grouped_from streams u (type_as s) vs c in
        let inner = groups_from (type_as s) scalar_value (scalar_from s) by.groups by.items.are in
        let kss = inner.0 in
        let g = λ (ks : List Scalar). result_ok (reduction_of dialect r ks) in
        let view : vs ≡ map scalar_sequence kss = by.view ∙ ap (map a_seq_of) inner.1 ∙ map_map a_seq_of (map scalar_value) kss in
        let flags_there : streams_at (stream_of u ∷ []) streams ≡ Some (flags (lengths kss) ∷ []) = by.flags_there
        ∙ ap (λ ns. Some (flags ns ∷ [])) (ap lengths inner.1 ∙ lengths_inside scalar_value kss) in
        let items_there : streams_at (stream_of (item_wires u) ∷ []) streams ≡ Some (scalar_cells (concatenation kss) ∷ []) =
        stream_carries streams (item_wires u) (type_as s) (concatenation by.groups) (single_as s) by.items
        ∙ ap (λ cs. Some (cs ∷ [])) (ap (λ gs. map cell_for (concatenation gs)) inner.1 ∙ ap (map cell_for) (sym (map_joined scalar_value kss)) ∙ cells_of_scalars (concatenation kss)) in
        let there = streams_joined (stream_of u ∷ []) (stream_of (item_wires u) ∷ []) streams (flags (lengths kss) ∷ []) (scalar_cells (concatenation kss) ∷ []) flags_there items_there in
        let made : reduce_made dialect r (flags (lengths kss) ∷ scalar_cells (concatenation kss) ∷ []) ≡ one scalar_cells (each g kss) =
        reduce_makes dialect r (lengths kss) (concatenation kss) ∙ ap (λ o. one scalar_cells (bind o (each g))) (cut_forth kss) in
        step_goes streams at (reduce dialect r) (stream_of u ∷ stream_of (item_wires u) ∷ []) (type_as s)
        (flags (lengths kss) ∷ scalar_cells (concatenation kss) ∷ []) scalar_sequence (reduce_answer dialect at r) scalar_value g kss vs view there
        (made ∙ one_scalars s (each g kss)) (reduce_agrees r)
        (each_are (type_as s) scalar_value g (λ ks b e. scalar_as s b (if_ok (λ v. type_of v ≡ s) (reduction_of dialect r ks) b (reduced_type dialect r ks) e)) kss)

    pub concat_goes : (u : Wires) (t : Ty) (vs : List Value) → Carries streams u (seq (seq t)) vs →
        Goes streams (seq t) (call_streams dialect at Concat (u ∷ []) (length streams)) (go_all (λ v. applied dialect at Concat (v ∷ [])) vs)
    concat_goes u t vs c =
        let by = grouped_from streams u (seq t) vs c in
        let inner = groups_from (seq t) a_seq_of (seq_from t) by.groups by.items.are in
        let lss = inner.0 in
        let f = λ (v : Value). applied dialect at Concat (v ∷ []) in
        let given = map (λ ls. concatenation ls) lss in
        let view : vs ≡ map nested lss = by.view ∙ ap (map a_seq_of) inner.1 ∙ map_map a_seq_of (map a_seq_of) lss in
        let answer : go_all f vs ≡ gives (map a_seq_of given) =
        ap (go_all f) view ∙ go_all_gives nested f (λ ls. a_seq_of (concatenation ls)) concat_gives lss ∙ ap gives (sym (map_map a_seq_of (λ ls. concatenation ls) lss)) in
        let within = grouped_from streams (item_wires u) t (concatenation by.groups) by.items in
        let same : within.groups ≡ concatenation lss =
        sym (elements_made within.groups) ∙ ap (map elements_of) (sym within.view ∙ ap concatenation inner.1 ∙ sym (map_joined a_seq_of lss)) ∙ elements_made (concatenation lss) in
        let outer_there : streams_at (stream_of u ∷ []) streams ≡ Some (flags (lengths lss) ∷ []) = by.flags_there
        ∙ ap (λ ns. Some (flags ns ∷ [])) (ap lengths inner.1 ∙ lengths_inside a_seq_of lss) in
        let inner_there : streams_at (stream_of (item_wires u) ∷ []) streams ≡ Some (flags (lengths (concatenation lss)) ∷ []) = within.flags_there ∙ ap (λ gs. Some (flags (lengths gs) ∷ [])) same in
        let there = streams_joined (stream_of u ∷ []) (stream_of (item_wires u) ∷ []) streams (flags (lengths lss) ∷ []) (flags (lengths (concatenation lss)) ∷ []) outer_there inner_there in
        let made : concat_flags_made (flags (lengths lss) ∷ flags (lengths (concatenation lss)) ∷ []) ≡ Some (flags (lengths given) ∷ []) =
        concat_flags_makes (lengths lss) (lengths (concatenation lss)) ∙ ap (one flags) (groups_summed lss) in
        let items : Carries streams (item_wires (item_wires u)) t (concatenation given) =
        subst (Carries streams (item_wires (item_wires u)) t) (ap concatenation same ∙ joined_joined lss) within.items in
        let reads = stream_of u ∷ stream_of (item_wires u) ∷ [] in
        let step = flags_stepped at concat_flags reads (length streams) in
        let wrote = flags_written streams at concat_flags reads (flags (lengths lss) ∷ flags (lengths (concatenation lss)) ∷ []) (flags (lengths given)) there made in
        let on = streams ++ wrote.0 in
        let w = segments (stream_of step.given) (item_wires (item_wires u)) in
        let Holds : Columns → Wires → Type 0 = λ l w. Carries l w (seq t) (map a_seq_of given) in
        let carried : Carries on w (seq t) (map a_seq_of given) =
        grouped_carry on (stream_of step.given) (item_wires (item_wires u)) t given wrote.3
        (carried_on streams wrote.0 (item_wires (item_wires u)) t (concatenation given) items) in
        let makes : Makes streams (seq t) (call_streams dialect at Concat (u ∷ []) (length streams)) (map a_seq_of given) =
        then_does step (λ h k. done (segments (stream_of h) (item_wires (item_wires u))) k) streams (λ l w. streams_at (stream_of w ∷ []) l ≡ Some (flags (lengths given) ∷ [])) Holds wrote
        (done_does w on Holds carried) in
        subst (Goes streams (seq t) (call_streams dialect at Concat (u ∷ []) (length streams))) (sym answer) makes
