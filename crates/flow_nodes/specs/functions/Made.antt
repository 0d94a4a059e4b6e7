-- What each transducer writes, as a function of the columns that it reads. It is None where these are not such as its row
-- allows, or not as many as it has inputs.
use Rattle.std.specs.Prelude.{ℕ, zero, ℤ, pos, negsuc, ◌==◌, List, [], ◌∷◌, map, sum, length, replicate, Option, Some, None, option_map}
use Rattle.std.specs.Result.{result_ok}
use Rattle.snesl_data.specs.declared.dialect.Dialect.{Dialect}
use Rattle.snesl_data.specs.Types.{Ty, vec, seq, is_concrete}
use Rattle.snesl_data.specs.Values.{Value, a_vec, values_of}
use Rattle.snesl_data.specs.operators.Operators.{ranged, unary_value, binary_value, same_truth}
use Rattle.snesl_data.specs.operators.Reductions.{reduction_of, scan_of}
use Rattle.snesl_data.specs.declared.operators.scalar.Scalar.{Scalar}
use Rattle.snesl_data.specs.declared.operators.operator.UnaryOperator.{UnaryOperator}
use Rattle.snesl_data.specs.declared.operators.operator.BinaryOperator.{BinaryOperator}
use Rattle.snesl_data.specs.declared.operators.operator.Reduction.{Reduction}
use Rattle.flow_messages.specs.Cells.{Cell, int, datum}
use Rattle.flow_messages.specs.declared.message.Kind.{Kind}
use Rattle.flow_base.specs.Flags.{flags, concatenation, lengths}
use Rattle.flow_base.specs.Columns.{Columns, columns}
use Rattle.flow_folds.specs.Scalars.{cell_of_scalar}
use Rattle.flow_scalar.specs.Rows.{numbers_below, units_for}
use Rattle.flow_segment.specs.Rows.{one_if}
use Rattle.flow_values.specs.Flats.{width, flat}
use Rattle.flow_values.specs.Rows.{element_at}
use Rattle.flow_nodes.specs.functions.Lists.{bind, only_if, each, same_lists, paired, cut, dist, pack, interleave, concat_flags, append_flags}
use Rattle.flow_nodes.specs.functions.Decoded.{numbers, truths, integers, scalars, units, items_of_kind, grouped, values}

-- one column, made of what there is
abbrev pub one : {A : Type 0} → (A → List Cell) → Option A → Option Columns
one column made = option_map (λ x. column x ∷ []) made

-- scalars and integers as cells
abbrev pub scalar_cells : List Scalar → List Cell
scalar_cells ks = map cell_of_scalar ks

abbrev pub integer_cells : List ℤ → List Cell
integer_cells ns = map int ns

-- the columns that values of the type put on its edges
abbrev pub columns_of_values : Ty → List Value → Columns
columns_of_values ty vs = columns (width ty) (flat ty zero vs)

-- Scalars

-- the list that it holds
abbrev pub source_made : List Cell → Columns → Option Columns
source_made cells [] = Some (cells ∷ [])
source_made cells _ = None

-- of n Units the constant n times
abbrev pub const_made : Scalar → Columns → Option Columns
const_made k (u ∷ []) = one (λ n. replicate n (cell_of_scalar k)) (units u)
const_made k _ = None

-- the operator's values, where it has one at each scalar
abbrev pub unary_made : Dialect → UnaryOperator → Columns → Option Columns
unary_made dialect op (a ∷ []) = one scalar_cells (bind (scalars a) (each (λ k. result_ok (unary_value dialect op k))))
unary_made dialect op _ = None

-- the operator's values, where there are as many scalars on both sides and it has a value at each two
abbrev pub binary_made : Dialect → BinaryOperator → Columns → Option Columns
binary_made dialect op (a ∷ b ∷ []) =
    one scalar_cells (bind (scalars a) (λ xs. bind (scalars b) (λ ys. bind (paired xs ys) (each (λ p. result_ok (binary_value dialect op p.0 p.1))))))
binary_made dialect op _ = None

-- items of the kind, to so many outputs
abbrev pub fork_made : Kind → ℕ → Columns → Option Columns
fork_made kind outputs (a ∷ []) = option_map (λ xs. replicate outputs xs) (items_of_kind kind a)
fork_made kind outputs _ = None

-- nothing of items of the kind
abbrev pub sink_made : Kind → Columns → Option Columns
sink_made kind (a ∷ []) = option_map (λ xs. []) (items_of_kind kind a)
sink_made kind _ = None

-- the integer as a number that is not negative
abbrev pub natural : ℤ → Option ℕ
natural (pos n) = Some n
natural (negsuc n) = None

-- flags of the integers, none of which is negative, and for each n the numbers 0 to n - 1
abbrev pub iota_made : Columns → Option Columns
iota_made (a ∷ []) = option_map (λ ns. flags ns ∷ concatenation (map numbers_below ns) ∷ []) (bind (integers a) (each natural))
iota_made _ = None

-- a Unit for each false
abbrev pub units_of_made : Columns → Option Columns
units_of_made (f ∷ []) = one units_for (truths f)
units_of_made _ = None

-- the running sums of each group, where none is a fault
abbrev pub scan_add_made : Dialect → Columns → Option Columns
scan_add_made dialect (f ∷ a ∷ []) =
    one (λ sums. concatenation (map integer_cells sums)) (bind (numbers f) (λ ns. bind (integers a) (λ xs. bind (cut ns xs) (each (λ group. result_ok (scan_of dialect group))))))
scan_add_made dialect _ = None

-- the value to which each group reduces, where none is a fault
abbrev pub reduce_made : Dialect → Reduction → Columns → Option Columns
reduce_made dialect reduction (f ∷ a ∷ []) =
    one scalar_cells (bind (numbers f) (λ ns. bind (scalars a) (λ xs. bind (cut ns xs) (each (λ group. result_ok (reduction_of dialect reduction group))))))
reduce_made dialect reduction _ = None

-- the numbers, where all lie in the range
abbrev pub length_made : Dialect → Columns → Option Columns
length_made dialect (f ∷ []) = one integer_cells (bind (numbers f) (each (λ n. result_ok (ranged dialect (pos n)))))
length_made dialect _ = None

-- Segments

-- each item of the kind as often as its number
abbrev pub dist_made : Kind → Columns → Option Columns
dist_made kind (a ∷ f ∷ []) = one (λ r. r) (bind (items_of_kind kind a) (λ xs. bind (numbers f) (λ ns. dist ns xs)))
dist_made kind _ = None

-- the items of the kind whose truth values are true
abbrev pub pack_made : Kind → Columns → Option Columns
pack_made kind (b ∷ a ∷ []) = one (λ r. r) (bind (truths b) (λ bs. bind (items_of_kind kind a) (λ xs. pack bs xs)))
pack_made kind _ = None

-- flags of the numbers whose truth values are true
abbrev pub pack_groups_made : Columns → Option Columns
pack_groups_made (b ∷ f ∷ []) = one flags (bind (truths b) (λ bs. bind (numbers f) (λ ns. pack bs ns)))
pack_groups_made _ = None

-- flags of 1 for true and 0 for false
abbrev pub flag_of_bool_made : Columns → Option Columns
flag_of_bool_made (b ∷ []) = one (λ bs. flags (map one_if bs)) (truths b)
flag_of_bool_made _ = None

-- nothing, where both are the same flags
abbrev pub same_flags_made : Columns → Option Columns
same_flags_made (f ∷ g ∷ []) = bind (truths f) (λ bs. bind (truths g) (λ cs. only_if (same_lists same_truth bs cs) []))
same_flags_made _ = None

-- flags of the sum of each group of numbers
abbrev pub concat_flags_made : Columns → Option Columns
concat_flags_made (f ∷ g ∷ []) = one flags (bind (numbers f) (λ ns. bind (numbers g) (λ ms. concat_flags ns ms)))
concat_flags_made _ = None

-- Here g tells how many truth values each segment has, and those of one segment are the flags of its parts: for each the
-- number of false before a true. What is written are flags of how many parts each segment has, and of all parts, where f is
-- flags of how many are false in each segment.
abbrev pub part_flags_made : Columns → Option Columns
part_flags_made (g ∷ b ∷ f ∷ []) =
    bind (numbers g) (λ ns. bind (cut ns b) (λ segments. bind (each numbers segments) (λ parts. bind (numbers f) (λ ms.
    only_if (same_lists ◌==◌ (map sum parts) ms) (flags (lengths parts) ∷ flags (concatenation parts) ∷ [])))))
part_flags_made _ = None

-- nothing, where each segment has one element
abbrev pub the_check_made : Columns → Option Columns
the_check_made (f ∷ []) = bind (numbers f) (λ ns. only_if (same_lists ◌==◌ ns (replicate (length ns) 1)) [])
the_check_made _ = None

-- flags of the sums, place by place
abbrev pub append_flags_made : Columns → Option Columns
append_flags_made (f ∷ g ∷ []) = one flags (bind (numbers f) (λ ns. bind (numbers g) (λ ms. append_flags ns ms)))
append_flags_made _ = None

-- the groups of both lists of items of the kind, taken alternately
abbrev pub interleave_made : Kind → Columns → Option Columns
interleave_made kind (f ∷ g ∷ a ∷ b ∷ []) =
    one (λ r. r) (bind (numbers f) (λ ns. bind (numbers g) (λ ms. bind (items_of_kind kind a) (λ xs. bind (items_of_kind kind b) (λ ys. interleave ns ms xs ys)))))
interleave_made kind _ = None

-- flags of the groups of both lists of numbers, taken alternately
abbrev pub interleave_groups_made : Columns → Option Columns
interleave_groups_made (f ∷ g ∷ p ∷ q ∷ []) =
    one flags (bind (numbers f) (λ ns. bind (numbers g) (λ ms. bind (numbers p) (λ ks. bind (numbers q) (λ ls. interleave ns ms ks ls)))))
interleave_groups_made _ = None

-- Values of a type

-- nothing of one value
abbrev pub of_one : List Value → Option Columns
of_one (v ∷ []) = Some []
of_one _ = None

abbrev pub print_made : Ty → Columns → Option Columns
print_made ty all = bind (values ty all) of_one

-- the vector of these elements, where their type is concrete
abbrev pub tab_of : Ty → List Value → Option Value
tab_of ty vs = only_if (is_concrete ty) (a_vec (values_of vs))

-- the vectors of the elements of each sequence
abbrev pub tab_made : Ty → Columns → Option Columns
tab_made ty (f ∷ others) = one (map datum) (bind (grouped f (values ty others)) (each (tab_of ty)))
tab_made ty _ = None

-- sequences of the elements of vectors of such items
abbrev pub seq_made : Ty → Columns → Option Columns
seq_made item (v ∷ []) = option_map (columns_of_values (seq item)) (values (vec item) (v ∷ []))
seq_made item _ = None

-- the element of the vector at this index
abbrev pub picked : Value × ℤ → Option Value
picked (a_vec vs, n) = element_at vs n
picked _ = None

-- the elements at the indices, one of each vector
abbrev pub index_made : Ty → Columns → Option Columns
index_made item (v ∷ i ∷ []) = option_map (columns_of_values item) (bind (values (vec item) (v ∷ [])) (λ vs. bind (integers i) (λ ns. bind (paired vs ns) (each picked))))
index_made item _ = None
