-- What a list of cells encodes, or nothing where it encodes nothing such.
use Rattle.std.specs.Prelude.{ℕ, zero, suc, ℤ, Bool, true, false, List, [], ◌∷◌, map, take, drop, Option, Some, None, option_map}
use Rattle.std.specs.List.{list_all}
use Rattle.snesl_data.specs.Types.{Ty, int, bool, pair, vec, seq}
use Rattle.snesl_data.specs.Values.{Value, an_int, a_bool, a_pair, a_seq, values_of}
use Rattle.snesl_data.specs.declared.operators.scalar.Scalar.{Scalar}
use Rattle.flow_messages.specs.Cells.{Cell, unit, flag, int as int_cell, datum, is_of}
use Rattle.flow_messages.specs.declared.message.Kind.{Kind}
use Rattle.flow_base.specs.Columns.{Columns}
use Rattle.flow_folds.specs.Scalars.{scalar_in}
use Rattle.flow_values.specs.Shapes.{is_a}
use Rattle.flow_values.specs.Flats.{width}
use Rattle.flow_nodes.specs.functions.Lists.{bind, only_if, each, paired, cut}

-- one element more in the first segment
abbrev pub one_in_segment : List ℕ → Option (List ℕ)
one_in_segment [] = None
one_in_segment (n ∷ ns) = Some (suc n ∷ ns)

-- the numbers whose flags these are: T is a segment of no more elements, and F one element more of the segment after it
abbrev pub numbers : List Cell → Option (List ℕ)
numbers [] = Some []
numbers (flag true ∷ xs) = option_map (λ ns. zero ∷ ns) (numbers xs)
numbers (flag false ∷ xs) = bind (numbers xs) one_in_segment
numbers _ = None

-- what single cells carry
abbrev pub truth_in : Cell → Option Bool
truth_in (flag b) = Some b
truth_in _ = None

abbrev pub integer_in : Cell → Option ℤ
integer_in (int_cell n) = Some n
integer_in _ = None

abbrev pub value_in : Cell → Option Value
value_in (datum v) = Some v
value_in _ = None

-- the truth values that the cells carry
abbrev pub truths : List Cell → Option (List Bool)
truths xs = each truth_in xs

-- the integers that they carry
abbrev pub integers : List Cell → Option (List ℤ)
integers xs = each integer_in xs

-- the scalars that they carry
abbrev pub scalars : List Cell → Option (List Scalar)
scalars xs = each scalar_in xs

-- how many Units they are
abbrev pub units : List Cell → Option ℕ
units [] = Some zero
units (unit ∷ xs) = option_map suc (units xs)
units _ = None

-- the cells themselves, where all are of the kind
abbrev pub items_of_kind : Kind → List Cell → Option (List Cell)
items_of_kind kind xs = only_if (list_all (is_of kind) xs) xs

-- the value, where it is of the type
abbrev pub of_type : Ty → Value → Option Value
of_type ty v = only_if (is_a ty v) v

-- the groups of values that a first column of flags makes of the values in the other columns
abbrev pub grouped : List Cell → Option (List Value) → Option (List (List Value))
grouped f all = bind (numbers f) (λ ns. bind all (λ vs. cut ns vs))

-- the pair of both values, and the sequence of the values
abbrev pub a_pair_of : Value × Value → Value
a_pair_of p = a_pair p.0 p.1

abbrev pub a_seq_of : List Value → Value
a_seq_of vs = a_seq (values_of vs)

-- the values of the type whose edges carry these columns: integers, truth values or vectors in one column, the first and
-- second parts of pairs in the columns of their types, and of sequences flags and then the columns of all their elements
abbrev pub values : Ty → Columns → Option (List Value)
values int (xs ∷ []) = option_map (map an_int) (integers xs)
values bool (xs ∷ []) = option_map (map a_bool) (truths xs)
values (vec item) (xs ∷ []) = bind (each value_in xs) (each (of_type (vec item)))
values (pair first second) all = bind (values first (take (width first) all)) (λ lefts. bind (values second (drop (width first) all)) (λ rights. option_map (map a_pair_of) (paired lefts rights)))
values (seq item) (f ∷ others) = option_map (map a_seq_of) (grouped f (values item others))
values _ _ = None
