-- What operators and built-in functions give at values.
use Rattle.std.specs.Prelude.{ℕ, List, [], ◌∷◌, ◌++◌, map, length, slice_get, ℤ, pos, negsuc, Bool, true, false, Result}
use Rattle.std.specs.List.{range_with_len}
use Rattle.snesl_data.specs.declared.dialect.Dialect.{Dialect}
use Rattle.snesl_data.specs.declared.fault.FaultKind.{FaultKind}
use Rattle.snesl_data.specs.declared.fault.FaultKind.TheVariants.{NegativeCount, Part as PartFault, The as TheFault, Index as IndexFault, Shape}
use Rattle.snesl_data.specs.Values.{Value, an_int, a_bool, a_pair, a_vec, a_seq, list_of, values_of}
use Rattle.snesl_data.specs.declared.operators.operator.UnaryOperator.{UnaryOperator}
use Rattle.snesl_data.specs.declared.operators.operator.UnaryOperator.TheVariants as unary
use Rattle.snesl_data.specs.declared.operators.operator.BinaryOperator.{BinaryOperator}
use Rattle.snesl_data.specs.declared.operators.operator.BinaryOperator.TheVariants as binary
use Rattle.snesl_data.specs.declared.operators.operator.Reduction.{Reduction}
use Rattle.snesl_data.specs.declared.operators.operator.Reduction.TheVariants.{Sum, Max, All, Any}
use Rattle.snesl_data.specs.declared.operators.scalar.Scalar.{Scalar}
use Rattle.snesl_data.specs.declared.operators.scalar.Scalar.TheVariants.{Int, Bool as Truth}
use Rattle.snesl_data.specs.operators.Operators.{ranged, unary_value, binary_value}
use Rattle.snesl_data.specs.operators.Reductions.{reduction_of, scan_of}
use Rattle.snesl_grammar.specs.declared.tree.operator.Builtin.{Builtin}
use Rattle.snesl_grammar.specs.declared.tree.operator.Builtin.TheVariants.{Iota, ScanAdd, ReduceAdd, ReduceMax, ReduceAnd, ReduceOr, Length, Concat, Part, The, Tab, Seq, Fst, Snd}
use Rattle.snesl_grammar.specs.declared.tree.operator.Operator.{Operator}
use Rattle.snesl_grammar.specs.declared.tree.operator.Operator.TheVariants.{Or, And, Equal, Less, AtMost, Greater, AtLeast, Append, Add, Subtract, Multiply, Divide, Remainder, Index}
use Rattle.snesl_grammar.specs.declared.tree.operator.Prefix.{Prefix}
use Rattle.snesl_grammar.specs.declared.tree.operator.Prefix.TheVariants.{Negate, Not}
use Rattle.snesl_evaluation.specs.Answer.{Answer, gives, faults, go, go_all, go_join, or_fault, answer_at}

-- parts of values; where a value is of another kind, Shape at this offset

abbrev pub int_at : ℕ → Value → Answer ℤ
int_at at (an_int n) = gives n
int_at at _ = faults Shape at

abbrev pub truth_at : ℕ → Value → Answer Bool
truth_at at (a_bool b) = gives b
truth_at at _ = faults Shape at

-- an integer or a truth value
abbrev pub scalar_at : ℕ → Value → Answer Scalar
scalar_at at (an_int n) = gives (Int n)
scalar_at at (a_bool b) = gives (Truth b)
scalar_at at _ = faults Shape at

-- the items of a sequence
abbrev pub items_at : ℕ → Value → Answer (List Value)
items_at at (a_seq vs) = gives (list_of vs)
items_at at _ = faults Shape at

-- the items of a vector
abbrev pub elements_at : ℕ → Value → Answer (List Value)
elements_at at (a_vec vs) = gives (list_of vs)
elements_at at _ = faults Shape at

-- the items of a sequence, each read in one way
abbrev pub each_at : {A : Type 0} → (ℕ → Value → Answer A) → ℕ → Value → Answer (List A)
each_at read at v = go (items_at at v) (go_all (read at))

abbrev pub sequence : List Value → Value
sequence vs = a_seq (values_of vs)

abbrev pub seq_answer : Answer (List Value) → Answer Value
seq_answer answer = go answer (λ vs. gives (sequence vs))

abbrev pub scalar_value : Scalar → Value
scalar_value (Int n) = an_int n
scalar_value (Truth b) = a_bool b

abbrev pub scalar_answer : ℕ → Result Scalar FaultKind → Answer Value
scalar_answer at r = go (answer_at at r) (λ x. gives (scalar_value x))

-- one sequence followed by another
abbrev pub append_answer : ℕ → Value → Value → Answer Value
append_answer at v w = go (items_at at v) (λ vs. go (items_at at w) (λ ws. gives (sequence (vs ++ ws))))

-- the item at an index, counted from 0
abbrev pub item_answer : ℕ → List Value → ℤ → Answer Value
item_answer at vs (pos i) = or_fault IndexFault at (slice_get vs i)
item_answer at vs (negsuc i) = faults IndexFault at

-- the operators, in a dialect
module _ (dialect : Dialect) where
  abbrev pub unary_answer : ℕ → UnaryOperator → Value → Answer Value
  unary_answer at operator v = go (scalar_at at v) (λ x. scalar_answer at (unary_value dialect operator x))

  abbrev pub scalars_answer : ℕ → BinaryOperator → Value → Value → Answer Value
  scalars_answer at operator v w = go (scalar_at at v) (λ x. go (scalar_at at w) (λ y. scalar_answer at (binary_value dialect operator x y)))

  -- `==` of two integers, or of two truth values
  abbrev pub equal_answer : ℕ → Value → Value → Answer Value
  equal_answer at (an_int n) w = scalars_answer at binary.EqualIntegers (an_int n) w
  equal_answer at (a_bool b) w = scalars_answer at binary.EqualTruths (a_bool b) w
  equal_answer at _ _ = faults Shape at

  -- an operator before its operand
  abbrev pub prefix_answer : ℕ → Prefix → Value → Answer Value
  prefix_answer at Negate v = unary_answer at unary.Negate v
  prefix_answer at Not v = unary_answer at unary.Not v

  -- an operator between its operands
  abbrev pub binary_answer : ℕ → Operator → Value → Value → Answer Value
  binary_answer at Or v w = scalars_answer at binary.Or v w
  binary_answer at And v w = scalars_answer at binary.And v w
  binary_answer at Equal v w = equal_answer at v w
  binary_answer at Less v w = scalars_answer at binary.Less v w
  binary_answer at AtMost v w = scalars_answer at binary.AtMost v w
  binary_answer at Greater v w = scalars_answer at binary.Greater v w
  binary_answer at AtLeast v w = scalars_answer at binary.AtLeast v w
  binary_answer at Append v w = append_answer at v w
  binary_answer at Add v w = scalars_answer at binary.Add v w
  binary_answer at Subtract v w = scalars_answer at binary.Subtract v w
  binary_answer at Multiply v w = scalars_answer at binary.Multiply v w
  binary_answer at Divide v w = scalars_answer at binary.Divide v w
  binary_answer at Remainder v w = scalars_answer at binary.Remainder v w
  binary_answer at Index v w = go (elements_at at v) (λ vs. go (int_at at w) (item_answer at vs))

-- the built-in functions

-- the numbers from 0 up to and without n
abbrev pub numbers_below : ℕ → List Value
numbers_below n = map (λ i. an_int (pos i)) (range_with_len 0 n)

-- 0 to n - 1 in order; no negative n
abbrev pub iota_answer : ℕ → ℤ → Answer Value
iota_answer at (pos n) = gives (sequence (numbers_below n))
iota_answer at (negsuc n) = faults NegativeCount at

-- what the items of a sequence reduce to
abbrev pub reduce_answer : Dialect → ℕ → Reduction → Value → Answer Value
reduce_answer dialect at reduction v = go (each_at scalar_at at v) (λ xs. scalar_answer at (reduction_of dialect reduction xs))

-- at each item of a sequence the sum of those before it
abbrev pub scan_answer : Dialect → ℕ → Value → Answer Value
scan_answer dialect at v = go (each_at int_at at v) (λ ns. go (answer_at at (scan_of dialect ns)) (λ sums. gives (sequence (map an_int sums))))

-- an item before those of the first part; there must be a part
abbrev pub into_first : ℕ → Value → List (List Value) → Answer (List (List Value))
into_first at v [] = faults PartFault at
into_first at v (part ∷ parts) = gives ((v ∷ part) ∷ parts)

-- items in parts: each false takes the next item, and each true ends a part; no item is left, and the last flag is true
abbrev pub parts_answer : ℕ → List Value → List Bool → Answer (List (List Value))
parts_answer at [] [] = gives []
parts_answer at vs (true ∷ flags) = go (parts_answer at vs flags) (λ parts. gives ([] ∷ parts))
parts_answer at (v ∷ vs) (false ∷ flags) = go (parts_answer at vs flags) (into_first at v)
parts_answer at _ _ = faults PartFault at

abbrev pub part_answer : ℕ → Value → Value → Answer Value
part_answer at v w =
    go (items_at at v) (λ vs. go (each_at truth_at at w) (λ flags. go (parts_answer at vs flags) (λ parts. gives (sequence (map sequence parts)))))

-- the one item
abbrev pub the_answer : ℕ → List Value → Answer Value
the_answer at (v ∷ []) = gives v
the_answer at _ = faults TheFault at

-- a built-in at its arguments
abbrev pub applied : Dialect → ℕ → Builtin → List Value → Answer Value
applied dialect at Iota (v ∷ []) = go (int_at at v) (iota_answer at)
applied dialect at ScanAdd (v ∷ []) = scan_answer dialect at v
applied dialect at ReduceAdd (v ∷ []) = reduce_answer dialect at Sum v
applied dialect at ReduceMax (v ∷ []) = reduce_answer dialect at Max v
applied dialect at ReduceAnd (v ∷ []) = reduce_answer dialect at All v
applied dialect at ReduceOr (v ∷ []) = reduce_answer dialect at Any v
applied dialect at Length (v ∷ []) = go (items_at at v) (λ vs. go (answer_at at (ranged dialect (pos (length vs)))) (λ n. gives (an_int n)))
applied dialect at Concat (v ∷ []) = go (items_at at v) (λ vs. seq_answer (go_join (items_at at) vs))
applied dialect at Part (v ∷ w ∷ []) = part_answer at v w
applied dialect at The (v ∷ []) = go (items_at at v) (the_answer at)
applied dialect at Tab (v ∷ []) = go (items_at at v) (λ vs. gives (a_vec (values_of vs)))
applied dialect at Seq (v ∷ []) = go (elements_at at v) (λ vs. gives (sequence vs))
applied dialect at Fst (a_pair v w ∷ []) = gives v
applied dialect at Snd (a_pair v w ∷ []) = gives w
applied dialect at _ _ = faults Shape at
