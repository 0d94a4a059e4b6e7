-- The tables of types: what operators and built-in functions take and give.
use Rattle.std.specs.Prelude.{Bool, false, not, if◌then◌else◌, List, [], ◌∷◌, Option, Some, None}
use Rattle.snesl_data.specs.Types.{Ty, int, bool, pair, vec, seq, is_concrete, is_same}
use Rattle.snesl_grammar.specs.declared.tree.operator.Operator.{Operator}
use Rattle.snesl_grammar.specs.declared.tree.operator.Operator.TheVariants.{Or, And, Equal, Less, AtMost, Greater, AtLeast, Append, Add, Subtract, Multiply, Divide, Remainder, Index}
use Rattle.snesl_grammar.specs.declared.tree.operator.Prefix.{Prefix}
use Rattle.snesl_grammar.specs.declared.tree.operator.Prefix.TheVariants.{Negate, Not}
use Rattle.snesl_grammar.specs.declared.tree.operator.Builtin.{Builtin}
use Rattle.snesl_grammar.specs.declared.tree.operator.Builtin.TheVariants.{Iota, ScanAdd, ReduceAdd, ReduceMax, ReduceAnd, ReduceOr, Length, Concat, Part, The, Tab, Seq, Fst, Snd}

-- the type of an operator's value at operands of these types
abbrev pub operator_result : Operator → Ty → Ty → Option Ty
operator_result Or bool bool = Some bool
operator_result And bool bool = Some bool
operator_result Equal int int = Some bool
operator_result Equal bool bool = Some bool
operator_result Less int int = Some bool
operator_result AtMost int int = Some bool
operator_result Greater int int = Some bool
operator_result AtLeast int int = Some bool
operator_result Append (seq t) (seq u) = if is_same t u then Some (seq t) else None
operator_result Add int int = Some int
operator_result Subtract int int = Some int
operator_result Multiply int int = Some int
operator_result Divide int int = Some int
operator_result Remainder int int = Some int
operator_result Index (vec t) int = Some t
operator_result _ _ _ = None

-- the type of a prefix operator's value at an operand of this type
abbrev pub prefix_result : Prefix → Ty → Option Ty
prefix_result Negate int = Some int
prefix_result Not bool = Some bool
prefix_result _ _ = None

-- the type of a built-in's result at arguments of these types
abbrev pub result_of : Builtin → List Ty → Option Ty
result_of Iota (int ∷ []) = Some (seq int)
result_of ScanAdd (seq int ∷ []) = Some (seq int)
result_of ReduceAdd (seq int ∷ []) = Some int
result_of ReduceMax (seq int ∷ []) = Some int
result_of ReduceAnd (seq bool ∷ []) = Some bool
result_of ReduceOr (seq bool ∷ []) = Some bool
result_of Length (seq t ∷ []) = Some int
result_of Concat (seq (seq t) ∷ []) = Some (seq t)
result_of Part (seq t ∷ seq bool ∷ []) = Some (seq (seq t))
result_of The (seq t ∷ []) = Some t
result_of Tab (seq t ∷ []) = if is_concrete t then Some (vec t) else None
result_of Seq (vec t ∷ []) = Some (seq t)
result_of Fst (pair t u ∷ []) = Some t
result_of Snd (pair t u ∷ []) = Some u
result_of _ _ = None

-- whether this is `tab` of a sequence whose elements are streamed
abbrev pub tabs_streamed : Builtin → List Ty → Bool
tabs_streamed Tab (seq t ∷ []) = not (is_concrete t)
tabs_streamed _ _ = false
