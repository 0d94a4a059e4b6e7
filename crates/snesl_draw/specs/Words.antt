-- What nodes and messages are called.
use Rattle.std.specs.Prelude.{ℕ, List, Bool, true, false, codes}
use Rattle.snesl_data.specs.declared.operators.operator.UnaryOperator.{UnaryOperator}
use Rattle.snesl_data.specs.declared.operators.operator.UnaryOperator.TheVariants.{Negate, Not}
use Rattle.snesl_data.specs.declared.operators.operator.BinaryOperator.{BinaryOperator}
use Rattle.snesl_data.specs.declared.operators.operator.BinaryOperator.TheVariants.{Add, Subtract, Multiply, Divide, Remainder, EqualIntegers, EqualTruths, Less, AtMost, Greater, AtLeast, And, Or}
use Rattle.snesl_data.specs.declared.operators.operator.Reduction.{Reduction}
use Rattle.snesl_data.specs.declared.operators.operator.Reduction.TheVariants.{Sum, Max, All, Any}
use Rattle.flow_messages.specs.declared.message.Kind.{Kind}
use Rattle.flow_messages.specs.declared.message.Kind.TheVariants as kind
use Rattle.flow_nodes.specs.declared.plans.operation.Operation.{Operation}
use Rattle.flow_nodes.specs.declared.plans.operation.Operation.TheVariants as held

-- what the items of a kind are called
abbrev pub kind_word : Kind → List ℕ
kind_word kind.Unit = codes "unit"
kind_word kind.Bool = codes "bool"
kind_word kind.Int = codes "int"
kind_word kind.Vec = codes "vector"

-- the colour in which they are drawn
abbrev pub kind_colour : Kind → List ℕ
kind_colour kind.Unit = codes "#777777"
kind_colour kind.Bool = codes "#b35900"
kind_colour kind.Int = codes "#1a5fb4"
kind_colour kind.Vec = codes "#26782e"

-- whether two kinds are the same
abbrev pub is_kind : Kind → Kind → Bool
is_kind kind.Unit kind.Unit = true
is_kind kind.Bool kind.Bool = true
is_kind kind.Int kind.Int = true
is_kind kind.Vec kind.Vec = true
is_kind _ _ = false

abbrev pub unary_word : UnaryOperator → List ℕ
unary_word Negate = codes "Unary: Negate"
unary_word Not = codes "Unary: Not"

abbrev pub binary_word : BinaryOperator → List ℕ
binary_word Add = codes "Binary: Add"
binary_word Subtract = codes "Binary: Subtract"
binary_word Multiply = codes "Binary: Multiply"
binary_word Divide = codes "Binary: Divide"
binary_word Remainder = codes "Binary: Remainder"
binary_word EqualIntegers = codes "Binary: EqualIntegers"
binary_word EqualTruths = codes "Binary: EqualTruths"
binary_word Less = codes "Binary: Less"
binary_word AtMost = codes "Binary: AtMost"
binary_word Greater = codes "Binary: Greater"
binary_word AtLeast = codes "Binary: AtLeast"
binary_word And = codes "Binary: And"
binary_word Or = codes "Binary: Or"

abbrev pub reduction_word : Reduction → List ℕ
reduction_word Sum = codes "Reduce: Sum"
reduction_word Max = codes "Reduce: Max"
reduction_word All = codes "Reduce: All"
reduction_word Any = codes "Reduce: Any"

-- what the node of an operation is called
abbrev pub operation_word : Operation → List ℕ
operation_word held.Control = codes "Control"
operation_word (held.Input kind) = codes "Input"
operation_word (held.Const scalar) = codes "Const"
operation_word (held.Unary operator) = unary_word operator
operation_word (held.Binary operator) = binary_word operator
operation_word held.Iota = codes "Iota"
operation_word held.UnitsOf = codes "UnitsOf"
operation_word held.ScanAdd = codes "ScanAdd"
operation_word (held.Reduce reduction) = reduction_word reduction
operation_word held.Length = codes "Length"
operation_word (held.Dist kind) = codes "Dist"
operation_word (held.Pack kind) = codes "Pack"
operation_word held.PackGroups = codes "PackGroups"
operation_word held.FlagOfBool = codes "FlagOfBool"
operation_word held.SameFlags = codes "SameFlags"
operation_word held.ConcatFlags = codes "ConcatFlags"
operation_word held.PartFlags = codes "PartFlags"
operation_word held.TheCheck = codes "TheCheck"
operation_word held.AppendFlags = codes "AppendFlags"
operation_word (held.Interleave kind) = codes "Interleave"
operation_word held.InterleaveGroups = codes "InterleaveGroups"
operation_word (held.Print ty) = codes "Print"
operation_word (held.Tab ty) = codes "Tab"
operation_word (held.Seq ty) = codes "Seq"
operation_word (held.Index ty) = codes "Index"
