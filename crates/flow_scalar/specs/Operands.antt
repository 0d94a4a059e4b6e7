-- Operands that stand in items.
use Rattle.std.specs.Prelude.{Result, Ok, Err}
use Rattle.snesl_data.specs.declared.fault.FaultKind.{FaultKind}
use Rattle.snesl_data.specs.declared.fault.FaultKind.TheVariants.{Shape}
use Rattle.snesl_data.specs.operators.Reductions.{and_then}
use Rattle.snesl_data.specs.declared.operators.scalar.Scalar.{Scalar}
use Rattle.snesl_data.specs.declared.operators.scalar.Scalar.TheVariants.{Int, Bool as Truth}
use Rattle.snesl_data.specs.declared.operators.scalar.ScalarType.{ScalarType}
use Rattle.snesl_data.specs.declared.operators.scalar.ScalarType.TheVariants.{Int as IntType, Bool as BoolType}
use Rattle.flow_messages.specs.Cells.{Cell, int, flag}
use Rattle.flow_base.specs.Machines.{Taking, on_kind}
use Rattle.flow_folds.specs.Scalars.{kind_of_type}

-- the scalar of this type that the cell carries
abbrev pub operand_in : ScalarType → Cell → Result Scalar FaultKind
operand_in IntType (int n) = Ok (Int n)
operand_in BoolType (flag b) = Ok (Truth b)
operand_in _ _ = Err Shape

-- an operand of this type is read, and leads on
abbrev pub on_operand : {S : Type 0} → ScalarType → (Scalar → Result S FaultKind) → Taking S
on_operand type next = on_kind (kind_of_type type) (λ x. and_then (operand_in type x) next)
