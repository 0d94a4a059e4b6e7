-- Where items lead that carry operands.
use Rattle.std.proofs.Common.{◌≡◌, false, Option, Some, None, Result, Ok, refl, ap}
use Rattle.std.specs.Prelude.{is_some}
use Rattle.snesl_data.specs.declared.fault.FaultKind.{FaultKind}
use Rattle.snesl_data.specs.declared.operators.scalar.Scalar.{Scalar}
use Rattle.snesl_data.specs.declared.operators.scalar.Scalar.TheVariants.{Int, Bool as Truth}
use Rattle.snesl_data.specs.declared.operators.scalar.ScalarType.{ScalarType}
use Rattle.snesl_data.specs.declared.operators.scalar.ScalarType.TheVariants.{Int as IntType, Bool as BoolType}
use Rattle.flow_messages.specs.Cells.{Cell, unit, int, flag, datum}
use Rattle.flow_base.specs.Machines.{state_after_item}
use Rattle.flow_scalar.specs.Operands.{operand_in, on_operand}

-- an operand leads where its scalar does
pub operand_taken : {S : Type 0} (type : ScalarType) (next : Scalar → Result S FaultKind) (x : Cell) (k : Scalar) → operand_in type x ≡ Ok k → state_after_item (on_operand type next) x ≡ next k
operand_taken IntType next (int n) k e = let same : Int n ≡ k = cc in ap next same
operand_taken IntType next unit k e = absurd (cc)
operand_taken IntType next (flag b) k e = absurd (cc)
operand_taken IntType next (datum v) k e = absurd (cc)
operand_taken BoolType next (flag b) k e = let same : Truth b ≡ k = cc in ap next same
operand_taken BoolType next unit k e = absurd (cc)
operand_taken BoolType next (int n) k e = absurd (cc)
operand_taken BoolType next (datum v) k e = absurd (cc)

pub nothing : {A : Type 0} (o : Option A) → is_some o ≡ false → o ≡ None
nothing None e = refl
nothing (Some x) e = absurd (cc)
