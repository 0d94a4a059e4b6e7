-- Scalars as items of streams.
use Rattle.std.specs.Prelude.{Option, Some, None}
pub use Rattle.snesl_data.specs.operators.Operators.{ScalarInRange}
use Rattle.snesl_data.specs.declared.operators.scalar.Scalar.{Scalar}
use Rattle.snesl_data.specs.declared.operators.scalar.Scalar.TheVariants.{Int, Bool as Truth}
use Rattle.snesl_data.specs.declared.operators.scalar.ScalarType.{ScalarType}
use Rattle.snesl_data.specs.declared.operators.scalar.ScalarType.TheVariants.{Int as IntType, Bool as BoolType}
use Rattle.flow_messages.specs.Cells.{Cell, int, flag}
use Rattle.flow_messages.specs.declared.message.Kind.{Kind}
use Rattle.flow_messages.specs.declared.message.Kind.TheVariants.{Bool as BoolKind, Int as IntKind}

-- the kind of the items that carry scalars of this type
abbrev pub kind_of_type : ScalarType → Kind
kind_of_type IntType = IntKind
kind_of_type BoolType = BoolKind

-- what an item carries that carries this scalar
abbrev pub cell_of_scalar : Scalar → Cell
cell_of_scalar (Int n) = int n
cell_of_scalar (Truth b) = flag b

-- the scalar that the cell is, where it is one
abbrev pub scalar_in : Cell → Option Scalar
scalar_in (int n) = Some (Int n)
scalar_in (flag b) = Some (Truth b)
scalar_in _ = None
