-- Scalars and the cells of the items that carry them.
use Rattle.std.specs.Prelude.{◌≡◌, true, Some, IfSome, refl}
use Rattle.std.proofs.Common.{ap, subst}
use Rattle.snesl_data.specs.declared.dialect.Dialect.{Dialect}
use Rattle.snesl_data.specs.operators.Operators.{type_of, ScalarInRange}
use Rattle.snesl_data.specs.declared.operators.scalar.Scalar.{Scalar}
use Rattle.snesl_data.specs.declared.operators.scalar.Scalar.TheVariants.{Int, Bool as Truth}
use Rattle.snesl_data.specs.declared.operators.scalar.ScalarType.{ScalarType}
use Rattle.flow_messages.specs.Cells.{Cell, unit, int, flag, datum, is_of}
use Rattle.flow_base.specs.Ranges.{CellInRange}
use Rattle.flow_folds.specs.Scalars.{kind_of_type, cell_of_scalar, scalar_in}

-- the scalar in its own cell
pub scalar_in-cell : (x : Scalar) → scalar_in (cell_of_scalar x) ≡ Some x
scalar_in-cell (Int n) = refl
scalar_in-cell (Truth b) = refl

-- only the cell of a scalar has it
pub scalar_in-some : (c : Cell) (x : Scalar) → scalar_in c ≡ Some x → c ≡ cell_of_scalar x
scalar_in-some (int n) x e = let same : Int n ≡ x = cc in ap cell_of_scalar same
scalar_in-some (flag b) x e = let same : Truth b ≡ x = cc in ap cell_of_scalar same
scalar_in-some unit x e = absurd (cc)
scalar_in-some (datum v) x e = absurd (cc)

-- the cell is of the kind of the scalar's type
pub is_of-cell : (x : Scalar) (t : ScalarType) → type_of x ≡ t → is_of (kind_of_type t) (cell_of_scalar x) ≡ true
is_of-cell (Int n) t e = subst (λ t. is_of (kind_of_type t) (int n) ≡ true) e refl
is_of-cell (Truth b) t e = subst (λ t. is_of (kind_of_type t) (flag b) ≡ true) e refl

pub cell_in_range : (dialect : Dialect) (x : Scalar) → ScalarInRange dialect x → CellInRange dialect (cell_of_scalar x)
cell_in_range dialect (Int n) h = h
cell_in_range dialect (Truth b) h = h

pub scalar_in_range : (dialect : Dialect) (c : Cell) → CellInRange dialect c → IfSome (scalar_in c) (ScalarInRange dialect)
scalar_in_range dialect (int n) h = h
scalar_in_range dialect (flag b) h = h
scalar_in_range dialect _ h = tt
