-- The rows: what each worker reads and writes, in whole instances.
use Rattle.std.specs.Prelude.{◌≡◌, ℕ, pos, List, [], ◌∷◌, map, Ok, ℤ, length}
use Rattle.std.specs.List.{All}
use Rattle.snesl_data.specs.declared.dialect.Dialect.{Dialect}
use Rattle.snesl_data.specs.Integers.{IsInteger}
use Rattle.snesl_data.specs.operators.Reductions.{reduction_of, scan_of}
use Rattle.snesl_data.specs.declared.operators.scalar.Scalar.{Scalar}
use Rattle.snesl_data.specs.declared.operators.operator.Reduction.{Reduction}
use Rattle.flow_messages.specs.Cells.{Cell, int}
use Rattle.flow_base.specs.Lists.{Lists}
use Rattle.flow_base.specs.Flags.{flags, concatenation}
use Rattle.flow_base.specs.Columns.{Columns, RowOf}
use Rattle.flow_folds.specs.Scalars.{cell_of_scalar}

-- ScanAdd

-- a group of integers with its running sums in the dialect, none of which is a fault
abbrev pub Scanned : Dialect → Type 0
Scanned dialect = (xs : List ℤ) × (sums : List ℤ) × (scan_of dialect xs ≡ Ok sums)

-- what instances read: the flags of their groups, and the integers of these, joined
abbrev pub scan_add_reads : (dialect : Dialect) → List (Scanned dialect) → Columns
scan_add_reads dialect groups = flags (map (λ g. length g.0) groups) ∷ concatenation (map (λ g. map int g.0) groups) ∷ []

-- what they write: the sums of each group, joined
abbrev pub scan_add_writes : (dialect : Dialect) → List (Scanned dialect) → Columns
scan_add_writes dialect groups = concatenation (map (λ g. map int g.1) groups) ∷ []

-- the row: a list of groups, as it is read and written
abbrev pub ScanAddRow : Dialect → Lists Cell → Lists Cell → Type 0
ScanAddRow dialect = RowOf (scan_add_reads dialect) (scan_add_writes dialect) 2 1

-- Reduce

-- a group of scalars with the value that they reduce to in the dialect, which is no fault
abbrev pub Reduced : Dialect → Reduction → Type 0
Reduced dialect reduction = (xs : List Scalar) × (value : Scalar) × (reduction_of dialect reduction xs ≡ Ok value)

-- what instances read: the flags of their groups, and the scalars of these, joined
abbrev pub reduce_reads : (dialect : Dialect) (reduction : Reduction) → List (Reduced dialect reduction) → Columns
reduce_reads dialect reduction groups = flags (map (λ g. length g.0) groups) ∷ concatenation (map (λ g. map cell_of_scalar g.0) groups) ∷ []

-- what they write: the value of each group
abbrev pub reduce_writes : (dialect : Dialect) (reduction : Reduction) → List (Reduced dialect reduction) → Columns
reduce_writes dialect reduction groups = map (λ g. cell_of_scalar g.1) groups ∷ []

-- the row: a list of groups, as it is read and written
abbrev pub ReduceRow : Dialect → Reduction → Lists Cell → Lists Cell → Type 0
ReduceRow dialect reduction = RowOf (reduce_reads dialect reduction) (reduce_writes dialect reduction) 2 1

-- Length

-- f is the flags of numbers that lie in the range of the dialect, and r is these numbers
pub record LengthRow (dialect : Dialect) (f r : List Cell) : Type 0 where
  pub ns : List ℕ
  pub f_is : f ≡ flags ns
  pub in_range : All (λ n. IsInteger dialect (pos n)) ns
  pub r_is : r ≡ map (λ n. int (pos n)) ns
