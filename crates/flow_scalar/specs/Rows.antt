-- The rows: what each transducer reads and writes, in whole instances.
use Rattle.std.specs.Prelude.{◌≡◌, ℕ, pos, Bool, true, false, List, [], ◌∷◌, map, replicate, Ok, ◌<◌, zero, suc, ℤ, ◌+ℤ◌}
use Rattle.snesl_data.specs.declared.dialect.Dialect.{Dialect}
use Rattle.snesl_data.specs.operators.Operators.{unary_value, binary_value}
use Rattle.snesl_data.specs.declared.operators.scalar.Scalar.{Scalar}
use Rattle.snesl_data.specs.declared.operators.operator.UnaryOperator.{UnaryOperator}
use Rattle.snesl_data.specs.declared.operators.operator.BinaryOperator.{BinaryOperator}
use Rattle.flow_messages.specs.Cells.{Cell, unit, flag, int}
use Rattle.flow_messages.specs.declared.message.Kind.{Kind}
use Rattle.flow_base.specs.Lists.{Lists}
use Rattle.flow_base.specs.Flags.{flags, concatenation}
use Rattle.flow_base.specs.Ranges.{AllOf}
use Rattle.flow_base.specs.Columns.{Columns, RowOf}
use Rattle.flow_folds.specs.Scalars.{cell_of_scalar}
-- those of the workers that fold
pub use Rattle.flow_folds.specs.Rows.{Scanned, scan_add_reads, scan_add_writes, ScanAddRow, Reduced, reduce_reads, reduce_writes, ReduceRow, LengthRow}

-- Source

-- the row, for this list: what is written is the list
abbrev pub SourceRow : List Cell → Lists Cell → Lists Cell → Type 0
SourceRow cells i o = o 0 ≡ cells

-- Const

-- so many instances read as many Units
abbrev pub const_reads : ℕ → Columns
const_reads n = replicate n unit ∷ []

-- and write the constant as often
abbrev pub const_writes : Scalar → ℕ → Columns
const_writes k n = replicate n (cell_of_scalar k) ∷ []

-- Units, and the constant k once for each of them
abbrev pub ConstRow : Scalar → Lists Cell → Lists Cell → Type 0
ConstRow k i o = RowOf const_reads (const_writes k) 1 1 i o

-- Unary

-- an operand, with the operator's value there in the dialect
abbrev pub UnaryCase : Dialect → UnaryOperator → Type 0
UnaryCase dialect op = (k : Scalar) × (v : Scalar) × (unary_value dialect op k ≡ Ok v)

-- instances read their operands
abbrev pub unary_reads : (dialect : Dialect) (op : UnaryOperator) → List (UnaryCase dialect op) → Columns
unary_reads dialect op xs = map (λ x. cell_of_scalar x.0) xs ∷ []

-- and write their values
abbrev pub unary_writes : (dialect : Dialect) (op : UnaryOperator) → List (UnaryCase dialect op) → Columns
unary_writes dialect op xs = map (λ x. cell_of_scalar x.1) xs ∷ []

-- operands, and the operator's value at each
abbrev pub UnaryRow : Dialect → UnaryOperator → Lists Cell → Lists Cell → Type 0
UnaryRow dialect op i o = RowOf (unary_reads dialect op) (unary_writes dialect op) 1 1 i o

-- Binary

-- a left and a right operand, with the operator's value there in the dialect
abbrev pub BinaryCase : Dialect → BinaryOperator → Type 0
BinaryCase dialect op = (a : Scalar) × (b : Scalar) × (v : Scalar) × (binary_value dialect op a b ≡ Ok v)

-- instances read their left operands, and their right ones
abbrev pub binary_reads : (dialect : Dialect) (op : BinaryOperator) → List (BinaryCase dialect op) → Columns
binary_reads dialect op xs = map (λ x. cell_of_scalar x.0) xs ∷ map (λ x. cell_of_scalar x.1) xs ∷ []

-- and write their values
abbrev pub binary_writes : (dialect : Dialect) (op : BinaryOperator) → List (BinaryCase dialect op) → Columns
binary_writes dialect op xs = map (λ x. cell_of_scalar x.2) xs ∷ []

-- as many left operands as right ones, and the operator's value at each two
abbrev pub BinaryRow : Dialect → BinaryOperator → Lists Cell → Lists Cell → Type 0
BinaryRow dialect op i o = RowOf (binary_reads dialect op) (binary_writes dialect op) 2 1 i o

-- Fork

-- the row, for this kind of items and so many outputs: each output is the list that is read, whose items are all of the kind
abbrev pub ForkRow : Kind → ℕ → Lists Cell → Lists Cell → Type 0
ForkRow kind outputs i o = AllOf kind (i 0) × ((q : ℕ) → q < outputs → o q ≡ i 0)

-- Sink

-- the items of a are of the kind
abbrev pub SinkRow : Kind → List Cell → Type 0
SinkRow kind a = AllOf kind a

-- Iota

-- so many numbers in order, from the first on
abbrev pub numbers_from : ℤ → ℕ → List Cell
numbers_from first zero = []
numbers_from first (suc n) = int first ∷ numbers_from (first +ℤ pos 1) n

-- the numbers 0 to n - 1
abbrev pub numbers_below : ℕ → List Cell
numbers_below n = numbers_from (pos 0) n

-- what instances read: numbers, none of which is negative
abbrev pub iota_reads : List ℕ → Columns
iota_reads ns = map (λ n. int (pos n)) ns ∷ []

-- what they write: the flags of these numbers, and 0 to n - 1 for each number n, joined
abbrev pub iota_writes : List ℕ → Columns
iota_writes ns = flags ns ∷ concatenation (map numbers_below ns) ∷ []

-- the row: a list of numbers, as it is read and written
abbrev pub IotaRow : Lists Cell → Lists Cell → Type 0
IotaRow = RowOf iota_reads iota_writes 1 2

-- UnitsOf

-- a Unit for each F, which stands for an element
abbrev pub units_for : List Bool → List Cell
units_for [] = []
units_for (false ∷ bs) = unit ∷ units_for bs
units_for (true ∷ bs) = units_for bs

-- instances read a flag each
abbrev pub units_of_reads : List Bool → Columns
units_of_reads bs = map flag bs ∷ []

-- and write a Unit where it is F
abbrev pub units_of_writes : List Bool → Columns
units_of_writes bs = units_for bs ∷ []

-- flags, and as many Units as there are F among them
abbrev pub UnitsOfRow : Lists Cell → Lists Cell → Type 0
UnitsOfRow i o = RowOf units_of_reads units_of_writes 1 1 i o
