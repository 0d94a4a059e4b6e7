-- The rows of the transducers are partial functions on the columns that come in.
use Rattle.std.specs.Prelude.{◌≡◌, ◌↔◌, ℕ, List, Option, Some}
use Rattle.snesl_data.specs.declared.dialect.Dialect.{Dialect}
use Rattle.snesl_data.specs.Types.{Ty, seq}
use Rattle.snesl_data.specs.declared.operators.scalar.Scalar.{Scalar}
use Rattle.snesl_data.specs.declared.operators.operator.UnaryOperator.{UnaryOperator}
use Rattle.snesl_data.specs.declared.operators.operator.BinaryOperator.{BinaryOperator}
use Rattle.snesl_data.specs.declared.operators.operator.Reduction.{Reduction}
use Rattle.flow_messages.specs.Cells.{Cell}
use Rattle.flow_messages.specs.declared.message.Kind.{Kind}
use Rattle.flow_base.specs.Lists.{Lists}
use Rattle.flow_base.specs.Columns.{Columns, columns}
use Rattle.flow_scalar.specs.Rows.{SourceRow, ConstRow, UnaryRow, BinaryRow, ForkRow, SinkRow, IotaRow, UnitsOfRow}
use Rattle.flow_folds.specs.Rows.{ScanAddRow, ReduceRow, LengthRow}
use Rattle.flow_segment.specs.Rows.{DistRow, PackRow, PackGroupsRow, FlagOfBoolRow, SameFlagsRow, ConcatFlagsRow, PartFlagsRow, TheCheckRow, AppendFlagsRow, InterleaveRow, InterleaveGroupsRow}
use Rattle.flow_values.specs.Rows.{PrintRow, TabRow, SeqRow, IndexRow}
use Rattle.flow_values.specs.Flats.{width}
use Rattle.flow_nodes.specs.functions.Made.{source_made, const_made, unary_made, binary_made, fork_made, sink_made, iota_made, units_of_made, scan_add_made}
use Rattle.flow_nodes.specs.functions.Made.{reduce_made, length_made, dist_made, pack_made, pack_groups_made, flag_of_bool_made, same_flags_made}
use Rattle.flow_nodes.specs.functions.Made.{concat_flags_made, part_flags_made, the_check_made, append_flags_made, interleave_made, interleave_groups_made}
use Rattle.flow_nodes.specs.functions.Made.{print_made, tab_made, seq_made, index_made}

-- the row, over so many inputs and outputs, holds exactly where this function of the columns that come in gives the columns
-- that go out
abbrev pub IsFunction : (Lists Cell → Lists Cell → Type 0) → (Columns → Option Columns) → ℕ → ℕ → Type 0
IsFunction Row made inputs outputs = (i o : Lists Cell) → Row i o ↔ (made (columns inputs i) ≡ Some (columns outputs o))

-- what each transducer writes is that function of what it reads
pub record RowsAreFunctions : Type 0 where
  pub source_row : (cells : List Cell) → IsFunction (SourceRow cells) (source_made cells) 0 1
  pub const_row : (k : Scalar) → IsFunction (ConstRow k) (const_made k) 1 1
  pub unary_row : (dialect : Dialect) (op : UnaryOperator) → IsFunction (UnaryRow dialect op) (unary_made dialect op) 1 1
  pub binary_row : (dialect : Dialect) (op : BinaryOperator) → IsFunction (BinaryRow dialect op) (binary_made dialect op) 2 1
  pub fork_row : (kind : Kind) (outputs : ℕ) → IsFunction (ForkRow kind outputs) (fork_made kind outputs) 1 outputs
  pub sink_row : (kind : Kind) → IsFunction (λ i _. SinkRow kind (i 0)) (sink_made kind) 1 0
  pub iota_row : IsFunction IotaRow iota_made 1 2
  pub units_of_row : IsFunction UnitsOfRow units_of_made 1 1
  pub scan_add_row : (dialect : Dialect) → IsFunction (ScanAddRow dialect) (scan_add_made dialect) 2 1
  pub reduce_row : (dialect : Dialect) (reduction : Reduction) → IsFunction (ReduceRow dialect reduction) (reduce_made dialect reduction) 2 1
  pub length_row : (dialect : Dialect) → IsFunction (λ i o. LengthRow dialect (i 0) (o 0)) (length_made dialect) 1 1
  pub dist_row : (kind : Kind) → IsFunction (λ i o. DistRow kind (i 0) (i 1) (o 0)) (dist_made kind) 2 1
  pub pack_row : (kind : Kind) → IsFunction (PackRow kind) (pack_made kind) 2 1
  pub pack_groups_row : IsFunction PackGroupsRow pack_groups_made 2 1
  pub flag_of_bool_row : IsFunction FlagOfBoolRow flag_of_bool_made 1 1
  pub same_flags_row : IsFunction SameFlagsRow same_flags_made 2 0
  pub concat_flags_row : IsFunction ConcatFlagsRow concat_flags_made 2 1
  pub part_flags_row : IsFunction PartFlagsRow part_flags_made 3 2
  pub the_check_row : IsFunction TheCheckRow the_check_made 1 0
  pub append_flags_row : IsFunction AppendFlagsRow append_flags_made 2 1
  pub interleave_row : (kind : Kind) → IsFunction (InterleaveRow kind) (interleave_made kind) 4 1
  pub interleave_groups_row : IsFunction InterleaveGroupsRow interleave_groups_made 4 1
  pub print_row : (ty : Ty) → IsFunction (λ i _. PrintRow ty i) (print_made ty) (width ty) 0
  pub tab_row : (ty : Ty) → IsFunction (λ i o. TabRow ty i (o 0)) (tab_made ty) (width (seq ty)) 1
  pub seq_row : (item : Ty) → IsFunction (λ i o. SeqRow item (i 0) o) (seq_made item) 1 (width (seq item))
  pub index_row : (item : Ty) → IsFunction (λ i o. IndexRow item (i 0) (i 1) o) (index_made item) 2 (width item)
