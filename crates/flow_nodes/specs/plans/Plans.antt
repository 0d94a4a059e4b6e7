-- Plans: transducers in the order in which they were made, each with the streams that it reads. Streams have numbers: what
-- a step writes are those of the next numbers. (Flattening of nested data-parallelism: Blelloch and Sabot 1990; onto streams:
-- Madsen and Filinski 2013.)
use Rattle.std.specs.Prelude.{ℕ, List, [], ◌∷◌, ◌++◌, replicate, Option, Some}
use Rattle.std.specs.List.{slice_get}
use Rattle.snesl_data.specs.declared.dialect.Dialect.{Dialect}
use Rattle.snesl_data.specs.Types.{Ty, seq}
use Rattle.snesl_data.specs.operators.Operators.{type_of, unary_operand, binary_operand, binary_result}
use Rattle.snesl_data.specs.declared.operators.scalar.Scalar.{Scalar}
use Rattle.snesl_data.specs.declared.operators.operator.UnaryOperator.{UnaryOperator}
use Rattle.snesl_data.specs.declared.operators.operator.BinaryOperator.{BinaryOperator}
use Rattle.snesl_data.specs.declared.operators.operator.Reduction.{Reduction}
use Rattle.flow_messages.specs.Cells.{Cell}
use Rattle.flow_messages.specs.declared.message.Kind.{Kind}
use Rattle.flow_messages.specs.declared.message.Kind.TheVariants.{Unit as UnitKind, Bool as BoolKind, Int as IntKind, Vec as VecKind}
use Rattle.flow_base.specs.Columns.{Columns}
use Rattle.flow_folds.specs.Scalars.{kind_of_type}
use Rattle.flow_folds.specs.ReduceMachine.{reduced_kind}
use Rattle.flow_values.specs.Shapes.{kinds_of}
use Rattle.flow_nodes.specs.functions.Lists.{bind, each}
use Rattle.flow_nodes.specs.functions.Made.{source_made, const_made, unary_made, binary_made, iota_made, units_of_made, scan_add_made, reduce_made, length_made}
use Rattle.flow_nodes.specs.functions.Made.{dist_made, pack_made, pack_groups_made, flag_of_bool_made, same_flags_made, concat_flags_made, part_flags_made}
use Rattle.flow_nodes.specs.functions.Made.{the_check_made, append_flags_made, interleave_made, interleave_groups_made, print_made, tab_made, seq_made}
use Rattle.flow_nodes.specs.functions.Made.{index_made, fork_made, sink_made}

-- which transducer a step is
pub data Operation : Type 0 where
  source : Kind → List Cell → Operation
  const : Scalar → Operation
  unary : Dialect → UnaryOperator → Operation
  binary : Dialect → BinaryOperator → Operation
  iota : Operation
  units_of : Operation
  scan_add : Dialect → Operation
  reduce : Dialect → Reduction → Operation
  length_of : Dialect → Operation
  dist : Kind → Operation
  pack : Kind → Operation
  pack_groups : Operation
  flag_of_bool : Operation
  same_flags : Operation
  concat_flags : Operation
  part_flags : Operation
  the_check : Operation
  append_flags : Operation
  interleave : Kind → Operation
  interleave_groups : Operation
  print : Ty → Operation
  tab : Ty → Operation
  seq_of : Ty → Operation
  index : Ty → Operation
  -- these two stand only where streams are joined to those that read them (Layouts)
  fork : Kind → ℕ → Operation
  sink : Kind → Operation

-- The kinds of the streams that an operation reads, and of those that it writes, port by port.
pub record PortKinds : Type 0 where
  pub reads : List Kind
  pub writes : List Kind

abbrev pub port_kinds : Operation → PortKinds
port_kinds (source kind cells) = record { reads = []; writes = kind ∷ [] }
port_kinds (const k) = record { reads = UnitKind ∷ []; writes = kind_of_type (type_of k) ∷ [] }
port_kinds (unary dialect op) = record { reads = kind_of_type (unary_operand op) ∷ []; writes = kind_of_type (unary_operand op) ∷ [] }
port_kinds (binary dialect op) = record { reads = kind_of_type (binary_operand op) ∷ kind_of_type (binary_operand op) ∷ []; writes = kind_of_type (binary_result op) ∷ [] }
port_kinds iota = record { reads = IntKind ∷ []; writes = BoolKind ∷ IntKind ∷ [] }
port_kinds units_of = record { reads = BoolKind ∷ []; writes = UnitKind ∷ [] }
port_kinds (scan_add dialect) = record { reads = BoolKind ∷ IntKind ∷ []; writes = IntKind ∷ [] }
port_kinds (reduce dialect reduction) = record { reads = BoolKind ∷ reduced_kind reduction ∷ []; writes = reduced_kind reduction ∷ [] }
port_kinds (length_of dialect) = record { reads = BoolKind ∷ []; writes = IntKind ∷ [] }
port_kinds (dist kind) = record { reads = kind ∷ BoolKind ∷ []; writes = kind ∷ [] }
port_kinds (pack kind) = record { reads = BoolKind ∷ kind ∷ []; writes = kind ∷ [] }
port_kinds pack_groups = record { reads = BoolKind ∷ BoolKind ∷ []; writes = BoolKind ∷ [] }
port_kinds flag_of_bool = record { reads = BoolKind ∷ []; writes = BoolKind ∷ [] }
port_kinds same_flags = record { reads = BoolKind ∷ BoolKind ∷ []; writes = [] }
port_kinds concat_flags = record { reads = BoolKind ∷ BoolKind ∷ []; writes = BoolKind ∷ [] }
port_kinds part_flags = record { reads = BoolKind ∷ BoolKind ∷ BoolKind ∷ []; writes = BoolKind ∷ BoolKind ∷ [] }
port_kinds the_check = record { reads = BoolKind ∷ []; writes = [] }
port_kinds append_flags = record { reads = BoolKind ∷ BoolKind ∷ []; writes = BoolKind ∷ [] }
port_kinds (interleave kind) = record { reads = BoolKind ∷ BoolKind ∷ kind ∷ kind ∷ []; writes = kind ∷ [] }
port_kinds interleave_groups = record { reads = BoolKind ∷ BoolKind ∷ BoolKind ∷ BoolKind ∷ []; writes = BoolKind ∷ [] }
port_kinds (print ty) = record { reads = kinds_of ty; writes = [] }
port_kinds (tab ty) = record { reads = kinds_of (seq ty); writes = VecKind ∷ [] }
port_kinds (seq_of ty) = record { reads = VecKind ∷ []; writes = kinds_of (seq ty) }
port_kinds (index ty) = record { reads = VecKind ∷ IntKind ∷ []; writes = kinds_of ty }
port_kinds (fork kind outputs) = record { reads = kind ∷ []; writes = replicate outputs kind }
port_kinds (sink kind) = record { reads = kind ∷ []; writes = [] }

-- what it makes of the streams that it reads
abbrev pub made_by : Operation → Columns → Option Columns
made_by (source kind cells) = source_made cells
made_by (const k) = const_made k
made_by (unary dialect op) = unary_made dialect op
made_by (binary dialect op) = binary_made dialect op
made_by iota = iota_made
made_by units_of = units_of_made
made_by (scan_add dialect) = scan_add_made dialect
made_by (reduce dialect reduction) = reduce_made dialect reduction
made_by (length_of dialect) = length_made dialect
made_by (dist kind) = dist_made kind
made_by (pack kind) = pack_made kind
made_by pack_groups = pack_groups_made
made_by flag_of_bool = flag_of_bool_made
made_by same_flags = same_flags_made
made_by concat_flags = concat_flags_made
made_by part_flags = part_flags_made
made_by the_check = the_check_made
made_by append_flags = append_flags_made
made_by (interleave kind) = interleave_made kind
made_by interleave_groups = interleave_groups_made
made_by (print ty) = print_made ty
made_by (tab ty) = tab_made ty
made_by (seq_of ty) = seq_made ty
made_by (index ty) = index_made ty
made_by (fork kind outputs) = fork_made kind outputs
made_by (sink kind) = sink_made kind

-- a transducer, the offset of the form that it comes from, and the numbers of the streams that it reads, port by port
pub record Step : Type 0 where
  pub at : ℕ
  pub operation : Operation
  pub reads : List ℕ

-- the streams of these numbers, where all are there
abbrev pub streams_at : List ℕ → Columns → Option Columns
streams_at numbers streams = each (slice_get streams) numbers

-- the streams that there are once these steps ran, where each of them has what it may read
abbrev pub run : List Step → Columns → Option Columns
run [] streams = Some streams
run (step ∷ steps) streams =
    bind (streams_at step.reads streams) (λ read. bind (made_by step.operation read) (λ written. run steps (streams ++ written)))
