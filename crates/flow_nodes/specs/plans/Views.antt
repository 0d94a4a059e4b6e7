-- Plans as the program's data hold them.
use Rattle.std.specs.Prelude.{List, [], ◌∷◌, map}
use Rattle.snesl_data.specs.declared.dialect.Dialect.{Dialect}
use Rattle.snesl_data.specs.Types.{ty_of}
use Rattle.flow_messages.specs.Cells.{unit}
use Rattle.flow_messages.specs.declared.message.Kind.TheVariants.{Unit as UnitKind}
use Rattle.flow_nodes.specs.declared.plans.operation.Operation.{Operation as OperationData}
use Rattle.flow_nodes.specs.declared.plans.operation.Operation.TheVariants as held
use Rattle.flow_nodes.specs.declared.plans.operation.Step.{Step as StepData}
use Rattle.flow_nodes.specs.plans.Plans.{Operation, Step, source, const, unary, binary, iota, units_of, scan_add, reduce, length_of, dist, pack}
use Rattle.flow_nodes.specs.plans.Plans.{pack_groups, flag_of_bool, same_flags, concat_flags, part_flags, the_check, append_flags, interleave}
use Rattle.flow_nodes.specs.plans.Plans.{interleave_groups, print, tab, seq_of, index}

-- in a program of the dialect; the lists of inputs are empty until they are set
abbrev pub operation_of : Dialect → OperationData → Operation
operation_of dialect held.Control = source UnitKind (unit ∷ [])
operation_of dialect (held.Input kind) = source kind []
operation_of dialect (held.Const k) = const k
operation_of dialect (held.Unary op) = unary dialect op
operation_of dialect (held.Binary op) = binary dialect op
operation_of dialect held.Iota = iota
operation_of dialect held.UnitsOf = units_of
operation_of dialect held.ScanAdd = scan_add dialect
operation_of dialect (held.Reduce reduction) = reduce dialect reduction
operation_of dialect held.Length = length_of dialect
operation_of dialect (held.Dist kind) = dist kind
operation_of dialect (held.Pack kind) = pack kind
operation_of dialect held.PackGroups = pack_groups
operation_of dialect held.FlagOfBool = flag_of_bool
operation_of dialect held.SameFlags = same_flags
operation_of dialect held.ConcatFlags = concat_flags
operation_of dialect held.PartFlags = part_flags
operation_of dialect held.TheCheck = the_check
operation_of dialect held.AppendFlags = append_flags
operation_of dialect (held.Interleave kind) = interleave kind
operation_of dialect held.InterleaveGroups = interleave_groups
operation_of dialect (held.Print ty) = print (ty_of ty)
operation_of dialect (held.Tab ty) = tab (ty_of ty)
operation_of dialect (held.Seq ty) = seq_of (ty_of ty)
operation_of dialect (held.Index ty) = index (ty_of ty)

abbrev pub step_of : Dialect → StepData → Step
step_of dialect step = record { at = step.at; operation = operation_of dialect step.operation; reads = step.reads.items }

abbrev pub steps_of : Dialect → List StepData → List Step
steps_of dialect steps = map (step_of dialect) steps
