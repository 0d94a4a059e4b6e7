-- The states in which the transducers of a plan open.
use Rattle.std.specs.Prelude.{◌≡◌, ℕ, ◌≤◌, List, Some}
use Rattle.std.specs.List.{slice_get}
use Rattle.flow_base.specs.Nodes.{opened}
use Rattle.flow_scalar.specs.Streams.{Items}
use Rattle.flow_scalar.specs.SourceBehaviour.{source_opening}
use Rattle.flow_scalar.specs.ConstMachine.{const_machine}
use Rattle.flow_scalar.specs.UnaryMachine.{unary_machine}
use Rattle.flow_scalar.specs.BinaryMachine.{binary_machine}
use Rattle.flow_scalar.specs.ForkMachine.{fork_ports, fork_machine}
use Rattle.flow_scalar.specs.SinkMachine.{sink_machine}
use Rattle.flow_scalar.specs.IotaMachine.{iota_machine}
use Rattle.flow_scalar.specs.UnitsOfMachine.{units_of_machine}
use Rattle.flow_folds.specs.ScanAddMachine.{scan_add_machine}
use Rattle.flow_folds.specs.ReduceMachine.{reduce_machine}
use Rattle.flow_folds.specs.LengthMachine.{length_machine}
use Rattle.flow_segment.specs.FlagOfBoolMachine.{flag_of_bool_table}
use Rattle.flow_segment.specs.TheCheckMachine.{the_check_table}
use Rattle.flow_segment.specs.SameFlagsMachine.{same_flags_table}
use Rattle.flow_segment.specs.ConcatFlagsMachine.{concat_flags_table}
use Rattle.flow_segment.specs.PartFlagsMachine.{part_flags_table}
use Rattle.flow_segment.specs.AppendFlagsMachine.{append_flags_table}
use Rattle.flow_segment.specs.DistMachine.{dist_machine}
use Rattle.flow_segment.specs.PackMachine.{pack_machine}
use Rattle.flow_segment.specs.PackGroupsMachine.{pack_groups_table}
use Rattle.flow_segment.specs.InterleaveMachine.{interleave_machine}
use Rattle.flow_segment.specs.InterleaveGroupsMachine.{interleave_groups_table}
use Rattle.flow_values.specs.PrintMachine.{print_opening}
use Rattle.flow_values.specs.TabMachine.{tab_machine}
use Rattle.flow_values.specs.SeqMachine.{seq_machine}
use Rattle.flow_values.specs.IndexMachine.{index_machine}
use Rattle.flow_networks.specs.Networks.{state_at}
use Rattle.flow_nodes.specs.StreamNodes.{NodeKind, member, node_behaviour, a_source, a_const, a_unary, a_binary, a_fork, a_sink, an_iota, a_units_of}
use Rattle.flow_nodes.specs.StreamNodes.{a_scan_add, a_reduce, a_length, a_flag_of_bool, a_the_check, a_same_flags, a_concat_flags, a_part_flags}
use Rattle.flow_nodes.specs.StreamNodes.{an_append_flags, a_dist, a_pack, a_pack_groups, an_interleave, an_interleave_groups, a_print, a_tab}
use Rattle.flow_nodes.specs.StreamNodes.{a_seq_of_vector, an_index}
use Rattle.flow_nodes.specs.plans.Plans.{Operation, Step, source, const, unary, binary, iota, units_of, scan_add, reduce, length_of, dist, pack, pack_groups}
use Rattle.flow_nodes.specs.plans.Plans.{flag_of_bool, same_flags, concat_flags, part_flags, the_check, append_flags, interleave, interleave_groups, print}
use Rattle.flow_nodes.specs.plans.Plans.{tab, seq_of, index, fork, sink}
use Rattle.flow_nodes.specs.plans.Layouts.{Placed, Performs, layout}

-- The state is the one in which the transducer of the operation opens whose faults are at this offset: that of its kind, with
-- its parameters, before its first instance.
abbrev pub IsOpening : ℕ → Operation → ((t : NodeKind) × (member t).State) → Type 0
IsOpening at (source kind cells) s = (items : Items) × (s ≡ (a_source, source_opening items)) × (items.kind ≡ kind) × (items.cells ≡ cells)
IsOpening at (const k) s = s ≡ (a_const, opened (k, const_machine.start) at)
IsOpening at (unary dialect op) s = s ≡ (a_unary, opened ((dialect, op), unary_machine.start) at)
IsOpening at (binary dialect op) s = s ≡ (a_binary, opened ((dialect, op), binary_machine.start) at)
IsOpening at iota s = s ≡ (an_iota, opened (tt, iota_machine.start) at)
IsOpening at units_of s = s ≡ (a_units_of, opened (tt, units_of_machine.start) at)
IsOpening at (scan_add dialect) s = s ≡ (a_scan_add, opened (dialect, scan_add_machine.start) at)
IsOpening at (reduce dialect reduction) s = s ≡ (a_reduce, opened ((dialect, reduction), reduce_machine.start) at)
IsOpening at (length_of dialect) s = s ≡ (a_length, opened (dialect, length_machine.start) at)
IsOpening at (dist kind) s = s ≡ (a_dist, opened (kind, dist_machine.start) at)
IsOpening at (pack kind) s = s ≡ (a_pack, opened (kind, pack_machine.start) at)
IsOpening at pack_groups s = s ≡ (a_pack_groups, opened (tt, pack_groups_table.start) at)
IsOpening at flag_of_bool s = s ≡ (a_flag_of_bool, opened (tt, flag_of_bool_table.start) at)
IsOpening at same_flags s = s ≡ (a_same_flags, opened (tt, same_flags_table.start) at)
IsOpening at concat_flags s = s ≡ (a_concat_flags, opened (tt, concat_flags_table.start) at)
IsOpening at part_flags s = s ≡ (a_part_flags, opened (tt, part_flags_table.start) at)
IsOpening at the_check s = s ≡ (a_the_check, opened (tt, the_check_table.start) at)
IsOpening at append_flags s = s ≡ (an_append_flags, opened (tt, append_flags_table.start) at)
IsOpening at (interleave kind) s = s ≡ (an_interleave, opened (kind, interleave_machine.start) at)
IsOpening at interleave_groups s = s ≡ (an_interleave_groups, opened (tt, interleave_groups_table.start) at)
IsOpening at (print ty) s = s ≡ (a_print, print_opening ty at)
IsOpening at (tab ty) s = s ≡ (a_tab, opened (ty, tab_machine.start) at)
IsOpening at (seq_of ty) s = s ≡ (a_seq_of_vector, opened (ty, seq_machine.start) at)
IsOpening at (index ty) s = s ≡ (an_index, opened (ty, index_machine.start) at)
IsOpening at (fork kind outputs) s = s ≡ (a_fork, opened (fork_ports kind outputs, fork_machine.start) at)
IsOpening at (sink kind) s = s ≡ (a_sink, opened (kind, sink_machine.start) at)

-- a fork has two outputs at least; any other operation has the ports that it has
abbrev pub IsUsable : Operation → Type 0
IsUsable (fork kind outputs) = 2 ≤ outputs
IsUsable _ = Unit {0}

-- each of these transducers is in the state in which it opens
abbrev pub AllOpen : List Placed → List ((t : NodeKind) × (member t).State) → Type 0
AllOpen nodes states =
    (k : ℕ) (placed : Placed) → slice_get nodes k ≡ Some placed → IsOpening placed.at placed.operation (state_at node_behaviour states k)

-- and so are those of a plan
abbrev pub OpensPlan : List Step → List ((t : NodeKind) × (member t).State) → Type 0
OpensPlan plan states = AllOpen (layout plan) states

-- a transducer in the state in which that of an operation opens does what the operation says
abbrev pub OpeningsPerform : Type 0
OpeningsPerform =
    (at : ℕ) (operation : Operation) (s : (t : NodeKind) × (member t).State)
    → IsUsable operation → IsOpening at operation s → Performs node_behaviour operation s
