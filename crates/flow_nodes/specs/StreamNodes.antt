-- A transducer of any kind: its states, and what it does.
use Rattle.std.specs.Prelude.{ℕ, Bool, true, false, List, Option, Some, None}
use Rattle.flow_base.specs.Transducers.{Behaviour}
use Rattle.flow_base.specs.Members.{Member, member_of, members_behaviour}
use Rattle.flow_base.specs.Following.{node_passes}
use Rattle.flow_scalar.specs.ConstMachine.{const_machine, const_node}
use Rattle.flow_scalar.specs.SinkMachine.{sink_machine, sink_node}
use Rattle.flow_scalar.specs.UnitsOfMachine.{units_of_machine, units_of_node}
use Rattle.flow_scalar.specs.ForkMachine.{fork_machine, is_scalar_kind}
use Rattle.flow_scalar.specs.SourceBehaviour.{source_node}
use Rattle.flow_nodes.specs.inputs.TextSources.{text_source_state}
use Rattle.flow_scalar.specs.UnaryMachine.{unary_node}
use Rattle.flow_scalar.specs.BinaryMachine.{binary_node}
use Rattle.flow_scalar.specs.ForkNode.{fork_node}
use Rattle.flow_scalar.specs.IotaMachine.{iota_node}
use Rattle.flow_folds.specs.ScanAddMachine.{scan_add_node}
use Rattle.flow_folds.specs.ReduceMachine.{reduce_node}
use Rattle.flow_folds.specs.LengthMachine.{length_node}
use Rattle.flow_segment.specs.FlagOfBoolMachine.{flag_of_bool_node}
use Rattle.flow_segment.specs.TheCheckMachine.{the_check_node}
use Rattle.flow_segment.specs.SameFlagsMachine.{same_flags_node}
use Rattle.flow_segment.specs.ConcatFlagsMachine.{concat_flags_node}
use Rattle.flow_segment.specs.PartFlagsMachine.{part_flags_node}
use Rattle.flow_segment.specs.AppendFlagsMachine.{append_flags_node}
use Rattle.flow_segment.specs.DistMachine.{dist_node}
use Rattle.flow_segment.specs.PackMachine.{pack_node}
use Rattle.flow_segment.specs.PackGroupsMachine.{pack_groups_node}
use Rattle.flow_segment.specs.InterleaveMachine.{interleave_node}
use Rattle.flow_segment.specs.InterleaveGroupsMachine.{interleave_groups_node}
use Rattle.flow_values.specs.ValueNodes.{print_node, tab_node, seq_node, index_node}
use Rattle.flow_nodes.specs.declared.stream_node.StreamNode.{StreamNode}
use Rattle.flow_nodes.specs.declared.stream_node.StreamNode.TheVariants as nodes

-- the kinds of transducers
pub data NodeKind : Type 0 where
  a_source : NodeKind
  a_const : NodeKind
  a_unary : NodeKind
  a_binary : NodeKind
  a_fork : NodeKind
  a_sink : NodeKind
  an_iota : NodeKind
  a_units_of : NodeKind
  a_scan_add : NodeKind
  a_reduce : NodeKind
  a_length : NodeKind
  a_flag_of_bool : NodeKind
  a_the_check : NodeKind
  a_same_flags : NodeKind
  a_concat_flags : NodeKind
  a_part_flags : NodeKind
  an_append_flags : NodeKind
  a_dist : NodeKind
  a_pack : NodeKind
  a_pack_groups : NodeKind
  an_interleave : NodeKind
  an_interleave_groups : NodeKind
  a_print : NodeKind
  a_tab : NodeKind
  a_seq_of_vector : NodeKind
  an_index : NodeKind

-- the transducer of a kind
abbrev pub member : NodeKind → Member
member a_source = member_of source_node
member a_const = member_of const_node
member a_unary = member_of unary_node
member a_binary = member_of binary_node
member a_fork = member_of fork_node
member a_sink = member_of sink_node
member an_iota = member_of iota_node
member a_units_of = member_of units_of_node
member a_scan_add = member_of scan_add_node
member a_reduce = member_of reduce_node
member a_length = member_of length_node
member a_flag_of_bool = member_of flag_of_bool_node
member a_the_check = member_of the_check_node
member a_same_flags = member_of same_flags_node
member a_concat_flags = member_of concat_flags_node
member a_part_flags = member_of part_flags_node
member an_append_flags = member_of append_flags_node
member a_dist = member_of dist_node
member a_pack = member_of pack_node
member a_pack_groups = member_of pack_groups_node
member an_interleave = member_of interleave_node
member an_interleave_groups = member_of interleave_groups_node
member a_print = member_of print_node
member a_tab = member_of tab_node
member a_seq_of_vector = member_of seq_node
member an_index = member_of index_node

-- what a transducer of any kind does: what its kind does
abbrev pub node_behaviour : Behaviour ((t : NodeKind) × (member t).State)
node_behaviour = members_behaviour a_source member

-- the state of a node, under its kind
abbrev pub state_of : StreamNode → (t : NodeKind) × (member t).State
state_of (nodes.Source n) = (a_source, source_node.state n)
state_of (nodes.TextSource n) = (a_source, text_source_state n)
state_of (nodes.Const n) = (a_const, const_node.state n)
state_of (nodes.Unary n) = (a_unary, unary_node.state n)
state_of (nodes.Binary n) = (a_binary, binary_node.state n)
state_of (nodes.Fork n) = (a_fork, fork_node.state n)
state_of (nodes.Sink n) = (a_sink, sink_node.state n)
state_of (nodes.Iota n) = (an_iota, iota_node.state n)
state_of (nodes.UnitsOf n) = (a_units_of, units_of_node.state n)
state_of (nodes.ScanAdd n) = (a_scan_add, scan_add_node.state n)
state_of (nodes.Reduce n) = (a_reduce, reduce_node.state n)
state_of (nodes.Length n) = (a_length, length_node.state n)
state_of (nodes.FlagOfBool n) = (a_flag_of_bool, flag_of_bool_node.state n)
state_of (nodes.TheCheck n) = (a_the_check, the_check_node.state n)
state_of (nodes.SameFlags n) = (a_same_flags, same_flags_node.state n)
state_of (nodes.ConcatFlags n) = (a_concat_flags, concat_flags_node.state n)
state_of (nodes.PartFlags n) = (a_part_flags, part_flags_node.state n)
state_of (nodes.AppendFlags n) = (an_append_flags, append_flags_node.state n)
state_of (nodes.Dist n) = (a_dist, dist_node.state n)
state_of (nodes.Pack n) = (a_pack, pack_node.state n)
state_of (nodes.PackGroups n) = (a_pack_groups, pack_groups_node.state n)
state_of (nodes.Interleave n) = (an_interleave, interleave_node.state n)
state_of (nodes.InterleaveGroups n) = (an_interleave_groups, interleave_groups_node.state n)
state_of (nodes.Print n) = (a_print, print_node.state n)
state_of (nodes.Tab n) = (a_tab, tab_node.state n)
state_of (nodes.Seq n) = (a_seq_of_vector, seq_node.state n)
state_of (nodes.Index n) = (an_index, index_node.state n)

-- the text so far of a transducer that prints, and nothing of any other
abbrev pub text_of_kind : (t : NodeKind) → (member t).State → Option (List ℕ)
text_of_kind a_print s = Some s.text
text_of_kind _ s = None

abbrev pub text_in : (t : NodeKind) × (member t).State → Option (List ℕ)
text_in s = text_of_kind s.0 s.1

-- Whether a transducer passes messages on: a constant, a sink, units for flags, and a fork of scalars do, where an instance
-- may begin.
abbrev pub passes_of_kind : (t : NodeKind) → (member t).State → Bool
passes_of_kind a_const s = node_passes const_machine (λ _. true) s
passes_of_kind a_sink s = node_passes sink_machine (λ _. true) s
passes_of_kind a_units_of s = node_passes units_of_machine (λ _. true) s
passes_of_kind a_fork s = node_passes fork_machine (λ p. is_scalar_kind p.kind) s
passes_of_kind _ s = false

abbrev pub passes_in : (t : NodeKind) × (member t).State → Bool
passes_in s = passes_of_kind s.0 s.1
