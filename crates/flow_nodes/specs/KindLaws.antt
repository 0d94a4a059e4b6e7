-- What a transducer of any kind keeps to.
use Rattle.flow_base.specs.Machines.{Machine, MachineLaws}
use Rattle.flow_base.specs.Nodes.{behaviour_of}
use Rattle.flow_base.specs.Transducers.{Behaviour, BehaviourLaws}
use Rattle.flow_base.specs.NodeLaws.{behaviour_laws}
use Rattle.flow_base.specs.Sums.{sum_laws}
use Rattle.flow_base.specs.RowPorts.{RowsOnPorts}
use Rattle.flow_folds.specs.laws.Length.{length_laws}
use Rattle.flow_folds.specs.laws.Reduce.{reduce_laws}
use Rattle.flow_folds.specs.laws.ScanAdd.{scan_add_laws}
use Rattle.flow_scalar.specs.laws.Binary.{binary_laws}
use Rattle.flow_scalar.specs.laws.Const.{const_laws}
use Rattle.flow_scalar.specs.laws.Fork.{fork_laws}
use Rattle.flow_scalar.specs.laws.Iota.{iota_laws}
use Rattle.flow_scalar.specs.laws.Sink.{sink_laws}
use Rattle.flow_scalar.specs.laws.Source.{source_laws}
use Rattle.flow_scalar.specs.laws.Unary.{unary_laws}
use Rattle.flow_scalar.specs.laws.UnitsOf.{units_of_laws}
use Rattle.flow_segment.specs.laws.AppendFlags.{append_flags_laws}
use Rattle.flow_segment.specs.laws.ConcatFlags.{concat_flags_laws}
use Rattle.flow_segment.specs.laws.Dist.{dist_laws}
use Rattle.flow_segment.specs.laws.FlagOfBool.{flag_of_bool_laws}
use Rattle.flow_segment.specs.laws.Interleave.{interleave_laws}
use Rattle.flow_segment.specs.laws.InterleaveGroups.{interleave_groups_laws}
use Rattle.flow_segment.specs.laws.Pack.{pack_laws}
use Rattle.flow_segment.specs.laws.PackGroups.{pack_groups_laws}
use Rattle.flow_segment.specs.laws.PartFlags.{part_flags_laws}
use Rattle.flow_segment.specs.laws.SameFlags.{same_flags_laws}
use Rattle.flow_segment.specs.laws.TheCheck.{the_check_laws}
use Rattle.flow_values.specs.laws.Index.{index_laws}
use Rattle.flow_values.specs.laws.Print.{print_laws}
use Rattle.flow_values.specs.laws.Seq.{seq_laws}
use Rattle.flow_values.specs.laws.Tab.{tab_laws}
use Rattle.flow_nodes.specs.PortRows.{worker_rows, source_rows, print_rows}
use Rattle.flow_nodes.specs.StreamNodes.{NodeKind, a_source, a_const, a_unary, a_binary, a_fork, a_sink, an_iota, a_units_of, a_scan_add, a_reduce}
use Rattle.flow_nodes.specs.StreamNodes.{a_length, a_flag_of_bool, a_the_check, a_same_flags, a_concat_flags, a_part_flags, an_append_flags, a_dist}
use Rattle.flow_nodes.specs.StreamNodes.{a_pack, a_pack_groups, an_interleave, an_interleave_groups, a_print, a_tab, a_seq_of_vector, an_index}
use Rattle.flow_nodes.specs.StreamNodes.{member, node_behaviour}

-- What is proved of a transducer: it keeps to the laws, and its row speaks of its ports alone.
pub record KindProofs {S : Type 0} (b : Behaviour S) : Type 0 where
  pub laws : BehaviourLaws b
  pub rows : RowsOnPorts b

-- a worker with lawful runs makes such a transducer
pub worker_proofs : {P S : Type 0} {m : Machine P S} → MachineLaws m → KindProofs (behaviour_of m)
worker_proofs laws = record { laws = behaviour_laws _ laws; rows = worker_rows laws }

-- what is proved of each kind
pub proofs_of_kind : (t : NodeKind) → KindProofs (member t).behaviour
proofs_of_kind a_source = record { laws = source_laws; rows = source_rows }
proofs_of_kind a_const = worker_proofs const_laws
proofs_of_kind a_unary = worker_proofs unary_laws
proofs_of_kind a_binary = worker_proofs binary_laws
proofs_of_kind a_fork = worker_proofs fork_laws
proofs_of_kind a_sink = worker_proofs sink_laws
proofs_of_kind an_iota = worker_proofs iota_laws
proofs_of_kind a_units_of = worker_proofs units_of_laws
proofs_of_kind a_scan_add = worker_proofs scan_add_laws
proofs_of_kind a_reduce = worker_proofs reduce_laws
proofs_of_kind a_length = worker_proofs length_laws
proofs_of_kind a_flag_of_bool = worker_proofs flag_of_bool_laws
proofs_of_kind a_the_check = worker_proofs the_check_laws
proofs_of_kind a_same_flags = worker_proofs same_flags_laws
proofs_of_kind a_concat_flags = worker_proofs concat_flags_laws
proofs_of_kind a_part_flags = worker_proofs part_flags_laws
proofs_of_kind an_append_flags = worker_proofs append_flags_laws
proofs_of_kind a_dist = worker_proofs dist_laws
proofs_of_kind a_pack = worker_proofs pack_laws
proofs_of_kind a_pack_groups = worker_proofs pack_groups_laws
proofs_of_kind an_interleave = worker_proofs interleave_laws
proofs_of_kind an_interleave_groups = worker_proofs interleave_groups_laws
proofs_of_kind a_print = record { laws = print_laws; rows = print_rows }
proofs_of_kind a_tab = worker_proofs tab_laws
proofs_of_kind a_seq_of_vector = worker_proofs seq_laws
proofs_of_kind an_index = worker_proofs index_laws

-- a transducer of any kind keeps to the laws of its kind
pub node_laws : BehaviourLaws node_behaviour
node_laws = sum_laws a_source (λ t. (member t).behaviour) (λ t. (proofs_of_kind t).laws)
