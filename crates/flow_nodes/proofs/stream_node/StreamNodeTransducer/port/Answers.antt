use Rattle.std.proofs.Common.{ap}
use Rattle.flow_nodes.specs.StreamNodes.{state_of, a_source, a_const, a_unary, a_binary, a_fork, a_sink, an_iota, a_units_of, a_scan_add, a_reduce}
use Rattle.flow_nodes.specs.StreamNodes.{a_length, a_flag_of_bool, a_the_check, a_same_flags, a_concat_flags, a_part_flags, an_append_flags, a_dist}
use Rattle.flow_nodes.specs.StreamNodes.{a_pack, a_pack_groups, an_interleave, an_interleave_groups, a_print, a_tab, a_seq_of_vector, an_index}
use Rattle.flow_nodes.proofs.NodeKinds.{ports_node, kind_node}
use Rattle.flow_nodes.proofs.stream_node.StreamNodeTransducer.port.Goals as goal

pub returns-in-Source-clause-count : goal.returns-in-Source-clause-count
returns-in-Source-clause-count c = ports_node a_source _ (state_of c.args.self.now) (ap state_of c.in-Source.is) c.args.side c.port.ensures.count

pub returns-in-Source-clause-kind : goal.returns-in-Source-clause-kind
returns-in-Source-clause-kind c = kind_node a_source _ (state_of c.args.self.now) (ap state_of c.in-Source.is) c.args.side c.args.number c.port.ensures.kind

pub returns-in-TextSource-clause-count : goal.returns-in-TextSource-clause-count
returns-in-TextSource-clause-count c = ports_node a_source _ (state_of c.args.self.now) (ap state_of c.in-TextSource.is) c.args.side c.port-in-TextSource.ensures.count

pub returns-in-TextSource-clause-kind : goal.returns-in-TextSource-clause-kind
returns-in-TextSource-clause-kind c = kind_node a_source _ (state_of c.args.self.now) (ap state_of c.in-TextSource.is) c.args.side c.args.number c.port-in-TextSource.ensures.kind

pub returns-in-Const-clause-count : goal.returns-in-Const-clause-count
returns-in-Const-clause-count c = ports_node a_const _ (state_of c.args.self.now) (ap state_of c.in-Const.is) c.args.side c.port-in-Const.ensures.count

pub returns-in-Const-clause-kind : goal.returns-in-Const-clause-kind
returns-in-Const-clause-kind c = kind_node a_const _ (state_of c.args.self.now) (ap state_of c.in-Const.is) c.args.side c.args.number c.port-in-Const.ensures.kind

pub returns-in-Unary-clause-count : goal.returns-in-Unary-clause-count
returns-in-Unary-clause-count c = ports_node a_unary _ (state_of c.args.self.now) (ap state_of c.in-Unary.is) c.args.side c.port-in-Unary.ensures.count

pub returns-in-Unary-clause-kind : goal.returns-in-Unary-clause-kind
returns-in-Unary-clause-kind c = kind_node a_unary _ (state_of c.args.self.now) (ap state_of c.in-Unary.is) c.args.side c.args.number c.port-in-Unary.ensures.kind

pub returns-in-Binary-clause-count : goal.returns-in-Binary-clause-count
returns-in-Binary-clause-count c = ports_node a_binary _ (state_of c.args.self.now) (ap state_of c.in-Binary.is) c.args.side c.port-in-Binary.ensures.count

pub returns-in-Binary-clause-kind : goal.returns-in-Binary-clause-kind
returns-in-Binary-clause-kind c = kind_node a_binary _ (state_of c.args.self.now) (ap state_of c.in-Binary.is) c.args.side c.args.number c.port-in-Binary.ensures.kind

pub returns-in-Fork-clause-count : goal.returns-in-Fork-clause-count
returns-in-Fork-clause-count c = ports_node a_fork _ (state_of c.args.self.now) (ap state_of c.in-Fork.is) c.args.side c.port-in-Fork.ensures.count

pub returns-in-Fork-clause-kind : goal.returns-in-Fork-clause-kind
returns-in-Fork-clause-kind c = kind_node a_fork _ (state_of c.args.self.now) (ap state_of c.in-Fork.is) c.args.side c.args.number c.port-in-Fork.ensures.kind

pub returns-in-Sink-clause-count : goal.returns-in-Sink-clause-count
returns-in-Sink-clause-count c = ports_node a_sink _ (state_of c.args.self.now) (ap state_of c.in-Sink.is) c.args.side c.port-in-Sink.ensures.count

pub returns-in-Sink-clause-kind : goal.returns-in-Sink-clause-kind
returns-in-Sink-clause-kind c = kind_node a_sink _ (state_of c.args.self.now) (ap state_of c.in-Sink.is) c.args.side c.args.number c.port-in-Sink.ensures.kind

pub returns-in-Iota-clause-count : goal.returns-in-Iota-clause-count
returns-in-Iota-clause-count c = ports_node an_iota _ (state_of c.args.self.now) (ap state_of c.in-Iota.is) c.args.side c.port-in-Iota.ensures.count

pub returns-in-Iota-clause-kind : goal.returns-in-Iota-clause-kind
returns-in-Iota-clause-kind c = kind_node an_iota _ (state_of c.args.self.now) (ap state_of c.in-Iota.is) c.args.side c.args.number c.port-in-Iota.ensures.kind

pub returns-in-UnitsOf-clause-count : goal.returns-in-UnitsOf-clause-count
returns-in-UnitsOf-clause-count c = ports_node a_units_of _ (state_of c.args.self.now) (ap state_of c.in-UnitsOf.is) c.args.side c.port-in-UnitsOf.ensures.count

pub returns-in-UnitsOf-clause-kind : goal.returns-in-UnitsOf-clause-kind
returns-in-UnitsOf-clause-kind c = kind_node a_units_of _ (state_of c.args.self.now) (ap state_of c.in-UnitsOf.is) c.args.side c.args.number c.port-in-UnitsOf.ensures.kind

pub returns-in-ScanAdd-clause-count : goal.returns-in-ScanAdd-clause-count
returns-in-ScanAdd-clause-count c = ports_node a_scan_add _ (state_of c.args.self.now) (ap state_of c.in-ScanAdd.is) c.args.side c.port-in-ScanAdd.ensures.count

pub returns-in-ScanAdd-clause-kind : goal.returns-in-ScanAdd-clause-kind
returns-in-ScanAdd-clause-kind c = kind_node a_scan_add _ (state_of c.args.self.now) (ap state_of c.in-ScanAdd.is) c.args.side c.args.number c.port-in-ScanAdd.ensures.kind

pub returns-in-Reduce-clause-count : goal.returns-in-Reduce-clause-count
returns-in-Reduce-clause-count c = ports_node a_reduce _ (state_of c.args.self.now) (ap state_of c.in-Reduce.is) c.args.side c.port-in-Reduce.ensures.count

pub returns-in-Reduce-clause-kind : goal.returns-in-Reduce-clause-kind
returns-in-Reduce-clause-kind c = kind_node a_reduce _ (state_of c.args.self.now) (ap state_of c.in-Reduce.is) c.args.side c.args.number c.port-in-Reduce.ensures.kind

pub returns-in-Length-clause-count : goal.returns-in-Length-clause-count
returns-in-Length-clause-count c = ports_node a_length _ (state_of c.args.self.now) (ap state_of c.in-Length.is) c.args.side c.port-in-Length.ensures.count

pub returns-in-Length-clause-kind : goal.returns-in-Length-clause-kind
returns-in-Length-clause-kind c = kind_node a_length _ (state_of c.args.self.now) (ap state_of c.in-Length.is) c.args.side c.args.number c.port-in-Length.ensures.kind

pub returns-in-FlagOfBool-clause-count : goal.returns-in-FlagOfBool-clause-count
returns-in-FlagOfBool-clause-count c = ports_node a_flag_of_bool _ (state_of c.args.self.now) (ap state_of c.in-FlagOfBool.is) c.args.side c.port-in-FlagOfBool.ensures.count

pub returns-in-FlagOfBool-clause-kind : goal.returns-in-FlagOfBool-clause-kind
returns-in-FlagOfBool-clause-kind c = kind_node a_flag_of_bool _ (state_of c.args.self.now) (ap state_of c.in-FlagOfBool.is) c.args.side c.args.number c.port-in-FlagOfBool.ensures.kind

pub returns-in-TheCheck-clause-count : goal.returns-in-TheCheck-clause-count
returns-in-TheCheck-clause-count c = ports_node a_the_check _ (state_of c.args.self.now) (ap state_of c.in-TheCheck.is) c.args.side c.port-in-TheCheck.ensures.count

pub returns-in-TheCheck-clause-kind : goal.returns-in-TheCheck-clause-kind
returns-in-TheCheck-clause-kind c = kind_node a_the_check _ (state_of c.args.self.now) (ap state_of c.in-TheCheck.is) c.args.side c.args.number c.port-in-TheCheck.ensures.kind

pub returns-in-SameFlags-clause-count : goal.returns-in-SameFlags-clause-count
returns-in-SameFlags-clause-count c = ports_node a_same_flags _ (state_of c.args.self.now) (ap state_of c.in-SameFlags.is) c.args.side c.port-in-SameFlags.ensures.count

pub returns-in-SameFlags-clause-kind : goal.returns-in-SameFlags-clause-kind
returns-in-SameFlags-clause-kind c = kind_node a_same_flags _ (state_of c.args.self.now) (ap state_of c.in-SameFlags.is) c.args.side c.args.number c.port-in-SameFlags.ensures.kind

pub returns-in-ConcatFlags-clause-count : goal.returns-in-ConcatFlags-clause-count
returns-in-ConcatFlags-clause-count c = ports_node a_concat_flags _ (state_of c.args.self.now) (ap state_of c.in-ConcatFlags.is) c.args.side c.port-in-ConcatFlags.ensures.count

pub returns-in-ConcatFlags-clause-kind : goal.returns-in-ConcatFlags-clause-kind
returns-in-ConcatFlags-clause-kind c = kind_node a_concat_flags _ (state_of c.args.self.now) (ap state_of c.in-ConcatFlags.is) c.args.side c.args.number c.port-in-ConcatFlags.ensures.kind

pub returns-in-PartFlags-clause-count : goal.returns-in-PartFlags-clause-count
returns-in-PartFlags-clause-count c = ports_node a_part_flags _ (state_of c.args.self.now) (ap state_of c.in-PartFlags.is) c.args.side c.port-in-PartFlags.ensures.count

pub returns-in-PartFlags-clause-kind : goal.returns-in-PartFlags-clause-kind
returns-in-PartFlags-clause-kind c = kind_node a_part_flags _ (state_of c.args.self.now) (ap state_of c.in-PartFlags.is) c.args.side c.args.number c.port-in-PartFlags.ensures.kind

pub returns-in-AppendFlags-clause-count : goal.returns-in-AppendFlags-clause-count
returns-in-AppendFlags-clause-count c = ports_node an_append_flags _ (state_of c.args.self.now) (ap state_of c.in-AppendFlags.is) c.args.side c.port-in-AppendFlags.ensures.count

pub returns-in-AppendFlags-clause-kind : goal.returns-in-AppendFlags-clause-kind
returns-in-AppendFlags-clause-kind c = kind_node an_append_flags _ (state_of c.args.self.now) (ap state_of c.in-AppendFlags.is) c.args.side c.args.number c.port-in-AppendFlags.ensures.kind

pub returns-in-Dist-clause-count : goal.returns-in-Dist-clause-count
returns-in-Dist-clause-count c = ports_node a_dist _ (state_of c.args.self.now) (ap state_of c.in-Dist.is) c.args.side c.port-in-Dist.ensures.count

pub returns-in-Dist-clause-kind : goal.returns-in-Dist-clause-kind
returns-in-Dist-clause-kind c = kind_node a_dist _ (state_of c.args.self.now) (ap state_of c.in-Dist.is) c.args.side c.args.number c.port-in-Dist.ensures.kind

pub returns-in-Pack-clause-count : goal.returns-in-Pack-clause-count
returns-in-Pack-clause-count c = ports_node a_pack _ (state_of c.args.self.now) (ap state_of c.in-Pack.is) c.args.side c.port-in-Pack.ensures.count

pub returns-in-Pack-clause-kind : goal.returns-in-Pack-clause-kind
returns-in-Pack-clause-kind c = kind_node a_pack _ (state_of c.args.self.now) (ap state_of c.in-Pack.is) c.args.side c.args.number c.port-in-Pack.ensures.kind

pub returns-in-PackGroups-clause-count : goal.returns-in-PackGroups-clause-count
returns-in-PackGroups-clause-count c = ports_node a_pack_groups _ (state_of c.args.self.now) (ap state_of c.in-PackGroups.is) c.args.side c.port-in-PackGroups.ensures.count

pub returns-in-PackGroups-clause-kind : goal.returns-in-PackGroups-clause-kind
returns-in-PackGroups-clause-kind c = kind_node a_pack_groups _ (state_of c.args.self.now) (ap state_of c.in-PackGroups.is) c.args.side c.args.number c.port-in-PackGroups.ensures.kind

pub returns-in-Interleave-clause-count : goal.returns-in-Interleave-clause-count
returns-in-Interleave-clause-count c = ports_node an_interleave _ (state_of c.args.self.now) (ap state_of c.in-Interleave.is) c.args.side c.port-in-Interleave.ensures.count

pub returns-in-Interleave-clause-kind : goal.returns-in-Interleave-clause-kind
returns-in-Interleave-clause-kind c = kind_node an_interleave _ (state_of c.args.self.now) (ap state_of c.in-Interleave.is) c.args.side c.args.number c.port-in-Interleave.ensures.kind

pub returns-in-InterleaveGroups-clause-count : goal.returns-in-InterleaveGroups-clause-count
returns-in-InterleaveGroups-clause-count c = ports_node an_interleave_groups _ (state_of c.args.self.now) (ap state_of c.in-InterleaveGroups.is) c.args.side c.port-in-InterleaveGroups.ensures.count

pub returns-in-InterleaveGroups-clause-kind : goal.returns-in-InterleaveGroups-clause-kind
returns-in-InterleaveGroups-clause-kind c =
    kind_node an_interleave_groups _ (state_of c.args.self.now) (ap state_of c.in-InterleaveGroups.is) c.args.side c.args.number
    c.port-in-InterleaveGroups.ensures.kind

pub returns-in-Print-clause-count : goal.returns-in-Print-clause-count
returns-in-Print-clause-count c = ports_node a_print _ (state_of c.args.self.now) (ap state_of c.in-Print.is) c.args.side c.port-in-Print.ensures.count

pub returns-in-Print-clause-kind : goal.returns-in-Print-clause-kind
returns-in-Print-clause-kind c = kind_node a_print _ (state_of c.args.self.now) (ap state_of c.in-Print.is) c.args.side c.args.number c.port-in-Print.ensures.kind

pub returns-in-Tab-clause-count : goal.returns-in-Tab-clause-count
returns-in-Tab-clause-count c = ports_node a_tab _ (state_of c.args.self.now) (ap state_of c.in-Tab.is) c.args.side c.port-in-Tab.ensures.count

pub returns-in-Tab-clause-kind : goal.returns-in-Tab-clause-kind
returns-in-Tab-clause-kind c = kind_node a_tab _ (state_of c.args.self.now) (ap state_of c.in-Tab.is) c.args.side c.args.number c.port-in-Tab.ensures.kind

pub returns-in-Seq-clause-count : goal.returns-in-Seq-clause-count
returns-in-Seq-clause-count c = ports_node a_seq_of_vector _ (state_of c.args.self.now) (ap state_of c.in-Seq.is) c.args.side c.port-in-Seq.ensures.count

pub returns-in-Seq-clause-kind : goal.returns-in-Seq-clause-kind
returns-in-Seq-clause-kind c = kind_node a_seq_of_vector _ (state_of c.args.self.now) (ap state_of c.in-Seq.is) c.args.side c.args.number c.port-in-Seq.ensures.kind

pub returns-in-Index-clause-count : goal.returns-in-Index-clause-count
returns-in-Index-clause-count c = ports_node an_index _ (state_of c.args.self.now) (ap state_of c.in-Index.is) c.args.side c.port-in-Index.ensures.count

pub returns-in-Index-clause-kind : goal.returns-in-Index-clause-kind
returns-in-Index-clause-kind c = kind_node an_index _ (state_of c.args.self.now) (ap state_of c.in-Index.is) c.args.side c.args.number c.port-in-Index.ensures.kind
