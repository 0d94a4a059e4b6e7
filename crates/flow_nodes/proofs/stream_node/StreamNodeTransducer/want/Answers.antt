use Rattle.std.proofs.Common.{ap}
use Rattle.flow_nodes.specs.StreamNodes.{state_of, a_source, a_const, a_unary, a_binary, a_fork, a_sink, an_iota, a_units_of, a_scan_add, a_reduce}
use Rattle.flow_nodes.specs.StreamNodes.{a_length, a_flag_of_bool, a_the_check, a_same_flags, a_concat_flags, a_part_flags, an_append_flags, a_dist}
use Rattle.flow_nodes.specs.StreamNodes.{a_pack, a_pack_groups, an_interleave, an_interleave_groups, a_print, a_tab, a_seq_of_vector, an_index}
use Rattle.flow_nodes.proofs.NodeKinds.{want_node}
use Rattle.flow_nodes.proofs.stream_node.StreamNodeTransducer.want.Goals as goal

pub returns-in-Source : goal.returns-in-Source
returns-in-Source c = want_node a_source _ (state_of c.args.self.now) (ap state_of c.in-Source.is) c.want.ensures

pub returns-in-TextSource : goal.returns-in-TextSource
returns-in-TextSource c = want_node a_source _ (state_of c.args.self.now) (ap state_of c.in-TextSource.is) c.want-in-TextSource.ensures

pub returns-in-Const : goal.returns-in-Const
returns-in-Const c = want_node a_const _ (state_of c.args.self.now) (ap state_of c.in-Const.is) c.want-in-Const.ensures

pub returns-in-Unary : goal.returns-in-Unary
returns-in-Unary c = want_node a_unary _ (state_of c.args.self.now) (ap state_of c.in-Unary.is) c.want-in-Unary.ensures

pub returns-in-Binary : goal.returns-in-Binary
returns-in-Binary c = want_node a_binary _ (state_of c.args.self.now) (ap state_of c.in-Binary.is) c.want-in-Binary.ensures

pub returns-in-Fork : goal.returns-in-Fork
returns-in-Fork c = want_node a_fork _ (state_of c.args.self.now) (ap state_of c.in-Fork.is) c.want-in-Fork.ensures

pub returns-in-Sink : goal.returns-in-Sink
returns-in-Sink c = want_node a_sink _ (state_of c.args.self.now) (ap state_of c.in-Sink.is) c.want-in-Sink.ensures

pub returns-in-Iota : goal.returns-in-Iota
returns-in-Iota c = want_node an_iota _ (state_of c.args.self.now) (ap state_of c.in-Iota.is) c.want-in-Iota.ensures

pub returns-in-UnitsOf : goal.returns-in-UnitsOf
returns-in-UnitsOf c = want_node a_units_of _ (state_of c.args.self.now) (ap state_of c.in-UnitsOf.is) c.want-in-UnitsOf.ensures

pub returns-in-ScanAdd : goal.returns-in-ScanAdd
returns-in-ScanAdd c = want_node a_scan_add _ (state_of c.args.self.now) (ap state_of c.in-ScanAdd.is) c.want-in-ScanAdd.ensures

pub returns-in-Reduce : goal.returns-in-Reduce
returns-in-Reduce c = want_node a_reduce _ (state_of c.args.self.now) (ap state_of c.in-Reduce.is) c.want-in-Reduce.ensures

pub returns-in-Length : goal.returns-in-Length
returns-in-Length c = want_node a_length _ (state_of c.args.self.now) (ap state_of c.in-Length.is) c.want-in-Length.ensures

pub returns-in-FlagOfBool : goal.returns-in-FlagOfBool
returns-in-FlagOfBool c = want_node a_flag_of_bool _ (state_of c.args.self.now) (ap state_of c.in-FlagOfBool.is) c.want-in-FlagOfBool.ensures

pub returns-in-TheCheck : goal.returns-in-TheCheck
returns-in-TheCheck c = want_node a_the_check _ (state_of c.args.self.now) (ap state_of c.in-TheCheck.is) c.want-in-TheCheck.ensures

pub returns-in-SameFlags : goal.returns-in-SameFlags
returns-in-SameFlags c = want_node a_same_flags _ (state_of c.args.self.now) (ap state_of c.in-SameFlags.is) c.want-in-SameFlags.ensures

pub returns-in-ConcatFlags : goal.returns-in-ConcatFlags
returns-in-ConcatFlags c = want_node a_concat_flags _ (state_of c.args.self.now) (ap state_of c.in-ConcatFlags.is) c.want-in-ConcatFlags.ensures

pub returns-in-PartFlags : goal.returns-in-PartFlags
returns-in-PartFlags c = want_node a_part_flags _ (state_of c.args.self.now) (ap state_of c.in-PartFlags.is) c.want-in-PartFlags.ensures

pub returns-in-AppendFlags : goal.returns-in-AppendFlags
returns-in-AppendFlags c = want_node an_append_flags _ (state_of c.args.self.now) (ap state_of c.in-AppendFlags.is) c.want-in-AppendFlags.ensures

pub returns-in-Dist : goal.returns-in-Dist
returns-in-Dist c = want_node a_dist _ (state_of c.args.self.now) (ap state_of c.in-Dist.is) c.want-in-Dist.ensures

pub returns-in-Pack : goal.returns-in-Pack
returns-in-Pack c = want_node a_pack _ (state_of c.args.self.now) (ap state_of c.in-Pack.is) c.want-in-Pack.ensures

pub returns-in-PackGroups : goal.returns-in-PackGroups
returns-in-PackGroups c = want_node a_pack_groups _ (state_of c.args.self.now) (ap state_of c.in-PackGroups.is) c.want-in-PackGroups.ensures

pub returns-in-Interleave : goal.returns-in-Interleave
returns-in-Interleave c = want_node an_interleave _ (state_of c.args.self.now) (ap state_of c.in-Interleave.is) c.want-in-Interleave.ensures

pub returns-in-InterleaveGroups : goal.returns-in-InterleaveGroups
returns-in-InterleaveGroups c = want_node an_interleave_groups _ (state_of c.args.self.now) (ap state_of c.in-InterleaveGroups.is) c.want-in-InterleaveGroups.ensures

pub returns-in-Print : goal.returns-in-Print
returns-in-Print c = want_node a_print _ (state_of c.args.self.now) (ap state_of c.in-Print.is) c.want-in-Print.ensures

pub returns-in-Tab : goal.returns-in-Tab
returns-in-Tab c = want_node a_tab _ (state_of c.args.self.now) (ap state_of c.in-Tab.is) c.want-in-Tab.ensures

pub returns-in-Seq : goal.returns-in-Seq
returns-in-Seq c = want_node a_seq_of_vector _ (state_of c.args.self.now) (ap state_of c.in-Seq.is) c.want-in-Seq.ensures

pub returns-in-Index : goal.returns-in-Index
returns-in-Index c = want_node an_index _ (state_of c.args.self.now) (ap state_of c.in-Index.is) c.want-in-Index.ensures
