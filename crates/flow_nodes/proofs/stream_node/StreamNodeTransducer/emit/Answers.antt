use Rattle.std.proofs.Common.{ap}
use Rattle.flow_nodes.specs.StreamNodes.{state_of, a_source, a_const, a_unary, a_binary, a_fork, a_sink, an_iota, a_units_of, a_scan_add, a_reduce}
use Rattle.flow_nodes.specs.StreamNodes.{a_length, a_flag_of_bool, a_the_check, a_same_flags, a_concat_flags, a_part_flags, an_append_flags, a_dist}
use Rattle.flow_nodes.specs.StreamNodes.{a_pack, a_pack_groups, an_interleave, an_interleave_groups, a_print, a_tab, a_seq_of_vector, an_index}
use Rattle.flow_nodes.proofs.NodeKinds.{writes_node, sent_node, kept_node, sure_node}
use Rattle.flow_nodes.proofs.stream_node.StreamNodeTransducer.emit.Goals as goal

pub emit-requires : goal.emit-requires
emit-requires c = writes_node a_source _ (state_of c.args.self.now) (ap state_of c.in-Source.is) c.requires

pub returns-in-Source-clause-ok : goal.returns-in-Source-clause-ok
returns-in-Source-clause-ok c = sent_node a_source _ (state_of c.args.self.now) (ap state_of c.in-Source.is) _ c.emit.result c.emit.ensures.ok

pub returns-in-Source-clause-err : goal.returns-in-Source-clause-err
returns-in-Source-clause-err c = kept_node a_source _ (state_of c.args.self.now) (ap state_of c.in-Source.is) _ c.emit.result c.emit.ensures.err

pub returns-in-Source-clause-sure : goal.returns-in-Source-clause-sure
returns-in-Source-clause-sure c = sure_node a_source _ (state_of c.args.self.now) (ap state_of c.in-Source.is) c.emit.result c.emit.ensures.sure

pub emit-requires-in-TextSource : goal.emit-requires-in-TextSource
emit-requires-in-TextSource c = writes_node a_source _ (state_of c.args.self.now) (ap state_of c.in-TextSource.is) c.requires

pub returns-in-TextSource-clause-ok : goal.returns-in-TextSource-clause-ok
returns-in-TextSource-clause-ok c = sent_node a_source _ (state_of c.args.self.now) (ap state_of c.in-TextSource.is) _ c.emit-in-TextSource.result c.emit-in-TextSource.ensures.ok

pub returns-in-TextSource-clause-err : goal.returns-in-TextSource-clause-err
returns-in-TextSource-clause-err c = kept_node a_source _ (state_of c.args.self.now) (ap state_of c.in-TextSource.is) _ c.emit-in-TextSource.result c.emit-in-TextSource.ensures.err

pub returns-in-TextSource-clause-sure : goal.returns-in-TextSource-clause-sure
returns-in-TextSource-clause-sure c = sure_node a_source _ (state_of c.args.self.now) (ap state_of c.in-TextSource.is) c.emit-in-TextSource.result c.emit-in-TextSource.ensures.sure

pub emit-requires-in-Const : goal.emit-requires-in-Const
emit-requires-in-Const c = writes_node a_const _ (state_of c.args.self.now) (ap state_of c.in-Const.is) c.requires

pub returns-in-Const-clause-ok : goal.returns-in-Const-clause-ok
returns-in-Const-clause-ok c = sent_node a_const _ (state_of c.args.self.now) (ap state_of c.in-Const.is) _ c.emit-in-Const.result c.emit-in-Const.ensures.ok

pub returns-in-Const-clause-err : goal.returns-in-Const-clause-err
returns-in-Const-clause-err c = kept_node a_const _ (state_of c.args.self.now) (ap state_of c.in-Const.is) _ c.emit-in-Const.result c.emit-in-Const.ensures.err

pub returns-in-Const-clause-sure : goal.returns-in-Const-clause-sure
returns-in-Const-clause-sure c = sure_node a_const _ (state_of c.args.self.now) (ap state_of c.in-Const.is) c.emit-in-Const.result c.emit-in-Const.ensures.sure

pub emit-requires-in-Unary : goal.emit-requires-in-Unary
emit-requires-in-Unary c = writes_node a_unary _ (state_of c.args.self.now) (ap state_of c.in-Unary.is) c.requires

pub returns-in-Unary-clause-ok : goal.returns-in-Unary-clause-ok
returns-in-Unary-clause-ok c = sent_node a_unary _ (state_of c.args.self.now) (ap state_of c.in-Unary.is) _ c.emit-in-Unary.result c.emit-in-Unary.ensures.ok

pub returns-in-Unary-clause-err : goal.returns-in-Unary-clause-err
returns-in-Unary-clause-err c = kept_node a_unary _ (state_of c.args.self.now) (ap state_of c.in-Unary.is) _ c.emit-in-Unary.result c.emit-in-Unary.ensures.err

pub returns-in-Unary-clause-sure : goal.returns-in-Unary-clause-sure
returns-in-Unary-clause-sure c = sure_node a_unary _ (state_of c.args.self.now) (ap state_of c.in-Unary.is) c.emit-in-Unary.result c.emit-in-Unary.ensures.sure

pub emit-requires-in-Binary : goal.emit-requires-in-Binary
emit-requires-in-Binary c = writes_node a_binary _ (state_of c.args.self.now) (ap state_of c.in-Binary.is) c.requires

pub returns-in-Binary-clause-ok : goal.returns-in-Binary-clause-ok
returns-in-Binary-clause-ok c = sent_node a_binary _ (state_of c.args.self.now) (ap state_of c.in-Binary.is) _ c.emit-in-Binary.result c.emit-in-Binary.ensures.ok

pub returns-in-Binary-clause-err : goal.returns-in-Binary-clause-err
returns-in-Binary-clause-err c = kept_node a_binary _ (state_of c.args.self.now) (ap state_of c.in-Binary.is) _ c.emit-in-Binary.result c.emit-in-Binary.ensures.err

pub returns-in-Binary-clause-sure : goal.returns-in-Binary-clause-sure
returns-in-Binary-clause-sure c = sure_node a_binary _ (state_of c.args.self.now) (ap state_of c.in-Binary.is) c.emit-in-Binary.result c.emit-in-Binary.ensures.sure

pub emit-requires-in-Fork : goal.emit-requires-in-Fork
emit-requires-in-Fork c = writes_node a_fork _ (state_of c.args.self.now) (ap state_of c.in-Fork.is) c.requires

pub returns-in-Fork-clause-ok : goal.returns-in-Fork-clause-ok
returns-in-Fork-clause-ok c = sent_node a_fork _ (state_of c.args.self.now) (ap state_of c.in-Fork.is) _ c.emit-in-Fork.result c.emit-in-Fork.ensures.ok

pub returns-in-Fork-clause-err : goal.returns-in-Fork-clause-err
returns-in-Fork-clause-err c = kept_node a_fork _ (state_of c.args.self.now) (ap state_of c.in-Fork.is) _ c.emit-in-Fork.result c.emit-in-Fork.ensures.err

pub returns-in-Fork-clause-sure : goal.returns-in-Fork-clause-sure
returns-in-Fork-clause-sure c = sure_node a_fork _ (state_of c.args.self.now) (ap state_of c.in-Fork.is) c.emit-in-Fork.result c.emit-in-Fork.ensures.sure

pub emit-requires-in-Sink : goal.emit-requires-in-Sink
emit-requires-in-Sink c = writes_node a_sink _ (state_of c.args.self.now) (ap state_of c.in-Sink.is) c.requires

pub returns-in-Sink-clause-ok : goal.returns-in-Sink-clause-ok
returns-in-Sink-clause-ok c = sent_node a_sink _ (state_of c.args.self.now) (ap state_of c.in-Sink.is) _ c.emit-in-Sink.result c.emit-in-Sink.ensures.ok

pub returns-in-Sink-clause-err : goal.returns-in-Sink-clause-err
returns-in-Sink-clause-err c = kept_node a_sink _ (state_of c.args.self.now) (ap state_of c.in-Sink.is) _ c.emit-in-Sink.result c.emit-in-Sink.ensures.err

pub returns-in-Sink-clause-sure : goal.returns-in-Sink-clause-sure
returns-in-Sink-clause-sure c = sure_node a_sink _ (state_of c.args.self.now) (ap state_of c.in-Sink.is) c.emit-in-Sink.result c.emit-in-Sink.ensures.sure

pub emit-requires-in-Iota : goal.emit-requires-in-Iota
emit-requires-in-Iota c = writes_node an_iota _ (state_of c.args.self.now) (ap state_of c.in-Iota.is) c.requires

pub returns-in-Iota-clause-ok : goal.returns-in-Iota-clause-ok
returns-in-Iota-clause-ok c = sent_node an_iota _ (state_of c.args.self.now) (ap state_of c.in-Iota.is) _ c.emit-in-Iota.result c.emit-in-Iota.ensures.ok

pub returns-in-Iota-clause-err : goal.returns-in-Iota-clause-err
returns-in-Iota-clause-err c = kept_node an_iota _ (state_of c.args.self.now) (ap state_of c.in-Iota.is) _ c.emit-in-Iota.result c.emit-in-Iota.ensures.err

pub returns-in-Iota-clause-sure : goal.returns-in-Iota-clause-sure
returns-in-Iota-clause-sure c = sure_node an_iota _ (state_of c.args.self.now) (ap state_of c.in-Iota.is) c.emit-in-Iota.result c.emit-in-Iota.ensures.sure

pub emit-requires-in-UnitsOf : goal.emit-requires-in-UnitsOf
emit-requires-in-UnitsOf c = writes_node a_units_of _ (state_of c.args.self.now) (ap state_of c.in-UnitsOf.is) c.requires

pub returns-in-UnitsOf-clause-ok : goal.returns-in-UnitsOf-clause-ok
returns-in-UnitsOf-clause-ok c = sent_node a_units_of _ (state_of c.args.self.now) (ap state_of c.in-UnitsOf.is) _ c.emit-in-UnitsOf.result c.emit-in-UnitsOf.ensures.ok

pub returns-in-UnitsOf-clause-err : goal.returns-in-UnitsOf-clause-err
returns-in-UnitsOf-clause-err c = kept_node a_units_of _ (state_of c.args.self.now) (ap state_of c.in-UnitsOf.is) _ c.emit-in-UnitsOf.result c.emit-in-UnitsOf.ensures.err

pub returns-in-UnitsOf-clause-sure : goal.returns-in-UnitsOf-clause-sure
returns-in-UnitsOf-clause-sure c = sure_node a_units_of _ (state_of c.args.self.now) (ap state_of c.in-UnitsOf.is) c.emit-in-UnitsOf.result c.emit-in-UnitsOf.ensures.sure

pub emit-requires-in-ScanAdd : goal.emit-requires-in-ScanAdd
emit-requires-in-ScanAdd c = writes_node a_scan_add _ (state_of c.args.self.now) (ap state_of c.in-ScanAdd.is) c.requires

pub returns-in-ScanAdd-clause-ok : goal.returns-in-ScanAdd-clause-ok
returns-in-ScanAdd-clause-ok c = sent_node a_scan_add _ (state_of c.args.self.now) (ap state_of c.in-ScanAdd.is) _ c.emit-in-ScanAdd.result c.emit-in-ScanAdd.ensures.ok

pub returns-in-ScanAdd-clause-err : goal.returns-in-ScanAdd-clause-err
returns-in-ScanAdd-clause-err c = kept_node a_scan_add _ (state_of c.args.self.now) (ap state_of c.in-ScanAdd.is) _ c.emit-in-ScanAdd.result c.emit-in-ScanAdd.ensures.err

pub returns-in-ScanAdd-clause-sure : goal.returns-in-ScanAdd-clause-sure
returns-in-ScanAdd-clause-sure c = sure_node a_scan_add _ (state_of c.args.self.now) (ap state_of c.in-ScanAdd.is) c.emit-in-ScanAdd.result c.emit-in-ScanAdd.ensures.sure

pub emit-requires-in-Reduce : goal.emit-requires-in-Reduce
emit-requires-in-Reduce c = writes_node a_reduce _ (state_of c.args.self.now) (ap state_of c.in-Reduce.is) c.requires

pub returns-in-Reduce-clause-ok : goal.returns-in-Reduce-clause-ok
returns-in-Reduce-clause-ok c = sent_node a_reduce _ (state_of c.args.self.now) (ap state_of c.in-Reduce.is) _ c.emit-in-Reduce.result c.emit-in-Reduce.ensures.ok

pub returns-in-Reduce-clause-err : goal.returns-in-Reduce-clause-err
returns-in-Reduce-clause-err c = kept_node a_reduce _ (state_of c.args.self.now) (ap state_of c.in-Reduce.is) _ c.emit-in-Reduce.result c.emit-in-Reduce.ensures.err

pub returns-in-Reduce-clause-sure : goal.returns-in-Reduce-clause-sure
returns-in-Reduce-clause-sure c = sure_node a_reduce _ (state_of c.args.self.now) (ap state_of c.in-Reduce.is) c.emit-in-Reduce.result c.emit-in-Reduce.ensures.sure

pub emit-requires-in-Length : goal.emit-requires-in-Length
emit-requires-in-Length c = writes_node a_length _ (state_of c.args.self.now) (ap state_of c.in-Length.is) c.requires

pub returns-in-Length-clause-ok : goal.returns-in-Length-clause-ok
returns-in-Length-clause-ok c = sent_node a_length _ (state_of c.args.self.now) (ap state_of c.in-Length.is) _ c.emit-in-Length.result c.emit-in-Length.ensures.ok

pub returns-in-Length-clause-err : goal.returns-in-Length-clause-err
returns-in-Length-clause-err c = kept_node a_length _ (state_of c.args.self.now) (ap state_of c.in-Length.is) _ c.emit-in-Length.result c.emit-in-Length.ensures.err

pub returns-in-Length-clause-sure : goal.returns-in-Length-clause-sure
returns-in-Length-clause-sure c = sure_node a_length _ (state_of c.args.self.now) (ap state_of c.in-Length.is) c.emit-in-Length.result c.emit-in-Length.ensures.sure

pub emit-requires-in-FlagOfBool : goal.emit-requires-in-FlagOfBool
emit-requires-in-FlagOfBool c = writes_node a_flag_of_bool _ (state_of c.args.self.now) (ap state_of c.in-FlagOfBool.is) c.requires

pub returns-in-FlagOfBool-clause-ok : goal.returns-in-FlagOfBool-clause-ok
returns-in-FlagOfBool-clause-ok c = sent_node a_flag_of_bool _ (state_of c.args.self.now) (ap state_of c.in-FlagOfBool.is) _ c.emit-in-FlagOfBool.result c.emit-in-FlagOfBool.ensures.ok

pub returns-in-FlagOfBool-clause-err : goal.returns-in-FlagOfBool-clause-err
returns-in-FlagOfBool-clause-err c = kept_node a_flag_of_bool _ (state_of c.args.self.now) (ap state_of c.in-FlagOfBool.is) _ c.emit-in-FlagOfBool.result c.emit-in-FlagOfBool.ensures.err

pub returns-in-FlagOfBool-clause-sure : goal.returns-in-FlagOfBool-clause-sure
returns-in-FlagOfBool-clause-sure c = sure_node a_flag_of_bool _ (state_of c.args.self.now) (ap state_of c.in-FlagOfBool.is) c.emit-in-FlagOfBool.result c.emit-in-FlagOfBool.ensures.sure

pub emit-requires-in-TheCheck : goal.emit-requires-in-TheCheck
emit-requires-in-TheCheck c = writes_node a_the_check _ (state_of c.args.self.now) (ap state_of c.in-TheCheck.is) c.requires

pub returns-in-TheCheck-clause-ok : goal.returns-in-TheCheck-clause-ok
returns-in-TheCheck-clause-ok c = sent_node a_the_check _ (state_of c.args.self.now) (ap state_of c.in-TheCheck.is) _ c.emit-in-TheCheck.result c.emit-in-TheCheck.ensures.ok

pub returns-in-TheCheck-clause-err : goal.returns-in-TheCheck-clause-err
returns-in-TheCheck-clause-err c = kept_node a_the_check _ (state_of c.args.self.now) (ap state_of c.in-TheCheck.is) _ c.emit-in-TheCheck.result c.emit-in-TheCheck.ensures.err

pub returns-in-TheCheck-clause-sure : goal.returns-in-TheCheck-clause-sure
returns-in-TheCheck-clause-sure c = sure_node a_the_check _ (state_of c.args.self.now) (ap state_of c.in-TheCheck.is) c.emit-in-TheCheck.result c.emit-in-TheCheck.ensures.sure

pub emit-requires-in-SameFlags : goal.emit-requires-in-SameFlags
emit-requires-in-SameFlags c = writes_node a_same_flags _ (state_of c.args.self.now) (ap state_of c.in-SameFlags.is) c.requires

pub returns-in-SameFlags-clause-ok : goal.returns-in-SameFlags-clause-ok
returns-in-SameFlags-clause-ok c = sent_node a_same_flags _ (state_of c.args.self.now) (ap state_of c.in-SameFlags.is) _ c.emit-in-SameFlags.result c.emit-in-SameFlags.ensures.ok

pub returns-in-SameFlags-clause-err : goal.returns-in-SameFlags-clause-err
returns-in-SameFlags-clause-err c = kept_node a_same_flags _ (state_of c.args.self.now) (ap state_of c.in-SameFlags.is) _ c.emit-in-SameFlags.result c.emit-in-SameFlags.ensures.err

pub returns-in-SameFlags-clause-sure : goal.returns-in-SameFlags-clause-sure
returns-in-SameFlags-clause-sure c = sure_node a_same_flags _ (state_of c.args.self.now) (ap state_of c.in-SameFlags.is) c.emit-in-SameFlags.result c.emit-in-SameFlags.ensures.sure

pub emit-requires-in-ConcatFlags : goal.emit-requires-in-ConcatFlags
emit-requires-in-ConcatFlags c = writes_node a_concat_flags _ (state_of c.args.self.now) (ap state_of c.in-ConcatFlags.is) c.requires

pub returns-in-ConcatFlags-clause-ok : goal.returns-in-ConcatFlags-clause-ok
returns-in-ConcatFlags-clause-ok c = sent_node a_concat_flags _ (state_of c.args.self.now) (ap state_of c.in-ConcatFlags.is) _ c.emit-in-ConcatFlags.result c.emit-in-ConcatFlags.ensures.ok

pub returns-in-ConcatFlags-clause-err : goal.returns-in-ConcatFlags-clause-err
returns-in-ConcatFlags-clause-err c = kept_node a_concat_flags _ (state_of c.args.self.now) (ap state_of c.in-ConcatFlags.is) _ c.emit-in-ConcatFlags.result c.emit-in-ConcatFlags.ensures.err

pub returns-in-ConcatFlags-clause-sure : goal.returns-in-ConcatFlags-clause-sure
returns-in-ConcatFlags-clause-sure c = sure_node a_concat_flags _ (state_of c.args.self.now) (ap state_of c.in-ConcatFlags.is) c.emit-in-ConcatFlags.result c.emit-in-ConcatFlags.ensures.sure

pub emit-requires-in-PartFlags : goal.emit-requires-in-PartFlags
emit-requires-in-PartFlags c = writes_node a_part_flags _ (state_of c.args.self.now) (ap state_of c.in-PartFlags.is) c.requires

pub returns-in-PartFlags-clause-ok : goal.returns-in-PartFlags-clause-ok
returns-in-PartFlags-clause-ok c = sent_node a_part_flags _ (state_of c.args.self.now) (ap state_of c.in-PartFlags.is) _ c.emit-in-PartFlags.result c.emit-in-PartFlags.ensures.ok

pub returns-in-PartFlags-clause-err : goal.returns-in-PartFlags-clause-err
returns-in-PartFlags-clause-err c = kept_node a_part_flags _ (state_of c.args.self.now) (ap state_of c.in-PartFlags.is) _ c.emit-in-PartFlags.result c.emit-in-PartFlags.ensures.err

pub returns-in-PartFlags-clause-sure : goal.returns-in-PartFlags-clause-sure
returns-in-PartFlags-clause-sure c = sure_node a_part_flags _ (state_of c.args.self.now) (ap state_of c.in-PartFlags.is) c.emit-in-PartFlags.result c.emit-in-PartFlags.ensures.sure

pub emit-requires-in-AppendFlags : goal.emit-requires-in-AppendFlags
emit-requires-in-AppendFlags c = writes_node an_append_flags _ (state_of c.args.self.now) (ap state_of c.in-AppendFlags.is) c.requires

pub returns-in-AppendFlags-clause-ok : goal.returns-in-AppendFlags-clause-ok
returns-in-AppendFlags-clause-ok c = sent_node an_append_flags _ (state_of c.args.self.now) (ap state_of c.in-AppendFlags.is) _ c.emit-in-AppendFlags.result c.emit-in-AppendFlags.ensures.ok

pub returns-in-AppendFlags-clause-err : goal.returns-in-AppendFlags-clause-err
returns-in-AppendFlags-clause-err c = kept_node an_append_flags _ (state_of c.args.self.now) (ap state_of c.in-AppendFlags.is) _ c.emit-in-AppendFlags.result c.emit-in-AppendFlags.ensures.err

pub returns-in-AppendFlags-clause-sure : goal.returns-in-AppendFlags-clause-sure
returns-in-AppendFlags-clause-sure c = sure_node an_append_flags _ (state_of c.args.self.now) (ap state_of c.in-AppendFlags.is) c.emit-in-AppendFlags.result c.emit-in-AppendFlags.ensures.sure

pub emit-requires-in-Dist : goal.emit-requires-in-Dist
emit-requires-in-Dist c = writes_node a_dist _ (state_of c.args.self.now) (ap state_of c.in-Dist.is) c.requires

pub returns-in-Dist-clause-ok : goal.returns-in-Dist-clause-ok
returns-in-Dist-clause-ok c = sent_node a_dist _ (state_of c.args.self.now) (ap state_of c.in-Dist.is) _ c.emit-in-Dist.result c.emit-in-Dist.ensures.ok

pub returns-in-Dist-clause-err : goal.returns-in-Dist-clause-err
returns-in-Dist-clause-err c = kept_node a_dist _ (state_of c.args.self.now) (ap state_of c.in-Dist.is) _ c.emit-in-Dist.result c.emit-in-Dist.ensures.err

pub returns-in-Dist-clause-sure : goal.returns-in-Dist-clause-sure
returns-in-Dist-clause-sure c = sure_node a_dist _ (state_of c.args.self.now) (ap state_of c.in-Dist.is) c.emit-in-Dist.result c.emit-in-Dist.ensures.sure

pub emit-requires-in-Pack : goal.emit-requires-in-Pack
emit-requires-in-Pack c = writes_node a_pack _ (state_of c.args.self.now) (ap state_of c.in-Pack.is) c.requires

pub returns-in-Pack-clause-ok : goal.returns-in-Pack-clause-ok
returns-in-Pack-clause-ok c = sent_node a_pack _ (state_of c.args.self.now) (ap state_of c.in-Pack.is) _ c.emit-in-Pack.result c.emit-in-Pack.ensures.ok

pub returns-in-Pack-clause-err : goal.returns-in-Pack-clause-err
returns-in-Pack-clause-err c = kept_node a_pack _ (state_of c.args.self.now) (ap state_of c.in-Pack.is) _ c.emit-in-Pack.result c.emit-in-Pack.ensures.err

pub returns-in-Pack-clause-sure : goal.returns-in-Pack-clause-sure
returns-in-Pack-clause-sure c = sure_node a_pack _ (state_of c.args.self.now) (ap state_of c.in-Pack.is) c.emit-in-Pack.result c.emit-in-Pack.ensures.sure

pub emit-requires-in-PackGroups : goal.emit-requires-in-PackGroups
emit-requires-in-PackGroups c = writes_node a_pack_groups _ (state_of c.args.self.now) (ap state_of c.in-PackGroups.is) c.requires

pub returns-in-PackGroups-clause-ok : goal.returns-in-PackGroups-clause-ok
returns-in-PackGroups-clause-ok c = sent_node a_pack_groups _ (state_of c.args.self.now) (ap state_of c.in-PackGroups.is) _ c.emit-in-PackGroups.result c.emit-in-PackGroups.ensures.ok

pub returns-in-PackGroups-clause-err : goal.returns-in-PackGroups-clause-err
returns-in-PackGroups-clause-err c = kept_node a_pack_groups _ (state_of c.args.self.now) (ap state_of c.in-PackGroups.is) _ c.emit-in-PackGroups.result c.emit-in-PackGroups.ensures.err

pub returns-in-PackGroups-clause-sure : goal.returns-in-PackGroups-clause-sure
returns-in-PackGroups-clause-sure c = sure_node a_pack_groups _ (state_of c.args.self.now) (ap state_of c.in-PackGroups.is) c.emit-in-PackGroups.result c.emit-in-PackGroups.ensures.sure

pub emit-requires-in-Interleave : goal.emit-requires-in-Interleave
emit-requires-in-Interleave c = writes_node an_interleave _ (state_of c.args.self.now) (ap state_of c.in-Interleave.is) c.requires

pub returns-in-Interleave-clause-ok : goal.returns-in-Interleave-clause-ok
returns-in-Interleave-clause-ok c = sent_node an_interleave _ (state_of c.args.self.now) (ap state_of c.in-Interleave.is) _ c.emit-in-Interleave.result c.emit-in-Interleave.ensures.ok

pub returns-in-Interleave-clause-err : goal.returns-in-Interleave-clause-err
returns-in-Interleave-clause-err c = kept_node an_interleave _ (state_of c.args.self.now) (ap state_of c.in-Interleave.is) _ c.emit-in-Interleave.result c.emit-in-Interleave.ensures.err

pub returns-in-Interleave-clause-sure : goal.returns-in-Interleave-clause-sure
returns-in-Interleave-clause-sure c = sure_node an_interleave _ (state_of c.args.self.now) (ap state_of c.in-Interleave.is) c.emit-in-Interleave.result c.emit-in-Interleave.ensures.sure

pub emit-requires-in-InterleaveGroups : goal.emit-requires-in-InterleaveGroups
emit-requires-in-InterleaveGroups c = writes_node an_interleave_groups _ (state_of c.args.self.now) (ap state_of c.in-InterleaveGroups.is) c.requires

pub returns-in-InterleaveGroups-clause-ok : goal.returns-in-InterleaveGroups-clause-ok
returns-in-InterleaveGroups-clause-ok c =
    sent_node an_interleave_groups _ (state_of c.args.self.now) (ap state_of c.in-InterleaveGroups.is) _ c.emit-in-InterleaveGroups.result
    c.emit-in-InterleaveGroups.ensures.ok

pub returns-in-InterleaveGroups-clause-err : goal.returns-in-InterleaveGroups-clause-err
returns-in-InterleaveGroups-clause-err c =
    kept_node an_interleave_groups _ (state_of c.args.self.now) (ap state_of c.in-InterleaveGroups.is) _ c.emit-in-InterleaveGroups.result
    c.emit-in-InterleaveGroups.ensures.err

pub returns-in-InterleaveGroups-clause-sure : goal.returns-in-InterleaveGroups-clause-sure
returns-in-InterleaveGroups-clause-sure c =
    sure_node an_interleave_groups _ (state_of c.args.self.now) (ap state_of c.in-InterleaveGroups.is) c.emit-in-InterleaveGroups.result
    c.emit-in-InterleaveGroups.ensures.sure

pub returns-in-Print-clause-ok : goal.returns-in-Print-clause-ok
returns-in-Print-clause-ok c = sent_node a_print _ (state_of c.args.self.now) (ap state_of c.in-Print.is) _ c.emit-in-Print.result c.emit-in-Print.ensures.ok

pub returns-in-Print-clause-err : goal.returns-in-Print-clause-err
returns-in-Print-clause-err c = kept_node a_print _ (state_of c.args.self.now) (ap state_of c.in-Print.is) _ c.emit-in-Print.result c.emit-in-Print.ensures.err

pub returns-in-Print-clause-sure : goal.returns-in-Print-clause-sure
returns-in-Print-clause-sure c = sure_node a_print _ (state_of c.args.self.now) (ap state_of c.in-Print.is) c.emit-in-Print.result c.emit-in-Print.ensures.sure

pub emit-requires-in-Tab : goal.emit-requires-in-Tab
emit-requires-in-Tab c = writes_node a_tab _ (state_of c.args.self.now) (ap state_of c.in-Tab.is) c.requires

pub returns-in-Tab-clause-ok : goal.returns-in-Tab-clause-ok
returns-in-Tab-clause-ok c = sent_node a_tab _ (state_of c.args.self.now) (ap state_of c.in-Tab.is) _ c.emit-in-Tab.result c.emit-in-Tab.ensures.ok

pub returns-in-Tab-clause-err : goal.returns-in-Tab-clause-err
returns-in-Tab-clause-err c = kept_node a_tab _ (state_of c.args.self.now) (ap state_of c.in-Tab.is) _ c.emit-in-Tab.result c.emit-in-Tab.ensures.err

pub returns-in-Tab-clause-sure : goal.returns-in-Tab-clause-sure
returns-in-Tab-clause-sure c = sure_node a_tab _ (state_of c.args.self.now) (ap state_of c.in-Tab.is) c.emit-in-Tab.result c.emit-in-Tab.ensures.sure

pub emit-requires-in-Seq : goal.emit-requires-in-Seq
emit-requires-in-Seq c = writes_node a_seq_of_vector _ (state_of c.args.self.now) (ap state_of c.in-Seq.is) c.requires

pub returns-in-Seq-clause-ok : goal.returns-in-Seq-clause-ok
returns-in-Seq-clause-ok c = sent_node a_seq_of_vector _ (state_of c.args.self.now) (ap state_of c.in-Seq.is) _ c.emit-in-Seq.result c.emit-in-Seq.ensures.ok

pub returns-in-Seq-clause-err : goal.returns-in-Seq-clause-err
returns-in-Seq-clause-err c = kept_node a_seq_of_vector _ (state_of c.args.self.now) (ap state_of c.in-Seq.is) _ c.emit-in-Seq.result c.emit-in-Seq.ensures.err

pub returns-in-Seq-clause-sure : goal.returns-in-Seq-clause-sure
returns-in-Seq-clause-sure c = sure_node a_seq_of_vector _ (state_of c.args.self.now) (ap state_of c.in-Seq.is) c.emit-in-Seq.result c.emit-in-Seq.ensures.sure

pub emit-requires-in-Index : goal.emit-requires-in-Index
emit-requires-in-Index c = writes_node an_index _ (state_of c.args.self.now) (ap state_of c.in-Index.is) c.requires

pub returns-in-Index-clause-ok : goal.returns-in-Index-clause-ok
returns-in-Index-clause-ok c = sent_node an_index _ (state_of c.args.self.now) (ap state_of c.in-Index.is) _ c.emit-in-Index.result c.emit-in-Index.ensures.ok

pub returns-in-Index-clause-err : goal.returns-in-Index-clause-err
returns-in-Index-clause-err c = kept_node an_index _ (state_of c.args.self.now) (ap state_of c.in-Index.is) _ c.emit-in-Index.result c.emit-in-Index.ensures.err

pub returns-in-Index-clause-sure : goal.returns-in-Index-clause-sure
returns-in-Index-clause-sure c = sure_node an_index _ (state_of c.args.self.now) (ap state_of c.in-Index.is) c.emit-in-Index.result c.emit-in-Index.ensures.sure
