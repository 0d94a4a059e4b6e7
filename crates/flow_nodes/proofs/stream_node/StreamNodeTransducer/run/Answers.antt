use Rattle.std.proofs.Common.{ap}
use Rattle.flow_nodes.specs.StreamNodes.{state_of, a_source, a_const, a_unary, a_binary, a_fork, a_sink, an_iota, a_units_of, a_scan_add, a_reduce}
use Rattle.flow_nodes.specs.StreamNodes.{a_length, a_flag_of_bool, a_the_check, a_same_flags, a_concat_flags, a_part_flags, an_append_flags, a_dist}
use Rattle.flow_nodes.specs.StreamNodes.{a_pack, a_pack_groups, an_interleave, an_interleave_groups, a_print, a_tab, a_seq_of_vector, an_index}
use Rattle.flow_nodes.proofs.NodeVisits.{placed_node, visited_node, broke_node}
use Rattle.flow_nodes.proofs.stream_node.StreamNodeTransducer.run.Goals as goal

pub run-requires-clause-placed : goal.run-requires-clause-placed
run-requires-clause-placed g c = placed_node a_source _ (state_of c.args.self.now) (ap state_of c.in-Source.is) c.requires.placed

pub returns-in-Source-clause-visited : goal.returns-in-Source-clause-visited
returns-in-Source-clause-visited g c = visited_node _ _ a_source _ _ _ _ (state_of c.args.self.now) c.run.result (ap state_of c.in-Source.is) c.run.ensures.visited

pub returns-in-Source-clause-broke : goal.returns-in-Source-clause-broke
returns-in-Source-clause-broke g c = broke_node _ _ a_source _ _ _ _ (state_of c.args.self.now) c.run.result (ap state_of c.in-Source.is) c.run.ensures.broke

pub run-requires-in-TextSource-clause-placed : goal.run-requires-in-TextSource-clause-placed
run-requires-in-TextSource-clause-placed g c = placed_node a_source _ (state_of c.args.self.now) (ap state_of c.in-TextSource.is) c.requires.placed

pub returns-in-TextSource-clause-visited : goal.returns-in-TextSource-clause-visited
returns-in-TextSource-clause-visited g c = visited_node _ _ a_source _ _ _ _ (state_of c.args.self.now) c.run-in-TextSource.result (ap state_of c.in-TextSource.is) c.run-in-TextSource.ensures.visited

pub returns-in-TextSource-clause-broke : goal.returns-in-TextSource-clause-broke
returns-in-TextSource-clause-broke g c = broke_node _ _ a_source _ _ _ _ (state_of c.args.self.now) c.run-in-TextSource.result (ap state_of c.in-TextSource.is) c.run-in-TextSource.ensures.broke

pub run-requires-in-Const-clause-placed : goal.run-requires-in-Const-clause-placed
run-requires-in-Const-clause-placed g c = placed_node a_const _ (state_of c.args.self.now) (ap state_of c.in-Const.is) c.requires.placed

pub returns-in-Const-clause-visited : goal.returns-in-Const-clause-visited
returns-in-Const-clause-visited g c = visited_node _ _ a_const _ _ _ _ (state_of c.args.self.now) c.run-in-Const.result (ap state_of c.in-Const.is) c.run-in-Const.ensures.visited

pub run-requires-in-Unary-clause-placed : goal.run-requires-in-Unary-clause-placed
run-requires-in-Unary-clause-placed g c = placed_node a_unary _ (state_of c.args.self.now) (ap state_of c.in-Unary.is) c.requires.placed

pub returns-in-Unary-clause-visited : goal.returns-in-Unary-clause-visited
returns-in-Unary-clause-visited g c = visited_node _ _ a_unary _ _ _ _ (state_of c.args.self.now) c.run-in-Unary.result (ap state_of c.in-Unary.is) c.run-in-Unary.ensures.visited

pub run-requires-in-Binary-clause-placed : goal.run-requires-in-Binary-clause-placed
run-requires-in-Binary-clause-placed g c = placed_node a_binary _ (state_of c.args.self.now) (ap state_of c.in-Binary.is) c.requires.placed

pub returns-in-Binary-clause-visited : goal.returns-in-Binary-clause-visited
returns-in-Binary-clause-visited g c = visited_node _ _ a_binary _ _ _ _ (state_of c.args.self.now) c.run-in-Binary.result (ap state_of c.in-Binary.is) c.run-in-Binary.ensures.visited

pub run-requires-in-Fork-clause-placed : goal.run-requires-in-Fork-clause-placed
run-requires-in-Fork-clause-placed g c = placed_node a_fork _ (state_of c.args.self.now) (ap state_of c.in-Fork.is) c.requires.placed

pub returns-in-Fork-clause-visited : goal.returns-in-Fork-clause-visited
returns-in-Fork-clause-visited g c = visited_node _ _ a_fork _ _ _ _ (state_of c.args.self.now) c.run-in-Fork.result (ap state_of c.in-Fork.is) c.run-in-Fork.ensures.visited

pub returns-in-Fork-clause-broke : goal.returns-in-Fork-clause-broke
returns-in-Fork-clause-broke g c = broke_node _ _ a_fork _ _ _ _ (state_of c.args.self.now) c.run-in-Fork.result (ap state_of c.in-Fork.is) c.run-in-Fork.ensures.broke

pub run-requires-in-Sink-clause-placed : goal.run-requires-in-Sink-clause-placed
run-requires-in-Sink-clause-placed g c = placed_node a_sink _ (state_of c.args.self.now) (ap state_of c.in-Sink.is) c.requires.placed

pub returns-in-Sink-clause-visited : goal.returns-in-Sink-clause-visited
returns-in-Sink-clause-visited g c = visited_node _ _ a_sink _ _ _ _ (state_of c.args.self.now) c.run-in-Sink.result (ap state_of c.in-Sink.is) c.run-in-Sink.ensures.visited

pub run-requires-in-Iota-clause-placed : goal.run-requires-in-Iota-clause-placed
run-requires-in-Iota-clause-placed g c = placed_node an_iota _ (state_of c.args.self.now) (ap state_of c.in-Iota.is) c.requires.placed

pub returns-in-Iota-clause-visited : goal.returns-in-Iota-clause-visited
returns-in-Iota-clause-visited g c = visited_node _ _ an_iota _ _ _ _ (state_of c.args.self.now) c.run-in-Iota.result (ap state_of c.in-Iota.is) c.run-in-Iota.ensures.visited

pub run-requires-in-UnitsOf-clause-placed : goal.run-requires-in-UnitsOf-clause-placed
run-requires-in-UnitsOf-clause-placed g c = placed_node a_units_of _ (state_of c.args.self.now) (ap state_of c.in-UnitsOf.is) c.requires.placed

pub returns-in-UnitsOf-clause-visited : goal.returns-in-UnitsOf-clause-visited
returns-in-UnitsOf-clause-visited g c = visited_node _ _ a_units_of _ _ _ _ (state_of c.args.self.now) c.run-in-UnitsOf.result (ap state_of c.in-UnitsOf.is) c.run-in-UnitsOf.ensures.visited

pub run-requires-in-ScanAdd-clause-placed : goal.run-requires-in-ScanAdd-clause-placed
run-requires-in-ScanAdd-clause-placed g c = placed_node a_scan_add _ (state_of c.args.self.now) (ap state_of c.in-ScanAdd.is) c.requires.placed

pub returns-in-ScanAdd-clause-visited : goal.returns-in-ScanAdd-clause-visited
returns-in-ScanAdd-clause-visited g c = visited_node _ _ a_scan_add _ _ _ _ (state_of c.args.self.now) c.run-in-ScanAdd.result (ap state_of c.in-ScanAdd.is) c.run-in-ScanAdd.ensures.visited

pub run-requires-in-Reduce-clause-placed : goal.run-requires-in-Reduce-clause-placed
run-requires-in-Reduce-clause-placed g c = placed_node a_reduce _ (state_of c.args.self.now) (ap state_of c.in-Reduce.is) c.requires.placed

pub returns-in-Reduce-clause-visited : goal.returns-in-Reduce-clause-visited
returns-in-Reduce-clause-visited g c = visited_node _ _ a_reduce _ _ _ _ (state_of c.args.self.now) c.run-in-Reduce.result (ap state_of c.in-Reduce.is) c.run-in-Reduce.ensures.visited

pub run-requires-in-Length-clause-placed : goal.run-requires-in-Length-clause-placed
run-requires-in-Length-clause-placed g c = placed_node a_length _ (state_of c.args.self.now) (ap state_of c.in-Length.is) c.requires.placed

pub returns-in-Length-clause-visited : goal.returns-in-Length-clause-visited
returns-in-Length-clause-visited g c = visited_node _ _ a_length _ _ _ _ (state_of c.args.self.now) c.run-in-Length.result (ap state_of c.in-Length.is) c.run-in-Length.ensures.visited

pub run-requires-in-FlagOfBool-clause-placed : goal.run-requires-in-FlagOfBool-clause-placed
run-requires-in-FlagOfBool-clause-placed g c = placed_node a_flag_of_bool _ (state_of c.args.self.now) (ap state_of c.in-FlagOfBool.is) c.requires.placed

pub returns-in-FlagOfBool-clause-visited : goal.returns-in-FlagOfBool-clause-visited
returns-in-FlagOfBool-clause-visited g c =
    visited_node _ _ a_flag_of_bool _ _ _ _ (state_of c.args.self.now) c.run-in-FlagOfBool.result (ap state_of c.in-FlagOfBool.is)
    c.run-in-FlagOfBool.ensures.visited

pub run-requires-in-TheCheck-clause-placed : goal.run-requires-in-TheCheck-clause-placed
run-requires-in-TheCheck-clause-placed g c = placed_node a_the_check _ (state_of c.args.self.now) (ap state_of c.in-TheCheck.is) c.requires.placed

pub returns-in-TheCheck-clause-visited : goal.returns-in-TheCheck-clause-visited
returns-in-TheCheck-clause-visited g c = visited_node _ _ a_the_check _ _ _ _ (state_of c.args.self.now) c.run-in-TheCheck.result (ap state_of c.in-TheCheck.is) c.run-in-TheCheck.ensures.visited

pub run-requires-in-SameFlags-clause-placed : goal.run-requires-in-SameFlags-clause-placed
run-requires-in-SameFlags-clause-placed g c = placed_node a_same_flags _ (state_of c.args.self.now) (ap state_of c.in-SameFlags.is) c.requires.placed

pub returns-in-SameFlags-clause-visited : goal.returns-in-SameFlags-clause-visited
returns-in-SameFlags-clause-visited g c = visited_node _ _ a_same_flags _ _ _ _ (state_of c.args.self.now) c.run-in-SameFlags.result (ap state_of c.in-SameFlags.is) c.run-in-SameFlags.ensures.visited

pub run-requires-in-ConcatFlags-clause-placed : goal.run-requires-in-ConcatFlags-clause-placed
run-requires-in-ConcatFlags-clause-placed g c = placed_node a_concat_flags _ (state_of c.args.self.now) (ap state_of c.in-ConcatFlags.is) c.requires.placed

pub returns-in-ConcatFlags-clause-visited : goal.returns-in-ConcatFlags-clause-visited
returns-in-ConcatFlags-clause-visited g c =
    visited_node _ _ a_concat_flags _ _ _ _ (state_of c.args.self.now) c.run-in-ConcatFlags.result (ap state_of c.in-ConcatFlags.is)
    c.run-in-ConcatFlags.ensures.visited

pub run-requires-in-PartFlags-clause-placed : goal.run-requires-in-PartFlags-clause-placed
run-requires-in-PartFlags-clause-placed g c = placed_node a_part_flags _ (state_of c.args.self.now) (ap state_of c.in-PartFlags.is) c.requires.placed

pub returns-in-PartFlags-clause-visited : goal.returns-in-PartFlags-clause-visited
returns-in-PartFlags-clause-visited g c = visited_node _ _ a_part_flags _ _ _ _ (state_of c.args.self.now) c.run-in-PartFlags.result (ap state_of c.in-PartFlags.is) c.run-in-PartFlags.ensures.visited

pub run-requires-in-AppendFlags-clause-placed : goal.run-requires-in-AppendFlags-clause-placed
run-requires-in-AppendFlags-clause-placed g c = placed_node an_append_flags _ (state_of c.args.self.now) (ap state_of c.in-AppendFlags.is) c.requires.placed

pub returns-in-AppendFlags-clause-visited : goal.returns-in-AppendFlags-clause-visited
returns-in-AppendFlags-clause-visited g c =
    visited_node _ _ an_append_flags _ _ _ _ (state_of c.args.self.now) c.run-in-AppendFlags.result (ap state_of c.in-AppendFlags.is)
    c.run-in-AppendFlags.ensures.visited

pub run-requires-in-Dist-clause-placed : goal.run-requires-in-Dist-clause-placed
run-requires-in-Dist-clause-placed g c = placed_node a_dist _ (state_of c.args.self.now) (ap state_of c.in-Dist.is) c.requires.placed

pub returns-in-Dist-clause-visited : goal.returns-in-Dist-clause-visited
returns-in-Dist-clause-visited g c = visited_node _ _ a_dist _ _ _ _ (state_of c.args.self.now) c.run-in-Dist.result (ap state_of c.in-Dist.is) c.run-in-Dist.ensures.visited

pub returns-in-Dist-clause-broke : goal.returns-in-Dist-clause-broke
returns-in-Dist-clause-broke g c = broke_node _ _ a_dist _ _ _ _ (state_of c.args.self.now) c.run-in-Dist.result (ap state_of c.in-Dist.is) c.run-in-Dist.ensures.broke

pub run-requires-in-Pack-clause-placed : goal.run-requires-in-Pack-clause-placed
run-requires-in-Pack-clause-placed g c = placed_node a_pack _ (state_of c.args.self.now) (ap state_of c.in-Pack.is) c.requires.placed

pub returns-in-Pack-clause-visited : goal.returns-in-Pack-clause-visited
returns-in-Pack-clause-visited g c = visited_node _ _ a_pack _ _ _ _ (state_of c.args.self.now) c.run-in-Pack.result (ap state_of c.in-Pack.is) c.run-in-Pack.ensures.visited

pub run-requires-in-PackGroups-clause-placed : goal.run-requires-in-PackGroups-clause-placed
run-requires-in-PackGroups-clause-placed g c = placed_node a_pack_groups _ (state_of c.args.self.now) (ap state_of c.in-PackGroups.is) c.requires.placed

pub returns-in-PackGroups-clause-visited : goal.returns-in-PackGroups-clause-visited
returns-in-PackGroups-clause-visited g c =
    visited_node _ _ a_pack_groups _ _ _ _ (state_of c.args.self.now) c.run-in-PackGroups.result (ap state_of c.in-PackGroups.is)
    c.run-in-PackGroups.ensures.visited

pub run-requires-in-Interleave-clause-placed : goal.run-requires-in-Interleave-clause-placed
run-requires-in-Interleave-clause-placed g c = placed_node an_interleave _ (state_of c.args.self.now) (ap state_of c.in-Interleave.is) c.requires.placed

pub returns-in-Interleave-clause-visited : goal.returns-in-Interleave-clause-visited
returns-in-Interleave-clause-visited g c =
    visited_node _ _ an_interleave _ _ _ _ (state_of c.args.self.now) c.run-in-Interleave.result (ap state_of c.in-Interleave.is)
    c.run-in-Interleave.ensures.visited

pub run-requires-in-InterleaveGroups-clause-placed : goal.run-requires-in-InterleaveGroups-clause-placed
run-requires-in-InterleaveGroups-clause-placed g c = placed_node an_interleave_groups _ (state_of c.args.self.now) (ap state_of c.in-InterleaveGroups.is) c.requires.placed

pub returns-in-InterleaveGroups-clause-visited : goal.returns-in-InterleaveGroups-clause-visited
returns-in-InterleaveGroups-clause-visited g c =
    visited_node _ _ an_interleave_groups _ _ _ _ (state_of c.args.self.now) c.run-in-InterleaveGroups.result (ap state_of c.in-InterleaveGroups.is)
    c.run-in-InterleaveGroups.ensures.visited

pub run-requires-in-Print-clause-placed : goal.run-requires-in-Print-clause-placed
run-requires-in-Print-clause-placed g c = placed_node a_print _ (state_of c.args.self.now) (ap state_of c.in-Print.is) c.requires.placed

pub returns-in-Print-clause-visited : goal.returns-in-Print-clause-visited
returns-in-Print-clause-visited g c = visited_node _ _ a_print _ _ _ _ (state_of c.args.self.now) c.run-in-Print.result (ap state_of c.in-Print.is) c.run-in-Print.ensures.visited

pub returns-in-Print-clause-broke : goal.returns-in-Print-clause-broke
returns-in-Print-clause-broke g c = broke_node _ _ a_print _ _ _ _ (state_of c.args.self.now) c.run-in-Print.result (ap state_of c.in-Print.is) c.run-in-Print.ensures.broke

pub run-requires-in-Tab-clause-placed : goal.run-requires-in-Tab-clause-placed
run-requires-in-Tab-clause-placed g c = placed_node a_tab _ (state_of c.args.self.now) (ap state_of c.in-Tab.is) c.requires.placed

pub returns-in-Tab-clause-visited : goal.returns-in-Tab-clause-visited
returns-in-Tab-clause-visited g c = visited_node _ _ a_tab _ _ _ _ (state_of c.args.self.now) c.run-in-Tab.result (ap state_of c.in-Tab.is) c.run-in-Tab.ensures.visited

pub returns-in-Tab-clause-broke : goal.returns-in-Tab-clause-broke
returns-in-Tab-clause-broke g c = broke_node _ _ a_tab _ _ _ _ (state_of c.args.self.now) c.run-in-Tab.result (ap state_of c.in-Tab.is) c.run-in-Tab.ensures.broke

pub run-requires-in-Seq-clause-placed : goal.run-requires-in-Seq-clause-placed
run-requires-in-Seq-clause-placed g c = placed_node a_seq_of_vector _ (state_of c.args.self.now) (ap state_of c.in-Seq.is) c.requires.placed

pub returns-in-Seq-clause-visited : goal.returns-in-Seq-clause-visited
returns-in-Seq-clause-visited g c = visited_node _ _ a_seq_of_vector _ _ _ _ (state_of c.args.self.now) c.run-in-Seq.result (ap state_of c.in-Seq.is) c.run-in-Seq.ensures.visited

pub returns-in-Seq-clause-broke : goal.returns-in-Seq-clause-broke
returns-in-Seq-clause-broke g c = broke_node _ _ a_seq_of_vector _ _ _ _ (state_of c.args.self.now) c.run-in-Seq.result (ap state_of c.in-Seq.is) c.run-in-Seq.ensures.broke

pub run-requires-in-Index-clause-placed : goal.run-requires-in-Index-clause-placed
run-requires-in-Index-clause-placed g c = placed_node an_index _ (state_of c.args.self.now) (ap state_of c.in-Index.is) c.requires.placed

pub returns-in-Index-clause-visited : goal.returns-in-Index-clause-visited
returns-in-Index-clause-visited g c = visited_node _ _ an_index _ _ _ _ (state_of c.args.self.now) c.run-in-Index.result (ap state_of c.in-Index.is) c.run-in-Index.ensures.visited

pub returns-in-Index-clause-broke : goal.returns-in-Index-clause-broke
returns-in-Index-clause-broke g c = broke_node _ _ an_index _ _ _ _ (state_of c.args.self.now) c.run-in-Index.result (ap state_of c.in-Index.is) c.run-in-Index.ensures.broke
