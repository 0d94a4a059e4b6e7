use Rattle.std.proofs.Common.{ap}
use Rattle.flow_nodes.specs.StreamNodes.{state_of, a_const, a_sink, a_units_of, a_fork}
use Rattle.flow_nodes.proofs.NodePasses.{come_node, passed_node, stays_node, exact_node}
use Rattle.flow_nodes.proofs.stream_node.StreamNodeTransducer.pass.Goals as goal

pub pass-requires : goal.pass-requires
pass-requires c = come_node a_const _ (state_of c.args.self.now) (ap state_of c.in-Const.is) c.requires

pub returns-in-Const-clause-passed : goal.returns-in-Const-clause-passed
returns-in-Const-clause-passed c = passed_node a_const _ (state_of c.args.self.now) (ap state_of c.in-Const.is) _ c.pass.result c.pass.ensures.passed

pub returns-in-Const-clause-kept : goal.returns-in-Const-clause-kept
returns-in-Const-clause-kept c = stays_node a_const _ (state_of c.args.self.now) (ap state_of c.in-Const.is) _ c.pass.result c.pass.ensures.kept

pub returns-in-Const-clause-exact : goal.returns-in-Const-clause-exact
returns-in-Const-clause-exact c = exact_node a_const _ (state_of c.args.self.now) (ap state_of c.in-Const.is) c.pass.result c.pass.ensures.exact

pub pass-requires-in-Sink : goal.pass-requires-in-Sink
pass-requires-in-Sink c = come_node a_sink _ (state_of c.args.self.now) (ap state_of c.in-Sink.is) c.requires

pub returns-in-Sink-clause-passed : goal.returns-in-Sink-clause-passed
returns-in-Sink-clause-passed c = passed_node a_sink _ (state_of c.args.self.now) (ap state_of c.in-Sink.is) _ c.pass-in-Sink.result c.pass-in-Sink.ensures.passed

pub returns-in-Sink-clause-kept : goal.returns-in-Sink-clause-kept
returns-in-Sink-clause-kept c = stays_node a_sink _ (state_of c.args.self.now) (ap state_of c.in-Sink.is) _ c.pass-in-Sink.result c.pass-in-Sink.ensures.kept

pub returns-in-Sink-clause-exact : goal.returns-in-Sink-clause-exact
returns-in-Sink-clause-exact c = exact_node a_sink _ (state_of c.args.self.now) (ap state_of c.in-Sink.is) c.pass-in-Sink.result c.pass-in-Sink.ensures.exact

pub pass-requires-in-UnitsOf : goal.pass-requires-in-UnitsOf
pass-requires-in-UnitsOf c = come_node a_units_of _ (state_of c.args.self.now) (ap state_of c.in-UnitsOf.is) c.requires

pub returns-in-UnitsOf-clause-passed : goal.returns-in-UnitsOf-clause-passed
returns-in-UnitsOf-clause-passed c = passed_node a_units_of _ (state_of c.args.self.now) (ap state_of c.in-UnitsOf.is) _ c.pass-in-UnitsOf.result c.pass-in-UnitsOf.ensures.passed

pub returns-in-UnitsOf-clause-kept : goal.returns-in-UnitsOf-clause-kept
returns-in-UnitsOf-clause-kept c = stays_node a_units_of _ (state_of c.args.self.now) (ap state_of c.in-UnitsOf.is) _ c.pass-in-UnitsOf.result c.pass-in-UnitsOf.ensures.kept

pub returns-in-UnitsOf-clause-exact : goal.returns-in-UnitsOf-clause-exact
returns-in-UnitsOf-clause-exact c = exact_node a_units_of _ (state_of c.args.self.now) (ap state_of c.in-UnitsOf.is) c.pass-in-UnitsOf.result c.pass-in-UnitsOf.ensures.exact

pub pass-requires-in-Fork : goal.pass-requires-in-Fork
pass-requires-in-Fork c = come_node a_fork _ (state_of c.args.self.now) (ap state_of c.in-Fork.is) c.requires

pub returns-in-Fork-clause-passed : goal.returns-in-Fork-clause-passed
returns-in-Fork-clause-passed c = passed_node a_fork _ (state_of c.args.self.now) (ap state_of c.in-Fork.is) _ c.pass-in-Fork.result c.pass-in-Fork.ensures.passed

pub returns-in-Fork-clause-kept : goal.returns-in-Fork-clause-kept
returns-in-Fork-clause-kept c = stays_node a_fork _ (state_of c.args.self.now) (ap state_of c.in-Fork.is) _ c.pass-in-Fork.result c.pass-in-Fork.ensures.kept

pub returns-in-Fork-clause-exact : goal.returns-in-Fork-clause-exact
returns-in-Fork-clause-exact c = exact_node a_fork _ (state_of c.args.self.now) (ap state_of c.in-Fork.is) c.pass-in-Fork.result c.pass-in-Fork.ensures.exact
