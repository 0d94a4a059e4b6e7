use Rattle.std.proofs.Common.{rules, ◌≡◌}
use Rattle.flow_samples.proofs.BlocksOfKind.{may_come}
use Rattle.flow_node_tests.proofs.passing.holds.Goals as goal

pub pass-requires : goal.pass-requires
pass-requires g c =
    let reads : g.T.Transducer.behaviour.kind_in (g.T.Transducer.state c.args.node.now) 0 ≡ c.args.row.kind = search rules in
    may_come _ c.args.row.kind c.block-read.result.items reads c.block-read.ensures.fit c.block-read.ensures.last
