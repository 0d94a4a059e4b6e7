use Rattle.std.proofs.Common.{rules}
use Rattle.flow_messages.proofs.Fitting.{kind_fits}
use Rattle.flow_node_tests.proofs.block_steps.puts.Goals as goal

pub put_block-requires-clause-fit : goal.put_block-requires-clause-fit
put_block-requires-clause-fit g c =
    let view = g.E.Ends.view c.args.ends.now in
    λ k d low. kind_fits (view.kind c.args.edge) c.args.kind _ (search rules) (c.block-put.ensures.fit k d low)
