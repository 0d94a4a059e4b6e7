use Rattle.flow_messages.specs.declared.message.Kind.TheVariants.{Int as IntKind}
use Rattle.flow_messages.proofs.Fitting.{kind_fits}
use Rattle.flow_part_tests.proofs.courses.puts_scalars.Goals as goal

pub put_block-requires-clause-fit : goal.put_block-requires-clause-fit
put_block-requires-clause-fit g c =
    let view = g.E.Ends.view c.args.ends.now in
    λ k d low. kind_fits (view.kind c.args.edge) IntKind _ c.requires.takes (c.block-put.ensures.fit k d low)
