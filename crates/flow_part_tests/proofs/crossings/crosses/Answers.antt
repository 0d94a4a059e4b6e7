use Rattle.flow_messages.specs.declared.message.Kind.TheVariants.{Int as IntKind}
use Rattle.flow_messages.proofs.Fitting.{kind_fits}
use Rattle.flow_edges.proofs.OfLanes.Meetings.{joins-seen}
use Rattle.flow_edges.specs.lanes.Rings.{ends_of}
use Rattle.flow_part_tests.proofs.crossings.crosses.Goals as goal

pub put-requires-clause-fits : goal.put-requires-clause-fits
put-requires-clause-fits c =
    let e = c.args.edge in
    let there = joins-seen c.args.from.now c.args.to.now e c.requires.joined in
    kind_fits ((ends_of c.args.from.now).kind e) IntKind _ (c.requires.takes e there.0) c.requires.fits
