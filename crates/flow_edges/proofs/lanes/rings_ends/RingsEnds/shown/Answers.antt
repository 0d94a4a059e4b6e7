use Rattle.flow_edges.specs.lanes.Rings.{reads_of}
use Rattle.flow_edges.proofs.OfLanes.RingLines.{at_line-there, reader-shown}
use Rattle.flow_edges.proofs.lanes.rings_ends.RingsEnds.shown.Goals as goal

pub returns : goal.returns
returns c =
    let s = c.args.self.now in
    let r = c.in-Some.reader in
    reader-shown s.writers.items s.readers.items c.args.edge _ r r (at_line-there reads_of s.readers.items c.args.edge c.requires) c.index.ensures c.in-Some.is c.shown.result c.shown.ensures
