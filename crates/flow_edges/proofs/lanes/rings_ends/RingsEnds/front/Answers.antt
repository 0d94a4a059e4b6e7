use Rattle.flow_messages.proofs.Tables.{if_some}
use Rattle.flow_edges.specs.lanes.Rings.{reads_of}
use Rattle.flow_edges.proofs.OfLanes.RingLines.{at_line-there, reader-front}
use Rattle.flow_edges.proofs.lanes.rings_ends.RingsEnds.front.Goals as goal

pub returns : goal.returns
returns c =
    let rs = c.args.self.now.readers.items in
    let r = c.in-Some.reader in
    if_some _ _ c.front.result
    (λ m first. reader-front c.args.self.now.writers.items rs c.args.edge _ r r (at_line-there reads_of rs c.args.edge c.requires) c.index.ensures
    c.in-Some.is m.now first) c.front.ensures
