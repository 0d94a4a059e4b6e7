use Rattle.std.proofs.Common.{sym, subst}
use Rattle.std.specs.Prelude.{IsTrue, ◌↔◌}
use Rattle.flow_messages.specs.Kinds.{TakesKind}
use Rattle.flow_edges.specs.lanes.SameLanes.{same_writer_refl}
use Rattle.flow_edges.specs.lanes.Rings.{writes_of}
use Rattle.flow_edges.proofs.OfLanes.RingLines.{at_line-there, had_kind}
use Rattle.flow_edges.proofs.lanes.rings_ends.RingsEnds.takes.Goals as goal

pub returns : goal.returns
returns c =
    let ws = c.args.self.now.writers.items in
    let w = c.in-Some.writer in
    let kind = had_kind ws c.args.self.now.readers.items c.args.edge _ w w (at_line-there writes_of ws c.args.edge c.requires) c.index.ensures c.in-Some.is (same_writer_refl w) in
    subst (λ of. IsTrue c.takes.result ↔ TakesKind of c.args.kind) (sym kind) c.takes.ensures
