use Rattle.std.proofs.Common.{◌∙◌, sym, ap, length, arith}
use Rattle.flow_edges.proofs.OfLanes.Owing.{owes_fresh}
use Rattle.flow_edges.proofs.lanes.making.lane.Goals as goal

pub invariant_of-reader : goal.invariant_of-reader
invariant_of-reader c =
    let edge = c.in_ok-writer-2.ensures in
    let back = c.in_ok-teller.ensures in
    let inbox = c.in_ok-inbox.ensures in
    record {
      reserved = omega (arith, inbox.reserved, c.requires.some);
      kind = inbox.kind ∙ sym edge.kind.1;
      arrived = c.new-3.ensures ∙ sym inbox.arrived;
      all = c.new-3.ensures ∙ sym edge.reader.0;
      owes = owes_fresh _ c.in_ok-teller.teller (ap length inbox.received) back.writer.0 back.kind.0 (omega (arith, back.writer.2, c.requires.some));
    }
