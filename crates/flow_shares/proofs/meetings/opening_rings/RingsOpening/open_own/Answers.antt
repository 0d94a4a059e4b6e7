use Rattle.std.proofs.Common.{length, ap, arith}
use Rattle.flow_edges.specs.lanes.Rings.{ends_of}
use Rattle.flow_shares.proofs.OfMeetings.Opened.{both_opened, rings_then, rings_writer, rings_reader}
use Rattle.flow_shares.proofs.meetings.opening_rings.RingsOpening.open_own.Goals as goal

pub returns-clause-both : goal.returns-clause-both
returns-clause-both c =
    let e = c.args.edge in
    let k = c.args.kind in
    let n = c.args.capacity in
    let a = c.args.self.now in
    let m = c.put_writer.new.self in
    let b = c.put_reader.new.self in
    let w = c.in_ok-writer.ensures.writer in
    let r = c.in_ok-writer.ensures.reader in
    let first = rings_writer a m e k n c.in_ok-writer.writer c.put_writer.ensures.put c.put_writer.ensures.readers c.requires.place.0 w.0 w.1 c.in_ok-writer.ensures.kind in
    let then = rings_reader m b e k n c.in_ok-writer.reader c.put_reader.ensures.put c.put_reader.ensures.writers (omega (arith, c.requires.place.1, ap length c.put_writer.ensures.readers)) r.0 r.1 in
    (rings_then e a m b first.0 then.0, both_opened e k n (ends_of a) (ends_of m) (ends_of b) first.1 then.1)
