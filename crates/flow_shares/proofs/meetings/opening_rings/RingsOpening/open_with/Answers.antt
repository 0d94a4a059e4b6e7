use Rattle.flow_shares.proofs.OfMeetings.Opened.{rings_writer, rings_reader}
use Rattle.flow_shares.proofs.meetings.opening_rings.RingsOpening.open_with.Goals as goal

pub returns-clause-writer : goal.returns-clause-writer
returns-clause-writer c =
    let w = c.in_ok-writer.ensures.writer in
    rings_writer c.args.self.now c.put_writer.new.self c.args.edge c.args.kind c.args.capacity c.in_ok-writer.writer c.put_writer.ensures.put
    c.put_writer.ensures.readers c.requires.writer_place.0 w.0 w.1 c.in_ok-writer.ensures.kind

pub returns-clause-reader : goal.returns-clause-reader
returns-clause-reader c =
    let r = c.in_ok-writer.ensures.reader in
    rings_reader c.args.other.now c.put_reader.new.self c.args.edge c.args.kind c.args.capacity c.in_ok-writer.reader c.put_reader.ensures.put
    c.put_reader.ensures.writers c.requires.reader_place.1 r.0 r.1
