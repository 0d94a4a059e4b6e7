use Rattle.std.proofs.Common.{◌∙◌, sym}
use Rattle.flow_words.specs.Edge.{received, sent, certain_held}
use Rattle.flow_edges.proofs.OfLanes.Lists.{no_rest}
use Rattle.flow_edges.proofs.lanes.meeting.gather.Goals as goal

pub meet-requires : goal.meet-requires
meet-requires c = c.take_certain.ensures.came.same ∙ c.requires.edge

pub returns-clause-reader : goal.returns-clause-reader
returns-clause-reader c = c.meet.ensures.reader.0 ∙ c.take_certain.ensures.came.same

pub returns-clause-received : goal.returns-clause-received
returns-clause-received c = c.meet.ensures.reader.1 ∙ c.take_certain.ensures.came.taken ∙ c.requires.fifo

pub returns-clause-come : goal.returns-clause-come
returns-clause-come c = c.take_certain.ensures.came.come

pub returns-clause-none : goal.returns-clause-none
returns-clause-none c =
    let took = c.take_certain.ensures.came in
    let met = c.meet.ensures in
    no_rest (received c.meet.new.reader) (certain_held c.meet.new.reader) (sent c.meet.new.writer) met.fifo (met.reader.1 ∙ took.taken ∙ c.requires.fifo ∙ sym met.writer.1)

pub returns-clause-room : goal.returns-clause-room
returns-clause-room c =
    let took = c.take_certain.ensures.came in
    let met = c.meet.ensures in
    met.room (no_rest (received c.meet.new.reader) (certain_held c.meet.new.reader) (sent c.meet.new.writer) met.fifo (met.reader.1 ∙ took.taken ∙ c.requires.fifo ∙ sym met.writer.1))
