-- That the ends of a share may go to another thread. No search finds it by itself, since a ring is of one of four kinds.
use denote.Param.Send.{IsSend, sendable}
use Rattle.std.proofs.Crossing.{crosses}
use Rattle.std.proofs.Crossing as crossing
use Rattle.std.proofs.alloc.Global.TheSendSync as heap
use Rattle.flow_messages.proofs.history.History.TheSendSync as history
use Rattle.snesl_data.proofs.Sends.{elements_sends}
use Rattle.flow_messages.proofs.Sends.{typed_sends}
use Rattle.flow_rings.proofs.Sends.{writer_sends, reader_sends}
use Rattle.flow_words.proofs.Sends as words
use Rattle.flow_edges.specs.contracts.lanes.counted.CountedWriter as counted
use Rattle.flow_edges.specs.contracts.lanes.pocket.Pocket as pocket
use Rattle.flow_edges.specs.contracts.lanes.ends.LaneWriter as writer
use Rattle.flow_edges.specs.contracts.lanes.ends.LaneReader as reader
use Rattle.flow_edges.specs.contracts.lanes.rings.Rings as rings

ruleset parts = (elements_sends, typed_sends, history.the_send, heap.the_field_send, crossing.frees, crosses, sendable)

counted_sends : IsSend counted.the_field.row
counted_sends = search (words.writer_sends, reader_sends, parts) depth 60 fits 20000

pocket_sends : IsSend pocket.the_field.row
pocket_sends = search (writer_sends, words.reader_sends, parts) depth 60 fits 20000

lane_writer_sends : IsSend writer.the_field.row
lane_writer_sends = search (writer_sends, counted_sends, crosses, sendable) depth 60 fits 20000

lane_reader_sends : IsSend reader.the_field.row
lane_reader_sends = search (reader_sends, pocket_sends, crosses, sendable) depth 60 fits 20000

pub rings_send : IsSend rings.the_field.row
rings_send = search (lane_writer_sends, lane_reader_sends, crosses, sendable) depth 60 fits 20000
