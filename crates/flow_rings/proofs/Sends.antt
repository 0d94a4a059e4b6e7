-- That the ends of an edge may go to another thread. No search finds it by itself, since a ring is of one of four kinds.
use denote.Param.Send.{IsSend, sendable}
use Rattle.std.proofs.Crossing.{crosses}
use Rattle.std.proofs.Crossing as crossing
use Rattle.std.proofs.alloc.Global.TheSendSync as heap
use Rattle.rtrb.proofs.end.End.TheSendSync as end
use Rattle.snesl_data.proofs.Sends.{elements_sends}
use Rattle.flow_messages.proofs.Sends.{typed_sends}
use Rattle.flow_messages.proofs.flat.Flat.TheSendSync as flat
use Rattle.flow_rings.specs.contracts.ring.WriterRing as writer_ring
use Rattle.flow_rings.specs.contracts.ring.ReaderRing as reader_ring
use Rattle.flow_rings.specs.contracts.ring.EdgeWriter as writer
use Rattle.flow_rings.specs.contracts.ring.EdgeReader as reader

ruleset parts = (elements_sends, typed_sends, end.the_send, heap.the_field_send, flat.the_field_send, crossing.frees, crosses, sendable)

-- the kinds in their order, each by the one field that it has
writer_ring_sends : IsSend writer_ring.the_field.row
writer_ring_sends = search parts depth 60 fits 20000

reader_ring_sends : IsSend reader_ring.the_field.row
reader_ring_sends = search parts depth 60 fits 20000

pub writer_sends : IsSend writer.the_field.row
writer_sends = search (writer_ring_sends, crosses, sendable) depth 60 fits 20000

pub reader_sends : IsSend reader.the_field.row
reader_sends = search (reader_ring_sends, crosses, sendable) depth 60 fits 20000
