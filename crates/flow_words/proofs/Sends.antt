-- That the ends of an edge may go to another thread. No search finds it by itself, since a ring is of one of three kinds.
use denote.Param.Send.{IsSend, sendable}
use Rattle.std.proofs.Crossing.{crosses}
use Rattle.std.proofs.Crossing as crossing
use Rattle.std.proofs.alloc.Global.TheSendSync as heap
use Rattle.rtrb.proofs.end.End.TheSendSync as end
use Rattle.flow_words.proofs.words.UnitWord.TheSendSync as unit_word
use Rattle.flow_words.proofs.words.FlagWord.TheSendSync as flag_word
use Rattle.flow_words.specs.contracts.ring.WriterWords as writer_words
use Rattle.flow_words.specs.contracts.ring.ReaderWords as reader_words
use Rattle.flow_words.specs.contracts.ring.WordWriter as writer
use Rattle.flow_words.specs.contracts.ring.WordReader as reader

ruleset parts = (end.the_send, heap.the_field_send, unit_word.the_field_send, flag_word.the_field_send, crossing.frees, crosses, sendable)

-- the kinds in their order, each by the one field that it has
writer_words_send : IsSend writer_words.the_field.row
writer_words_send = search parts depth 60 fits 20000

reader_words_send : IsSend reader_words.the_field.row
reader_words_send = search parts depth 60 fits 20000

pub writer_sends : IsSend writer.the_field.row
writer_sends = search (writer_words_send, crosses, sendable) depth 60 fits 20000

pub reader_sends : IsSend reader.the_field.row
reader_sends = search (reader_words_send, crosses, sendable) depth 60 fits 20000
