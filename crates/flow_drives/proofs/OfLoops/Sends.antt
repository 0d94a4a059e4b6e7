-- That a share with its boxes may go to another thread. No search finds it by itself, since the elements of a vector are shared.
use denote.Param.Send.{IsSend, sendable}
use Rattle.std.proofs.Crossing.{crosses}
use Rattle.std.proofs.Crossing as crossing
use Rattle.std.proofs.alloc.Global.TheSendSync as heap
use Rattle.flow_messages.proofs.history.History.TheSendSync as history
use Rattle.snesl_data.proofs.Sends.{elements_sends}
use Rattle.flow_messages.proofs.Sends.{typed_sends}
use Rattle.flow_boxes.specs.contracts.inbox.Inbox as inbox
use Rattle.flow_boxes.specs.contracts.outbox.Outbox as outbox
use Rattle.flow_boxes.specs.contracts.boxes.Boxes as boxes

ruleset parts = (elements_sends, typed_sends, history.the_send, heap.the_field_send, crossing.frees, crosses, sendable)

inbox_sends : IsSend inbox.the_field.row
inbox_sends = search parts depth 60 fits 20000

outbox_sends : IsSend outbox.the_field.row
outbox_sends = search parts depth 60 fits 20000

pub boxes_send : IsSend boxes.the_field.row
boxes_send = search (inbox_sends, outbox_sends, crosses, sendable) depth 60 fits 20000
