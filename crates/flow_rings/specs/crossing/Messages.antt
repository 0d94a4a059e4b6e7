-- Lists of messages that go over an edge.
use Rattle.std.specs.Prelude.{◌≡◌, true, List, [], None, Result, IfOk}
use Rattle.std.specs.declared.alloc.AllocError.{AllocError}
use Rattle.std.specs.declared.alloc.Global.{Global}
use Rattle.std.specs.declared.vec.Vec.{Vec}
use Rattle.flow_messages.specs.Signals.{signals, ended, orderly}
use Rattle.flow_messages.specs.declared.message.Msg.{Msg}
use Rattle.flow_rings.specs.declared.ring.EdgeWriter.{EdgeWriter}
use Rattle.flow_rings.specs.declared.ring.EdgeReader.{EdgeReader}
use Rattle.flow_rings.specs.Edge.{sent, received, kind_of, SameReader}

-- a writer that has put nothing may put these, in order
abbrev pub MayPutAll : EdgeWriter → List Msg → Type 0
MayPutAll w ms = (kind_of w ≡ None) × (sent w ≡ []) × (orderly (signals ms) ≡ true)

-- the messages that were kept are these, unless memory was refused
abbrev pub WereKept : Result (Vec Msg Global) AllocError → List Msg → Type 0
WereKept kept ms = IfOk kept (λ v. v.items ≡ ms)

-- the same reader took messages up to an `End`, and these are what was kept of them
pub record TookToEnd (a b : EdgeReader) (kept : Result (Vec Msg Global) AllocError) : Type 0 where
  pub same : SameReader a b
  pub stopped : ended (signals (received b)) ≡ true
  pub taken : WereKept kept (received b)
