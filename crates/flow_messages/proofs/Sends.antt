-- That the vectors of items may go to another thread. The type that is known of their elements is shared, and never written to.
use denote.Param.Send.{IsSend, IsSync, sendable}
use Rattle.std.proofs.Crossing.{crosses}
use Rattle.snesl_data.proofs.Sends.{elements_sends}
use Rattle.snesl_data.proofs.ty.Ty.TheLaws.TheKnot as ty_knot
use Rattle.snesl_data.specs.contracts.ty.Ty as ty
use Rattle.flow_messages.specs.contracts.typed.Typed as typed

pub ty_sends : IsSend ty.the_field.row
ty_sends = search (crosses, ty_knot.crosses_both, sendable) depth 60 fits 20000

pub ty_shares : IsSync ty.the_field.row
ty_shares = search (crosses, ty_knot.crosses_both, sendable) depth 60 fits 20000

pub typed_sends : IsSend typed.the_field.row
typed_sends = search (elements_sends, ty_sends, ty_shares, crosses, sendable) depth 60 fits 20000
