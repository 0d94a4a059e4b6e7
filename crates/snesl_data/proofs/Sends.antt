-- That values may go to another thread, and be shared by threads: what is shared is never written to.
use denote.Param.Send.{IsSend, IsSync, sendable}
use Rattle.std.proofs.Crossing.{crosses}
use Rattle.snesl_data.proofs.datum.Datum.TheLaws.TheKnot as datum_knot
use Rattle.snesl_data.specs.contracts.datum.Datum as datum
use Rattle.snesl_data.specs.contracts.datum.Elements as elements

pub datum_sends : IsSend datum.the_field.row
datum_sends = search (crosses, datum_knot.crosses_both, sendable) depth 60 fits 20000

pub elements_sends : IsSend elements.the_field.row
elements_sends = search (crosses, datum_knot.crosses_both, sendable) depth 60 fits 20000

pub elements_share : IsSync elements.the_field.row
elements_share = search (crosses, datum_knot.crosses_both, sendable) depth 60 fits 20000
