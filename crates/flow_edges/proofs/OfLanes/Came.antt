-- What came over the edge of a pocket, and what was taken of it.
use Rattle.std.proofs.Common.{◌≡◌, ◌++◌, sym, ◌∙◌, append-nil}
use Rattle.flow_edges.specs.declared.lanes.ends.LaneReader.{LaneReader}
use Rattle.flow_edges.specs.declared.lanes.ends.LaneReader.TheVariants.{Messages as MessagesFrom, Scalars as ScalarsFrom}
use Rattle.flow_edges.specs.lanes.Lane.{received, in_pocket, taken_over}

-- what was taken from the pocket and what it holds are what came over its edge
pub came_over : (reader : LaneReader) → received reader ++ in_pocket reader ≡ taken_over reader
came_over (MessagesFrom r) = append-nil (received (MessagesFrom r))
came_over (ScalarsFrom p) = p.inbox.fifo ∙ sym p.arrived ∙ p.all
