pub mod lanes
-- what the contracts cite: of messages, and of the ends of edges
pub use Rattle.snesl_data.specs.Values
pub use Rattle.flow_messages.specs.declared.message.Item
pub use Rattle.flow_messages.specs.declared.items.Items
pub use Rattle.flow_messages.specs.declared.message.Kind
pub use Rattle.flow_messages.specs.declared.message.Msg
pub use Rattle.flow_messages.specs.declared.typed.Typed
pub use Rattle.flow_messages.specs.declared.ends.Refused
pub use Rattle.flow_messages.specs.declared.ends.Why
pub use Rattle.flow_messages.specs.declared.table.Table
pub use Rattle.flow_messages.specs.Shapes
pub use Rattle.flow_messages.specs.Cells
pub use Rattle.flow_messages.specs.Signals
pub use Rattle.flow_messages.specs.Ends
pub use Rattle.flow_messages.specs.Whole
pub use Rattle.flow_messages.specs.Limits
pub use Rattle.flow_messages.specs.Tables
-- what every table keeps
pub use Rattle.flow_messages.specs.TableLaws
-- of the two ends of an edge over a ring, and of those that a share owns
pub use Rattle.flow_messages.specs.declared.flat.Flat
pub use Rattle.flow_rings.specs.declared.ring.EdgeWriter
pub use Rattle.flow_rings.specs.declared.ring.EdgeReader
pub use Rattle.flow_rings.specs.declared.ring.FinishedMark
pub use Rattle.flow_rings.specs.declared.ring.Held
pub use Rattle.flow_edges.specs.declared.lanes.rings.Rings as RingEnds
pub use Rattle.flow_messages.specs.Flats
pub use Rattle.arrayvec.specs.ArrayVec
pub use Rattle.flow_rings.specs.Edge
pub use Rattle.flow_edges.specs.lanes.Rings
-- of boxes
pub use Rattle.flow_boxes.specs.declared.boxes.Boxes
pub use Rattle.flow_boxes.specs.Contents
pub use Rattle.flow_boxes.specs.Rounds
pub use Rattle.flow_messages.specs.Blocks
pub use Rattle.flow_messages.specs.Kinds
pub use Rattle.flow_rings.specs.Ring
pub use Rattle.flow_boxes.specs.Reserved
pub use Rattle.flow_boxes.specs.Kinds as BoxKinds
-- of lanes, whose ends a share owns
pub use Rattle.flow_edges.specs.declared.lanes.ends.LaneWriter
pub use Rattle.flow_edges.specs.declared.lanes.ends.LaneReader
pub use Rattle.flow_edges.specs.lanes.Lane
pub use Rattle.flow_edges.specs.lanes.Taken
pub use Rattle.flow_edges.specs.lanes.Followed
pub use Rattle.flow_edges.specs.lanes.Credits
pub use Rattle.flow_edges.specs.lanes.SameLanes
