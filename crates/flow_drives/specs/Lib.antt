pub mod loops
pub mod Limits
pub mod Configs
pub mod Drives
pub mod Epochs
pub mod Led
pub mod Edges
pub mod Apart
pub mod Parts
pub mod Refusals
pub mod Resteds
pub mod Driven
pub mod Dealings
pub mod Pumped
pub mod Origins
pub mod Waiting
pub mod Tallies
pub mod Texts
-- what the public clauses cite of the crates below, and what the words above are made of: of networks and their runs
pub use Rattle.kahn.specs.declared.outcome.Outcome
pub use Rattle.kahn.specs.Configurations
pub use Rattle.kahn.specs.Outcomes
pub use Rattle.kahn.specs.Runs
pub use Rattle.flow_messages.specs.Ends
pub use Rattle.flow_messages.specs.declared.ends.Ends as EndsTrait
pub use Rattle.flow_messages.specs.Signals
pub use Rattle.flow_base.specs.Transducers
pub use Rattle.flow_base.specs.declared.transducer.Transducer
pub use Rattle.flow_networks.specs.Alike
pub use Rattle.flow_networks.specs.EdgeKinds
pub use Rattle.flow_networks.specs.Graphs
pub use Rattle.flow_networks.specs.MaximalRuns
pub use Rattle.flow_networks.specs.Networks
pub use Rattle.flow_networks.specs.Shapes
-- of shares, and of the ends that they have
pub use Rattle.flow_edges.specs.declared.lanes.rings.Rings as RingEnds
pub use Rattle.flow_edges.specs.lanes.Rings
pub use Rattle.flow_boxes.specs.declared.boxes.Boxes
pub use Rattle.flow_shares.specs.declared.meetings.owners.EdgeOwners
pub use Rattle.flow_shares.specs.meetings.BoxMeetings
pub use Rattle.flow_shares.specs.meetings.Met
pub use Rattle.flow_shares.specs.meetings.RingMeetings
pub use Rattle.flow_shares.specs.Deals
pub use Rattle.flow_shares.specs.declared.share.Share
pub use Rattle.flow_shares.specs.Lending
pub use Rattle.flow_shares.specs.Looks
pub use Rattle.flow_shares.specs.Pumps
pub use Rattle.flow_shares.specs.Shares
pub use Rattle.flow_shares.specs.declared.error.WorkError
pub use Rattle.flow_shares.specs.meetings.Joints
pub use Rattle.flow_shares.specs.meetings.EndTheorems
pub use Rattle.flow_shares.specs.meetings.Deals as ShareDeals
pub use Rattle.flow_shares.specs.meetings.Open
pub use Rattle.flow_shares.specs.meetings.SharedNetworks
pub use Rattle.flow_drives.specs.loops.Epochs as ShareEpochs
pub use Rattle.flow_drives.specs.loops.Few
pub use Rattle.flow_drives.specs.loops.Follow
pub use Rattle.flow_drives.specs.loops.Rounds
pub use Rattle.flow_base.specs.Visits as NodeVisits
pub use Rattle.flow_boxes.specs.Reserved
pub use Rattle.flow_boxes.specs.Kinds as BoxKinds
pub use Rattle.flow_networks.specs.FlowTheorems
pub use Rattle.flow_networks.specs.Laws
pub use Rattle.flow_networks.specs.Schedules
pub use Rattle.flow_messages.specs.Blocks
pub use Rattle.flow_messages.specs.Kinds
pub mod Starts
