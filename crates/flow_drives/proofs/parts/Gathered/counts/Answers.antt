use Rattle.std.proofs.Common.{ap}
use Rattle.flow_networks.specs.Graphs.{edges_of}
use Rattle.flow_boxes.specs.Contents.{view_of}
use Rattle.flow_shares.specs.meetings.BoxMeetings.{BoxesJoin, boxes_join_ends}
use Rattle.flow_drives.specs.Edges.{traffic_in}
use Rattle.flow_drives.proofs.Holding.{ends_there, sent_counted, received_counted}
use Rattle.flow_drives.proofs.parts.Gathered.counts.Goals as goal

pub counts-requires : goal.counts-requires
counts-requires g c =
    let gathered = c.args.self.now in
    let shared = c.in-Shared.shared in
    let there = ends_there view_of BoxesJoin boxes_join_ends shared.share.items (edges_of gathered.graph) shared.ends.items shared.capacity
    (gathered.there.shared shared c.in-Shared.is) c.args.edge c.requires c.edge-ends.result c.edge-ends.ensures in
    record { writer = there.0; reader = there.1; writes = there.2; reads = there.3 }

pub returns-in-Shared-clause-sent : goal.returns-in-Shared-clause-sent
returns-in-Shared-clause-sent g c =
    let gathered = c.args.self.now in
    let shared = c.in-Shared.shared in
    let edges = edges_of gathered.graph in
    sent_counted view_of BoxesJoin boxes_join_ends shared.share.items edges shared.ends.items shared.capacity
    (gathered.there.shared shared c.in-Shared.is) c.args.edge c.requires c.edge-ends.result c.edge-ends.ensures
    (traffic_in edges gathered.all_ends) (ap (traffic_in edges) c.in-Shared.is) c.counts.result.0 c.counts.ensures.sent

pub returns-in-Shared-clause-received : goal.returns-in-Shared-clause-received
returns-in-Shared-clause-received g c =
    let gathered = c.args.self.now in
    let shared = c.in-Shared.shared in
    let edges = edges_of gathered.graph in
    received_counted view_of BoxesJoin boxes_join_ends shared.share.items edges shared.ends.items shared.capacity
    (gathered.there.shared shared c.in-Shared.is) c.args.edge c.requires c.edge-ends.result c.edge-ends.ensures
    (traffic_in edges gathered.all_ends) (ap (traffic_in edges) c.in-Shared.is) c.counts.result.1 c.counts.ensures.received
