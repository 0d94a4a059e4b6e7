use Rattle.flow_drives.proofs.Found.{writer_there, reader_there, writes_there, reads_there, sent_there, received_there}
use Rattle.flow_drives.proofs.ring_shares.RingShares.counts.Goals as goal

pub of_node-requires : goal.of_node-requires
of_node-requires g c = writer_there c.args.self.now.rest c.args.edge c.requires c.edge-nodes.result c.edge-nodes.ensures

pub of_node-requires-2 : goal.of_node-requires-2
of_node-requires-2 g c = reader_there c.args.self.now.rest c.args.edge c.requires c.edge-nodes.result c.edge-nodes.ensures

pub sent_count-requires : goal.sent_count-requires
sent_count-requires g c =
    writes_there c.args.self.now.rest c.args.edge c.requires c.edge-nodes.result c.edge-nodes.ensures
    c.of_node.result.now c.of_node.ensures c.ends-writer.result.now c.ends-writer.ensures

pub received_count-requires : goal.received_count-requires
received_count-requires g c =
    reads_there c.args.self.now.rest c.args.edge c.requires c.edge-nodes.result c.edge-nodes.ensures
    c.of_node-2.result.now c.of_node-2.ensures c.ends-reader.result.now c.ends-reader.ensures

pub returns-clause-sent : goal.returns-clause-sent
returns-clause-sent g c =
    sent_there c.args.self.now.rest c.args.edge c.requires c.edge-nodes.result c.edge-nodes.ensures
    c.of_node.result.now c.of_node.ensures c.ends-writer.result.now c.ends-writer.ensures c.sent_count.result c.sent_count.ensures

pub returns-clause-received : goal.returns-clause-received
returns-clause-received g c =
    received_there c.args.self.now.rest c.args.edge c.requires c.edge-nodes.result c.edge-nodes.ensures
    c.of_node-2.result.now c.of_node-2.ensures c.ends-reader.result.now c.ends-reader.ensures c.received_count.result c.received_count.ensures
