use Rattle.std.proofs.Common.{◌∙◌}
use Rattle.flow_drives.proofs.Found.{share_there, place_there, place_within, state_there}
use Rattle.flow_drives.proofs.ring_shares.RingShares.node.Goals as goal

pub of_node-share-requires : goal.of_node-share-requires
of_node-share-requires g c = share_there c.args.self.now.rest c.args.number c.requires

pub bounds-nodes-index : goal.bounds-nodes-index
bounds-nodes-index g c =
    place_there c.args.self.now.rest c.args.number c.requires
    c.of_node-share.result.now c.of_node-share.ensures c.nodes.result.now c.nodes.ensures c.index.result.now c.index.ensures

pub offset_bounds-nodes-index : goal.offset_bounds-nodes-index
offset_bounds-nodes-index g c =
    place_within c.args.self.now.rest c.args.number c.requires
    c.of_node-share.result.now c.of_node-share.ensures c.nodes.result.now c.nodes.ensures c.index.result.now c.index.ensures

pub returns : goal.returns
returns g c =
    c.node.ensures
    ∙ state_there c.args.self.now.rest c.args.number c.requires
    c.of_node-share.result.now c.of_node-share.ensures c.nodes.result.now c.nodes.ensures c.index.result.now c.index.ensures
    c.index-nodes-index.result c.index-nodes-index.is
