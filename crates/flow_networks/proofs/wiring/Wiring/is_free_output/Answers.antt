use Rattle.flow_networks.proofs.Wirings.{output_side, free_is}
use Rattle.flow_networks.proofs.wiring.Wiring.is_free_output.Goals as goal

pub returns : goal.returns
returns c =
    let wiring = c.args.self.now in
    free_is output_side wiring.ports.items wiring.edges.items wiring.wired.outs c.args.node c.index.result.now c.requires c.index.ensures c.args.port
    c.is_free.result (rw c.deref.ensures.value at c.is_free.ensures)
