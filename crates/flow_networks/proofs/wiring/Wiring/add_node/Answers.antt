use Rattle.flow_networks.proofs.Wirings.{wiring_after_push}
use Rattle.flow_networks.proofs.wiring.Wiring.add_node.Goals as goal

pub invariant_of-self : goal.invariant_of-self
invariant_of-self c =
    let wiring = c.args.self.now in
    record {
      wired = wiring_after_push wiring.ports.items _ wiring.edges.items (record { inputs = c.in_ok-inputs.inputs; outputs = c.in_ok-outputs.outputs })
          c.args.inputs c.args.outputs _ c.push.ensures.items wiring.wired c.in_ok-inputs.ensures c.in_ok-outputs.ensures;
    }
