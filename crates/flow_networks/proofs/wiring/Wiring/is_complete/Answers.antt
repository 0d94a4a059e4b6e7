use Rattle.flow_networks.proofs.Wirings.{all_is_full, full_is_all}
use Rattle.flow_networks.proofs.wiring.Wiring.is_complete.Goals as goal

pub returns : goal.returns
returns c =
    let wiring = c.args.self.now in
    let answer = rw c.deref.ensures.value at c.all_complete.ensures in
    (λ t. all_is_full wiring.ports.items wiring.edges.items wiring.wired (answer.0 t), λ full. answer.1 (full_is_all wiring.ports.items wiring.edges.items wiring.wired full))
