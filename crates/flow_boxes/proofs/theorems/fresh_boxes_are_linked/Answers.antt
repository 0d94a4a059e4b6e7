use Rattle.flow_boxes.proofs.Linking.{fresh-linked}
use Rattle.flow_boxes.proofs.theorems.fresh_boxes_are_linked.Goals as goal

pub returns : goal.returns
returns c = λ w r e fresh. fresh-linked w r e fresh.0 fresh.1 fresh.2 fresh.3
