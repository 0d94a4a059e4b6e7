use Rattle.flow_networks.proofs.graph.Graph.may_step.Goals as goal

pub returns-then-has_ends : goal.returns-then-has_ends
returns-then-has_ends g c = (
  λ t. (c.has_ends.ensures.0 (cc (c.if-has_ends.true)), c.edges_take.ensures.0 t),
  λ both. c.edges_take.ensures.1 both.1,
)
