use Rattle.flow_nodes.proofs.OfInputs.Edges.{opens, kinds_of_edges}
use Rattle.snesl_values.proofs.Tells.{value_at-tells}
use Rattle.flow_nodes.proofs.inputs.laws.text_holds_edges.Goals as goal

pub returns-clause-items : goal.returns-clause-items
returns-clause-items c = opens

pub returns-clause-kinds : goal.returns-clause-kinds
returns-clause-kinds c = kinds_of_edges

pub returns-clause-values : goal.returns-clause-values
returns-clause-values c = λ dialect t text from end v. value_at-tells dialect text t from end v
