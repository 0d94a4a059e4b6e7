use Rattle.kahn.proofs.Outcomes.{listed_fault_is_outcome}
use Rattle.kahn.proofs.theorems.rest.listed_fault_is_outcome.Goals as goal

pub returns : goal.returns
returns g c P net capacity c' faults f are named = listed_fault_is_outcome P net capacity c' faults f are named
