use Rattle.flow_assembly.proofs.Performing.{performs}
use Rattle.flow_assembly.proofs.laws.openings_perform.Goals as goal

pub returns : goal.returns
returns c = λ at operation s usable opens. performs c.rows_are_functions.ensures at operation s usable opens
