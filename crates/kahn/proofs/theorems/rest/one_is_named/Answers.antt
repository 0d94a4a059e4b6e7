use Rattle.kahn.proofs.NamedFaults.{named_of_one}
use Rattle.kahn.proofs.theorems.rest.one_is_named.Goals as goal

pub returns : goal.returns
returns c xs f g a b = named_of_one xs f g a b
