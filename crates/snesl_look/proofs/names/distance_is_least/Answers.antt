use Rattle.snesl_look.proofs.Edits.{from_none, last_bytes, to_none}
use Rattle.snesl_look.proofs.Least.{made, none_fewer}
use Rattle.snesl_look.proofs.names.distance_is_least.Goals as goal

pub returns-clause-cases : goal.returns-clause-cases
returns-clause-cases c = (from_none, to_none, last_bytes)

pub returns-clause-least : goal.returns-clause-least
returns-clause-least c = λ from to. (made from to, λ n edits. none_fewer edits)
