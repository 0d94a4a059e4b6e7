use Rattle.std.proofs.Common.{◌∙◌, arith}
use Rattle.flow_rings.proofs.Flats.{shows_none, shows_scalar}
use Rattle.flow_rings.proofs.receiving.scalar_shows.Goals as goal

pub returns-then-slots-eq0-clause-value : goal.returns-then-slots-eq0-clause-value
returns-then-slots-eq0-clause-value g c = shows_none _ (omega arith)

pub returns-clause-value : goal.returns-clause-value
returns-clause-value g c = c.is_scalar.ensures ∙ shows_scalar _ _ c.peek_known.ensures
