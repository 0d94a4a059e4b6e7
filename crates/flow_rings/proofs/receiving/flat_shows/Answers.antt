use Rattle.std.proofs.Common.{arith}
use Rattle.flow_rings.proofs.Flats.{flats_show, no_flats}
use Rattle.flow_rings.proofs.receiving.flat_shows.Goals as goal

pub returns-then-count-eq0-clause-value : goal.returns-then-count-eq0-clause-value
returns-then-count-eq0-clause-value g c = no_flats _ (omega arith)

pub returns-clause-value : goal.returns-clause-value
returns-clause-value g c = flats_show _ (omega arith)
