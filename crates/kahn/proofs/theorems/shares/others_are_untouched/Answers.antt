use Rattle.kahn.proofs.Rounds.{others_are_untouched}
use Rattle.kahn.proofs.theorems.shares.others_are_untouched.Goals as goal

pub returns : goal.returns
returns g c P net = others_are_untouched P net
