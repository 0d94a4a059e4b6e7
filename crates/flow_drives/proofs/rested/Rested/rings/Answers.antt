use Rattle.std.proofs.Common.{sym, subst}
use Rattle.flow_drives.specs.Parts.{StayInShares}
use Rattle.flow_drives.specs.Resteds.{AreTheShares}
use Rattle.flow_drives.proofs.AtRest.{are_the_shares}
use Rattle.flow_drives.proofs.rested.Rested.rings.Goals as goal

pub returns-in-Apart : goal.returns-in-Apart
returns-in-Apart g c = subst (λ shares. AreTheShares c.args.self.now shares) (sym c.deref.ensures.value) (are_the_shares c.args.self.now c.in-Apart.shares c.in-Apart.is)

pub returns-in-Together : goal.returns-in-Together
returns-in-Together g c over = subst (λ parts. StayInShares parts) c.in-Together.is over
