use Rattle.flow_rings.proofs.Flats.{looked_on}
use Rattle.flow_rings.proofs.ring.ReaderRing.scalar_is_next.Goals as goal

pub returns-in-Units-clause-looked : goal.returns-in-Units-clause-looked
returns-in-Units-clause-looked c = let l = c.flat_shows.ensures.looked in rw c.in-Units.is (looked_on _ _ _ _ l.1 l.2)

pub returns-in-Flags-clause-looked : goal.returns-in-Flags-clause-looked
returns-in-Flags-clause-looked c = let l = c.flat_shows-in-Flags.ensures.looked in rw c.in-Flags.is (looked_on _ _ _ _ l.1 l.2)

pub returns-in-Ints-clause-looked : goal.returns-in-Ints-clause-looked
returns-in-Ints-clause-looked c = let l = c.flat_shows-in-Ints.ensures.looked in rw c.in-Ints.is (looked_on _ _ _ _ l.1 l.2)
