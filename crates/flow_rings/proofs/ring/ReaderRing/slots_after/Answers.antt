use Rattle.flow_rings.proofs.Flats.{looked_on}
use Rattle.flow_rings.proofs.ring.ReaderRing.slots_after.Goals.{in-Messages-Messages, in-Units-Units, in-Flags-Flags, in-Ints-Ints}
use Rattle.flow_rings.proofs.ring.ReaderRing.slots_after.Goals as goal

pub returns-clause-looked : goal.returns-clause-looked
returns-clause-looked c = elim c.match-self.branch [
  | in-Messages-Messages w ↦ (let l = w.slots_after.ensures.looked in rw w.self-is (rw w.in-Messages-Messages.is-0 (l.1, l.2)))
  | in-Units-Units w ↦ (let l = w.slots_after-in-Units-Units.ensures.looked in rw w.self-is (rw w.in-Units-Units.is-0 (looked_on _ _ _ _ l.1 l.2)))
  | in-Flags-Flags w ↦ (let l = w.slots_after-in-Flags-Flags.ensures.looked in rw w.self-is (rw w.in-Flags-Flags.is-0 (looked_on _ _ _ _ l.1 l.2)))
  | in-Ints-Ints w ↦ (let l = w.slots_after-in-Ints-Ints.ensures.looked in rw w.self-is (rw w.in-Ints-Ints.is-0 (looked_on _ _ _ _ l.1 l.2)))
]
