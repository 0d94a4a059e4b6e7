use Rattle.flow_rings.proofs.Flats.{if_ok, taken_one}
use Rattle.flow_rings.proofs.ring.ReaderRing.pop.Goals as goal

pub returns-in-Units-clause-ok : goal.returns-in-Units-clause-ok
returns-in-Units-clause-ok c = rw c.in-Units.is (if_ok _ _ c.pop_flat.result (λ m p. taken_one _ _ _ _ p.0 m p.1.0 p.1.1 p.1.2) c.pop_flat.ensures.ok)

pub returns-in-Flags-clause-ok : goal.returns-in-Flags-clause-ok
returns-in-Flags-clause-ok c = rw c.in-Flags.is (if_ok _ _ c.pop_flat-in-Flags.result (λ m p. taken_one _ _ _ _ p.0 m p.1.0 p.1.1 p.1.2) c.pop_flat-in-Flags.ensures.ok)

pub returns-in-Ints-clause-ok : goal.returns-in-Ints-clause-ok
returns-in-Ints-clause-ok c = rw c.in-Ints.is (if_ok _ _ c.pop_flat-in-Ints.result (λ m p. taken_one _ _ _ _ p.0 m p.1.0 p.1.1 p.1.2) c.pop_flat-in-Ints.ensures.ok)
