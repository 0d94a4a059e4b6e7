use Rattle.std.proofs.Common.{arith}
use Rattle.std.proofs.lemmas.List.{length-take-le}
use Rattle.flow_messages.specs.declared.message.Kind.TheVariants.{Unit, Bool, Int}
use Rattle.flow_rings.proofs.Flats.{prefix_of_more, followed_fit, followed_last, followed_open}
use Rattle.flow_rings.proofs.ring.ReaderRing.pop_slice.Goals as goal

pub returns-in-Units-clause-known : goal.returns-in-Units-clause-known
returns-in-Units-clause-known c = rw c.in-Units.is (prefix_of_more _ _ _ c.pop_over.ensures.known)

pub returns-in-Units-clause-fit : goal.returns-in-Units-clause-fit
returns-in-Units-clause-fit c = rw c.in-Units.is (followed_fit Unit _ _ c.pop_over.ensures.allowed)

pub returns-in-Units-clause-last : goal.returns-in-Units-clause-last
returns-in-Units-clause-last c = followed_last Unit _ _ c.pop_over.ensures.allowed

pub returns-in-Units-clause-open : goal.returns-in-Units-clause-open
returns-in-Units-clause-open c some =
    rw c.in-Units.is (followed_open Unit _ _ c.pop_over.ensures.allowed
    (omega (arith, some, c.pop_over.ensures.count, length-take-le c.pop_over.result c.pop_over.new.flats)))

pub returns-in-Flags-clause-known : goal.returns-in-Flags-clause-known
returns-in-Flags-clause-known c = rw c.in-Flags.is (prefix_of_more _ _ _ c.pop_over-in-Flags.ensures.known)

pub returns-in-Flags-clause-fit : goal.returns-in-Flags-clause-fit
returns-in-Flags-clause-fit c = rw c.in-Flags.is (followed_fit Bool _ _ c.pop_over-in-Flags.ensures.allowed)

pub returns-in-Flags-clause-last : goal.returns-in-Flags-clause-last
returns-in-Flags-clause-last c = followed_last Bool _ _ c.pop_over-in-Flags.ensures.allowed

pub returns-in-Flags-clause-open : goal.returns-in-Flags-clause-open
returns-in-Flags-clause-open c some =
    rw c.in-Flags.is (followed_open Bool _ _ c.pop_over-in-Flags.ensures.allowed
    (omega (arith, some, c.pop_over-in-Flags.ensures.count, length-take-le c.pop_over-in-Flags.result c.pop_over-in-Flags.new.flats)))

pub returns-in-Ints-clause-known : goal.returns-in-Ints-clause-known
returns-in-Ints-clause-known c = rw c.in-Ints.is (prefix_of_more _ _ _ c.pop_over-in-Ints.ensures.known)

pub returns-in-Ints-clause-fit : goal.returns-in-Ints-clause-fit
returns-in-Ints-clause-fit c = rw c.in-Ints.is (followed_fit Int _ _ c.pop_over-in-Ints.ensures.allowed)

pub returns-in-Ints-clause-last : goal.returns-in-Ints-clause-last
returns-in-Ints-clause-last c = followed_last Int _ _ c.pop_over-in-Ints.ensures.allowed

pub returns-in-Ints-clause-open : goal.returns-in-Ints-clause-open
returns-in-Ints-clause-open c some =
    rw c.in-Ints.is (followed_open Int _ _ c.pop_over-in-Ints.ensures.allowed
    (omega (arith, some, c.pop_over-in-Ints.ensures.count, length-take-le c.pop_over-in-Ints.result c.pop_over-in-Ints.new.flats)))
