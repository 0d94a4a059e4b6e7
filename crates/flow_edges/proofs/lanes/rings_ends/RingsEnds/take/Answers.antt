use Rattle.flow_messages.proofs.Tables.{if_some, if_none}
use Rattle.flow_edges.specs.lanes.Rings.{reads_of}
use Rattle.flow_edges.proofs.OfLanes.RingLines.{at_line-there, reader-taken, reader-looked, reader-empty, had_held}
use Rattle.std.proofs.Common.{[], append-nil, sym, ◌∙◌, arith, refl}
use Rattle.flow_edges.proofs.OfLanes.InPlace.{same_readers}
use Rattle.flow_edges.proofs.lanes.rings_ends.RingsEnds.take.Goals as goal

pub returns-clause-some : goal.returns-clause-some
returns-clause-some c =
    let rs = c.args.self.now.readers.items in
    if_some _ _ c.take.result
    (λ m p. reader-taken c.args.self.now.writers.items rs c.args.edge _ c.in-Some.reader c.take.new.self
    (at_line-there reads_of rs c.args.edge c.requires) c.index_mut.ensures.value c.in-Some.is m p.0 p.1) c.take.ensures.some

pub returns-clause-none : goal.returns-clause-none
returns-clause-none c =
    let ws = c.args.self.now.writers.items in
    let rs = c.args.self.now.readers.items in
    let h = at_line-there reads_of rs c.args.edge c.requires in
    let v = c.take.new.self in
    if_none c.take.result (λ p. (
      reader-looked ws rs c.args.edge _ c.in-Some.reader v h c.index_mut.ensures.value c.in-Some.is p.0 ([], append-nil _ ∙ p.1 ∙ sym p.2),
      reader-empty ws rs c.args.edge _ c.in-Some.reader v h c.index_mut.ensures.value c.in-Some.is p.2,
    )) c.take.ensures.none

pub returns-clause-succeeds : goal.returns-clause-succeeds
returns-clause-succeeds c some =
    let ws = c.args.self.now.writers.items in
    let rs = c.args.self.now.readers.items in
    c.take.ensures.succeeds
    (omega (
      arith,
      some,
      had_held ws rs c.args.edge _ c.in-Some.reader c.take.new.self (at_line-there reads_of rs c.args.edge c.requires) c.index_mut.ensures.value
          c.in-Some.is,
    ))

pub returns-clause-same : goal.returns-clause-same
returns-clause-same c =
    let rs = c.args.self.now.readers.items in
    same_readers _ _ c.args.edge _ _ c.in-Some.reader c.take.new.self c.index_mut.ensures.value c.in-Some.is (at_line-there reads_of rs c.args.edge c.requires) c.take.ensures.same refl refl
