use Rattle.std.proofs.Common.{List, take, set, ap, sym, ◌∙◌, subst, arith, refl}
use Rattle.std.specs.Prelude.{Some}
use Rattle.flow_messages.specs.Signals.{Signal}
use Rattle.flow_messages.specs.Ends.{TakenAll}
use Rattle.flow_messages.proofs.Signals.{signals-take}
use Rattle.flow_edges.specs.lanes.Lane.{certain_held}
use Rattle.flow_edges.specs.lanes.Rings.{reads_of, view_of_rings}
use Rattle.flow_edges.proofs.OfLanes.RingLines.{at_line-there, reader-taken_all, had_held, had_coming}
use Rattle.flow_edges.proofs.OfLanes.InPlace.{same_readers}
use Rattle.flow_edges.proofs.lanes.rings_ends.RingsEnds.skip.Goals as goal

pub skip-requires : goal.skip-requires
skip-requires c =
    let s = c.args.self.now in
    let r = c.in-Some.reader in
    let h = at_line-there reads_of s.readers.items c.args.edge c.requires.reads in
    omega (arith, c.requires.certain, had_held s.writers.items s.readers.items c.args.edge _ r r h c.index_mut.ensures.value c.in-Some.is)

pub returns-clause-taken : goal.returns-clause-taken
returns-clause-taken c =
    let s = c.args.self.now in
    let ws = s.writers.items in
    let rs = s.readers.items in
    let e = c.args.edge in
    let r = c.in-Some.reader in
    let v = c.skip.new.self in
    let h = at_line-there reads_of rs e c.requires.reads in
    let said = signals-take c.args.count (certain_held r) ∙ ap (take c.args.count) (sym (had_coming ws rs e _ r r h c.index_mut.ensures.value c.in-Some.is)) in
    subst (λ (l : List Signal). TakenAll (view_of_rings ws rs) e l (view_of_rings ws (set rs e (Some v)))) said
    (reader-taken_all ws rs e _ r v h c.index_mut.ensures.value c.in-Some.is (take c.args.count (certain_held r)) c.skip.ensures.taken
    c.skip.ensures.ahead)

pub returns-clause-same : goal.returns-clause-same
returns-clause-same c =
    let rs = c.args.self.now.readers.items in
    same_readers _ _ c.args.edge _ _ c.in-Some.reader c.skip.new.self c.index_mut.ensures.value c.in-Some.is (at_line-there reads_of rs c.args.edge c.requires.reads) c.skip.ensures.same refl refl
