use Rattle.std.proofs.Common.{◌∙◌, subst, refl, List, ap, sym}
use Rattle.flow_messages.proofs.Tables.{on_ok, if_err}
use Rattle.flow_edges.specs.lanes.SameLanes.{same_writer_refl}
use Rattle.flow_edges.specs.lanes.Rings.{writes_of}
use Rattle.flow_messages.specs.Signals.{signal_of, Signal, ended}
use Rattle.flow_messages.specs.Kinds.{FitsEdge}
use Rattle.flow_edges.proofs.OfLanes.RingLines.{at_line-there, had_kind, writer-put, writer-looked, writer-room, had_sent}
use Rattle.flow_edges.proofs.OfLanes.InPlace.{same_writers}
use Rattle.flow_edges.proofs.lanes.rings_ends.RingsEnds.put.Goals as goal

pub put-requires : goal.put-requires
put-requires c =
    let ws = c.args.self.now.writers.items in
    let w = c.in-Some.writer in
    record {
      fits = subst (λ of. FitsEdge of (signal_of c.args.message))
          (had_kind ws c.args.self.now.readers.items c.args.edge _ w w (at_line-there writes_of ws c.args.edge c.requires.writes)
          c.index_mut.ensures.value c.in-Some.is (same_writer_refl w)) c.requires.fits;
    }

pub returns-clause-ok : goal.returns-clause-ok
returns-clause-ok c =
    let ws = c.args.self.now.writers.items in
    on_ok c.put.result (λ p. writer-put ws c.args.self.now.readers.items c.args.edge _ c.in-Some.writer _
    (at_line-there writes_of ws c.args.edge c.requires.writes) c.index_mut.ensures.value c.in-Some.is c.put.ensures.same c.args.message p.0 p.1)
    c.put.ensures.ok

pub returns-clause-refused : goal.returns-clause-refused
returns-clause-refused c =
    let ws = c.args.self.now.writers.items in
    if_err _ _ c.put.result
    (λ e p. (
      p.0,
      writer-looked ws c.args.self.now.readers.items c.args.edge _ c.in-Some.writer _
          (at_line-there writes_of ws c.args.edge c.requires.writes) c.index_mut.ensures.value c.in-Some.is c.put.ensures.same p.1.0 p.1.1,
    ))
    c.put.ensures.refused

pub returns-clause-full : goal.returns-clause-full
returns-clause-full c =
    let ws = c.args.self.now.writers.items in
    λ full. writer-room ws c.args.self.now.readers.items c.args.edge _ c.in-Some.writer c.put.new.self
    (at_line-there writes_of ws c.args.edge c.requires.writes) c.index_mut.ensures.value c.in-Some.is c.put.ensures.same ∙ c.put.ensures.full full

pub returns-clause-same : goal.returns-clause-same
returns-clause-same c =
    let ws = c.args.self.now.writers.items in
    same_writers _ _ c.args.edge _ _ c.in-Some.writer c.put.new.self c.index_mut.ensures.value c.in-Some.is (at_line-there writes_of ws c.args.edge c.requires.writes) c.put.ensures.same refl refl

pub returns-clause-closed : goal.returns-clause-closed
returns-clause-closed c =
    let s = c.args.self.now in
    let ws = s.writers.items in
    let sent = had_sent ws s.readers.items c.args.edge _ c.in-Some.writer c.put.new.self (at_line-there writes_of ws c.args.edge c.requires.writes)
    c.index_mut.ensures.value c.in-Some.is c.put.ensures.same in
    (λ no. ap (λ (l : List Signal). ended l) sent ∙ c.put.ensures.closed.0 no, λ over. c.put.ensures.closed.1 (sym (ap (λ (l : List Signal). ended l) sent) ∙ over))
