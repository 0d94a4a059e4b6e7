use Rattle.std.proofs.Common.{◌≡◌, true, refl, sym, ◌∙◌, ap, subst, arith}
use Rattle.kahn.specs.declared.want.Want.TheVariants.{Read, Write}
use Rattle.flow_messages.specs.Signals.{signal_of}
use Rattle.flow_messages.specs.Kinds.{FitsEdge}
use Rattle.flow_base.specs.Visits.{edge_of}
use Rattle.flow_base.proofs.Visits.{Made, made_none, input_there, output_there, put_fits, reads_at, made_read, made_wrote, starves_err}
use Rattle.flow_base.proofs.Visiting.{found_nothing, found_no_room, refused_read, refused_write}
use Rattle.flow_base.proofs.transducer.Transducer.run.Goals.{in-Read+else-prove+in-Some+in_ok-give-in-Read, in-Write+else-prove-2+else-not-room+in_ok-message-in-Write}
use Rattle.flow_base.proofs.transducer.Transducer.run.Goals as goal

pub loop-init : goal.loop-init
loop-init g c = record {
  same = g.met.E.Ends.same_refl c.args.ends.now;
  made = made_none g.met.Self.Transducer.laws c.requires.placed;
  first = λ h. refl;
}

pub prove-unreachable-requires : goal.prove-unreachable-requires
prove-unreachable-requires g c =
    omega (arith, c.if-prove.true, input_there g.met.Self.Transducer.laws c.requires.placed c.loop.invariant.made c.in-Read.port (sym c.want.ensures ∙ c.in-Read.is))

pub take-requires : goal.take-requires
take-requires g c = reads_at g.met.Self.Transducer.laws c.requires.placed c.loop.invariant.made c.in-Read.port c.if-prove.false

pub prove-unreachable-requires-in-Write : goal.prove-unreachable-requires-in-Write
prove-unreachable-requires-in-Write g c =
    omega (arith, c.if-prove-2.true, output_there g.met.Self.Transducer.laws c.requires.placed c.loop.invariant.made c.in-Write.port (sym c.want.ensures ∙ c.in-Write.is))

pub put_in_space-requires-clause-fits : goal.put_in_space-requires-clause-fits
put_in_space-requires-clause-fits g c =
    let u = g.E.Ends.view c.room.new.self in
    subst (FitsEdge (u.kind (edge_of c.args.outputs.now c.in-Write.port))) (sym c.in_ok-message-in-Write.ensures.ok.0)
    (put_fits g.met.Self.Transducer.laws c.requires.placed c.loop.invariant.made c.in-Write.port u c.room.ensures.looked.ends (sym c.want.ensures ∙ c.in-Write.is))

pub returns-in_err-give-in-Read : goal.returns-in_err-give-in-Read
returns-in_err-give-in-Read g c =
    let b = g.Self.Transducer.behaviour in
    let state = g.Self.Transducer.state in
    let inv = c.loop.invariant in
    let refused = c.in_err-give-in-Read in
    let starves = starves_err (b.takes_memory (state c.loop.self)) c.give.result refused.field-0.0 refused.was c.give.ensures.sure in
    let same = g.met.E.Ends.same_trans c.args.ends.now c.loop.ends c.take.new.self inv.same c.take.ensures.same in
    let it = refused_read g.E.Ends g.met.Self.Transducer.laws c.args.ends.now c.requires.placed inv.made c.take.new.self same (state c.give.new.self) refused.ensures.err starves
    c.from_residual.result c.from_residual.ensures.0 c.in-Read.port (signal_of c.in-Some.message) (sym c.want.ensures ∙ c.in-Read.is) c.in-Some.ensures.some in
    record { same = it.same; ends = it.ends; visited = it.visited; broke = it.broke }

pub returns-in_err-message-in-Write : goal.returns-in_err-message-in-Write
returns-in_err-message-in-Write g c =
    let b = g.Self.Transducer.behaviour in
    let state = g.Self.Transducer.state in
    let inv = c.loop.invariant in
    let refused = c.in_err-message-in-Write in
    let answer = c.from_residual-in_err-message-in-Write in
    let starves = starves_err (b.takes_memory (state c.loop.self)) c.emit.result refused.field-0.0 refused.was c.emit.ensures.sure in
    let same = g.met.E.Ends.same_trans c.args.ends.now c.loop.ends c.room.new.self inv.same c.room.ensures.same in
    let it = refused_write g.E.Ends g.met.Self.Transducer.laws c.args.ends.now c.requires.placed inv.made c.room.new.self same (state c.emit.new.self) refused.ensures.err starves
    answer.result answer.ensures.0 c.in-Write.port (sym c.want.ensures ∙ c.in-Write.is) c.room.ensures.looked in
    record { same = it.same; ends = it.ends; visited = it.visited; broke = it.broke }

pub returns-in_default : goal.returns-in_default
returns-in_default g c =
    let inv = c.loop.invariant in
    let same = g.met.E.Ends.same_trans c.args.ends.now c.loop.ends c.take.new.self inv.same c.take.ensures.same in
    let it = found_nothing g.E.Ends g.met.Self.Transducer.laws c.args.ends.now c.requires.placed inv.made c.take.new.self same c.in-Read.port (sym c.want.ensures ∙ c.in-Read.is)
    c.in_default.ensures.none in
    record { same = it.same; ends = it.ends; visited = it.visited; broke = it.broke }

pub returns-then-not-room : goal.returns-then-not-room
returns-then-not-room g c =
    let inv = c.loop.invariant in
    let same = g.met.E.Ends.same_trans c.args.ends.now c.loop.ends c.room.new.self inv.same c.room.ensures.same in
    let it = found_no_room g.E.Ends g.met.Self.Transducer.laws c.args.ends.now c.requires.placed inv.made c.room.new.self same c.in-Write.port c.room.result (sym c.want.ensures ∙ c.in-Write.is)
    c.room.ensures.looked c.room.ensures.value c.if-not-room.true in
    record { same = it.same; ends = it.ends; visited = it.visited; broke = it.broke }

pub loop-preserved : goal.loop-preserved
loop-preserved g c =
    let b = g.Self.Transducer.behaviour in
    let laws = g.met.Self.Transducer.laws in
    let ins = c.args.inputs.now in
    let outs = c.args.outputs.now in
    let state = g.Self.Transducer.state in
    let view = g.E.Ends.view in
    let s = state c.args.self.now in
    let t = state c.loop.self in
    let a = view c.args.ends.now in
    let placed = c.requires.placed in
    let made = c.loop.invariant.made in
    let inv = c.loop.invariant in
    let next = state c.match-want.self in
    elim c.match-want.branch [
      | in-Read+else-prove+in-Some+in_ok-give-in-Read w ↦ (let wants : b.process.want t ≡ Read w.in-Read.port = sym c.want.ensures ∙ w.in-Read.is in
          let is : next ≡ b.process.read t (signal_of w.in-Some.message) = ap state w.self-is ∙ w.in_ok-give-in-Read.ensures.ok in
          record {
            same = subst (g.E.Ends.same c.args.ends.now) (sym w.ends-is) (g.met.E.Ends.same_trans c.args.ends.now c.loop.ends w.take.new.self inv.same w.take.ensures.same);
            made = subst (λ x. Made b ins outs s a next (view x) true) (sym w.ends-is)
                (made_read laws placed made w.in-Read.port (signal_of w.in-Some.message) next (view w.take.new.self) wants w.in-Some.ensures.some is);
            first = λ h. cc;
          })
      | in-Write+else-prove-2+else-not-room+in_ok-message-in-Write w ↦ (let wants : b.process.want t ≡ Write w.in-Write.port = sym c.want.ensures ∙ w.in-Write.is in
          let sent = w.in_ok-message-in-Write in
          let is : next ≡ b.process.wrote t = ap state w.self-is ∙ sent.ensures.ok.1 in
          record {
            same = subst (g.E.Ends.same c.args.ends.now) (sym w.ends-is)
                (g.met.E.Ends.same_trans c.args.ends.now w.room.new.self w.put_in_space.new.ends
                (g.met.E.Ends.same_trans c.args.ends.now c.loop.ends w.room.new.self inv.same w.room.ensures.same) w.put_in_space.ensures.same);
            made = subst (λ x. Made b ins outs s a next (view x) true) (sym w.ends-is)
                (made_wrote laws placed made w.in-Write.port (signal_of sent.message) next (view w.room.new.self) (view w.put_in_space.new.ends) wants
                sent.ensures.ok.0 is w.room.ensures.looked w.put_in_space.ensures.wrote);
            first = λ h. cc;
          })
    ]

pub returns-in-Ended-clause-same : goal.returns-in-Ended-clause-same
returns-in-Ended-clause-same g c = c.loop.invariant.same

pub returns-in-Ended-clause-ends : goal.returns-in-Ended-clause-ends
returns-in-Ended-clause-ends g c = c.loop.invariant.made.ends

pub returns-clause-same : goal.returns-clause-same
returns-clause-same g c = c.loop.invariant.same

pub returns-clause-ends : goal.returns-clause-ends
returns-clause-ends g c = c.loop.invariant.made.ends
