use Rattle.std.proofs.Common.{◌≡◌, true, refl, sym, subst, arith}
use Rattle.kahn.specs.declared.want.Want.TheVariants.{Write}
use Rattle.flow_messages.specs.Signals.{signal_of}
use Rattle.flow_messages.specs.Kinds.{FitsEdge}
use Rattle.flow_base.specs.Visits.{edge_of, IsStuck}
use Rattle.flow_base.proofs.Visits.{made_none, made_write, made_room, put_fits, visited, broke_off, starves_err, no_room, on_err}
use Rattle.flow_scalar.specs.SourceBehaviour.{source_want, source_takes_memory}
use Rattle.flow_scalar.specs.laws.Source.{source_laws}
use Rattle.flow_nodes.specs.inputs.TextSources.{text_source_state}
use Rattle.flow_nodes.proofs.OfInputs.Blocks.{wants_write, wants_nothing}
use Rattle.flow_nodes.proofs.inputs.source.TextSource.write_singly.Goals as goal

pub loop-init : goal.loop-init
loop-init g c = record {
  same = g.met.E.Ends.same_refl c.args.ends.now;
  made = made_none source_laws c.requires.placed;
  first = λ h. refl;
}

pub returns-in_err-message-clause-broke : goal.returns-in_err-message-clause-broke
returns-in_err-message-clause-broke g c =
    let t = text_source_state c.loop.self in
    let placed = c.requires.placed in
    let u = g.E.Ends.view c.room.new.self in
    let wants : source_want t ≡ Write 0 = wants_write c.loop.self c.if-self.false in
    let starves : source_takes_memory t ≡ true = starves_err (source_takes_memory t) c.emit.result c.in_err-message.field-0.0 c.in_err-message.was c.emit.ensures.sure in
    let looked = made_room source_laws placed c.loop.invariant.made 0 u wants c.room.ensures.looked in
    on_err c.from_residual.result (broke_off source_laws placed looked (text_source_state c.emit.new.self) c.in_err-message.ensures.err starves)

pub put_in_space-requires-clause-fits : goal.put_in_space-requires-clause-fits
put_in_space-requires-clause-fits g c =
    let u = g.E.Ends.view c.room.new.self in
    let wants : source_want (text_source_state c.loop.self) ≡ Write 0 = wants_write c.loop.self c.if-self.false in
    let fits = put_fits source_laws c.requires.placed c.loop.invariant.made 0 u c.room.ensures.looked.ends wants in
    subst (FitsEdge (u.kind (edge_of c.args.outputs.now 0))) (sym c.in_ok-message.ensures.ok.0) fits

pub loop-preserved : goal.loop-preserved
loop-preserved g c =
    let view = g.E.Ends.view in
    let E = g.met.E.Ends in
    let t = text_source_state c.loop.self in
    let placed = c.requires.placed in
    let inv = c.loop.invariant in
    let u = view c.room.new.self in
    let w = view c.put_in_space.new.ends in
    let wants : source_want t ≡ Write 0 = wants_write c.loop.self c.if-self.false in
    let looked = made_room source_laws placed inv.made 0 u wants c.room.ensures.looked in
    let sent = c.in_ok-message in
    record {
      same = E.same_trans c.args.ends.now c.room.new.self c.put_in_space.new.ends (E.same_trans c.args.ends.now c.loop.ends c.room.new.self inv.same c.room.ensures.same) c.put_in_space.ensures.same;
      made = made_write source_laws placed looked 0 (signal_of sent.message) (text_source_state c.emit.new.self) w wants sent.ensures.ok.0 c.put_in_space.ensures.wrote sent.ensures.ok.1;
      first = λ h. cc;
    }

pub returns-then-self-clause-visited : goal.returns-then-self-clause-visited
returns-then-self-clause-visited g c =
    let outs = c.args.outputs.now in
    let v = g.E.Ends.view c.loop.ends in
    visited source_laws c.requires.placed c.loop.invariant.made (λ h. subst (IsStuck c.args.inputs.now outs v) (sym (wants_nothing c.loop.self c.if-self.true)) tt)

pub returns-then-not-room-clause-visited : goal.returns-then-not-room-clause-visited
returns-then-not-room-clause-visited g c =
    let outs = c.args.outputs.now in
    let u = g.E.Ends.view c.room.new.self in
    let wants : source_want (text_source_state c.loop.self) ≡ Write 0 = wants_write c.loop.self c.if-self.false in
    let full : u.room (edge_of outs 0) ≡ 0 = no_room c.room.result (u.room (edge_of outs 0)) c.room.ensures.value c.if-not-room.true in
    let looked = made_room source_laws c.requires.placed c.loop.invariant.made 0 u wants c.room.ensures.looked in
    visited source_laws c.requires.placed looked (λ h. subst (IsStuck c.args.inputs.now outs u) (sym wants) full)

pub returns-after-loop-clause-visited : goal.returns-after-loop-clause-visited
returns-after-loop-clause-visited g c =
    let outs = c.args.outputs.now in
    visited source_laws c.requires.placed c.loop.invariant.made (λ h. absurd (omega (arith, c.loop.invariant.first h, c.requires.some)))
