use Rattle.std.proofs.Common.{◌≡◌, ◌<◌, true, refl, sym, ◌∙◌, subst, arith, inl, inr}
use Rattle.kahn.specs.declared.want.Want.TheVariants.{Write}
use Rattle.flow_messages.specs.Signals.{signal_of}
use Rattle.flow_messages.specs.Kinds.{FitsEdge}
use Rattle.flow_base.specs.Visits.{edge_of, IsStuck}
use Rattle.flow_base.specs.Members.{node_of}
use Rattle.flow_base.specs.NodeLaws.{behaviour_laws}
use Rattle.flow_base.proofs.Visits.{made_none, input_there, output_there, put_fits, made_put, visited, starves_err}
use Rattle.flow_base.proofs.Visiting.{found_nothing, found_no_room, read_last, refused_read, refused_write}
use Rattle.flow_base.proofs.node.Node.step.Goals as goal

pub prove-unreachable-requires : goal.prove-unreachable-requires
prove-unreachable-requires g c =
    let laws = behaviour_laws _ g.met.W.Worker.laws in
    omega (arith, c.if-prove.true, input_there laws c.requires.placed (made_none laws c.requires.placed) c.in-Read.port (sym c.want.ensures ∙ c.in-Read.is))

pub prove-unreachable-requires-in-Write : goal.prove-unreachable-requires-in-Write
prove-unreachable-requires-in-Write g c =
    let laws = behaviour_laws _ g.met.W.Worker.laws in
    omega (arith, c.if-prove-2.true, output_there laws c.requires.placed (made_none laws c.requires.placed) c.in-Write.port (sym c.want.ensures ∙ c.in-Write.is))

pub returns-in_default : goal.returns-in_default
returns-in_default g c =
    let made = made_none (behaviour_laws _ g.met.W.Worker.laws) c.requires.placed in
    found_nothing g.E.Ends (behaviour_laws _ g.met.W.Worker.laws) c.args.ends.now c.requires.placed made c.take.new.self c.take.ensures.same c.in-Read.port
    (sym c.want.ensures ∙ c.in-Read.is) c.in_default.ensures.none

pub returns-in_err-give-in-Read : goal.returns-in_err-give-in-Read
returns-in_err-give-in-Read g c =
    let node = node_of g.W.Worker.state g.W.Worker.machine in
    let made = made_none (behaviour_laws _ g.met.W.Worker.laws) c.requires.placed in
    let refused = c.in_err-give-in-Read in
    let starves = starves_err (node.behaviour.takes_memory (node.state c.args.self.now)) c.give.result refused.field-0.0 refused.was c.give.ensures.sure in
    refused_read g.E.Ends (behaviour_laws _ g.met.W.Worker.laws) c.args.ends.now c.requires.placed made c.take.new.self c.take.ensures.same (node.state c.give.new.self) refused.ensures.err starves
    c.from_residual.result c.from_residual.ensures.0 c.in-Read.port (signal_of c.in-Some.message) (sym c.want.ensures ∙ c.in-Read.is) c.in-Some.ensures.some

pub returns-then-not-room : goal.returns-then-not-room
returns-then-not-room g c =
    let made = made_none (behaviour_laws _ g.met.W.Worker.laws) c.requires.placed in
    found_no_room g.E.Ends (behaviour_laws _ g.met.W.Worker.laws) c.args.ends.now c.requires.placed made c.room.new.self c.room.ensures.same c.in-Write.port c.room.result
    (sym c.want.ensures ∙ c.in-Write.is) c.room.ensures.looked c.room.ensures.value c.if-not-room.true

pub returns-in_err-message-in-Write : goal.returns-in_err-message-in-Write
returns-in_err-message-in-Write g c =
    let node = node_of g.W.Worker.state g.W.Worker.machine in
    let made = made_none (behaviour_laws _ g.met.W.Worker.laws) c.requires.placed in
    let refused = c.in_err-message-in-Write in
    let starves = starves_err (node.behaviour.takes_memory (node.state c.args.self.now)) c.emit.result refused.field-0.0 refused.was c.emit.ensures.sure in
    let answer = c.from_residual-in_err-message-in-Write in
    refused_write g.E.Ends (behaviour_laws _ g.met.W.Worker.laws) c.args.ends.now c.requires.placed made c.room.new.self c.room.ensures.same (node.state c.emit.new.self) refused.ensures.err starves
    answer.result answer.ensures.0 c.in-Write.port (sym c.want.ensures ∙ c.in-Write.is) c.room.ensures.looked

pub returns-in_ok-give-in-Read : goal.returns-in_ok-give-in-Read
returns-in_ok-give-in-Read g c =
    let made = made_none (behaviour_laws _ g.met.W.Worker.laws) c.requires.placed in
    read_last g.E.Ends (behaviour_laws _ g.met.W.Worker.laws) c.args.ends.now c.requires.placed made c.take.new.self c.take.ensures.same c.in-Read.port (signal_of c.in-Some.message) _
    (sym c.want.ensures ∙ c.in-Read.is) c.in-Some.ensures.some c.in_ok-give-in-Read.ensures.ok true refl

pub put-requires-clause-fits : goal.put-requires-clause-fits
put-requires-clause-fits g c =
    let laws = behaviour_laws _ g.met.W.Worker.laws in
    let placed = c.requires.placed in
    let u = g.E.Ends.view c.room.new.self in
    subst (FitsEdge (u.kind (edge_of c.args.edges.now.outputs.now c.in-Write.port))) (sym c.in_ok-message-in-Write.ensures.ok.0)
    (put_fits laws placed (made_none laws placed) c.in-Write.port u c.room.ensures.looked.ends (sym c.want.ensures ∙ c.in-Write.is))

pub returns-in_ok-message-in-Write : goal.returns-in_ok-message-in-Write
returns-in_ok-message-in-Write g c =
    let node = node_of g.W.Worker.state g.W.Worker.machine in
    let b = node.behaviour in
    let laws = (behaviour_laws _ g.met.W.Worker.laws) in
    let outs = c.args.edges.now.outputs.now in
    let s = node.state c.args.self.now in
    let view = g.E.Ends.view in
    let placed = c.requires.placed in
    let made = made_none laws placed in
    let wants : b.process.want s ≡ Write c.in-Write.port = sym c.want.ensures ∙ c.in-Write.is in
    let sent = c.in_ok-message-in-Write in
    let t = node.state c.emit.new.self in
    let u = view c.room.new.self in
    let w = view c.put.new.self in
    let certain : 0 < u.room (edge_of outs c.in-Write.port) = c.room.ensures.value.0 (cc (c.if-not-room.false)) in
    let after = made_put laws placed made c.in-Write.port sent.message t u w c.put.result wants sent.ensures.ok.0 sent.ensures.ok.1
    c.room.ensures.looked certain c.put.ensures.ok c.put.ensures.refused c.put.ensures.closed c.put.ensures.succeeds in
    record {
      same = g.met.E.Ends.same_trans c.args.ends.now c.room.new.self c.put.new.self c.room.ensures.same c.put.ensures.same;
      ends = after.ends;
      visited = visited laws placed after (λ h. cc);
      broke = tt;
    }

pub returns-in-Ended : goal.returns-in-Ended
returns-in-Ended g c =
    let node = node_of g.W.Worker.state g.W.Worker.machine in
    let laws = (behaviour_laws _ g.met.W.Worker.laws) in
    let ins = c.args.edges.now.inputs.now in
    let outs = c.args.edges.now.outputs.now in
    let view = g.E.Ends.view in
    let a = view c.args.ends.now in
    let placed = c.requires.placed in
    let made = made_none laws placed in
    record {
      same = g.met.E.Ends.same_refl c.args.ends.now;
      ends = made.ends;
      visited = visited laws placed made (λ h. elim c.in-Ended.is [
        | inl is ↦ subst (IsStuck ins outs a) (sym (sym c.want.ensures ∙ is)) tt
        | inr x ↦ subst (IsStuck ins outs a) (sym (sym c.want.ensures ∙ x.1)) tt
      ]);
      broke = tt;
    }
