use Rattle.std.proofs.Common.{◌≡◌, ℕ, ◌+◌, nat_lt, true, Result, Ok, Err, sym, ◌∙◌, ap, subst, arith}
use Rattle.std.specs.Prelude.{IsErr}
use Rattle.std.specs.declared.alloc.AllocError.{AllocError}
use Rattle.flow_messages.specs.Signals.{signal_of, carry}
use Rattle.flow_messages.specs.declared.message.Msg.TheVariants as msg
use Rattle.flow_messages.specs.Kinds.{FitsEdge}
use Rattle.flow_base.specs.Machines.{move_of, written_cell}
use Rattle.flow_base.specs.Nodes.{node_state, written_signal, after_in, memory_in}
use Rattle.flow_base.specs.Members.{node_of}
use Rattle.flow_base.specs.Standing.{any_step}
use Rattle.flow_base.specs.Visits.{edge_of}
use Rattle.flow_base.specs.NodeLaws.{behaviour_laws}
use Rattle.flow_base.proofs.Visits.{Made, input_there, output_there, put_fits, reads_at, made_none, made_read, made_wrote, starves_err}
use Rattle.flow_base.proofs.Visiting.{stepped, wants_so, found_nothing, found_no_room, read_last, refused_read, refused_write}
use Rattle.flow_base.proofs.node.Node.work.Goals.{in-Read+else-prove+in-Some+in_ok-read_on-in-Read+else-not-branch, in-Write+else-prove-2+else-not-room+in_ok-item-in-Write}
use Rattle.flow_base.proofs.node.Node.work.Goals as goal

still_refused : (r : Result ℕ AllocError) → IsErr r → IsErr (any_step r)
still_refused (Ok made) is = absurd (cc)
still_refused (Err e) is = is

pub prove-unreachable-requires : goal.prove-unreachable-requires
prove-unreachable-requires g c =
    let inv = c.loop-made.invariant in
    let wants = wants_so g.W.Worker c.loop-made.self _ _ inv.works c.want_on.ensures c.in-Read.is in
    omega (arith, c.if-prove.true, input_there (behaviour_laws _ g.met.W.Worker.laws) c.requires.placed inv.made c.in-Read.port wants)

pub prove-unreachable-requires-in-Write : goal.prove-unreachable-requires-in-Write
prove-unreachable-requires-in-Write g c =
    let inv = c.loop-made.invariant in
    let wants = wants_so g.W.Worker c.loop-made.self _ _ inv.works c.want_on.ensures c.in-Write.is in
    omega (arith, c.if-prove-2.true, output_there (behaviour_laws _ g.met.W.Worker.laws) c.requires.placed inv.made c.in-Write.port wants)

pub take-requires : goal.take-requires
take-requires g c = reads_at (behaviour_laws _ g.met.W.Worker.laws) c.requires.placed c.loop-made.invariant.made c.in-Read.port c.if-prove.false

pub returns-in_default-clause-visit : goal.returns-in_default-clause-visit
returns-in_default-clause-visit g c =
    let inv = c.loop-made.invariant in
    let same = g.met.E.Ends.same_trans c.args.ends.now c.loop-made.ends c.take.new.self inv.same c.take.ensures.same in
    found_nothing g.E.Ends (behaviour_laws _ g.met.W.Worker.laws) c.args.ends.now c.requires.placed inv.made c.take.new.self same c.in-Read.port
    (wants_so g.W.Worker c.loop-made.self _ _ inv.works c.want_on.ensures c.in-Read.is) c.in_default.ensures.none

pub returns-then-not-room-clause-visit : goal.returns-then-not-room-clause-visit
returns-then-not-room-clause-visit g c =
    let inv = c.loop-made.invariant in
    let same = g.met.E.Ends.same_trans c.args.ends.now c.loop-made.ends c.room.new.self inv.same c.room.ensures.same in
    found_no_room g.E.Ends (behaviour_laws _ g.met.W.Worker.laws) c.args.ends.now c.requires.placed inv.made c.room.new.self same c.in-Write.port c.room.result
    (wants_so g.W.Worker c.loop-made.self _ _ inv.works c.want_on.ensures c.in-Write.is) c.room.ensures.looked c.room.ensures.value c.if-not-room.true

pub returns-then-not-branch-clause-visit : goal.returns-then-not-branch-clause-visit
returns-then-not-branch-clause-visit g c =
    let inv = c.loop-made.invariant in
    let same = g.met.E.Ends.same_trans c.args.ends.now c.loop-made.ends c.take.new.self inv.same c.take.ensures.same in
    read_last g.E.Ends (behaviour_laws _ g.met.W.Worker.laws) c.args.ends.now c.requires.placed inv.made c.take.new.self same c.in-Read.port
    (signal_of c.in-Some.message) _ (wants_so g.W.Worker c.loop-made.self _ _ inv.works c.want_on.ensures c.in-Read.is) c.in-Some.ensures.some
    c.in_ok-read_on-in-Read.ensures.ok _ (stepped c.loop-made.made)

pub returns-in_err-read_on-in-Read-clause-visit : goal.returns-in_err-read_on-in-Read-clause-visit
returns-in_err-read_on-in-Read-clause-visit g c =
    let m = g.W.Worker.machine in
    let node = node_of g.W.Worker.state m in
    let inv = c.loop-made.invariant in
    let t = node.state c.loop-made.self in
    let starves : node.behaviour.takes_memory t ≡ true = ap (λ p. memory_in m p t) inv.works
    ∙ starves_err (m.takes_memory t.worker.1) c.read_on.result c.in_err-read_on-in-Read.field-0.0 c.in_err-read_on-in-Read.was c.read_on.ensures.sure in
    let same = g.met.E.Ends.same_trans c.args.ends.now c.loop-made.ends c.take.new.self inv.same c.take.ensures.same in
    refused_read g.E.Ends (behaviour_laws _ g.met.W.Worker.laws) c.args.ends.now c.requires.placed inv.made c.take.new.self same (node.state c.read_on.new.self)
    c.in_err-read_on-in-Read.ensures.err starves (any_step c.from_residual.result) (still_refused c.from_residual.result c.from_residual.ensures.0) c.in-Read.port (signal_of c.in-Some.message)
    (wants_so g.W.Worker c.loop-made.self _ _ inv.works c.want_on.ensures c.in-Read.is) c.in-Some.ensures.some

pub returns-in_err-item-in-Write-clause-visit : goal.returns-in_err-item-in-Write-clause-visit
returns-in_err-item-in-Write-clause-visit g c =
    let m = g.W.Worker.machine in
    let node = node_of g.W.Worker.state m in
    let inv = c.loop-made.invariant in
    let n = c.loop-made.self in
    let t = node.state n in
    let starves : node.behaviour.takes_memory t ≡ true = ap (λ p. memory_in m p t) inv.works
    ∙ starves_err (m.takes_memory t.worker.1) c.give.result c.in_err-item-in-Write.field-0.0 c.in_err-item-in-Write.was c.give.ensures.sure in
    let same = g.met.E.Ends.same_trans c.args.ends.now c.loop-made.ends c.room.new.self inv.same c.room.ensures.same in
    let refused = c.from_residual-in_err-item-in-Write in
    refused_write g.E.Ends (behaviour_laws _ g.met.W.Worker.laws) c.args.ends.now c.requires.placed inv.made c.room.new.self same (node_state (g.W.Worker.state c.give.new.self) n.phase n.at)
    (ap (λ x. node_state x n.phase n.at) c.in_err-item-in-Write.ensures.err) starves (any_step refused.result) (still_refused refused.result refused.ensures.0) c.in-Write.port
    (wants_so g.W.Worker n _ _ inv.works c.want_on.ensures c.in-Write.is) c.room.ensures.looked

pub put_in_space-requires-clause-fits : goal.put_in_space-requires-clause-fits
put_in_space-requires-clause-fits g c =
    let m = g.W.Worker.machine in
    let node = node_of g.W.Worker.state m in
    let inv = c.loop-made.invariant in
    let t = node.state c.loop-made.self in
    let u = g.E.Ends.view c.room.new.self in
    let wants = wants_so g.W.Worker c.loop-made.self _ _ inv.works c.want_on.ensures c.in-Write.is in
    let told : carry (written_cell (move_of m t.worker)) ≡ node.behaviour.process.written t = sym (ap (λ p. written_signal m p t) inv.works) in
    subst (FitsEdge (u.kind (edge_of c.args.edges.now.outputs.now c.in-Write.port))) (sym (ap carry c.in_ok-item-in-Write.ensures.ok.0 ∙ told))
    (put_fits (behaviour_laws _ g.met.W.Worker.laws) c.requires.placed inv.made c.in-Write.port u c.room.ensures.looked.ends wants)

pub loop-made-preserved : goal.loop-made-preserved
loop-made-preserved g c =
    let m = g.W.Worker.machine in
    let node = node_of g.W.Worker.state m in
    let b = node.behaviour in
    let laws = (behaviour_laws _ g.met.W.Worker.laws) in
    let ins = c.args.edges.now.inputs.now in
    let outs = c.args.edges.now.outputs.now in
    let s = node.state c.args.self.now in
    let t = node.state c.loop-made.self in
    let view = g.E.Ends.view in
    let a = view c.args.ends.now in
    let placed = c.requires.placed in
    let made = c.loop-made.invariant.made in
    let works = c.loop-made.invariant.works in
    let inv = c.loop-made.invariant in
    let next = node.state c.match-want_on.self in
    elim c.match-want_on.branch [
      | in-Read+else-prove+in-Some+in_ok-read_on-in-Read+else-not-branch w ↦
          (let wants = wants_so g.W.Worker c.loop-made.self _ _ works c.want_on.ensures w.in-Read.is in
          let is : next ≡ b.process.read t (signal_of w.in-Some.message) = ap node.state w.self-is ∙ w.in_ok-read_on-in-Read.ensures.ok in
          record {
            same = subst (g.E.Ends.same c.args.ends.now) (sym w.ends-is) (g.met.E.Ends.same_trans c.args.ends.now c.loop-made.ends w.take.new.self inv.same w.take.ensures.same);
            works = ap (λ n. n.phase) w.self-is ∙ w.in_ok-read_on-in-Read.ensures.on (cc (w.if-not-branch.false));
            made = subst (λ x. Made b ins outs s a next (view x) (nat_lt 0 (c.loop-made.made + 1))) (sym w.ends-is)
                (subst (Made b ins outs s a next (view w.take.new.self)) (stepped c.loop-made.made)
                (made_read laws placed made w.in-Read.port (signal_of w.in-Some.message) next (view w.take.new.self) wants w.in-Some.ensures.some is));
          })
      | in-Write+else-prove-2+else-not-room+in_ok-item-in-Write w ↦ (let wants = wants_so g.W.Worker c.loop-made.self _ _ works c.want_on.ensures w.in-Write.is in
          let sent = w.in_ok-item-in-Write in
          let told : carry (written_cell (move_of m t.worker)) ≡ b.process.written t = sym (ap (λ p. written_signal m p t) works) in
          let is : next ≡ b.process.wrote t = ap node.state w.self-is ∙ ap (λ x. node_state x c.loop-made.self.phase c.loop-made.self.at) sent.ensures.ok.1 ∙ sym (ap (λ p. after_in m p t) works) in
          record {
            same = subst (g.E.Ends.same c.args.ends.now) (sym w.ends-is)
                (g.met.E.Ends.same_trans c.args.ends.now w.room.new.self w.put_in_space.new.ends
                (g.met.E.Ends.same_trans c.args.ends.now c.loop-made.ends w.room.new.self inv.same w.room.ensures.same) w.put_in_space.ensures.same);
            works = ap (λ n. n.phase) w.self-is ∙ works;
            made = subst (λ x. Made b ins outs s a next (view x) (nat_lt 0 (c.loop-made.made + 1))) (sym w.ends-is)
                (subst (Made b ins outs s a next (view w.put_in_space.new.ends)) (stepped c.loop-made.made)
                (made_wrote laws placed made w.in-Write.port (signal_of (msg.Item sent.item)) next (view w.room.new.self) (view w.put_in_space.new.ends)
                wants (ap carry sent.ensures.ok.0 ∙ told) is w.room.ensures.looked w.put_in_space.ensures.wrote));
          })
    ]

pub loop-made-init : goal.loop-made-init
loop-made-init g c =
    let node = node_of g.W.Worker.state g.W.Worker.machine in
    record {
      same = g.met.E.Ends.same_refl c.args.ends.now;
      works = c.requires.works;
      made = made_none (behaviour_laws _ g.met.W.Worker.laws) c.requires.placed;
    }
