use Rattle.std.proofs.lemmas.Grind.{common_steps}
use Rattle.std.proofs.Common.{[], ◌∷◌, inl, inr, refl, sym, ◌∙◌, ap, subst, length, arith, length-append}
use Rattle.flow_base.proofs.Visits.{on_err}
use Rattle.flow_shares.specs.Shares.{most_turns, HaveMoved, SpareOthers}
use Rattle.flow_shares.proofs.Heard.{heard_next}
use Rattle.flow_shares.proofs.Moves.{moved_none}
use Rattle.flow_shares.proofs.Spares.{spared_none}
use Rattle.flow_shares.proofs.Rounds.{turned_none, turned_end, there_now, apart_now, own_now, turn_lost, moved_more, stuck_last, OneTurn, turned_next, turn_spares, still_calm, busy_before, busy_last}
use Rattle.flow_shares.proofs.turns.take_turns.Goals.{then-branch, else-branch+else-idle-idle_turns+else-are_over}
use Rattle.flow_shares.proofs.turns.take_turns.Goals as goal

pub returns-then-is_empty-clause-moved : goal.returns-then-is_empty-clause-moved
returns-then-is_empty-clause-moved g c =
    let nodes = c.args.nodes.now.items in
    let before = g.E.Ends.view c.args.ends.now in
    subst (λ z. HaveMoved nodes nodes before z) (sym c.put_out.ensures.view) (moved_none nodes before)

pub loop-turn-init : goal.loop-turn-init
loop-turn-init g c = record {
  counted = ap length c.new-made.ensures;
  heard = λ turn below. absurd (omega (arith, below));
  same = g.met.E.Ends.same_refl c.args.ends.now;
  turned = turned_none c.args.nodes.now.items (g.E.Ends.view c.args.ends.now) c.args.idle_turns c.requires.idle;
  busy = λ h. cc;
  calm = λ h. record { sent = λ k. refl; received = λ k. refl };
}

pub pass_or_put_out-requires-clause-there : goal.pass_or_put_out-requires-clause-there
pass_or_put_out-requires-clause-there g c = there_now c.loop-turn.invariant.turned c.requires.there

pub pass_or_put_out-requires-clause-apart : goal.pass_or_put_out-requires-clause-apart
pass_or_put_out-requires-clause-apart g c = apart_now c.loop-turn.invariant.turned c.requires.apart

pub pass_or_put_out-requires-clause-own : goal.pass_or_put_out-requires-clause-own
pass_or_put_out-requires-clause-own g c = own_now c.loop-turn.invariant.turned c.requires.own

pub returns-in_err-pass_or_put_out-clause-lost : goal.returns-in_err-pass_or_put_out-clause-lost
returns-in_err-pass_or_put_out-clause-lost g c =
    on_err c.from_residual.result
    (turn_lost c.loop-turn.invariant.turned c.pass_or_put_out.new.nodes.items (g.E.Ends.view c.pass_or_put_out.new.ends)
    c.in_err-pass_or_put_out.ensures.lost)

pub returns-then-idle-idle_turns-clause-moved : goal.returns-then-idle-idle_turns-clause-moved
returns-then-idle-idle_turns-clause-moved g c = moved_more c.loop-turn.invariant.turned c.in_ok-pass_or_put_out.ensures.moved

pub returns-then-idle-idle_turns-clause-progress : goal.returns-then-idle-idle_turns-clause-progress
returns-then-idle-idle_turns-clause-progress g c =
    let view = g.E.Ends.view in
    let ensures = c.in_ok-pass_or_put_out.ensures in
    let went : OneTurn c.loop-turn.nodes.items c.pass_or_put_out.new.nodes.items (view c.loop-turn.ends) (view c.pass_or_put_out.new.ends) c.in_ok-pass_or_put_out.field-0 =
    record {
      places = ensures.places;
      ends = ensures.ends;
      moved = ensures.moved;
      spares = ensures.spares;
      busy = ensures.busy;
      calm = ensures.calm;
      stuck = λ still. (ensures.stuck still, ensures.rest still);
    } in
    stuck_last c.loop-turn.invariant.turned went

pub loop-turn-preserved : goal.loop-turn-preserved
loop-turn-preserved g c =
    let view = g.E.Ends.view in
    let inv = c.loop-turn.invariant in
    let ensures = c.in_ok-pass_or_put_out.ensures in
    let went : OneTurn c.loop-turn.nodes.items c.pass_or_put_out.new.nodes.items (view c.loop-turn.ends) (view c.pass_or_put_out.new.ends) c.in_ok-pass_or_put_out.field-0 =
    record {
      places = ensures.places;
      ends = ensures.ends;
      moved = ensures.moved;
      spares = ensures.spares;
      busy = ensures.busy;
      calm = ensures.calm;
      stuck = λ still. (ensures.stuck still, ensures.rest still);
    } in
    let now = c.if-branch.idle in
    record {
      counted = omega (arith, ap length c.begin_turn.ensures.made, length-append c.loop-turn.made.items (c.loop-turn.turn ∷ []), inv.counted);
      heard = heard_next (λ turn. g.G.Gate.heard c.args.gate.now c.args.number turn) c.loop-turn.turn inv.heard c.begin_turn.ensures.heard;
      same = g.met.E.Ends.same_trans c.args.ends.now c.loop-turn.ends c.pass_or_put_out.new.ends inv.same ensures.same;
      turned = elim c.if-branch.branch [
        | then-branch w ↦ turned_next inv.turned went now (omega (arith, w.idle-is, c.requires.idle)) (inl (w.if-branch.true, w.idle-is))
        | else-branch+else-idle-idle_turns+else-are_over w ↦
            turned_next inv.turned went now (omega (arith, w.idle-is, inv.turned.few, w.if-idle-idle_turns.false)) (inr (w.if-branch.false, w.idle-is))
      ];
      busy = elim c.if-branch.branch [
        | then-branch w ↦ λ h. busy_last inv.turned.moved ensures.moved (ensures.busy w.if-branch.true)
        | else-branch+else-idle-idle_turns+else-are_over w ↦ λ h. busy_before inv.turned.moved ensures.moved (inv.busy (sym w.moved-is ∙ h))
      ];
      calm = elim c.if-branch.branch [
        | then-branch w ↦ λ h. absurd (let no = sym w.moved-is ∙ h in cc)
        | else-branch+else-idle-idle_turns+else-are_over w ↦ λ h. still_calm (inv.calm (sym w.moved-is ∙ h)) (ensures.calm w.if-branch.false)
      ];
    }

pub returns-clause-often : goal.returns-clause-often
returns-clause-often g c = λ spent. turned_end c.loop-turn.invariant.turned most_turns (omega arith)

pub returns-clause-heard : goal.returns-clause-heard
returns-clause-heard g c = λ spent turn below. c.loop-turn.invariant.heard turn (omega (arith, below))

pub returns-then-idle-idle_turns-clause-busy : goal.returns-then-idle-idle_turns-clause-busy
returns-then-idle-idle_turns-clause-busy g c h =
    busy_before c.loop-turn.invariant.turned.moved c.in_ok-pass_or_put_out.ensures.moved (c.loop-turn.invariant.busy h)

pub returns-then-idle-idle_turns-clause-calm : goal.returns-then-idle-idle_turns-clause-calm
returns-then-idle-idle_turns-clause-calm g c h =
    still_calm (c.loop-turn.invariant.calm h) (c.in_ok-pass_or_put_out.ensures.calm c.if-branch.false)

pub returns-then-idle-idle_turns-clause-spares : goal.returns-then-idle-idle_turns-clause-spares
returns-then-idle-idle_turns-clause-spares g c =
    turn_spares c.loop-turn.invariant.turned (g.E.Ends.view c.pass_or_put_out.new.ends) c.in_ok-pass_or_put_out.ensures.spares

pub returns-then-is_empty-clause-spares : goal.returns-then-is_empty-clause-spares
returns-then-is_empty-clause-spares g c =
    let nodes = c.args.nodes.now.items in
    let before = g.E.Ends.view c.args.ends.now in
    subst (λ z. SpareOthers nodes before z) (sym c.put_out.ensures.view) (spared_none nodes before)

pub returns-in_err-pass_or_put_out-clause-places : goal.returns-in_err-pass_or_put_out-clause-places
returns-in_err-pass_or_put_out-clause-places g c = grind (arith, common_steps)

pub returns-then-idle-idle_turns-clause-places : goal.returns-then-idle-idle_turns-clause-places
returns-then-idle-idle_turns-clause-places g c = grind (arith, common_steps)

pub returns-then-idle-idle_turns-clause-ends : goal.returns-then-idle-idle_turns-clause-ends
returns-then-idle-idle_turns-clause-ends g c = grind (arith, common_steps)

pub returns-then-idle-idle_turns-clause-rest : goal.returns-then-idle-idle_turns-clause-rest
returns-then-idle-idle_turns-clause-rest g c = grind (arith, common_steps)
