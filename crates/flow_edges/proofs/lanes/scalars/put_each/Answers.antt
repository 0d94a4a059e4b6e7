use Rattle.std.proofs.Common.{◌≡◌, false, [], ◌∷◌, length, take, refl, sym, ap, ◌∙◌, subst, arith, length-append}
use Rattle.std.proofs.lemmas.List.{take_all, length-take-le}
use Rattle.flow_messages.specs.Contents.{item_messages}
use Rattle.flow_messages.specs.Signals.{signals, signal_of, ended}
use Rattle.flow_messages.specs.Kinds.{FitsEdge}
use Rattle.flow_messages.proofs.Signals.{signals-take}
use Rattle.flow_messages.proofs.SideBySide.{item_fits, messages-open, open-take, taken_one}
use Rattle.flow_rings.specs.Edge.{sent, certain_room, kind_of}
use Rattle.flow_words.specs.Edge.{followed_unless_ended}
use Rattle.flow_edges.specs.lanes.Followed.{PutsInTurn}
use Rattle.flow_edges.proofs.OfLanes.Owing.{same_kind}
use Rattle.flow_edges.proofs.OfLanes.Followed.{followed_none, followed_more, followed_one}
use Rattle.flow_edges.proofs.lanes.scalars.put_each.Goals as goal

pub loop-at-init : goal.loop-at-init
loop-at-init c = record { same = (refl, refl); put = followed_none _; room = omega arith }

pub put-requires : goal.put-requires
put-requires c = record {
  fits = subst (λ of. FitsEdge of (signal_of c.message.result)) (sym (same_kind c.args.edge.now c.loop-at.edge c.loop-at.invariant.same))
      (item_fits (kind_of c.args.edge.now) c.args.items c.requires.takes c.loop-at.at c.message.result c.message.ensures);
}

pub loop-at-preserved : goal.loop-at-preserved
loop-at-preserved c =
    let inv = c.loop-at.invariant in
    let all = item_messages c.args.items in
    let i = c.loop-at.at in
    let m = c.message.result in
    let old = c.args.edge.now in
    let v = c.loop-at.edge in
    let w = c.put.new.self in
    let now = followed_one (sent v) (sent w) m (certain_room v) (certain_room w) c.put.result
    (omega (arith, inv.room, c.requires.certain, c.loop-at-test.true, c.len-at-end.ensures, length-take-le i all)) c.put.ensures.ok c.put.ensures.refused
    c.put.ensures.closed c.put.ensures.succeeds in
    let next = taken_one all i m c.message.ensures in
    let free : ended (signals (take i all)) ≡ false = ap ended (signals-take i all) ∙ open-take (signals all) i (messages-open c.args.items) in
    record {
      same = (c.put.ensures.same.0 ∙ inv.same.0, c.put.ensures.same.1 ∙ inv.same.1);
      put = now.0 ∙ ap (λ l. followed_unless_ended l (m ∷ [])) inv.put ∙ followed_more (sent old) (take i all) (m ∷ []) free
          ∙ ap (followed_unless_ended (sent old)) (sym next);
      room = omega (arith, inv.room, now.1, ap length next, length-append (take i all) (m ∷ []));
    }

pub returns : goal.returns
returns c =
    let all = item_messages c.args.items in
    subst (λ l. PutsInTurn l c.args.edge.now c.loop-at.edge) (take_all c.loop-at.at all (omega (arith, c.loop-at-test.false, c.len-at-end.ensures))) c.loop-at.invariant
