use Rattle.std.proofs.Common.{length, sym, ◌∙◌, ap, arith}
use Rattle.flow_messages.specs.Flats.{flat_signals}
use Rattle.flow_messages.specs.Signals.{ended}
use Rattle.flow_messages.proofs.Scalars.{said_none}
use Rattle.flow_messages.proofs.Signals.{ended-nil}
use Rattle.flow_networks.proofs.Ahead.{item_more, still_free, may_come_more, come_items, come_none}
use Rattle.flow_networks.proofs.shown.items_ahead.Goals as goal

pub loop-at-init : goal.loop-at-init
loop-at-init g c = record {
  said = ap flat_signals c.new-block.ensures ∙ said_none;
  may_come = (come_none c.args.kind ((g.E.Ends.view c.args.ends.now).coming c.args.edge) c.new-block.result.items c.new-block.ensures).may_come;
  free = ap (λ xs. ended (flat_signals xs)) c.new-block.ensures ∙ ended-nil;
  len = ap length c.new-block.ensures;
}

-- one item more
pub loop-at-preserved : goal.loop-at-preserved
loop-at-preserved g c =
    let inv = c.loop-at.invariant in
    let xs = c.loop-at.block.items in
    let ys = c.push.new.self.items in
    let x = c.in-Item-Some.flat in
    let m = c.message-message.result in
    let is = c.in-Item-Some.ensures.some in
    let more = c.push.ensures.items in
    record {
      said = item_more xs ys x m is more c.shown-items.result c.loop-at.at c.message-message.ensures inv.said;
      may_come = may_come_more xs ys x m is more c.in-Item-Some.item c.in-Item-Some.is-0 inv.free c.args.kind (sym c.if-fits.ensures) inv.may_come;
      free = still_free xs ys x m is more c.in-Item-Some.item c.in-Item-Some.is-0 inv.free;
      len = omega (arith, c.push.ensures.len, inv.len);
    }

pub returns-after-loop-at-clause-next : goal.returns-after-loop-at-clause-next
returns-after-loop-at-clause-next g c =
    come_items c.args.kind c.shown-items.result c.loop-at.at _ _ c.shown-items.ensures c.loop-at.invariant.said c.loop-at.invariant.may_come

pub returns-in_default-clause-next : goal.returns-in_default-clause-next
returns-in_default-clause-next g c =
    come_items c.args.kind c.shown-items.result c.loop-at.at _ _ c.shown-items.ensures c.loop-at.invariant.said c.loop-at.invariant.may_come
