use Rattle.std.proofs.Common.{◌<◌, ◌++◌, [], ◌∷◌, length, take, sym, subst, arith}
use Rattle.std.proofs.lemmas.List.{length-take-le}
use Rattle.flow_messages.specs.Signals.{signal_of}
use Rattle.flow_messages.specs.Ends.{PutAll}
use Rattle.flow_messages.specs.Blocks.{item_signals}
use Rattle.flow_messages.proofs.Fitting.{fits_still}
use Rattle.flow_messages.proofs.Blocks.{put_next}
use Rattle.flow_messages.proofs.SideBySide.{item_fits, item_signal_at, items-open, length-items, open-take, taken_one}
use Rattle.flow_messages.proofs.ends.Ends.put_all.Goals as goal

pub put-requires-clause-fits : goal.put-requires-clause-fits
put-requires-clause-fits g c =
    fits_still _ _ c.args.edge _ c.loop-at.invariant.put.ends (item_fits _ c.args.items c.requires.kind c.loop-at.at c.message.result c.message.ensures)

pub loop-at-preserved : goal.loop-at-preserved
loop-at-preserved g c =
    let view = g.Self.Ends.view in
    let e = c.args.edge in
    let all = item_signals c.args.items in
    let i = c.loop-at.at in
    let m = signal_of c.message.result in
    let a = view c.args.self.now in
    let v = view c.loop-at.self in
    let w = view c.put.new.self in
    let short : length (take i all) < a.room e = omega (arith, c.loop-at-test.true, c.len-at-end.ensures, length-items c.args.items, c.requires.certain, length-take-le i all) in
    let no_end = open-take all i (items-open c.args.items) in
    let next : PutAll a e (take i all ++ m ∷ []) w = put_next a v w e (take i all) m _ c.put.result c.loop-at.invariant.put no_end short
    c.put.ensures.ok c.put.ensures.refused c.put.ensures.closed c.put.ensures.succeeds in
    record {
      same = g.met.Self.Ends.same_trans c.args.self.now c.loop-at.self c.put.new.self c.loop-at.invariant.same c.put.ensures.same;
      put = subst (λ l. PutAll a e l w) (sym (taken_one all i m (item_signal_at c.args.items i c.message.result c.message.ensures))) next;
    }
