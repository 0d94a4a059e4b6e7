use Rattle.std.proofs.Common.{rules, ◌<◌, length, take, refl, sym, ap, ◌∙◌, subst, arith, IsOk}
use Rattle.std.proofs.lemmas.List.{take_all}
use Rattle.flow_messages.specs.Signals.{signal_of}
use Rattle.flow_messages.specs.Flats.{flat_signals}
use Rattle.flow_messages.specs.Ends.{PutAll}
use Rattle.flow_messages.proofs.Blocks.{put_more}
use Rattle.flow_messages.proofs.Fitting.{fits_still}
use Rattle.flow_messages.proofs.Scalars.{open_before, looked_put, put_is_sent, said_none, said_length, fits_at, said_at, open_after, room_after, not_refused, refused_first}
use Rattle.flow_messages.proofs.ends.Ends.put_block.Goals as goal

pub loop-flat-init : goal.loop-flat-init
loop-flat-init g c =
    let a = g.Self.Ends.view c.args.self.now in
    let v = g.Self.Ends.view c.room_for.new.self in
    let e = c.args.edge in
    let looked = c.room_for.ensures.looked in
    record {
      same = c.room_for.ensures.same;
      put = subst (λ l. PutAll a e l v) (sym said_none) (looked_put a v e looked);
      unended = λ no. absurd (omega (arith, no));
      looked = λ no. looked;
      room = omega (arith, c.if-not-room_for.ensures.value refl, c.len.ensures.value);
    }

pub put-requires-clause-writes : goal.put-requires-clause-writes
put-requires-clause-writes g c = c.loop-flat.invariant.put.ends.writes c.args.edge ∙ c.requires.writes

pub put-requires-clause-fits : goal.put-requires-clause-fits
put-requires-clause-fits g c =
    fits_still _ _ c.args.edge _ c.loop-flat.invariant.put.ends
    (fits_at _ _ _ c.loop-flat.flat-index _ _ c.as_slice-flat-items.ensures.value c.requires.fit c.loop-flat-test.true c.message.ensures)

pub returns-then-is_err-clause-same : goal.returns-then-is_err-clause-same
returns-then-is_err-clause-same g c = g.met.Self.Ends.same_trans c.args.self.now c.loop-flat.self c.put.new.self c.loop-flat.invariant.same c.put.ensures.same

pub returns-then-is_err-clause-refused : goal.returns-then-is_err-clause-refused
returns-then-is_err-clause-refused g c =
    let view = g.Self.Ends.view in
    let e = c.args.edge in
    let xs = c.args.block.now.items in
    let i = c.loop-flat.flat-index in
    let inv = c.loop-flat.invariant in
    let low : i < length xs = omega (arith, c.loop-flat-test.true, ap length c.as_slice-flat-items.ensures.value) in
    let no_end = open_before xs i low c.requires.last in
    let some : 0 < (view c.loop-flat.self).room e = omega (arith, low, inv.room) in
    let no : IsOk c.put.result → ⊥ = search rules in
    λ is. refused_first (view c.args.self.now) (view c.loop-flat.self) (view c.put.new.self) e _ _ inv.put no_end some c.put.result i no
    c.put.ensures.refused c.put.ensures.succeeds inv.looked inv.unended

pub returns-then-is_err-clause-succeeds : goal.returns-then-is_err-clause-succeeds
returns-then-is_err-clause-succeeds g c =
    let view = g.Self.Ends.view in
    let e = c.args.edge in
    let xs = c.args.block.now.items in
    let i = c.loop-flat.flat-index in
    let inv = c.loop-flat.invariant in
    let low : i < length xs = omega (arith, c.loop-flat-test.true, ap length c.as_slice-flat-items.ensures.value) in
    let no_end = open_before xs i low c.requires.last in
    let some : 0 < (view c.loop-flat.self).room e = omega (arith, low, inv.room) in
    let no : IsOk c.put.result → ⊥ = search rules in
    λ can. absurd (not_refused (view c.args.self.now) (view c.loop-flat.self) (view c.put.new.self) e _ c.message.result inv.put no_end some c.put.result no c.put.ensures.succeeds can.0)

pub loop-flat-preserved : goal.loop-flat-preserved
loop-flat-preserved g c =
    let view = g.Self.Ends.view in
    let e = c.args.edge in
    let a = view c.args.self.now in
    let v = view c.loop-flat.self in
    let w = view c.put.new.self in
    let xs = c.args.block.now.items in
    let i = c.loop-flat.flat-index in
    let m = c.message.result in
    let inv = c.loop-flat.invariant in
    let low : i < length xs = omega (arith, c.loop-flat-test.true, ap length c.as_slice-flat-items.ensures.value) in
    let ms = flat_signals (take i xs) in
    let no_end = open_before xs i low c.requires.last in
    let some : 0 < v.room e = omega (arith, low, inv.room) in
    let ok : IsOk c.put.result = search rules in
    let said = said_at xs _ i _ m c.as_slice-flat-items.ensures.value c.loop-flat-test.true c.message.ensures in
    let more = put_more a v w e ms (signal_of m) m c.put.result inv.put no_end some c.put.ensures.ok c.put.ensures.refused c.put.ensures.closed c.put.ensures.succeeds in
    record {
      same = g.met.Self.Ends.same_trans c.args.self.now c.loop-flat.self c.put.new.self inv.same c.put.ensures.same;
      put = subst (λ l. PutAll a e l w) (sym said) more;
      unended = λ later. open_after a v w e ms m inv.put no_end some c.put.result ok c.put.ensures.closed;
      looked = λ none. absurd (omega (arith, none));
      room = omega (arith, inv.room, room_after a v w e ms m inv.put no_end some c.put.result ok c.put.ensures.ok);
    }

pub returns-clause-same : goal.returns-clause-same
returns-clause-same g c = c.loop-flat.invariant.same

pub returns-clause-put : goal.returns-clause-put
returns-clause-put g c =
    let view = g.Self.Ends.view in
    let is = c.as_slice-flat-items.ensures.value in
    let i = c.loop-flat.flat-index in
    let all = ap (take i) (sym is) ∙ take_all i _ c.loop-flat-test.false ∙ is in
    λ done. subst (λ l. PutAll (view c.args.self.now) c.args.edge (flat_signals l) (view c.loop-flat.self)) all c.loop-flat.invariant.put

pub returns-clause-sent : goal.returns-clause-sent
returns-clause-sent g c =
    let view = g.Self.Ends.view in
    let is = c.as_slice-flat-items.ensures.value in
    let i = c.loop-flat.flat-index in
    let xs = c.args.block.now.items in
    let inv = c.loop-flat.invariant in
    let all = ap (take i) (sym is) ∙ take_all i _ c.loop-flat-test.false ∙ is in
    let put = subst (λ l. PutAll (view c.args.self.now) c.args.edge (flat_signals l) (view c.loop-flat.self)) all inv.put in
    λ done. put_is_sent (view c.args.self.now) (view c.loop-flat.self) c.args.edge (flat_signals xs) put
    (λ some. inv.unended (omega (arith, some, said_length xs, ap length is, c.loop-flat-test.false)))
