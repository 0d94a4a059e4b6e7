use Rattle.std.proofs.Common.{◌≡◌, ◌<◌, ◌+◌, true, false, [], ◌∷◌, length, sym, ap, ◌∙◌, arith, length-append}
use Rattle.flow_messages.specs.Signals.{signals, ended}
use Rattle.flow_words.specs.Edge.{sent, certain_room}
use Rattle.flow_edges.specs.lanes.Many.{many_messages}
use Rattle.flow_edges.proofs.OfLanes.Beside.{closed_seen}
use Rattle.flow_edges.proofs.OfLanes.Owing.{ok_holds}
use Rattle.flow_edges.proofs.lanes.counted.CountedWriter.put.Goals as goal
use Rattle.flow_edges.proofs.lanes.counted.CountedWriter.put.Goals.{then-is_closed-2, else-is_closed-2}

pub returns-then-not-has_room-clause-closed : goal.returns-then-not-has_room-clause-closed
returns-then-not-has_room-clause-closed c =
    let s = c.has_room-has_room.new.self in
    let seen = ap (λ ms. ended (signals ms)) (sym c.has_room-has_room.ensures.looked.put) ∙ closed_seen (sent s.edge) s.gathered.items s.closed ∙ sym c.is_closed-then-not-has_room.ensures in
    elim c.if-is_closed-2.branch [
      | then-is_closed-2 w ↦ (λ _. seen ∙ w.if-is_closed-2.true, λ _. w.why-is)
      | else-is_closed-2 w ↦
          (λ closed. absurd (let no = w.why-is in cc), λ over. absurd (let no = w.if-is_closed-2.false in cc))
    ]

pub returns-then-gathers-clause-closed : goal.returns-then-gathers-clause-closed
returns-then-gathers-clause-closed c =
    let s = c.has_room-has_room.new.self in
    let seen = ap (λ ms. ended (signals ms)) (sym c.has_room-has_room.ensures.looked.put) ∙ closed_seen (sent s.edge) s.gathered.items s.closed ∙ sym c.is_closed.ensures ∙ c.if-is_closed.false in
    (λ no. absurd no, λ over. (let both : true ≡ false = sym over ∙ seen in cc))

pub invariant_of-self-2 : goal.invariant_of-self-2
invariant_of-self-2 c =
    let s = c.has_room-has_room.new.self in
    let edge = c.gathers.new.edge in
    let none = ap length (c.gathers.ensures.alone c.if-gathers.false) in
    let out = c.gathers.ensures.out c.if-gathers.false in
    let left = c.gathers.ensures.room c.if-gathers.false in
    let gathered = length (many_messages s.gathered.items) in
    let some = c.has_room-has_room.ensures.value.0 c.if-not-has_room.false in
    let room : 0 < certain_room edge = omega (arith, some, left, none, s.sure) in
    let put = ok_holds c.put.result (c.put.ensures.succeeds c.gathers.ensures.open room) c.put.ensures.ok in
    let longer : length (sent c.put.new.self) ≡ length (sent s.edge) + gathered + 1 = ap length put.0
    ∙ length-append (sent edge) (c.args.message ∷ [])
    ∙ ap (λ n. n + 1) (ap length out ∙ length-append (sent s.edge) (many_messages s.gathered.items)) in
    record {
      kind = c.gathers.ensures.same.kind ∙ s.kind ∙ sym (ap (λ of. of.0) (c.put.ensures.same.0 ∙ c.gathers.ensures.same.edge.0));
      sure = omega (arith, some, none, put.1, left, s.sure);
      closed = λ _. none;
      places = c.put.ensures.same.1 ∙ c.gathers.ensures.same.edge.1 ∙ s.places;
      limit = s.limit;
      within = omega (arith, some, none, longer, s.within);
    }
