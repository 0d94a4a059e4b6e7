-- What the writer of a lane of scalars keeps, and has put, where it gathers many.
use Rattle.std.proofs.Common.{◌≡◌, ℕ, ◌+◌, ◌-◌, ◌≤◌, true, false, List, ◌++◌, length, sym, ap, ◌∙◌, arith, length-append}
use Rattle.flow_messages.specs.declared.message.Msg.{Msg}
use Rattle.flow_messages.specs.Signals.{signals, ended}
use Rattle.flow_rings.specs.Edge as ring
use Rattle.flow_words.specs.declared.ring.WordWriter.{WordWriter}
use Rattle.flow_words.specs.Edge.{sent, certain_room, edge_capacity, kind_of, followed_unless_ended}
use Rattle.flow_edges.specs.declared.lanes.counted.CountedWriter.{CountedWriter}
use Rattle.flow_edges.specs.declared.lanes.gathered.Gathered.{Gathered}
use Rattle.flow_edges.specs.lanes.Counted.{gathered_in, put_by, put_by_both, sure_room, GathersToo, KeepsRoomBut, SameGathering}
use Rattle.flow_edges.specs.lanes.Credits.{credit}
use Rattle.flow_edges.specs.lanes.Many.{many_kind}
use Rattle.flow_edges.proofs.OfLanes.Beside.{follows, gathered_more}

-- its fields agree with one another, and what it has put is followed by these
pub record GathersMany (s : CountedWriter) (ms : List Msg) (n : ℕ) (h : Gathered) (w : WordWriter) : Type 0 where
  pub kind : many_kind h.items ≡ kind_of w
  pub sure : (s.free - n) + length (gathered_in h) ≤ certain_room w
  pub closed : ended (signals (sent w)) ≡ true → length (gathered_in h) ≡ 0
  pub places : edge_capacity w ≡ s.capacity
  pub within : (s.room - n) + (length (sent w) + length (gathered_in h)) ≤ s.capacity + credit (ring.received s.back)
  pub put : put_by_both h w ≡ followed_unless_ended (put_by s) ms

pub gathers_many : (s : CountedWriter) (ms : List Msg) (n : ℕ) (g h : Gathered) (w : WordWriter) → length ms ≡ n → n ≤ sure_room s → ended (signals (sent s.edge)) ≡ false →
    SameGathering s.gathered s.edge g w → put_by_both g w ≡ put_by s → ended (signals (sent w)) ≡ false → KeepsRoomBut 0 s.gathered s.edge g w → GathersToo ms g h →
    GathersMany s ms n h w
gathers_many s ms n g h w count certain free same kept unended room more =
    let now = gathered_in g in
    let longer = ap length more.added ∙ length-append now ms in
    let all = sym (length-append (sent w) now) ∙ ap length kept ∙ length-append (sent s.edge) (gathered_in s.gathered) in
    record {
      kind = more.kind ∙ same.kind ∙ s.kind ∙ sym (ap (λ of. of.0) same.edge.0);
      sure = omega (arith, longer, count, room, s.sure, certain);
      closed = λ over. absurd (let no = unended in cc);
      places = same.edge.1 ∙ s.places;
      within = omega (arith, longer, count, all, s.within, certain);
      put = follows (sent s.edge) s.gathered.items s.closed ms (sent w ++ gathered_in h) free (gathered_more (put_by s) (sent w) now ms kept (gathered_in h) more.added);
    }
