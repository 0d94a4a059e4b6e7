use Rattle.std.proofs.Common.{◌≡◌, ◌<◌, ℕ}
use Rattle.flow_edges.specs.lanes.Rings.{ends_of, writer_at, reader_at, OutOf, ToldAt, SameRings}
use Rattle.flow_edges.proofs.lanes.rings_ends.RingsEnds.put_out.Given as goal

-- those before have put out
abbrev pub invariant-loop-edge : goal.invariant-loop-edge
invariant-loop-edge l = record {
  same : SameRings l.fn.self l.self;
  view : ends_of l.self ≡ ends_of l.fn.self;
  out : (k : ℕ) → k < l.edge → OutOf (writer_at l.self k);
}

-- and those before have told
abbrev pub invariant-loop-edge-2 : goal.invariant-loop-edge-2
invariant-loop-edge-2 l = record {
  same : SameRings l.fn.self l.self;
  view : ends_of l.self ≡ ends_of l.fn.self;
  out : (k : ℕ) → OutOf (writer_at l.self k);
  told : (k : ℕ) → k < l.edge → ToldAt (reader_at l.self k);
}
