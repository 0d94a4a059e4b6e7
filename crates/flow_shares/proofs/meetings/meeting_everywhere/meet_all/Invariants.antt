use Rattle.std.proofs.Common.{◌≡◌, ◌<◌, ℕ, length, get_or}
use Rattle.flow_edges.specs.lanes.Rings.{Kept}
use Rattle.flow_shares.specs.meetings.Met.{Met}
use Rattle.flow_shares.proofs.meetings.meeting_everywhere.meet_all.Given as goal

abbrev pub invariant-loop-edge : goal.invariant-loop-edge
invariant-loop-edge g l = record {
  kept : (k : ℕ) (d : _) → k < length l.initial.ends → Kept (g.E.Ends.view (get_or l.initial.ends k d)) (g.E.Ends.view (get_or l.ends k d));
  same : (k : ℕ) (d : _) → k < length l.initial.ends → g.E.Meeting.stays (get_or l.initial.ends k d) (get_or l.ends k d);
  places : (k e : ℕ) (d : _) → k < length l.initial.ends → g.E.Meeting.slots (get_or l.ends k d) e ≡ g.E.Meeting.slots (get_or l.initial.ends k d) e;
  joined : (e : ℕ) (w : _) (d : _) → e < length l.owners → let owner = get_or l.owners e w in g.E.Meeting.joins (get_or l.ends owner.writer d) (get_or l.ends owner.reader d) e;
  met : (e : ℕ) (w : _) (d : _) → e < l.edge → let owner = get_or l.owners e w in let a = get_or l.ends owner.writer d in
      Met (g.E.Ends.view a) (g.E.Ends.view (get_or l.ends owner.reader d)) (g.E.Meeting.slots a e) e;
}
