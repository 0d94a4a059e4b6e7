use Rattle.std.proofs.Common.{◌≡◌, ◌<◌, ℕ, length, get_or, arith, below_more, ◌∙◌}
use Rattle.std.proofs.lemmas.List.{get_or_default}
use Rattle.flow_boxes.proofs.Changed.{everywhere}
use Rattle.flow_shares.specs.declared.meetings.owners.EdgeOwners.{EdgeOwners}
use Rattle.flow_shares.specs.meetings.Met.{Met, met_kept, kept_trans}
use Rattle.flow_shares.proofs.meetings.meeting_everywhere.meet_all.Goals as goal

pub meet_edge-requires-clause-joined : goal.meet_edge-requires-clause-joined
meet_edge-requires-clause-joined g c d = c.loop-edge.invariant.joined c.loop-edge.edge (record { writer = 0; reader = 0 }) d c.loop-edge-test.true

pub loop-edge-preserved : goal.loop-edge-preserved
loop-edge-preserved g c =
    let inv = c.loop-edge.invariant in
    let step = c.meet_edge.ensures in
    let law = g.met.E.Meeting in
    let edge = c.loop-edge.edge in
    let none : EdgeOwners = record { writer = 0; reader = 0 } in
    let owners = c.args.owners.now in
    let old = c.args.ends.now in
    let now = c.loop-edge.ends in
    let new = c.meet_edge.new.ends in
    let view = g.E.Ends.view in
    let places = g.E.Meeting.slots in
    let joins = g.E.Meeting.joins in
    let here : (w : EdgeOwners) → get_or owners edge w ≡ get_or owners edge none = λ w. get_or_default owners edge w none c.loop-edge-test.true in
    let meets = λ (k : ℕ) (d : g.row.E.Denot) (low : k < length old). (let low' : k < length now = omega (arith, c.loop-edge.auto.ends) in step.meets k d low') in
    let kept = λ (k : ℕ) (d : g.row.E.Denot) (low : k < length old). law.meets_kept edge (get_or now k d) (get_or new k d) (meets k d low) in
    let alike = λ (k e : ℕ) (d : g.row.E.Denot) (low : k < length old). law.meets_slots edge (get_or now k d) (get_or new k d) (meets k d low) e in
    record {
      kept = λ k d low. kept_trans (view (get_or old k d)) (view (get_or now k d)) (view (get_or new k d)) (inv.kept k d low) (kept k d low);
      same = λ k d low. law.stays_trans (get_or old k d) (get_or now k d) (get_or new k d) (inv.same k d low) (law.meets_stays edge (get_or now k d) (get_or new k d) (meets k d low));
      places = λ k e d low. alike k e d low ∙ inv.places k e d low;
      joined = λ e w d low. (
          everywhere (λ i. i < length owners → joins (get_or new (get_or owners i w).writer d) (get_or new (get_or owners i w).reader d) i) edge
          (λ there. rw (here w) (step.joined d))
          (λ i ne there. (
          let owner = get_or owners i w in
          let hw = c.requires.writers i w there in
          let hr = c.requires.readers i w there in
          law.join_reader (get_or new owner.writer d) (get_or now owner.reader d) (get_or new owner.reader d) edge i
          (law.join_writer (get_or now owner.writer d) (get_or new owner.writer d) (get_or now owner.reader d) edge i (inv.joined i w d there) ne (meets owner.writer d hw))
          ne (meets owner.reader d hr)
          ))
          e low
          );
      met = λ e w d low. (
          below_more (λ i. Met (view (get_or new (get_or owners i w).writer d)) (view (get_or new (get_or owners i w).reader d)) (places (get_or new (get_or owners i w).writer d) i) i) edge
          (λ i below. (
          let there : i < length owners = omega (arith, c.loop-edge-test.true) in
          let owner = get_or owners i w in
          let hw = c.requires.writers i w there in
          let hr = c.requires.readers i w there in
          rw (alike owner.writer i d hw)
          (met_kept (view (get_or now owner.writer d)) (view (get_or new owner.writer d)) (view (get_or now owner.reader d)) (view (get_or new owner.reader d)) (places (get_or now owner.writer d) i) i
          (inv.met i w d below) (kept owner.writer d hw) (kept owner.reader d hr))
          ))
          (rw (here w) (step.met d)) e low
          );
    }
