-- The two boxes of an edge, after a carrying.
use Rattle.std.proofs.Common.{◌≡◌, ℕ, ◌+◌, true, List, [], ◌++◌, length, drop, ap, sym, ◌∙◌, arith, append_assoc, append-nil}
use Rattle.std.proofs.Math.Seq.{drop-append_seam}
use Rattle.flow_messages.specs.Signals.{Signal}
use Rattle.flow_messages.specs.Ends.{held}
use Rattle.flow_boxes.specs.Contents.{Contents}
use Rattle.flow_boxes.specs.Rounds.{IsLinked, IsCarried}

module _ (w r w' r' : Contents) (e : ℕ) (linked : IsLinked w r e)
    (sent : w'.ends.sent e ≡ w.ends.sent e) (received : r'.ends.received e ≡ r.ends.received e) (coming : r'.ends.coming e ≡ r.ends.coming e ++ w.leaving e)
    (emptied : w'.leaving e ≡ []) (room : w'.ends.room e + held r'.ends e ≡ w'.capacity) where
  all_arrived : r'.ends.received e ++ r'.ends.coming e ≡ w'.ends.sent e
  all_arrived =
      ap (λ (x : List Signal). x ++ r'.ends.coming e) received ∙ ap (λ (x : List Signal). r.ends.received e ++ x) coming
      ∙ sym (append_assoc (r.ends.received e) (r.ends.coming e) (w.leaving e)) ∙ linked.in_order ∙ sym sent

  pub is-carried : IsCarried w' r' e
  is-carried = record {
    arrived = all_arrived;
    coming = sym (ap (drop (length (r'.ends.received e))) (sym all_arrived) ∙ drop-append_seam (r'.ends.received e) (r'.ends.coming e));
    leaving = emptied;
    room = room;
  }

  pub stays-linked : w'.ends.writes e ≡ true → r'.ends.reads e ≡ true → r'.capacity ≡ w'.capacity → r'.ends.kind e ≡ w'.ends.kind e → IsLinked w' r' e
  stays-linked writes reads capacity kinds = record {
    writes = writes;
    reads = reads;
    capacity = capacity;
    kinds = kinds;
    in_order = ap (λ (x : List Signal). (r'.ends.received e ++ r'.ends.coming e) ++ x) emptied ∙ append-nil (r'.ends.received e ++ r'.ends.coming e) ∙ all_arrived;
    bound = omega (arith, room, ap length emptied);
  }
