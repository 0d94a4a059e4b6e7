-- The same boxes, over several calls within a round.
use Rattle.std.proofs.Common.{List, [], ◌++◌, refl, sym, ap, ◌∙◌, arith, append_assoc, append-nil}
use Rattle.flow_messages.specs.Signals.{Signal}
use Rattle.flow_boxes.specs.Contents.{Contents}
use Rattle.flow_boxes.specs.Rounds.{SameBoxes, KeepsRound, GrowAlike}

pub same_boxes_refl : (a : Contents) → SameBoxes a a
same_boxes_refl a = record { ends = record { kinds = λ k. refl; writes = λ k. refl; reads = λ k. refl }; count = refl; capacity = refl }

pub keeps_refl : (a : Contents) → KeepsRound a a
keeps_refl a = record {
  boxes = same_boxes_refl a;
  arrived = λ k. refl;
  received = λ k. omega arith;
  sent = λ k. ([], sym (append-nil (a.ends.sent k)), sym (append-nil (a.leaving k)));
  places = λ k. refl;
}

grow_trans : (s q s' q' s'' q'' : List Signal) → GrowAlike s q s' q' → GrowAlike s' q' s'' q'' → GrowAlike s q s'' q''
grow_trans s q s' q' s'' q'' (m, g, h) (n, i, j) = (
  m ++ n,
  i ∙ ap (λ (x : List Signal). x ++ n) g ∙ append_assoc s m n,
  j ∙ ap (λ (x : List Signal). x ++ n) h ∙ append_assoc q m n,
)

pub keeps_trans : (a b c : Contents) → KeepsRound a b → KeepsRound b c → KeepsRound a c
keeps_trans a b c p q = record {
  boxes = record {
    ends = record { kinds = λ k. q.boxes.ends.kinds k ∙ p.boxes.ends.kinds k; writes = λ k. q.boxes.ends.writes k ∙ p.boxes.ends.writes k; reads = λ k. q.boxes.ends.reads k ∙ p.boxes.ends.reads k };
    count = q.boxes.count ∙ p.boxes.count;
    capacity = q.boxes.capacity ∙ p.boxes.capacity;
  };
  arrived = λ k. p.arrived k ∙ q.arrived k;
  received = λ k. omega (arith, p.received k, q.received k);
  sent = λ k. grow_trans _ _ _ _ _ _ (p.sent k) (q.sent k);
  places = λ k. p.places k ∙ q.places k;
}
