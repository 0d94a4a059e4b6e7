-- The two boxes of an edge stay linked, and fresh boxes stay fresh.
use Rattle.std.proofs.Common.{◌≡◌, ◌≢◌, ℕ, ◌+◌, List, ◌++◌, length, sym, ap, ◌∙◌, arith, append_assoc, length-append}
use Rattle.flow_messages.specs.Signals.{Signal}
use Rattle.flow_messages.specs.Ends.{held}
use Rattle.flow_boxes.specs.Contents.{Contents}
use Rattle.flow_boxes.specs.Rounds.{IsLinked, KeepsRound, OthersSame, FreshOutbox, FreshInbox, OpensWriter, OpensReader}

pub fresh-linked : (w r : Contents) (e : ℕ) → FreshOutbox e w → FreshInbox e r → r.capacity ≡ w.capacity → r.ends.kind e ≡ w.ends.kind e → IsLinked w r e
fresh-linked w r e o i capacity kinds = record {
  writes = o.writes;
  reads = i.reads;
  capacity = capacity;
  kinds = kinds;
  in_order = ap (λ (x : List Signal). (x ++ r.ends.coming e) ++ w.leaving e) i.received ∙ ap (λ (x : List Signal). x ++ w.leaving e) i.coming ∙ o.leaving ∙ sym o.sent;
  bound = omega (arith, o.room, ap length i.coming, ap length o.leaving);
}

module _ (w w' r : Contents) (e : ℕ) (linked : IsLinked w r e) where
  pub writer-linked : KeepsRound w w' → IsLinked w' r e
  writer-linked keeps =
      let more = (keeps.sent e).0 in
      let sent = (keeps.sent e).1 in
      let leaving = (keeps.sent e).2 in
      let before = r.ends.received e ++ r.ends.coming e in
      let longer : length (w'.ends.sent e) ≡ length (w.ends.sent e) + length more = ap length sent ∙ length-append (w.ends.sent e) more in
      let fuller : length (w'.leaving e) ≡ length (w.leaving e) + length more = ap length leaving ∙ length-append (w.leaving e) more in
      record {
        writes = keeps.boxes.ends.writes e ∙ linked.writes;
        reads = linked.reads;
        capacity = linked.capacity ∙ sym keeps.boxes.capacity;
        kinds = linked.kinds ∙ sym (keeps.boxes.ends.kinds e);
        in_order = ap (λ (x : List Signal). before ++ x) leaving ∙ sym (append_assoc before (w.leaving e) more) ∙ ap (λ (x : List Signal). x ++ more) linked.in_order ∙ sym sent;
        bound = omega (arith, linked.bound, keeps.places e, longer, fuller, keeps.boxes.capacity);
      }

module _ (w r r' : Contents) (e : ℕ) (linked : IsLinked w r e) where
  pub reader-linked : KeepsRound r r' → IsLinked w r' e
  reader-linked keeps =
      let same : length (r.ends.received e) + held r.ends e ≡ length (r'.ends.received e) + held r'.ends e =
      sym (length-append (r.ends.received e) (r.ends.coming e)) ∙ ap length (keeps.arrived e)
      ∙ length-append (r'.ends.received e) (r'.ends.coming e) in
      record {
        writes = linked.writes;
        reads = keeps.boxes.ends.reads e ∙ linked.reads;
        capacity = keeps.boxes.capacity ∙ linked.capacity;
        kinds = keeps.boxes.ends.kinds e ∙ linked.kinds;
        in_order = ap (λ (x : List Signal). x ++ w.leaving e) (sym (keeps.arrived e)) ∙ linked.in_order;
        bound = omega (arith, linked.bound, same, keeps.received e);
      }

pub writer-elsewhere : (w w' r : Contents) (e k : ℕ) → IsLinked w r k → k ≢ e → OthersSame e w w' → IsLinked w' r k
writer-elsewhere w w' r e k linked ne same = record {
  writes = same.writes k ne ∙ linked.writes;
  reads = linked.reads;
  capacity = linked.capacity ∙ sym same.capacity;
  kinds = linked.kinds ∙ sym (same.kinds k);
  in_order = ap (λ (x : List Signal). (r.ends.received k ++ r.ends.coming k) ++ x) (same.leaving k ne) ∙ linked.in_order ∙ sym (same.sent k ne);
  bound = omega (arith, linked.bound, same.room k ne, ap length (same.leaving k ne), same.capacity);
}

pub reader-elsewhere : (w r r' : Contents) (e k : ℕ) → IsLinked w r k → k ≢ e → OthersSame e r r' → IsLinked w r' k
reader-elsewhere w r r' e k linked ne same = record {
  writes = linked.writes;
  reads = same.reads k ne ∙ linked.reads;
  capacity = same.capacity ∙ linked.capacity;
  kinds = same.kinds k ∙ linked.kinds;
  in_order = ap (λ (x : List Signal). (x ++ r'.ends.coming k) ++ w.leaving k) (same.received k ne)
      ∙ ap (λ (x : List Signal). (r.ends.received k ++ x) ++ w.leaving k) (same.coming k ne) ∙ linked.in_order;
  bound = omega (arith, linked.bound, ap length (same.coming k ne));
}

pub outbox-beside : (a b : Contents) (e k : ℕ) → FreshOutbox k a → OpensReader e a b → FreshOutbox k b
outbox-beside a b e k fresh opens = record {
  writes = opens.writes k ∙ fresh.writes;
  sent = opens.sent k ∙ fresh.sent;
  leaving = opens.leaving k ∙ fresh.leaving;
  room = opens.room k ∙ fresh.room ∙ sym opens.others.capacity;
}

pub inbox-beside : (a b : Contents) (e k : ℕ) → FreshInbox k a → OpensWriter e a b → FreshInbox k b
inbox-beside a b e k fresh opens = record {
  reads = opens.reads k ∙ fresh.reads;
  received = opens.received k ∙ fresh.received;
  coming = opens.coming k ∙ fresh.coming;
}

pub outbox-elsewhere : (a b : Contents) (e k : ℕ) → FreshOutbox k a → k ≢ e → OthersSame e a b → FreshOutbox k b
outbox-elsewhere a b e k fresh ne same = record {
  writes = same.writes k ne ∙ fresh.writes;
  sent = same.sent k ne ∙ fresh.sent;
  leaving = same.leaving k ne ∙ fresh.leaving;
  room = same.room k ne ∙ fresh.room ∙ sym same.capacity;
}

pub inbox-elsewhere : (a b : Contents) (e k : ℕ) → FreshInbox k a → k ≢ e → OthersSame e a b → FreshInbox k b
inbox-elsewhere a b e k fresh ne same = record {
  reads = same.reads k ne ∙ fresh.reads;
  received = same.received k ne ∙ fresh.received;
  coming = same.coming k ne ∙ fresh.coming;
}
