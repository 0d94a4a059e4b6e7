-- A carrying loses no certainty.
use Rattle.std.proofs.Common.{◌≡◌, ℕ, ◌≤◌, List, [], ◌++◌, length, ap, sym, ◌∙◌, arith, append-nil, append_assoc, length-append}
use Rattle.std.proofs.lemmas.List.{append_cancel_left}
use mathlib.Core.List.{IsPrefix}
use Rattle.flow_messages.specs.Signals.{Signal}
use Rattle.flow_boxes.specs.Contents.{Contents}
use Rattle.flow_boxes.specs.Rounds.{IsLinked, IsCarried, CarriesAt, CarriesFrom, CarriesTo}
use Rattle.flow_boxes.proofs.Changed.{everywhere}
use Rattle.flow_edges.specs.lanes.Rings.{Kept}

-- the boxes w and r of edge e, before, and w' and r', after
module _ (w r w' r' : Contents) (e : ℕ) (linked : IsLinked w r e) (carried : IsCarried w' r' e) where
  module _ (sent : w'.ends.sent e ≡ w.ends.sent e) (received : r'.ends.received e ≡ r.ends.received e) where
    came : r'.ends.coming e ≡ r.ends.coming e ++ w.leaving e
    came = append_cancel_left (r.ends.received e) (r'.ends.coming e) (r.ends.coming e ++ w.leaving e) (
        ap (λ (x : List Signal). x ++ r'.ends.coming e) (sym received) ∙ carried.arrived ∙ sent ∙ sym linked.in_order
        ∙ append_assoc (r.ends.received e) (r.ends.coming e) (w.leaving e)
        )

    pub more_coming : IsPrefix (r.ends.coming e) (r'.ends.coming e)
    more_coming = (w.leaving e, sym came)

    pub more_room : w'.capacity ≡ w.capacity → w.ends.room e ≤ w'.ends.room e
    more_room capacity = omega (arith, capacity, carried.room, linked.bound, ap length came, length-append (r.ends.coming e) (w.leaving e))

  pub writer-kept : CarriesFrom e w w' → CarriesTo e r r' → Kept w.ends w'.ends
  writer-kept from to = record {
    ends = from.carries.boxes.ends;
    traffic = from.carries.traffic;
    coming = λ k. ([], append-nil (w.ends.coming k) ∙ sym (from.coming k));
    room = everywhere (λ k. w.ends.room k ≤ w'.ends.room k) e
        (more_room (from.carries.traffic.sent e) (to.carries.traffic.received e) from.carries.boxes.capacity)
        (λ k ne. omega (arith, from.carries.others.room k ne));
  }

  pub reader-kept : CarriesFrom e w w' → CarriesTo e r r' → Kept r.ends r'.ends
  reader-kept from to = record {
    ends = to.carries.boxes.ends;
    traffic = to.carries.traffic;
    coming = everywhere (λ k. IsPrefix (r.ends.coming k) (r'.ends.coming k)) e
        (more_coming (from.carries.traffic.sent e) (to.carries.traffic.received e))
        (λ k ne. ([], append-nil (r.ends.coming k) ∙ sym (to.carries.others.coming k ne)));
    room = λ k. omega (arith, to.room k);
  }

pub own-kept : (a a' : Contents) (e : ℕ) → IsLinked a a e → IsCarried a' a' e → CarriesAt e a a' → Kept a.ends a'.ends
own-kept a a' e linked carried at = record {
  ends = at.boxes.ends;
  traffic = at.traffic;
  coming = everywhere (λ k. IsPrefix (a.ends.coming k) (a'.ends.coming k)) e
      (more_coming a a a' a' e linked carried (at.traffic.sent e) (at.traffic.received e))
      (λ k ne. ([], append-nil (a.ends.coming k) ∙ sym (at.others.coming k ne)));
  room = everywhere (λ k. a.ends.room k ≤ a'.ends.room k) e
      (more_room a a a' a' e linked carried (at.traffic.sent e) (at.traffic.received e) at.boxes.capacity)
      (λ k ne. omega (arith, at.others.room k ne));
}
