-- What a carrying changes in the shares.
use Rattle.std.proofs.Common.{◌≡◌, ℕ, ◌+◌, ◌<◌, ◌≤◌, true, List, [], ◌++◌, length, refl, ap, sym, ◌∙◌, get_or, set, arith}
use Rattle.std.specs.Prelude.{Option, Some}
use Rattle.flow_messages.specs.declared.message.Kind.{Kind}
use Rattle.flow_messages.specs.Signals.{Signal, signals, ended, orderly}
use Rattle.flow_messages.specs.Stores.{content_of, EndsLast}
use Rattle.flow_messages.specs.TableLaws.{signals-append, signals-length}
use Rattle.flow_messages.proofs.Signals.{signals-nil}
use Rattle.flow_boxes.specs.declared.outbox.Outbox.{Outbox}
use Rattle.flow_boxes.specs.declared.inbox.Inbox.{Inbox}
use Rattle.flow_boxes.specs.Received.{received_of}
use Rattle.flow_boxes.specs.Contents.{Contents, contents_of}
use Rattle.flow_boxes.specs.Kinds.{outbox_kind, inbox_kind, AreOfKinds}
use Rattle.flow_boxes.specs.Rounds.{IsLinked, IsCarried, CarriesAt, CarriesFrom, CarriesTo}
use Rattle.flow_boxes.proofs.Ending.{nothing-left, ended-behind, nothing-said}
use Rattle.flow_boxes.proofs.Kinded.{kind-at}
use Rattle.flow_boxes.proofs.Carried.{is-carried, stays-linked}
use Rattle.flow_boxes.proofs.Changed.{everywhere, writer_boxes, writer_others, had_sent, has_sent, had_leaving, has_leaving, has_room, reader_boxes}
use Rattle.flow_boxes.proofs.Changed.{reader_others, all_received, had_coming, has_coming}

pub carries-trans : (a b c : Contents) (e : ℕ) → CarriesAt e a b → CarriesAt e b c → CarriesAt e a c
carries-trans a b c e p q = record {
  boxes = record {
    ends = record { kinds = λ k. q.boxes.ends.kinds k ∙ p.boxes.ends.kinds k; writes = λ k. q.boxes.ends.writes k ∙ p.boxes.ends.writes k; reads = λ k. q.boxes.ends.reads k ∙ p.boxes.ends.reads k };
    count = q.boxes.count ∙ p.boxes.count;
    capacity = q.boxes.capacity ∙ p.boxes.capacity;
  };
  traffic = record { sent = λ k. q.traffic.sent k ∙ p.traffic.sent k; received = λ k. q.traffic.received k ∙ p.traffic.received k };
  others = record {
    writes = λ k ne. q.others.writes k ne ∙ p.others.writes k ne;
    reads = λ k ne. q.others.reads k ne ∙ p.others.reads k ne;
    sent = λ k ne. q.others.sent k ne ∙ p.others.sent k ne;
    received = λ k ne. q.others.received k ne ∙ p.others.received k ne;
    coming = λ k ne. q.others.coming k ne ∙ p.others.coming k ne;
    room = λ k ne. q.others.room k ne ∙ p.others.room k ne;
    leaving = λ k ne. q.others.leaving k ne ∙ p.others.leaving k ne;
    kinds = λ k. q.others.kinds k ∙ p.others.kinds k;
    count = q.others.count ∙ p.others.count;
    capacity = q.others.capacity ∙ p.others.capacity;
  };
}

module _ (cw cr : ℕ) (kw kr : List Kind) (os : List (Option Outbox)) (is : List (Option Inbox)) (os' : List (Option Outbox)) (is' : List (Option Inbox)) (e : ℕ)
    (old : Option Outbox) (o n : Outbox) (h : e < length os) (at : old ≡ get_or os e old) (was : old ≡ Some o)
    (old' : Option Inbox) (i m : Inbox) (h' : e < length is') (at' : old' ≡ get_or is' e old') (was' : old' ≡ Some i) where
  abbrev w : Contents
  w = contents_of cw kw os is

  abbrev w' : Contents
  w' = contents_of cw kw (set os e (Some n)) is

  abbrev r : Contents
  r = contents_of cr kr os' is'

  abbrev r' : Contents
  r' = contents_of cr kr os' (set is' e (Some m))

  pub writer-carries : n.sent.items ≡ o.sent.items → CarriesFrom e w w'
  writer-carries sent = record {
    carries = record {
      boxes = writer_boxes cw kw os is e old o n h at was;
      traffic = record {
        sent = everywhere (λ k. w'.ends.sent k ≡ w.ends.sent k) e
            (has_sent cw kw os is e old o n h at was ∙ ap signals sent ∙ sym (had_sent cw kw os is e old o n h at was))
            ((writer_others cw kw os is e old o n h at was).sent);
        received = λ k. refl;
      };
      others = writer_others cw kw os is e old o n h at was;
    };
    coming = λ k. refl;
  }

  pub reader-carries : received_of m ≡ received_of i → CarriesTo e r r'
  reader-carries received = record {
    carries = record {
      boxes = reader_boxes cr kr os' is' e old' i m h' at' was';
      traffic = record { sent = λ k. refl; received = all_received cr kr os' is' e old' i m h' at' was' received };
      others = reader_others cr kr os' is' e old' i m h' at' was';
    };
    room = λ k. refl;
    leaving = λ k. refl;
  }

  module _ (linked : IsLinked w r e) where
    pub carry-bound : length (content_of i.store) + length (content_of o.store) ≤ cw
    carry-bound = omega (
      arith,
      linked.bound,
      ap length (had_coming cr kr os' is' e old' i i h' at' was'),
      signals-length (content_of i.store),
      ap length (had_leaving cw kw os is e old o o h at was),
      signals-length (content_of o.store),
    )

    -- nothing leaves after the end of the stream, where that is coming
    pub carry-ends : EndsLast i.store o.store
    carry-ends ends =
        let coming : ended (r.ends.coming e) ≡ true = ap ended (had_coming cr kr os' is' e old' i i h' at' was') ∙ ends in
        let in_turn : orderly (w.ends.sent e) ≡ true = ap orderly (had_sent cw kw os is e old o o h at was) ∙ o.orderly in
        let none : w.leaving e ≡ [] = nothing-left (r.ends.received e ++ r.ends.coming e) (w.leaving e) (ap orderly linked.in_order ∙ in_turn)
        (ended-behind (r.ends.received e) (r.ends.coming e) coming) in
        nothing-said (content_of o.store) (sym (had_leaving cw kw os is e old o o h at was) ∙ none)

    -- both boxes are of one kind
    pub carry-kind : AreOfKinds outbox_kind kw os → length kw ≡ length os → AreOfKinds inbox_kind kr is' → length kr ≡ length is' → o.store.kind ≡ i.store.kind
    carry-kind writers all_w readers all_r =
        let of_w = kind-at outbox_kind kw os e writers old o h all_w at was in
        let of_r = kind-at inbox_kind kr is' e readers old' i h' all_r at' was' in
        let both : Some o.store.kind ≡ Some i.store.kind = sym of_w ∙ sym linked.kinds ∙ of_r in
        cc

    module _ (sent : n.sent.items ≡ o.sent.items) (received : received_of m ≡ received_of i)
        (moved : content_of m.store ≡ content_of i.store ++ content_of o.store) (emptied : content_of n.store ≡ [])
        (room : n.room + length (content_of m.store) ≡ cw) where
      sent_here : w'.ends.sent e ≡ w.ends.sent e
      sent_here = (writer-carries sent).carries.traffic.sent e

      received_here : r'.ends.received e ≡ r.ends.received e
      received_here = (reader-carries received).carries.traffic.received e

      coming_here : r'.ends.coming e ≡ r.ends.coming e ++ w.leaving e
      coming_here =
          has_coming cr kr os' is' e old' i m h' at' was' ∙ ap signals moved ∙ signals-append (content_of i.store) (content_of o.store)
          ∙ ap (λ (x : List Signal). x ++ signals (content_of o.store)) (sym (had_coming cr kr os' is' e old' i m h' at' was'))
          ∙ ap (λ (x : List Signal). r.ends.coming e ++ x) (sym (had_leaving cw kw os is e old o n h at was))

      emptied_here : w'.leaving e ≡ []
      emptied_here = has_leaving cw kw os is e old o n h at was ∙ ap signals emptied ∙ signals-nil

      room_here : w'.ends.room e + length (r'.ends.coming e) ≡ cw
      room_here = omega (arith, room, has_room cw kw os is e old o n h at was, ap length (has_coming cr kr os' is' e old' i m h' at' was'), signals-length (content_of m.store))

      pub boxes-carried : IsCarried w' r' e
      boxes-carried = is-carried w r w' r' e linked sent_here received_here coming_here emptied_here room_here

      pub boxes-linked : IsLinked w' r' e
      boxes-linked = stays-linked w r w' r' e linked sent_here received_here coming_here emptied_here room_here
          ((writer-carries sent).carries.boxes.ends.writes e ∙ linked.writes)
          ((reader-carries received).carries.boxes.ends.reads e ∙ linked.reads)
          linked.capacity linked.kinds
