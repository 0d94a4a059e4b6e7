-- One box more, and a share without any.
use Rattle.std.proofs.Common.{◌≡◌, ℕ, zero, suc, ◌<◌, false, List, [], ◌∷◌, ◌++◌, length, refl, ap, ◌∙◌, set, length-set}
use Rattle.std.specs.Prelude.{Option, Some, None}
use Rattle.flow_messages.specs.declared.message.Kind.{Kind}
use Rattle.flow_messages.specs.Signals.{signals}
use Rattle.flow_messages.specs.Tables.{at_line}
use Rattle.flow_messages.specs.Stores.{content_of}
use Rattle.flow_messages.proofs.Signals.{signals-nil}
use Rattle.flow_messages.proofs.Tables.{at_line-same, at_line-other}
use Rattle.flow_boxes.specs.declared.outbox.Outbox.{Outbox}
use Rattle.flow_boxes.specs.declared.inbox.Inbox.{Inbox}
use Rattle.flow_boxes.specs.Received.{received_of}
use Rattle.flow_boxes.specs.Contents.{contents_of, sent_in, leaving_in, room_in, writes_in, received_in, coming_in, reads_in}
use Rattle.flow_boxes.specs.Rounds.{OpensWriter, OpensReader}

module _ (capacity : ℕ) (kinds : List Kind) (os : List (Option Outbox)) (is : List (Option Inbox)) (e : ℕ) where
  pub opens-writer : (n : Outbox) → e < length os → n.sent.items ≡ [] → content_of n.store ≡ [] → n.room ≡ capacity →
      OpensWriter e (contents_of capacity kinds os is) (contents_of capacity kinds (set os e (Some n)) is)
  opens-writer n h sent held room = record {
    fresh = record {
      writes = at_line-same writes_in os e false (Some n) h;
      sent = at_line-same sent_in os e [] (Some n) h ∙ ap signals sent ∙ signals-nil;
      leaving = at_line-same leaving_in os e [] (Some n) h ∙ ap signals held ∙ signals-nil;
      room = at_line-same room_in os e 0 (Some n) h ∙ room;
    };
    others = record {
      writes = at_line-other writes_in os e false (Some n);
      reads = λ k ne. refl;
      sent = at_line-other sent_in os e [] (Some n);
      received = λ k ne. refl;
      coming = λ k ne. refl;
      room = at_line-other room_in os e 0 (Some n);
      leaving = at_line-other leaving_in os e [] (Some n);
      kinds = λ k. refl;
      count = length-set os e (Some n);
      capacity = refl;
    };
    reads = λ k. refl;
    received = λ k. refl;
    coming = λ k. refl;
  }

  pub opens-reader : (n : Inbox) → e < length is → received_of n ≡ [] → content_of n.store ≡ [] → OpensReader e (contents_of capacity kinds os is) (contents_of capacity kinds os (set is e (Some n)))
  opens-reader n h received held = record {
    fresh = record {
      reads = at_line-same reads_in is e false (Some n) h;
      received = at_line-same received_in is e [] (Some n) h ∙ ap signals received ∙ signals-nil;
      coming = at_line-same coming_in is e [] (Some n) h ∙ ap signals held ∙ signals-nil;
    };
    others = record {
      writes = λ k ne. refl;
      reads = at_line-other reads_in is e false (Some n);
      sent = λ k ne. refl;
      received = at_line-other received_in is e [] (Some n);
      coming = at_line-other coming_in is e [] (Some n);
      room = λ k ne. refl;
      leaving = λ k ne. refl;
      kinds = λ k. refl;
      count = refl;
      capacity = refl;
    };
    writes = λ k. refl;
    sent = λ k. refl;
    room = λ k. refl;
    leaving = λ k. refl;
  }

-- one empty place more
pub one-empty : {X Y : Type 0} (f : Option X → Y) (xs : List (Option X)) (d : Y) → ((k : ℕ) → at_line f xs k d ≡ d) → f None ≡ d → (k : ℕ) → at_line f (xs ++ None ∷ []) k d ≡ d
one-empty f [] d all here zero = here
one-empty f [] d all here (suc k) = refl
one-empty f (x ∷ xs) d all here zero = all 0
one-empty f (x ∷ xs) d all here (suc k) = one-empty f xs d (λ j. all (suc j)) here k
