use Rattle.std.proofs.Common.{◌≡◌, ◌+◌, ◌≤◌, []}
use Rattle.flow_messages.specs.Stores.{content_of}
use Rattle.flow_words.specs.declared.ring.ReaderWords.TheVariants.{Ints as IntsFrom}
use Rattle.flow_words.specs.Ring.{half_taken, TakesOver}
use Rattle.flow_words.proofs.Groups.{words_left}
use Rattle.flow_words.proofs.receiving.take_whole.Given as goal

-- what was taken so far is a part of a group
abbrev pub invariant-loop : goal.invariant-loop
invariant-loop l = record {
  half : l.now ≡ half_taken (IntsFrom l.ring);
  came : TakesOver [] (IntsFrom l.fn.ring) (IntsFrom l.ring) l.fn.inbox l.inbox;
  none : content_of l.inbox.store ≡ [];
  left : words_left l.now + l.counter ≤ 4;
}
