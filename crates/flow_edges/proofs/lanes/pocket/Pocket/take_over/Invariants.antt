use Rattle.std.proofs.Common.{◌≡◌, ◌<◌, length}
use mathlib.Core.List.{IsPrefix}
use Rattle.flow_messages.specs.Stores.{content_of}
use Rattle.flow_words.specs.Edge.{SameReader}
use Rattle.flow_edges.specs.lanes.Taken.{taken_from, held_in}
use Rattle.flow_edges.proofs.lanes.pocket.Pocket.take_over.Given as goal

-- what was taken over so far
abbrev pub invariant-loop : goal.invariant-loop
invariant-loop l = record {
  edge : SameReader l.fn.self.edge l.self.edge;
  back : l.self.back ≡ l.fn.self.back;
  places : l.self.inbox.store.capacity ≡ l.fn.self.inbox.store.capacity;
  taken : taken_from l.self ≡ taken_from l.fn.self;
  more : IsPrefix (held_in l.fn.self) (held_in l.self);
  some : 0 < l.counter → 0 < length (held_in l.self) → 0 < length (content_of l.self.inbox.store);
}
