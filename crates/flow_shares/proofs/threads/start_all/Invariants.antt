use Rattle.std.specs.Prelude.{◌≡◌, ◌+◌, ◌≤◌, ◌++◌, map, length}
use Rattle.std.specs.Vec.{vec_capacity}
use Rattle.flow_shares.specs.Starts.{AskedForEach}
use Rattle.flow_shares.proofs.threads.start_all.Given as goal

abbrev pub invariant-loop-share : goal.invariant-loop-share
invariant-loop-share g l = record {
  refused : g.S.Start.refused l.start → g.S.Start.refused l.fn.start;
  asked : AskedForEach (length l.threads.items) (g.S.Start.asked l.fn.start) (g.S.Start.asked l.start);
  started : map (λ thread. thread.promise.given.value) l.threads.items ++ l.share-iterator.rest.items ≡ l.fn.shares.items;
  room : length l.threads.items + length l.share-iterator.rest.items ≤ vec_capacity l.threads;
}
