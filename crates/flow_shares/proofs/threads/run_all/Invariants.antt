use Rattle.std.specs.Prelude.{◌≡◌, ℕ, ◌+◌, ◌<◌, ◌≤◌, map, drop, length, slice_index_or}
use Rattle.std.specs.Vec.{vec_capacity}
use Rattle.flow_shares.specs.Pumps.{IsPumped}
use Rattle.flow_shares.proofs.threads.run_all.Given as goal

abbrev pub invariant-loop-thread : goal.invariant-loop-thread
invariant-loop-thread g l =
    let back = l.back.items in
    let threads = l.thread-iterator.rest.items in
    let shares = l.fn.shares.items in
    record {
      given : map (λ thread. thread.promise.given.value) threads ≡ drop (length back) shares;
      within : length back ≤ length shares;
      room : length back + length threads ≤ vec_capacity l.back;
      each : (k : ℕ) (d : _) → k < length back → IsPumped (slice_index_or shares k d) (slice_index_or back k d);
    }
