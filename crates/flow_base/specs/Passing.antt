-- Transducers that pass messages on: each is read, and all that follows from it is written before the next is read.
use Rattle.std.specs.Prelude.{◌≡◌, ◌≢◌, ℕ, ◌+◌, ◌*◌, ◌<◌, ◌≤◌, true, List, [], length}
use Rattle.std.specs.List.{All}
use Rattle.kahn.specs.Processes.{Event, Does, reads, writes}
use Rattle.flow_messages.specs.Kinds.{fits}
use Rattle.flow_messages.specs.Signals.{Signal, orderly}
use Rattle.flow_messages.specs.declared.message.Kind.{Kind}
use Rattle.flow_base.specs.Transducers.{Behaviour, IsWrite}

-- each of these is the end or an item of the kind, and an end is the last
pub record MayCome (k : Kind) (ms : List Signal) : Type 0 where
  pub fit : All (λ m. fits k m ≡ true) ms
  pub last : orderly ms ≡ true

-- From s to t it read just these messages at its first port, one after another, and wrote all that follows from each
-- before it read the next: to each output the same messages.
pub record PassedOn {S : Type 0} (b : Behaviour S) (s : S) (read : List Signal) (t : S) (written : List Signal) : Type 0 where
  pub history : List (Event Signal)
  pub does : Does b.process s history t
  -- it read these, and nothing at another port
  pub reads_are : reads 0 history ≡ read
  pub no_others : (p : ℕ) → p ≢ 0 → reads p history ≡ []
  -- each output has all of these
  pub writes_are : (q : ℕ) → q < b.outputs s → writes q history ≡ written
  -- what follows from the last message was written too
  pub is_done : IsWrite (b.process.want t) → ⊥
  -- each read and each write is one event
  pub counts : length history ≡ length read + b.outputs s * length written
  -- each output got at most as many as were read, and where there is none nothing was written
  pub few : length written ≤ length read
  pub nothing : b.outputs s ≡ 0 → written ≡ []
