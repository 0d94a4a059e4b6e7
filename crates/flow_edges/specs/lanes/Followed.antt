-- What a put of many messages puts, and what is taken in turn.
use Rattle.std.specs.Prelude.{◌≡◌, ℕ, ◌+◌, ◌≤◌, List, ◌++◌, length, take}
use mathlib.Core.List.{IsPrefix}
use Rattle.flow_messages.specs.declared.message.Msg.{Msg}
use Rattle.flow_rings.specs.declared.ring.EdgeWriter.{EdgeWriter}
use Rattle.flow_rings.specs.declared.ring.EdgeReader.{EdgeReader}
use Rattle.flow_rings.specs.Edge.{sent, received, certain_room, certain_held, SameWriter, SameReader}
use Rattle.flow_words.specs.Edge.{followed_unless_ended}

-- these were put in turn, unless an `End` was before, and took no more room than they are
pub record PutsInTurn (ms : List Msg) (a b : EdgeWriter) : Type 0 where
  pub same : SameWriter a b
  pub put : sent b ≡ followed_unless_ended (sent a) ms
  pub room : certain_room a ≤ certain_room b + length ms

-- so many were taken in turn: the first of what was certain
pub record TakesInTurn (count : ℕ) (a b : EdgeReader) : Type 0 where
  pub same : SameReader a b
  pub taken : received b ≡ received a ++ take count (certain_held a)
  pub ahead : IsPrefix (certain_held a) (take count (certain_held a) ++ certain_held b)
