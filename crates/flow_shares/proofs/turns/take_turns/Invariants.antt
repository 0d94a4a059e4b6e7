use Rattle.std.proofs.Common.{◌≡◌, ◌<◌, ℕ, true, false, length}
use Rattle.flow_messages.specs.Ends.{SameTraffic}
use Rattle.flow_shares.proofs.Rounds.{Turned}
use Rattle.flow_shares.proofs.turns.take_turns.Given as goal

-- the turns so far, of each of which the gate heard by its number
abbrev pub invariant-loop-turn : goal.invariant-loop-turn
invariant-loop-turn g l = record {
  counted : length l.made.items ≡ l.turn;
  heard : (turn : ℕ) → turn < l.turn → g.G.Gate.heard l.gate l.number turn;
  same : g.E.Ends.same l.fn.ends l.ends;
  turned : Turned l.turn l.idle l.idle_turns l.fn.nodes.items l.nodes.items (g.E.Ends.view l.fn.ends) (g.E.Ends.view l.ends);
  busy : l.moved ≡ true → SameTraffic (g.E.Ends.view l.fn.ends) (g.E.Ends.view l.ends) → ⊥;
  calm : l.moved ≡ false → SameTraffic (g.E.Ends.view l.fn.ends) (g.E.Ends.view l.ends);
}
