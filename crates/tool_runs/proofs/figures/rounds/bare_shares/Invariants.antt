use Rattle.std.specs.Prelude.{◌≡◌, false}
use Rattle.std.specs.List.{All}
use Rattle.tool_runs.proofs.figures.rounds.bare_shares.Given as goal

abbrev pub invariant-loop-number : goal.invariant-loop-number
invariant-loop-number l = All (λ share. share.starved ≡ false) l.shares.items
