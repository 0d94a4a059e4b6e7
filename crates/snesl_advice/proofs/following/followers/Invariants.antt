use Rattle.std.specs.List.{All}
use Rattle.snesl_advice.specs.Followers.{GoesOnWith, sample}
use Rattle.snesl_advice.proofs.following.followers.Given as goal

-- each that was found goes on
abbrev pub invariant-loop-follower : goal.invariant-loop-follower
invariant-loop-follower l = All (λ one. GoesOnWith l.program l.at (sample one)) l.found.items
