use Rattle.std.proofs.Common.{◌≡◌, ℕ, ◌<◌}
use Rattle.snesl_look.specs.Names.{BeginsName, keywords, name_at}
use Rattle.snesl_look.proofs.names.is_keyword.Given as goal

-- none of the words so far is this one
abbrev pub invariant-loop-place : goal.invariant-loop-place
invariant-loop-place l = (k : ℕ) → k < l.place → BeginsName keywords k → ¬ (name_at keywords k ≡ l.word)
