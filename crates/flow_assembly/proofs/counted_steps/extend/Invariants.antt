use Rattle.std.proofs.Common.{◌≡◌, ℕ, ◌+◌, ◌-◌, length, get_or}
use Rattle.flow_assembly.proofs.counted_steps.extend.Given as goal

abbrev pub invariant-loop-uses : goal.invariant-loop-uses
invariant-loop-uses l = (s : ℕ) → get_or l.uses.items s 0 ≡ get_or l.fn.uses.items s 0

abbrev pub decreases-loop-uses : goal.decreases-loop-uses
decreases-loop-uses l = l.stream + 1 - length l.uses.items
