use Rattle.std.proofs.Common.{◌≡◌, ℕ, ◌+◌, drop, get_or}
use Rattle.flow_nodes.specs.plans.Layouts.{times}
use Rattle.flow_assembly.proofs.counted_steps.add_uses.Given as goal

abbrev pub invariant-loop-stream : goal.invariant-loop-stream
invariant-loop-stream l = (s : ℕ) → get_or l.uses.items s 0 + times s (drop l.stream-index l.reads) ≡ get_or l.fn.uses.items s 0 + times s l.reads
