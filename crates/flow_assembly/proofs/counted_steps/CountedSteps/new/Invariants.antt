use Rattle.std.proofs.Common.{◌≡◌, ℕ, ◌+◌, drop, get_or}
use Rattle.flow_nodes.specs.plans.Layouts.{uses}
use Rattle.flow_nodes.specs.plans.Views.{steps_of}
use Rattle.flow_assembly.proofs.counted_steps.CountedSteps.new.Given as goal

abbrev pub invariant-loop-step : goal.invariant-loop-step
invariant-loop-step l = (s : ℕ) → get_or l.uses.items s 0 + uses s (steps_of l.dialect (drop l.step-index l.fn.steps.items)) ≡ uses s (steps_of l.dialect l.fn.steps.items)
