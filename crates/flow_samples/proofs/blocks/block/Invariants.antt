use Rattle.flow_samples.proofs.BlocksOfKind.{HasItems}
use Rattle.flow_samples.proofs.blocks.block.Given as goal

abbrev pub invariant-loop-number : goal.invariant-loop-number
invariant-loop-number l = HasItems l.kind l.block.items
