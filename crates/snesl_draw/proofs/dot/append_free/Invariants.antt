use Rattle.std.proofs.Common.{◌≡◌, ◌++◌, flat_map, take}
use Rattle.snesl_draw.specs.Texts.{free_node}
use Rattle.snesl_draw.proofs.dot.append_free.Given as goal

abbrev pub invariant-loop-node : goal.invariant-loop-node
invariant-loop-node l = l.text.items ≡ l.initial.text.items ++ flat_map (free_node l.program l.forms) (take l.node-index l.nodes)
