use Rattle.std.proofs.Common.{◌≡◌, ◌++◌, flat_map, take}
use Rattle.snesl_draw.specs.Texts.{node_of_form}
use Rattle.snesl_draw.proofs.dot.append_nodes.Given as goal

abbrev pub invariant-loop-node : goal.invariant-loop-node
invariant-loop-node l = l.text.items ≡ l.initial.text.items ++ flat_map (node_of_form l.program l.at) (take l.node-index l.nodes)
