use Rattle.std.proofs.Common.{◌≡◌, flat_map, take}
use Rattle.snesl_draw.specs.Texts.{node_text}
use Rattle.snesl_draw.proofs.text.network_text.Given as goal

abbrev pub invariant-loop-node : goal.invariant-loop-node
invariant-loop-node l = l.text.items ≡ flat_map (node_text l.program l.drawing.edges.items) (take l.node-index l.drawing.nodes.items)
