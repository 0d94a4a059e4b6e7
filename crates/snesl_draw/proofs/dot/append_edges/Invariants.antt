use Rattle.std.proofs.Common.{◌≡◌, ◌++◌, flat_map, take}
use Rattle.snesl_draw.specs.Texts.{edge_line}
use Rattle.snesl_draw.proofs.dot.append_edges.Given as goal

abbrev pub invariant-loop-edge : goal.invariant-loop-edge
invariant-loop-edge l = l.text.items ≡ l.initial.text.items ++ flat_map edge_line (take l.edge-index l.edges)
