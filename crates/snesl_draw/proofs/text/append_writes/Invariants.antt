use Rattle.std.proofs.Common.{◌≡◌, ◌++◌, flat_map, take}
use Rattle.snesl_draw.specs.Texts.{written_by}
use Rattle.snesl_draw.proofs.text.append_writes.Given as goal

abbrev pub invariant-loop-edge : goal.invariant-loop-edge
invariant-loop-edge l = l.text.items ≡ l.initial.text.items ++ flat_map (written_by l.number) (take l.edge-index l.edges)
