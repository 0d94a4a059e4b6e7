use Rattle.std.proofs.Common.{◌≡◌, map, take}
use Rattle.flow_messages.specs.Cells.{cell_of}
use Rattle.flow_values.proofs.tab.copy_items.Given as goal

abbrev pub invariant-loop-item : goal.invariant-loop-item
invariant-loop-item l = map cell_of l.copies.items ≡ map cell_of (take l.item-index l.items)
