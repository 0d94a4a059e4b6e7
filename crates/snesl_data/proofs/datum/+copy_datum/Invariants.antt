use Rattle.std.proofs.Common.{◌≡◌, map, take}
use Rattle.snesl_data.specs.Values.{value_of}
use Rattle.snesl_data.proofs.datum.+copy_datum.Given as goal

abbrev pub invariant-copy_all-loop-datum : goal.invariant-copy_all-loop-datum
invariant-copy_all-loop-datum l = map value_of l.copies.items ≡ map value_of (take l.datum-index l.all)
