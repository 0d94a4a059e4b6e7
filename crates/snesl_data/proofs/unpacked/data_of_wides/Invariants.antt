use Rattle.std.proofs.Common.{◌≡◌, map, take}
use Rattle.snesl_data.specs.Values.{an_int, value_of}
use Rattle.snesl_data.proofs.unpacked.data_of_wides.Given as goal

abbrev pub invariant-loop-number : goal.invariant-loop-number
invariant-loop-number l = map value_of l.data.items ≡ map an_int (take l.number-index l.all)
