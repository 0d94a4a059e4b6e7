use Rattle.std.proofs.Common.{◌≡◌, map, take}
use Rattle.snesl_data.specs.Values.{a_bool, value_of}
use Rattle.snesl_data.proofs.unpacked.data_of_bools.Given as goal

abbrev pub invariant-loop-truth : goal.invariant-loop-truth
invariant-loop-truth l = map value_of l.data.items ≡ map a_bool (take l.truth-index l.all)
