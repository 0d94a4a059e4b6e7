use Rattle.std.proofs.Common.{◌≡◌, map, take, true}
use Rattle.snesl_data.specs.Types.{ty_of}
use Rattle.snesl_data.specs.Values.{value_of, values_of}
use Rattle.flow_values.specs.Shapes.{all_are}
use Rattle.flow_values.proofs.shapes.+is_value.Given as goal

abbrev pub invariant-are_values-loop-datum : goal.invariant-are_values-loop-datum
invariant-are_values-loop-datum l = all_are (ty_of l.item) (values_of (map value_of (take l.datum-index l.all))) ≡ true
