use Rattle.std.proofs.Common.{◌≡◌, ◌++◌, ◌+◌, ◌*◌, map, take}
use Rattle.snesl_data.specs.Types.{ty_of}
use Rattle.snesl_data.specs.Values.{value_of}
use Rattle.flow_base.specs.Segments.{concatenation_by}
use Rattle.flow_values.specs.Flats.{width}
use Rattle.flow_values.specs.Dues.{due_cell, element_dues, dues_of}
use Rattle.flow_values.proofs.dues.+add_value.Given as goal

abbrev pub invariant-add_segment-loop-datum : goal.invariant-add_segment-loop-datum
invariant-add_segment-loop-datum l =
    map due_cell l.dues.items ≡ map due_cell l.fn.dues.items ++ concatenation_by (element_dues l.port (λ e. dues_of (ty_of l.item) (l.port + 1) e)) (map value_of (take l.datum-index l.all))

abbrev pub decreases-add_value : goal.decreases-add_value
decreases-add_value l = 2 * width (ty_of l.ty.now)

abbrev pub decreases-add_segment : goal.decreases-add_segment
decreases-add_segment l = 2 * width (ty_of l.item.now) + 1
