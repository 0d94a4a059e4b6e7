use Rattle.flow_values.proofs.ShapeTests.{shapes_are_tested}
use Rattle.flow_values.proofs.shapes.shapes_are_tested.Goals as goal

pub returns : goal.returns
returns c = shapes_are_tested
