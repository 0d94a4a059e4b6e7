use Rattle.std.proofs.Common.{option_map, ◌∙◌, sym, ap}
use Rattle.snesl_data.specs.Types.{ty_of}
use Rattle.snesl_data.specs.Values.{value_of, elements_of}
use Rattle.flow_values.specs.IndexMachine.{holds_such}
use Rattle.flow_values.proofs.VectorSteps.{held_element}
use Rattle.flow_values.proofs.index.IndexWorker.take.Goals as goal

pub add_value-requires-clause-of_type : goal.add_value-requires-clause-of_type
add_value-requires-clause-of_type c =
    let item = ty_of c.args.self.now.element in
    let found = ap (option_map value_of) (sym c.in-Some-2.is) ∙ c.in_ok-datum.ensures.ok in
    held_element item (elements_of c.in-Some.all) _ (value_of c.in-Some-2.datum) found (sym (ap (holds_such item) c.in-Some.is) ∙ c.args.self.now.holds)
