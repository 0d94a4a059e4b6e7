use Rattle.std.proofs.Common.{◌≡◌, ◌∙◌, false, sym, ap}
use Rattle.snesl_data.specs.Types.{ty_of}
use Rattle.snesl_data.specs.Values.{elements_of}
use Rattle.flow_messages.specs.Cells.{cell_of}
use Rattle.flow_values.specs.Shapes.{all_are}
use Rattle.flow_values.proofs.VectorSteps.{same_vector}
use Rattle.flow_values.proofs.vectors.vector_in.Goals as goal

pub returns-else-are_elements-clause-none : goal.returns-else-are_elements-clause-none
returns-else-are_elements-clause-none c vs e =
    let item = ty_of c.args.element.now in
    let all = elements_of c.in-Vec.all in
    let not : all_are item all ≡ false = sym c.if-are_elements.ensures in
    same_vector item all vs (sym (ap cell_of c.in-Vec.is) ∙ e) not

pub returns-else-is_typed-clause-none : goal.returns-else-is_typed-clause-none
returns-else-is_typed-clause-none c vs e =
    let item = ty_of c.args.element.now in
    let all = elements_of c.in-Typed.typed.elements in
    let not : all_are item all ≡ false = sym c.if-is_typed.ensures in
    same_vector item all vs (sym (ap cell_of c.in-Typed.is) ∙ e) not
