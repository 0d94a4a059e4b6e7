use Rattle.std.proofs.Common.{◌≡◌, ◌∙◌, true, ap}
use Rattle.std.specs.Arc.{arc_value}
use Rattle.snesl_data.specs.Types.{ty_of, is_same}
use Rattle.snesl_data.specs.Values.{elements_of}
use Rattle.flow_messages.specs.Shapes.{all_are}
use Rattle.flow_values.proofs.Known.{as_same}
use Rattle.flow_values.proofs.dues.vector_item.Goals as goal

pub of_known-requires : goal.of_known-requires
of_known-requires c =
    let item = ty_of c.args.element.now in
    let of = ty_of (arc_value c.in-Some-Some.of) in
    let vs = elements_of c.in_ok-shared.shared in
    let same : true ≡ is_same of item = c.if-is.ensures ∙ ap (λ t. is_same (ty_of t) item) c.deref.ensures in
    ap (λ t. all_are (ty_of t) vs) c.in_ok-of.ensures ∙ as_same of item vs same ∙ ap (all_are item) c.in_ok-shared.ensures ∙ c.requires
