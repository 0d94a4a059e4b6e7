use Rattle.std.proofs.Common.{◌≡◌, ◌∙◌, true, sym, ap}
use Rattle.std.specs.Arc.{arc_value}
use Rattle.snesl_data.specs.Types.{ty_of, is_same}
use Rattle.snesl_data.specs.Values.{elements_of}
use Rattle.flow_values.proofs.Known.{as_same}
use Rattle.flow_values.proofs.shapes.is_typed.Goals as goal

pub returns-then-is : goal.returns-then-is
returns-then-is c =
    let item = ty_of c.args.element.now in
    let typed = c.args.typed.now in
    let vs = elements_of typed.elements in
    let of = ty_of (arc_value typed.of) in
    let same : true ≡ is_same of item = c.if-is.ensures ∙ ap (λ t. is_same (ty_of t) item) c.deref.ensures in
    sym (sym (as_same of item vs same) ∙ typed.fits)
