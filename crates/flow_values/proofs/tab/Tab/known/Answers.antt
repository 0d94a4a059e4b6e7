use Rattle.std.proofs.Common.{◌≡◌, ◌∙◌, true, ap}
use Rattle.std.specs.Arc.{arc_value}
use Rattle.snesl_data.specs.Types.{ty_of, is_same}
use Rattle.flow_messages.specs.Shapes.{all_are}
use Rattle.flow_values.proofs.Known.{as_same}
use Rattle.flow_values.proofs.tab.Tab.known.Goals as goal

pub returns-in_ok-try_clone-in-Some : goal.returns-in_ok-try_clone-in-Some
returns-in_ok-try_clone-in-Some c vs are =
    let item = ty_of c.args.self.now.element in
    let of = ty_of (arc_value c.in-Some.of) in
    let same : true ≡ is_same of item = c.if-is.ensures ∙ ap (λ t. is_same (ty_of t) item) c.deref.ensures in
    ap (λ t. all_are (ty_of t) vs) c.in_ok-try_clone-in-Some.ensures ∙ as_same of item vs same ∙ are
