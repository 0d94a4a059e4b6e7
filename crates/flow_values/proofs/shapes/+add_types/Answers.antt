use Rattle.std.proofs.Common.{◌++◌, map, sym, ap, ◌∙◌}
use Rattle.std.proofs.Math.Path.{ap₂}
use Rattle.snesl_data.specs.Types.{ty_of}
use Rattle.flow_values.specs.Shapes.{kept_types, shared_type}
use Rattle.flow_values.proofs.Known.{none_pushed}
use Rattle.flow_values.proofs.shapes.+add_types.Goals as goal

pub returns-in_ok-add_types-in-Seq : goal.returns-in_ok-add_types-in-Seq
returns-in_ok-add_types-in-Seq t c =
    let old = c.args.all.now.items in
    c.in_ok-add_types-in-Seq.ensures
    ∙ ap₂ (λ l x. map shared_type l ++ kept_types (ty_of x)) c.in_ok-push-in-Seq.ensures.items c.deref-in-Seq.ensures
    ∙ none_pushed old (kept_types (ty_of c.in-Seq.item.value))
    ∙ sym (ap (λ x. map shared_type old ++ kept_types (ty_of x)) c.in-Seq.is)
