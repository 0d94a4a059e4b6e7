use Rattle.std.proofs.Common.{List, ◌∷◌, None, sym, ap, ◌∙◌}
use Rattle.snesl_data.specs.Values.{Value, value_of}
use Rattle.snesl_data.specs.Builders.{built_in}
use Rattle.snesl_values.specs.declared.builder.Pending.TheVariants.{Vector}
use Rattle.snesl_values.specs.declared.marks.Bracket.TheVariants.{Square}
use Rattle.snesl_values.specs.Places.{Reading, in_items, on_some}
use Rattle.snesl_values.specs.Pendings.{frames_of}
use Rattle.snesl_values.proofs.Pendings.{pushed}
use Rattle.snesl_values.proofs.builder.after_element.Goals as goal

pub returns-in_ok-push-in-Comma-2 : goal.returns-in_ok-push-in-Comma-2
returns-in_ok-push-in-Comma-2 c =
    let frames = frames_of c.args.pending.now.items in
    pushed c.push-in-Comma.new.self.items c.args.pending.now.items (Vector c.push.new.self) c.in_ok-push-in-Comma-2.ensures.items
    ∙ ap (λ (vs : List Value). let r : Reading = (in_items Square vs ∷ frames, None) in r) c.in_ok-push-in-Comma.ensures.ok
    ∙ ap (on_some (value_of c.args.datum) (in_items Square (built_in c.args.elements) ∷ frames)) (sym c.in-Comma.is)
