use Rattle.std.proofs.Common.{◌∷◌, sym, ap, ◌∙◌}
use Rattle.snesl_data.specs.Values.{value_of}
use Rattle.snesl_values.specs.declared.builder.Pending.TheVariants.{Second}
use Rattle.snesl_values.specs.Places.{in_first, on_some}
use Rattle.snesl_values.specs.Pendings.{frames_of}
use Rattle.snesl_values.proofs.Pendings.{pushed}
use Rattle.snesl_values.proofs.builder.after_first.Goals as goal

pub returns-in_ok-push-in-Comma : goal.returns-in_ok-push-in-Comma
returns-in_ok-push-in-Comma c =
    pushed c.push.new.self.items c.args.pending.now.items (Second c.args.datum) c.in_ok-push-in-Comma.ensures.items
    ∙ ap (on_some (value_of c.args.datum) (in_first ∷ frames_of c.args.pending.now.items)) (sym c.in-Comma.is)
