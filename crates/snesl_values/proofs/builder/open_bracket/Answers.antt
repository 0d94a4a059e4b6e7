use Rattle.std.proofs.Common.{List, ◌∷◌, None, map, sym, ap, ◌∙◌}
use Rattle.snesl_data.specs.declared.builder.Builder.TheVariants.{Empty}
use Rattle.snesl_data.specs.Values.{Value, value_of}
use Rattle.snesl_values.specs.declared.marks.Mark.TheVariants.{Open}
use Rattle.snesl_values.specs.declared.marks.Bracket.TheVariants.{Curly}
use Rattle.snesl_values.specs.declared.builder.Pending.TheVariants.{Vector, Sequence, First}
use Rattle.snesl_values.specs.Places.{Reading, on_none, in_items}
use Rattle.snesl_values.specs.Pendings.{frames_of}
use Rattle.snesl_values.proofs.Pendings.{pushed}
use Rattle.snesl_values.proofs.builder.open_bracket.Goals as goal

pub returns-in_ok-push-in-Round : goal.returns-in_ok-push-in-Round
returns-in_ok-push-in-Round c =
    pushed c.push.new.self.items c.args.pending.now.items First c.in_ok-push-in-Round.ensures.items
    ∙ ap (λ b. on_none (frames_of c.args.pending.now.items) (Open b)) (sym c.in-Round.is)

pub returns-in_ok-push-in-Square : goal.returns-in_ok-push-in-Square
returns-in_ok-push-in-Square c =
    pushed c.push-in-Square.new.self.items c.args.pending.now.items (Vector Empty) c.in_ok-push-in-Square.ensures.items
    ∙ ap (λ b. on_none (frames_of c.args.pending.now.items) (Open b)) (sym c.in-Square.is)

pub returns-in_ok-push-in-Curly : goal.returns-in_ok-push-in-Curly
returns-in_ok-push-in-Curly c =
    let frames = frames_of c.args.pending.now.items in
    pushed c.push-in-Curly.new.self.items c.args.pending.now.items (Sequence c.new.result) c.in_ok-push-in-Curly.ensures.items
    ∙ ap (λ (vs : List Value). let r : Reading = (in_items Curly vs ∷ frames, None) in r) (ap (map value_of) c.new.ensures.items)
    ∙ ap (λ b. on_none frames (Open b)) (sym c.in-Curly.is)
