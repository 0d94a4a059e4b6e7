use Rattle.std.proofs.Common.{List, ◌∷◌, None, Some, map, sym, ap, ◌∙◌}
use Rattle.snesl_data.specs.Values.{Value, a_seq, value_of, values_of}
use Rattle.snesl_data.proofs.Data.{value_of-Seq}
use Rattle.snesl_values.proofs.InputItems.{mapped-push}
use Rattle.snesl_values.specs.declared.builder.Pending.TheVariants.{Sequence}
use Rattle.snesl_values.specs.declared.marks.Bracket.TheVariants.{Curly}
use Rattle.snesl_values.specs.Places.{Reading, in_items, on_some}
use Rattle.snesl_values.specs.Pendings.{frames_of}
use Rattle.snesl_values.proofs.Pendings.{pushed}
use Rattle.snesl_values.proofs.builder.after_item.Goals as goal

pub returns-in_ok-push-in-Comma-2 : goal.returns-in_ok-push-in-Comma-2
returns-in_ok-push-in-Comma-2 c =
    let frames = frames_of c.args.pending.now.items in
    let items = c.args.items.items in
    pushed c.push-in-Comma.new.self.items c.args.pending.now.items (Sequence c.push.new.self) c.in_ok-push-in-Comma-2.ensures.items
    ∙ ap (λ (vs : List Value). let r : Reading = (in_items Curly vs ∷ frames, None) in r) (ap (map value_of) c.in_ok-push-in-Comma.ensures.items ∙ mapped-push items c.args.datum)
    ∙ ap (on_some (value_of c.args.datum) (in_items Curly (map value_of items) ∷ frames)) (sym c.in-Comma.is)

pub returns-in_ok-push-in-Close : goal.returns-in_ok-push-in-Close
returns-in_ok-push-in-Close c =
    let frames = frames_of c.args.pending.now.items in
    let items = c.args.items.items in
    ap (λ (v : Value). let r : Reading = (frames, Some v) in r)
    (value_of-Seq c.push-in-Close.new.self ∙ ap (λ vs. a_seq (values_of vs)) (ap (map value_of) c.in_ok-push-in-Close.ensures.items ∙ mapped-push items c.args.datum))
    ∙ ap (on_some (value_of c.args.datum) (in_items Curly (map value_of items) ∷ frames)) (sym c.in-Close.is)
