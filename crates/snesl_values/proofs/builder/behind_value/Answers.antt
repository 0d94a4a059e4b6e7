use Rattle.std.proofs.Common.{◌≡◌, List, Some, IfOk, sym, ap, ◌∙◌, subst, arith}
use Rattle.snesl_data.specs.Values.{value_of}
use Rattle.snesl_values.specs.declared.builder.Pending.TheVariants.{Vector, Sequence, First, Second}
use Rattle.snesl_values.specs.Places.{OpenPart, Reading, on_some}
use Rattle.snesl_values.specs.Pendings.{reading_of}
use Rattle.snesl_values.proofs.Pendings.{popped, empties}
use Rattle.snesl_values.proofs.builder.behind_value.Goals as goal

pub returns-in-Some-Vector : goal.returns-in-Some-Vector
returns-in-Some-Vector c =
    subst (λ (f : List OpenPart). IfOk c.after_element.result (λ last. reading_of c.after_element.new.pending.items last ≡ on_some (value_of c.args.datum) f c.args.mark))
    (popped c.args.pending.now.items c.pop.new.self.items c.in-Some-Vector.field-0 (Vector c.in-Some-Vector.elements) c.in-Some-Vector.ensures.items c.in-Some-Vector.field-0-is)
    c.after_element.ensures

pub returns-in-Some-Sequence : goal.returns-in-Some-Sequence
returns-in-Some-Sequence c =
    subst (λ (f : List OpenPart). IfOk c.after_item.result (λ last. reading_of c.after_item.new.pending.items last ≡ on_some (value_of c.args.datum) f c.args.mark))
    (popped c.args.pending.now.items c.pop.new.self.items c.in-Some-Sequence.field-0 (Sequence c.in-Some-Sequence.items) c.in-Some-Sequence.ensures.items c.in-Some-Sequence.field-0-is)
    c.after_item.ensures

pub returns-in-Some-First : goal.returns-in-Some-First
returns-in-Some-First c =
    subst (λ (f : List OpenPart). IfOk c.after_first.result (λ last. reading_of c.after_first.new.pending.items last ≡ on_some (value_of c.args.datum) f c.args.mark))
    (popped c.args.pending.now.items c.pop.new.self.items c.in-Some-First.field-0 First c.in-Some-First.ensures.items c.in-Some-First.field-0-is)
    c.after_first.ensures

pub returns-in-Some-Second : goal.returns-in-Some-Second
returns-in-Some-Second c =
    subst (λ (f : List OpenPart). IfOk c.after_second.result (λ last. reading_of c.after_second.new.pending.items last ≡ on_some (value_of c.args.datum) f c.args.mark))
    (popped c.args.pending.now.items c.pop.new.self.items c.in-Some-Second.field-0 (Second c.in-Some-Second.first) c.in-Some-Second.ensures.items c.in-Some-Second.field-0-is)
    c.after_second.ensures

pub returns-in-None : goal.returns-in-None
returns-in-None c =
    let e = empties c.args.pending.now.items c.pop.new.self.items (omega (arith, c.in-None.ensures.cases.0, c.args.pending.now.ok)) c.in-None.ensures.items in
    ap (λ (f : List OpenPart). let r : Reading = (f, Some (value_of c.args.datum)) in r) e.1 ∙ sym (ap (λ (f : List OpenPart). on_some (value_of c.args.datum) f c.args.mark) e.0)
