use Rattle.std.proofs.Common.{Some, sym, ap, ◌∙◌, arith}
use Rattle.snesl_data.specs.Values.{Value}
use Rattle.snesl_data.proofs.Data.{value_of-Seq}
use Rattle.snesl_values.specs.declared.builder.Pending.TheVariants.{Vector, Sequence, First, Second}
use Rattle.snesl_values.specs.Places.{Reading, close_none}
use Rattle.snesl_values.specs.Pendings.{frames_of}
use Rattle.snesl_values.proofs.Pendings.{popped, empties}
use Rattle.snesl_values.proofs.builder.close_empty.Goals as goal

pub returns-in-Some-Vector : goal.returns-in-Some-Vector
returns-in-Some-Vector c =
    ap (λ (v : Value). let r : Reading = (frames_of c.pop.new.self.items, Some v) in r) c.in_ok-vector-in-Some-Vector.ensures
    ∙ ap close_none (popped c.args.pending.now.items c.pop.new.self.items c.in-Some-Vector.field-0 (Vector c.in-Some-Vector.elements) c.in-Some-Vector.ensures.items c.in-Some-Vector.field-0-is)

pub returns-in-Some-Sequence : goal.returns-in-Some-Sequence
returns-in-Some-Sequence c =
    ap (λ (v : Value). let r : Reading = (frames_of c.pop.new.self.items, Some v) in r) (value_of-Seq c.in-Some-Sequence.items)
    ∙ ap close_none (popped c.args.pending.now.items c.pop.new.self.items c.in-Some-Sequence.field-0 (Sequence c.in-Some-Sequence.items) c.in-Some-Sequence.ensures.items c.in-Some-Sequence.field-0-is)

pub returns-in-Some-First : goal.returns-in-Some-First
returns-in-Some-First c =
    c.unlawful.ensures
    ∙ ap close_none (popped c.args.pending.now.items c.pop.new.self.items c.in-Some-First.field-0 First c.in-Some-First.ensures.items c.in-Some-First.field-0-is)

pub returns-in-Some-Second : goal.returns-in-Some-Second
returns-in-Some-Second c =
    c.unlawful-in-Some-Second.ensures
    ∙ ap close_none (popped c.args.pending.now.items c.pop.new.self.items c.in-Some-Second.field-0 (Second c.in-Some-Second.field-0-0) c.in-Some-Second.ensures.items c.in-Some-Second.field-0-is)

pub returns : goal.returns
returns c =
    let e = empties c.args.pending.now.items c.pop.new.self.items (omega (arith, c.in-None.ensures.cases.0, c.args.pending.now.ok)) c.in-None.ensures.items in
    c.unlawful-in-None.ensures ∙ sym (ap close_none e.0)
