use Rattle.std.proofs.Common.{ap, ◌∙◌}
use Rattle.std.specs.Arc.{arc_value}
use Rattle.snesl_data.specs.declared.datum.Elements.{Ints, Wides, Bools, Others}
use Rattle.snesl_data.specs.Values.{an_int, a_bool, value_of}
use Rattle.snesl_data.proofs.Data.{entries-Ints, entries-Wides, entries-Bools, entries-Others, length_is}
use Rattle.snesl_data.proofs.datum.Elements.len.Goals as goal

pub returns-in-Ints : goal.returns-in-Ints
returns-in-Ints c = length_is an_int (arc_value c.in-Ints.all) c.args.self.now (Ints c.in-Ints.all) c.len.result c.in-Ints.is
    (entries-Ints c.in-Ints.all) (c.len.ensures ∙ ap (λ v. v.len) c.deref.ensures)

pub returns-in-Wides : goal.returns-in-Wides
returns-in-Wides c =
    length_is an_int (arc_value c.in-Wides.all) c.args.self.now (Wides c.in-Wides.all) c.len-in-Wides.result c.in-Wides.is
    (entries-Wides c.in-Wides.all) (c.len-in-Wides.ensures ∙ ap (λ v. v.len) c.deref-in-Wides.ensures)

pub returns-in-Bools : goal.returns-in-Bools
returns-in-Bools c =
    length_is a_bool (arc_value c.in-Bools.all) c.args.self.now (Bools c.in-Bools.all) c.len-in-Bools.result c.in-Bools.is
    (entries-Bools c.in-Bools.all) (c.len-in-Bools.ensures ∙ ap (λ v. v.len) c.deref-in-Bools.ensures)

pub returns-in-Others : goal.returns-in-Others
returns-in-Others c =
    length_is value_of (arc_value c.in-Others.all) c.args.self.now (Others c.in-Others.all) c.len-in-Others.result c.in-Others.is
    (entries-Others c.in-Others.all) (c.len-in-Others.ensures ∙ ap (λ v. v.len) c.deref-in-Others.ensures)
