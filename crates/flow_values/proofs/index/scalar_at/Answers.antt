use Rattle.std.proofs.Common.{sym, refl, ap, ◌∙◌, rules}
use Rattle.std.specs.Arc.{arc_value}
use Rattle.std.proofs.lemmas.Int.{to_z-of_z}
use mir.Val.{SFits}
use mir.Syntax.{w64, w128}
use Rattle.snesl_data.specs.declared.datum.Elements.{Ints, Wides, Bools}
use Rattle.snesl_data.specs.Values.{an_int, a_bool}
use Rattle.snesl_data.proofs.Data.{entries-Ints, entries-Wides, entries-Bools}
use Rattle.snesl_data.proofs.Places.{found}
use Rattle.flow_messages.specs.Cells.{int}
use Rattle.flow_messages.proofs.Widened.{widened}
use Rattle.flow_values.proofs.index.scalar_at.Goals as goal

pub returns-in-Some : goal.returns-in-Some
returns-in-Some c =
    let n = c.in-Some.number.now in
    let narrow : SFits w64 n = search rules in
    let same = c.deref-in-Ints.ensures.value ∙ ap (λ v. v.items) c.deref.ensures in
    record {
      element = an_int n;
      found = sym (found an_int (arc_value c.in-Ints.all).items c.deref-in-Ints.result.now c.args.all.now (Ints c.in-Ints.all) c.in-Ints.is
          (entries-Ints c.in-Ints.all) same c.args.place n (an_int n) refl c.in-Some.ensures.lookup.0 c.in-Some.ensures.lookup.1);
      scalar = refl;
      carries = ap int (widened n narrow);
    }

pub returns-in-Some-get : goal.returns-in-Some-get
returns-in-Some-get c =
    let n = c.in-Some-get.number.now in
    let wide : SFits w128 n = search rules in
    let same = c.deref-in-Wides-2.ensures.value ∙ ap (λ v. v.items) c.deref-in-Wides.ensures in
    record {
      element = an_int n;
      found = sym (found an_int (arc_value c.in-Wides.all).items c.deref-in-Wides-2.result.now c.args.all.now (Wides c.in-Wides.all) c.in-Wides.is
          (entries-Wides c.in-Wides.all) same c.args.place n (an_int n) refl c.in-Some-get.ensures.lookup.0 c.in-Some-get.ensures.lookup.1);
      scalar = refl;
      carries = ap int (to_z-of_z w128 n wide);
    }

pub returns-in-Some-get-2 : goal.returns-in-Some-get-2
returns-in-Some-get-2 c =
    let b = c.in-Some-get-2.truth.now in
    let same = c.deref-in-Bools-2.ensures.value ∙ ap (λ v. v.items) c.deref-in-Bools.ensures in
    record {
      element = a_bool b;
      found = sym (found a_bool (arc_value c.in-Bools.all).items c.deref-in-Bools-2.result.now c.args.all.now (Bools c.in-Bools.all) c.in-Bools.is
          (entries-Bools c.in-Bools.all) same c.args.place b (a_bool b) refl c.in-Some-get-2.ensures.lookup.0 c.in-Some-get-2.ensures.lookup.1);
      scalar = refl;
      carries = refl;
    }
