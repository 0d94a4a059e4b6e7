use Rattle.std.proofs.Common.{Some, sym, refl, ap, ◌∙◌, rules}
use Rattle.std.specs.Arc.{arc_value}
use Rattle.std.proofs.lemmas.Int.{to_z-of_z}
use mir.Val.{SFits}
use mir.Syntax.{w64, w128}
use Rattle.snesl_data.specs.declared.datum.Elements.{Ints, Wides, Bools, Others}
use Rattle.snesl_data.specs.Values.{an_int, a_bool, value_of}
use Rattle.snesl_data.proofs.Data.{entries-Ints, entries-Wides, entries-Bools, entries-Others}
use Rattle.snesl_data.proofs.Places.{widened, found, absent, within, refused}
use Rattle.snesl_data.proofs.datum.Elements.at.Goals as goal

pub returns-in-Some-clause-ok : goal.returns-in-Some-clause-ok
returns-in-Some-clause-ok c =
    let n = c.in-Some.number.now in
    let narrow : SFits w64 n = search rules in
    let same = c.deref-in-Ints.ensures.value ∙ ap (λ v. v.items) c.deref.ensures in
    ap (λ k. Some (an_int k)) (widened n narrow)
    ∙ found an_int (arc_value c.in-Ints.all).items c.deref-in-Ints.result.now c.args.self.now (Ints c.in-Ints.all) c.in-Ints.is
    (entries-Ints c.in-Ints.all) same c.args.place n (an_int n) refl c.in-Some.ensures.lookup.0 c.in-Some.ensures.lookup.1

pub returns-in-None-clause-ok : goal.returns-in-None-clause-ok
returns-in-None-clause-ok c =
    let same = c.deref-in-Ints.ensures.value ∙ ap (λ v. v.items) c.deref.ensures in
    absent an_int (arc_value c.in-Ints.all).items c.deref-in-Ints.result.now c.args.self.now (Ints c.in-Ints.all) c.in-Ints.is (entries-Ints c.in-Ints.all) same c.args.place c.in-None.ensures.lookup.0

pub returns-in-Some-get-clause-ok : goal.returns-in-Some-get-clause-ok
returns-in-Some-get-clause-ok c =
    let n = c.in-Some-get.number.now in
    let wide : SFits w128 n = search rules in
    let same = c.deref-in-Wides-2.ensures.value ∙ ap (λ v. v.items) c.deref-in-Wides.ensures in
    ap (λ k. Some (an_int k)) (to_z-of_z w128 n wide)
    ∙ found an_int (arc_value c.in-Wides.all).items c.deref-in-Wides-2.result.now c.args.self.now (Wides c.in-Wides.all) c.in-Wides.is
    (entries-Wides c.in-Wides.all) same c.args.place n (an_int n) refl c.in-Some-get.ensures.lookup.0 c.in-Some-get.ensures.lookup.1

pub returns-in-None-get-clause-ok : goal.returns-in-None-get-clause-ok
returns-in-None-get-clause-ok c =
    let same = c.deref-in-Wides-2.ensures.value ∙ ap (λ v. v.items) c.deref-in-Wides.ensures in
    absent an_int (arc_value c.in-Wides.all).items c.deref-in-Wides-2.result.now c.args.self.now (Wides c.in-Wides.all) c.in-Wides.is
    (entries-Wides c.in-Wides.all) same c.args.place c.in-None-get.ensures.lookup.0

pub returns-in-Some-get-2-clause-ok : goal.returns-in-Some-get-2-clause-ok
returns-in-Some-get-2-clause-ok c =
    let same = c.deref-in-Bools-2.ensures.value ∙ ap (λ v. v.items) c.deref-in-Bools.ensures in
    found a_bool (arc_value c.in-Bools.all).items c.deref-in-Bools-2.result.now c.args.self.now (Bools c.in-Bools.all) c.in-Bools.is
    (entries-Bools c.in-Bools.all) same c.args.place c.in-Some-get-2.truth.now (a_bool c.in-Some-get-2.truth.now) refl
    c.in-Some-get-2.ensures.lookup.0 c.in-Some-get-2.ensures.lookup.1

pub returns-in-None-get-2-clause-ok : goal.returns-in-None-get-2-clause-ok
returns-in-None-get-2-clause-ok c =
    let same = c.deref-in-Bools-2.ensures.value ∙ ap (λ v. v.items) c.deref-in-Bools.ensures in
    absent a_bool (arc_value c.in-Bools.all).items c.deref-in-Bools-2.result.now c.args.self.now (Bools c.in-Bools.all) c.in-Bools.is
    (entries-Bools c.in-Bools.all) same c.args.place c.in-None-get-2.ensures.lookup.0

pub returns-in_ok-copy_datum-in-Some-get-3-clause-ok : goal.returns-in_ok-copy_datum-in-Some-get-3-clause-ok
returns-in_ok-copy_datum-in-Some-get-3-clause-ok c =
    let same = c.deref-in-Others-2.ensures.value ∙ ap (λ v. v.items) c.deref-in-Others.ensures in
    found value_of (arc_value c.in-Others.all).items c.deref-in-Others-2.result.now c.args.self.now (Others c.in-Others.all) c.in-Others.is
    (entries-Others c.in-Others.all) same c.args.place c.in-Some-get-3.datum.now (value_of c.in_ok-copy_datum-in-Some-get-3.field-0)
    (sym c.in_ok-copy_datum-in-Some-get-3.ensures) c.in-Some-get-3.ensures.lookup.0 c.in-Some-get-3.ensures.lookup.1

pub returns-in-None-get-3-clause-ok : goal.returns-in-None-get-3-clause-ok
returns-in-None-get-3-clause-ok c =
    let same = c.deref-in-Others-2.ensures.value ∙ ap (λ v. v.items) c.deref-in-Others.ensures in
    absent value_of (arc_value c.in-Others.all).items c.deref-in-Others-2.result.now c.args.self.now (Others c.in-Others.all) c.in-Others.is
    (entries-Others c.in-Others.all) same c.args.place c.in-None-get-3.ensures.lookup.0

pub returns-in_err-copy_datum-in-Some-get-3-clause-err : goal.returns-in_err-copy_datum-in-Some-get-3-clause-err
returns-in_err-copy_datum-in-Some-get-3-clause-err c =
    let same = c.deref-in-Others-2.ensures.value ∙ ap (λ v. v.items) c.deref-in-Others.ensures in
    refused c.from_residual.result
    (within value_of (arc_value c.in-Others.all).items c.deref-in-Others-2.result.now c.args.self.now (Others c.in-Others.all) c.in-Others.is
    (entries-Others c.in-Others.all) same c.args.place c.in-Some-get-3.ensures.lookup.0)
