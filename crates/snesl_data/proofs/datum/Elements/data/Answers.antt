use Rattle.std.proofs.Common.{◌≡◌, List, map, IfOk, sym, ap, ◌∙◌, subst}
use Rattle.snesl_data.specs.Values.{Value, an_int, a_bool, value_of, entries}
use Rattle.snesl_data.proofs.Data.{entries-Ints, entries-Wides, entries-Bools, entries-Others}
use Rattle.snesl_data.proofs.datum.Elements.data.Goals as goal

pub returns-in-Ints : goal.returns-in-Ints
returns-in-Ints c =
    let same = c.deref-in-Ints.ensures.value ∙ ap (λ v. v.items) c.deref.ensures in
    subst (λ (l : List Value). IfOk c.data_of_ints.result (λ made. map value_of made.items ≡ l))
    (ap (map an_int) same ∙ sym (entries-Ints c.in-Ints.all) ∙ sym (ap entries c.in-Ints.is))
    c.data_of_ints.ensures

pub returns-in-Wides : goal.returns-in-Wides
returns-in-Wides c =
    let same = c.deref-in-Wides-2.ensures.value ∙ ap (λ v. v.items) c.deref-in-Wides.ensures in
    subst (λ (l : List Value). IfOk c.data_of_wides.result (λ made. map value_of made.items ≡ l))
    (ap (map an_int) same ∙ sym (entries-Wides c.in-Wides.all) ∙ sym (ap entries c.in-Wides.is))
    c.data_of_wides.ensures

pub returns-in-Bools : goal.returns-in-Bools
returns-in-Bools c =
    let same = c.deref-in-Bools-2.ensures.value ∙ ap (λ v. v.items) c.deref-in-Bools.ensures in
    subst (λ (l : List Value). IfOk c.data_of_bools.result (λ made. map value_of made.items ≡ l))
    (ap (map a_bool) same ∙ sym (entries-Bools c.in-Bools.all) ∙ sym (ap entries c.in-Bools.is))
    c.data_of_bools.ensures

pub returns-in-Others : goal.returns-in-Others
returns-in-Others c =
    let same = c.deref-in-Others-2.ensures.value ∙ ap (λ v. v.items) c.deref-in-Others.ensures in
    subst (λ (l : List Value). IfOk c.copy_all.result (λ made. map value_of made.items ≡ l))
    (ap (map value_of) same ∙ sym (entries-Others c.in-Others.all) ∙ sym (ap entries c.in-Others.is))
    c.copy_all.ensures
