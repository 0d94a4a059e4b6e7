use Rattle.std.proofs.Common.{map, nat_eq, sym, ap, ◌∙◌}
use Rattle.std.proofs.Math.Path.{ap₂}
use Rattle.std.specs.Arc.{arc_value}
use Rattle.snesl_data.specs.Types.{ty_of, seq}
use Rattle.snesl_data.specs.Values.{value_of, values_of, elements_of}
use Rattle.flow_values.specs.Shapes.{is_a, all_are}
use Rattle.snesl_data.proofs.Data.{value_of-Seq, elements_of-Others}
use Rattle.flow_values.proofs.Members.{one_is_not, one_more_is, ints_are, bools_are}
use Rattle.flow_values.proofs.shapes.+is_value.Goals as goal

pub are_values-returns-then-not-is_value : goal.are_values-returns-then-not-is_value
are_values-returns-then-not-is_value t c =
    sym (one_is_not (ty_of c.args.item.now) c.args.all.now c.loop-datum.datum-index c.datum-item.result c.loop-datum-test.true c.datum-item.is (sym c.if-not-is_value.ensures))

pub are_values-loop-datum-preserved : goal.are_values-loop-datum-preserved
are_values-loop-datum-preserved t c =
    one_more_is (ty_of c.args.item.now) c.args.all.now c.loop-datum.datum-index c.datum-item.result c.loop-datum-test.true c.datum-item.is (sym c.if-not-is_value.ensures) c.loop-datum.invariant

pub is_value-returns-in-Seq-Seq : goal.is_value-returns-in-Seq-Seq
is_value-returns-in-Seq-Seq t c =
    c.are_values.ensures
    ∙ ap₂ (λ x ys. all_are (ty_of x) (values_of (map value_of ys))) c.deref-in-Seq-Seq.ensures c.deref-in-Seq-Seq-2.ensures.value
    ∙ sym (ap (is_a (seq (ty_of c.in-Seq-Seq.item.value))) (value_of-Seq c.in-Seq-Seq.all))
    ∙ sym (ap₂ (λ x y. is_a (ty_of x) (value_of y)) c.in-Seq-Seq.is-0 c.in-Seq-Seq.is-1)

pub are_elements-returns-else-is_empty : goal.are_elements-returns-else-is_empty
are_elements-returns-else-is_empty t c =
    let item = ty_of c.args.item.now in
    let v = arc_value c.in-Ints.all in
    c.is_int.ensures
    ∙ ints_are item v.items v.len v.ok.0 (c.if-is_empty.ensures ∙ ap (λ v. nat_eq v.len 0) c.deref.ensures)
    ∙ ap (λ e. all_are item (elements_of e)) (sym c.in-Ints.is)

pub are_elements-returns-else-is_empty-2 : goal.are_elements-returns-else-is_empty-2
are_elements-returns-else-is_empty-2 t c =
    let item = ty_of c.args.item.now in
    let v = arc_value c.in-Wides.all in
    c.is_int-else-is_empty-2.ensures
    ∙ ints_are item v.items v.len v.ok.0 (c.if-is_empty-2.ensures ∙ ap (λ v. nat_eq v.len 0) c.deref-in-Wides.ensures)
    ∙ ap (λ e. all_are item (elements_of e)) (sym c.in-Wides.is)

pub are_elements-returns-else-is_empty-3 : goal.are_elements-returns-else-is_empty-3
are_elements-returns-else-is_empty-3 t c =
    let item = ty_of c.args.item.now in
    let v = arc_value c.in-Bools.all in
    c.is_bool.ensures
    ∙ bools_are item v.items v.len v.ok.0 (c.if-is_empty-3.ensures ∙ ap (λ v. nat_eq v.len 0) c.deref-in-Bools.ensures)
    ∙ ap (λ e. all_are item (elements_of e)) (sym c.in-Bools.is)

pub are_elements-returns-in-Others : goal.are_elements-returns-in-Others
are_elements-returns-in-Others t c =
    let item = ty_of c.args.item.now in
    c.are_values.ensures
    ∙ ap (λ ys. all_are item (values_of (map value_of ys))) (c.deref-in-Others-2.ensures.value ∙ ap (λ v. v.items) c.deref-in-Others.ensures)
    ∙ sym (ap (all_are item) (elements_of-Others c.in-Others.all))
    ∙ ap (λ e. all_are item (elements_of e)) (sym c.in-Others.is)
