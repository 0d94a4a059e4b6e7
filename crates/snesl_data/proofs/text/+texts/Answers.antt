use Rattle.std.proofs.Common.{◌≡◌, ◌++◌, map, codes, OnOk, sym, ap, ◌∙◌, subst, arith}
use Rattle.snesl_data.specs.Values.{Values, value_of, values_of, elements_of, a_seq}
use Rattle.snesl_data.specs.Text.{text, items_text}
use Rattle.snesl_data.proofs.Data.{value_of-Seq, elements_of-Others}
use Rattle.snesl_data.proofs.Texts.{one_turn, bracketed}
use Rattle.snesl_data.proofs.text.+texts.Goals as goal

pub append_items-loop-i-preserved : goal.append_items-loop-i-preserved
append_items-loop-i-preserved t c =
    one_turn value_of c.args.items.now c.loop-i.i c.index-items-i.result (omega arith) c.index-items-i.is
    c.args.out.now.items c.loop-i.out.items c.append_comma.new.out.items c.append_text.new.out.items
    c.loop-i.invariant c.in_ok-append_comma.ensures c.in_ok-append_text.ensures

pub append_elements-returns-in-Others : goal.append_elements-returns-in-Others
append_elements-returns-in-Others t c =
    let same = c.deref-in-Others-2.ensures.value ∙ ap (λ v. v.items) c.deref-in-Others.ensures in
    subst (λ (vs : Values). OnOk c.append_items.result (c.append_items.new.out.items ≡ c.args.out.now.items ++ items_text vs))
    (ap (λ l. values_of (map value_of l)) same ∙ sym (elements_of-Others c.in-Others.all) ∙ sym (ap elements_of c.in-Others.is))
    c.append_items.ensures

pub append_text-returns-in_ok-append_items-in-Seq : goal.append_text-returns-in_ok-append_items-in-Seq
append_text-returns-in_ok-append_items-in-Seq t c =
    let is : a_seq (values_of (map value_of c.deref-in-Seq.result.now)) ≡ value_of c.args.datum.now =
    ap (λ l. a_seq (values_of (map value_of l))) c.deref-in-Seq.ensures.value ∙ sym (value_of-Seq c.in-Seq.items) ∙ ap value_of (sym c.in-Seq.is) in
    subst (λ v. OnOk c.extend_from_slice-in-Seq-2.result (c.extend_from_slice-in-Seq-2.new.self.items ≡ c.args.out.now.items ++ text v)) is
    (bracketed c.extend_from_slice-in-Seq-2.result c.args.out.now.items c.extend_from_slice-in-Seq.new.self.items c.append_items.new.out.items c.extend_from_slice-in-Seq-2.new.self.items
    (codes "{") (items_text (values_of (map value_of c.deref-in-Seq.result.now))) (codes "}")
    c.in_ok-extend_from_slice-in-Seq.ensures.items c.in_ok-append_items-in-Seq.ensures c.extend_from_slice-in-Seq-2.ensures.items)
