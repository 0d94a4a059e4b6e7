use Rattle.std.proofs.Common.{◌≡◌, ◌++◌, OnOk, length, sym, ap, ◌∙◌, subst, arith}
use Rattle.snesl_data.specs.Values.{value_of}
use Rattle.snesl_faults.specs.Notes.{elements_text, value_text}
use Rattle.snesl_faults.proofs.Shown.{items_shown}
use Rattle.snesl_faults.proofs.notes.append_value.Goals as goal

pub returns-in-Vec : goal.returns-in-Vec
returns-in-Vec c =
    let e = ap (λ d. value_text (value_of d)) c.in-Vec.is ∙ ap elements_text (sym c.len.ensures) in
    subst (λ shown. OnOk c.append_count.result (c.append_count.new.made.items ≡ c.args.made.now.items ++ shown)) (sym e) c.append_count.ensures

pub returns-in-Seq : goal.returns-in-Seq
returns-in-Seq c =
    let items = c.in-Seq.items in
    let same = items.ok.0 in
    let many : length items.items ≡ c.len-in-Seq.result = omega (arith, same, c.len-in-Seq.ensures) in
    let e = items_shown c.args.datum.now items c.in-Seq.is ∙ ap elements_text many in
    subst (λ shown. OnOk c.append_count-in-Seq.result (c.append_count-in-Seq.new.made.items ≡ c.args.made.now.items ++ shown)) (sym e) c.append_count-in-Seq.ensures
