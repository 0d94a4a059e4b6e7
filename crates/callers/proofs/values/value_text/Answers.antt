use Rattle.std.proofs.Common.{◌≡◌, ◌+◌, suc, drop, Some, option_map, slice_get, sym, ap, ◌∙◌, subst, arith}
use Rattle.snesl_data.specs.Text.{text}
use Rattle.snesl_data.specs.Values.{value_of}
use Rattle.snesl_values.specs.Inputs.{environment_of, value_in}
use Rattle.callers.proofs.Named.{has_name, has_other_name}
use Rattle.callers.proofs.values.value_text.Goals as goal

pub returns-then-eq-clause-told : goal.returns-then-eq-clause-told
returns-then-eq-clause-told c =
    let es = environment_of c.in_ok-inputs.inputs in
    let i = c.loop-number.number in
    let named = subst (λ o. option_map (λ name. name.now) o ≡ option_map (λ entry. entry.0) (slice_get es i)) c.unwrap-found.ensures c.name.ensures in
    let value =
    c.loop-number.invariant
    ∙ has_name c.args.name.now es i c.unwrap-found.result.now (value_of c.in_ok-datum.field-0) named c.in_ok-datum.ensures (sym c.eq.ensures ∙ c.if-eq.true) in
    (es, c.in_ok-inputs.ensures.spelled, ap Some c.in_ok-text_of.ensures ∙ sym (ap (option_map text) value))

pub loop-number-preserved : goal.loop-number-preserved
loop-number-preserved c =
    let es = environment_of c.in_ok-inputs.inputs in
    let i = c.loop-number.number in
    let named = subst (λ o. option_map (λ name. name.now) o ≡ option_map (λ entry. entry.0) (slice_get es i)) c.unwrap-found.ensures c.name.ensures in
    let next : suc i ≡ i + 1 = omega arith in
    c.loop-number.invariant
    ∙ has_other_name c.args.name.now es i c.unwrap-found.result.now named (sym c.eq.ensures ∙ c.if-eq.false)
    ∙ ap (λ n. value_in c.args.name.now (drop n es)) next
