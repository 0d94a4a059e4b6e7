use Rattle.std.proofs.Common.{◌≡◌, true, Option, Some, None, option_map, refl, sym, ap, ◌∙◌, arith}
use Rattle.std.specs.Prelude.{is_some}
use Rattle.std.proofs.lemmas.Bool.{eqb-true}
use Rattle.snesl_data.specs.declared.datum.Datum.{Datum}
use Rattle.snesl_data.specs.Values.{Value, value_of}
use Rattle.snesl_values.specs.Marks.{spots}
use Rattle.snesl_values.specs.Places.{Reading, after_token, read_value, spelled}
use Rattle.snesl_values.specs.Pendings.{frames_of}
use Rattle.snesl_values.proofs.Pendings.{spells_on, spells_whole, spells_end, spells_first, spells_past}
use Rattle.snesl_values.proofs.builder.datum_at.Goals as goal

-- a value is there
there : (o : Option Datum) → true ≡ is_some o → (v : Value) × (option_map value_of o ≡ Some v)
there None e = absurd (cc)
there (Some d) e = (value_of d, refl)

pub returns-then-place-text : goal.returns-then-place-text
returns-then-place-text c = spells_past c.args.text.now c.args.place c.if-place-text.true

pub tokens-init : goal.tokens-init
tokens-init c = record {
  same = spells_first c.args.text.now c.args.place c.new-pending.result.items c.new-pending.ensures.items;
  within = c.if-place-text.false;
}

pub returns-then-is_some : goal.returns-then-is_some
returns-then-is_some c =
    let all = c.tokens.pending.items in
    let value = option_map value_of c.tokens.last in
    let v = there c.tokens.last c.if-is_some.ensures in
    c.whole.ensures
    ∙ ap (λ l. read_value (frames_of l) value) c.deref.ensures.value
    ∙ sym (spells_whole c.args.text.now c.tokens.at all value v.0
    (let e : c.tokens.pending.len ≡ 0 = eqb-true c.tokens.pending.len 0 (sym c.if-is_empty.ensures) in omega (arith, e, c.tokens.pending.ok)) v.1)
    ∙ c.tokens.invariant.same

pub tokens-preserved-in_ok-last-in-Some-last : goal.tokens-preserved-in_ok-last-in-Some-last
tokens-preserved-in_ok-last-in-Some-last c =
    let text = c.args.text.now in
    let f = c.in-Some.found in
    let frames = frames_of c.tokens.pending.items in
    record {
      same = ap (λ (r : Reading). spelled r.0 r.1 (spots text f.end)) c.in_ok-last-in-Some-last.ensures
          ∙ sym (spells_on text c.tokens.at f frames (option_map value_of c.tokens.last) _ c.tokens.invariant.within c.in-Some.ensures.next
          (ap (λ o. after_token (option_map value_of o) frames f.mark) c.in-Some-last.is))
          ∙ c.tokens.invariant.same;
      within = c.in-Some.ensures.within;
    }

pub tokens-preserved : goal.tokens-preserved
tokens-preserved c =
    let text = c.args.text.now in
    let f = c.in-Some.found in
    let frames = frames_of c.tokens.pending.items in
    record {
      same = ap (λ (r : Reading). spelled r.0 r.1 (spots text f.end)) c.in_ok-last-in-None-last.ensures
          ∙ sym (spells_on text c.tokens.at f frames (option_map value_of c.tokens.last) _ c.tokens.invariant.within c.in-Some.ensures.next
          (ap (λ o. after_token (option_map value_of o) frames f.mark) c.in-None-last.is))
          ∙ c.tokens.invariant.same;
      within = c.in-Some.ensures.within;
    }

pub returns-in-None : goal.returns-in-None
returns-in-None c =
    let value = option_map value_of c.tokens.last in
    c.whole-in-None.ensures
    ∙ ap (λ l. read_value (frames_of l) value) c.deref-in-None.ensures.value
    ∙ sym (spells_end c.args.text.now c.tokens.at (frames_of c.tokens.pending.items) value c.in-None.ensures.next)
    ∙ c.tokens.invariant.same
