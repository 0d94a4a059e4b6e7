use Rattle.std.proofs.Common.{rules, ◌≡◌, false, ◌∷◌, [], refl, sym, ◌∙◌, subst, ℤ, negsuc}
use Rattle.std.specs.Prelude.{FitsSigned}
use Rattle.std.specs.Int.{w64}
use Rattle.flow_messages.specs.declared.message.Msg.TheVariants.{Item as ItemMsg}
use Rattle.flow_messages.specs.declared.message.Item.TheVariants.{Int as IntItem}
use Rattle.flow_words.specs.Words.{is_escape, Spells}
use Rattle.flow_words.proofs.Digits.{kept, word_kept, wide_kept}
use Rattle.flow_words.proofs.Said.{spells_plain, spells_group}
use Rattle.flow_words.proofs.words.spell_int.Goals as goal

pub returns-then-not-escapes-clause-spells : goal.returns-then-not-escapes-clause-spells
returns-then-not-escapes-clause-spells c =
    let w = c.in-Ok.word in
    let f : FitsSigned w64 w = search rules in
    let is : w ≡ c.args.number = search rules in
    let plain : is_escape w ≡ false = search (rules, c.escapes.ensures, c.if-not-escapes.ensures, c.if-not-escapes.true) in
    subst (λ (x : ℤ). Spells (x ∷ []) (ItemMsg (IntItem c.args.number))) (sym (word_kept w f)) (subst (λ (n : ℤ). Spells (w ∷ []) (ItemMsg (IntItem n))) is (spells_plain w plain))

pub returns-clause-spells : goal.returns-clause-spells
returns-clause-spells c =
    let t = c.digits-top.result.0 in
    let m = c.digits-top.result.1 in
    let l = c.digits-top.result.2 in
    let ft : FitsSigned w64 t = search rules in
    let fm : FitsSigned w64 m = search rules in
    let fl : FitsSigned w64 l = search rules in
    let e = negsuc 9223372036854775807 in
    let said = spells_group e t m l c.args.number refl c.digits-top.ensures.top (c.digits-top.ensures.number ∙ wide_kept c.args.number c.ranges.number) in
    subst (λ (x : ℤ). Spells (e ∷ x ∷ kept w64 m ∷ kept w64 l ∷ []) (ItemMsg (IntItem c.args.number))) (sym (word_kept t ft))
    (subst (λ (x : ℤ). Spells (e ∷ t ∷ x ∷ kept w64 l ∷ []) (ItemMsg (IntItem c.args.number))) (sym (word_kept m fm))
    (subst (λ (x : ℤ). Spells (e ∷ t ∷ m ∷ x ∷ []) (ItemMsg (IntItem c.args.number))) (sym (word_kept l fl)) said))
