use Rattle.std.proofs.Common.{◌≡◌, ◌∙◌, ap, inl, inr, subst, sym}
use Rattle.std.proofs.lemmas.Slice.Eq.{bytes_eq-Decides}
use Rattle.snesl_look.specs.Names.{IsOther, NoneNear, name_at, searched}
use Rattle.snesl_look.proofs.names.near_name.Goals as goal

pub returns-in_default : goal.returns-in_default
returns-in_default c =
    let at = c.args.at in
    let program = c.args.program.now in
    let text : c.deref.result.now ≡ searched program = c.deref.ensures.value ∙ c.in_ok-text.ensures in
    let none = rw c.in_default.is at c.in_ok-place.ensures in
    inr (inl (subst (λ word. NoneNear (searched program) at word) c.name_at-word.ensures
    (subst (λ whole. NoneNear whole at c.name_at-word.result.now) text none)))

pub returns-then-eq : goal.returns-then-eq
returns-then-eq c =
    let at = c.args.at in
    let program = c.args.program.now in
    let place = c.in-Some.place in
    let name = c.name_at-name.result.now in
    let word = c.name_at-word.result.now in
    let text : c.deref.result.now ≡ searched program = c.deref.ensures.value ∙ c.in_ok-text.ensures in
    let again : c.deref-2.result.now ≡ searched program = c.deref-2.ensures.value ∙ c.in_ok-text.ensures in
    let found = rw c.in-Some.is at c.in_ok-place.ensures in
    let same : name ≡ word = (bytes_eq-Decides name word).0 (sym c.eq.ensures ∙ c.if-eq.true) in
    let here : name ≡ name_at (searched program) place = c.name_at-name.ensures ∙ ap (λ whole. name_at whole place) again in
    inr (inr (place, subst (λ whole. IsOther whole at place) text found.other, sym here ∙ same ∙ c.name_at-word.ensures))
