use Rattle.std.proofs.Common.{◌≡◌, ◌∙◌, ◌<◌, arith, subst, sym, ⊎_elim}
use Rattle.std.proofs.Math.Nat.{eq-or-lt_of_le}
use Rattle.snesl_look.specs.Names.{BeginsName, begins_name, keywords, name_at}
use Rattle.snesl_look.proofs.Nearest.{both_ways, told_apart}
use Rattle.snesl_look.proofs.names.is_keyword.Goals as goal
use Rattle.snesl_look.proofs.names.is_keyword.Goals.{else-begins_name-via-then-begins_name+else-eq, else-begins_name-via-else-begins_name}

pub loop-place-preserved : goal.loop-place-preserved
loop-place-preserved c =
    let place = c.loop-place.place in
    let word = c.args.word.now in
    let here : BeginsName keywords place → ¬ (name_at keywords place ≡ word) = λ begins same. elim c.else-begins_name.branch [
      | else-begins_name-via-then-begins_name+else-eq w ↦
          told_apart w.eq.result w.name_at.result.now word w.eq.ensures w.if-eq.false (w.name_at.ensures ∙ same)
      | else-begins_name-via-else-begins_name w ↦
          both_ways (begins_name keywords place) begins.1 (sym c.begins_name.ensures ∙ w.if-begins_name.false)
    ] in
    λ k before begins. ⊎_elim
    (λ (e : k ≡ place). λ same. here (subst (BeginsName keywords) e begins) (subst (λ at. name_at keywords at ≡ word) e same))
    (λ (lower : k < place). c.loop-place.invariant k lower begins)
    (eq-or-lt_of_le {n = k} {m = place} (omega (arith, before)))
