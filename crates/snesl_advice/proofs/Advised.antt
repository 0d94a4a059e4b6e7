-- What a message of types that do not fit tells.
use Rattle.std.proofs.Common.{◌≡◌, ℕ, List, [], Result, Ok, Err, IfOk, sym, subst, codes}
use Rattle.snesl_data.specs.declared.refusal.Refusal.TheVariants.{Mismatch}
use Rattle.snesl_look.specs.Messages.{refusal_message}
use Rattle.snesl_look.specs.Words.{refusal_sentence}
use Rattle.snesl_advice.specs.declared.refusals.Advice.{Advice}
use Rattle.snesl_advice.specs.Advice.{IsMismatchAdvice, IsToldOfMismatch, IsToldOfRefusal, of_clash, of_nothing}
use Rattle.snesl_advice.specs.Told.{IsToldAt, IsToldOf, told}

-- it is told at its place
pub mismatch_is_told : {text : List ℕ} {at : ℕ} {message : List ℕ} {place : ℕ} → IsToldOfMismatch text at message place → IsToldAt text place message
mismatch_is_told (of_clash program clash found keeps clashes begins is_told) = is_told
mismatch_is_told {text} {at} (of_nothing is) =
    subst (IsToldOf [] text at) (sym is)
    (told (refusal_sentence (Mismatch at)) [] (codes "operators take single values; for each element of a sequence `s` write `{x + 1 : x in s}`"))

-- and so what is told of it is told of the refusal that is shown
pub mismatch_told : {E : Type 0} (program : List ℕ) (at : ℕ) (input : List ℕ) (result : Result Advice E) → IfOk result (IsMismatchAdvice program at)
    → IfOk result (λ advice. IsToldOfRefusal advice.shown program input advice.message.items)
mismatch_told program at input (Ok advice) h =
    subst (λ refusal. IsToldOfRefusal refusal program input advice.message.items) (sym h.1) (mismatch_is_told h.2)
mismatch_told program at input (Err e) h = tt
