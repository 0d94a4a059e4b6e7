-- The lines that take no memory.
use Rattle.std.proofs.Common.{◌≡◌, ◌≢◌, ◌≤◌, ◌<◌, ◌+◌, ◌/◌, ◌%◌, ℕ, true, List, [], ◌∷◌, ◌++◌, codes, decimal, refl, sym, ap, ◌∙◌, arith}
use Rattle.std.proofs.lemmas.Fmt.{decimal_digit, decimal_step}
use Rattle.snesl_data.specs.declared.refusal.Refusal.{Refusal}
use Rattle.snesl_data.specs.declared.refusal.Refusal.TheVariants.{NoMemory, Output, NoThread, Read, Short}
use Rattle.snesl_data.specs.Refusals.{is_of_the_system}
use Rattle.snesl_run.specs.console.Lines.{refusal_line, stalled_line}

-- the line of a refusal that has a number from 10 to 19 and no offset
pub own_line : (n : ℕ) → 10 ≤ n → n < 20 → codes "refused 1" ++ (48 + n % 10) ∷ 10 ∷ [] ≡ codes "refused " ++ decimal n ++ [] ++ 10 ∷ []
own_line n least most =
    let tens : n / 10 ≡ 1 = omega arith in
    let last : List ℕ = (48 + n % 10) ∷ [] in
    sym (ap (λ digits. codes "refused " ++ digits ++ [] ++ 10 ∷ [])
    (decimal_step n least (omega arith) ∙ ap (λ d. d ++ last) (ap decimal tens ∙ decimal_digit 1 (omega arith))))

-- a refusal of the system that is none of the first four is the fifth
pub short_line_of : (refusal : Refusal) → is_of_the_system refusal ≡ true → refusal ≢ NoMemory → refusal ≢ Output → refusal ≢ NoThread → refusal ≢ Read
    → codes "refused 15\n" ≡ refusal_line refusal
short_line_of NoMemory h a b c d = absurd (a refl)
short_line_of Output h a b c d = absurd (b refl)
short_line_of NoThread h a b c d = absurd (c refl)
short_line_of Read h a b c d = absurd (d refl)
short_line_of Short h a b c d = own_line 15 (omega arith) (omega arith)
short_line_of refusal h a b c d = absurd (cc)

pub stalled_line_is : codes "stalled\n" ≡ stalled_line
stalled_line_is = refl
