-- Quoted texts end no string.
use Rattle.std.proofs.Common.{◌≡◌, ◌∙◌, ℕ, Bool, true, false, List, [], ◌∷◌, ◌++◌, ◌==◌, ap, append_assoc, if◌then◌else◌, nat_lt, refl}
use Rattle.snesl_draw.specs.Quoting.{EndsWithText, after_string, quoted, quoted_byte}

-- nor does what one byte becomes
passes : (b : ℕ) (rest : List ℕ) → after_string false (quoted_byte b ++ rest) ≡ after_string false rest
passes b rest = go (b == 34) (b == 92) (b == 10) (nat_lt b 32) (nat_lt 126 b) refl refl
  where
    go : (quote slash feed control other : Bool) → quote ≡ (b == 34) → slash ≡ (b == 92)
        → after_string false ((if quote then 92 ∷ 34 ∷ [] else if slash then 92 ∷ 92 ∷ [] else if feed then 92 ∷ 110 ∷ []
        else if control then 32 ∷ [] else if other then 63 ∷ [] else b ∷ []) ++ rest) ≡ after_string false rest
    go true slash feed control other e f = refl
    go false true feed control other e f = refl
    go false false true control other e f = refl
    go false false false true other e f = refl
    go false false false false true e f = refl
    go false false false false false e f = rw (← e, ← f) refl

pub quoted_ends : (text : List ℕ) → EndsWithText (quoted text)
quoted_ends [] behind = refl
quoted_ends (b ∷ text) behind =
    ap (after_string false) (append_assoc (quoted_byte b) (quoted text) (34 ∷ behind))
    ∙ passes b (quoted text ++ 34 ∷ behind) ∙ quoted_ends text behind
