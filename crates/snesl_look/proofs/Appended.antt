-- What was appended to a text.
use Rattle.std.proofs.Common.{◌≡◌, ℕ, List, ◌++◌, sym, ap, ◌∙◌, append_assoc, if◌then◌else◌, Result, Ok, Err, OnOk, is_ok}

-- two texts, the second of them at last
pub two_appended : {E : Type 0} (r : Result (Unit {0}) E) (before opened closed first second : List ℕ)
    → opened ≡ before ++ first → closed ≡ (if is_ok r then opened ++ second else opened) → OnOk r (closed ≡ before ++ (first ++ second))
two_appended (Ok u) before opened closed first second e f =
    f ∙ ap (λ l. l ++ second) e ∙ append_assoc before first second
two_appended (Err x) before opened closed first second e f = tt
