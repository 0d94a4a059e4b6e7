-- What the exit of a `?` returns.
use Rattle.std.proofs.Common.{Result, Ok, Err}
use Rattle.std.specs.Result.{IfOk, IsErr}

-- nothing is given
pub none_given : {A E : Type 0} (P : A → Type 0) (r : Result A E) → IsErr r → IfOk r P
none_given P (Ok a) is = absurd (cc)
none_given P (Err e) is = tt
