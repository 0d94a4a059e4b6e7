-- What a refusal promises.
use Rattle.std.proofs.Common.{Result, Ok, Err, IfOk, IsErrAnd}

-- nothing of what is made
pub nothing_made : {A E : Type 0} (r : Result A E) (Is : E → Type 0) (P : A → Type 0) → IsErrAnd r Is → IfOk r P
nothing_made (Ok x) Is P h = absurd h
nothing_made (Err e) Is P h = tt
