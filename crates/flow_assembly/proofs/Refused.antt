-- What the exit of a `?` returns.
use Rattle.std.proofs.Common.{◌≡◌, Result, Ok, Err, sym, subst}
use Rattle.std.specs.Result.{IfOk, OnOk, IfErr, IsErr, IsErrAnd}
use Rattle.snesl_data.specs.declared.refusal.Refusal.{Refusal}
use Rattle.snesl_data.specs.declared.refusal.Refusal.TheVariants.{TooBig, NoMemory}

-- nothing is given
pub none_given : {A E : Type 0} (P : A → Type 0) (r : Result A E) → IsErr r → IfOk r P
none_given P (Ok a) is = absurd (cc)
none_given P (Err e) is = tt

-- nothing is done
pub none_done : {A E : Type 0} (P : Type 0) (r : Result A E) → IsErr r → OnOk r P
none_done P (Ok a) is = absurd (cc)
none_done P (Err e) is = tt

-- the error is the one that came
pub same_error : {A E : Type 0} (P : E → Type 0) (r : Result A E) (x : E) → IsErrAnd r (λ e. e ≡ x) → P x → IfErr r P
same_error P (Ok a) x is holds = tt
same_error P (Err e) x is holds = subst P (sym is) holds

-- memory is refused, and no limit is met
pub not_big : {A P : Type 0} (r : Result A Refusal) → IsErrAnd r (λ e. e ≡ NoMemory) → r ≡ Err TooBig → P
not_big (Ok a) is big = absurd (cc)
not_big (Err e) is big = absurd (cc)
