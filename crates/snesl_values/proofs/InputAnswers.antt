-- What the reader of an input text answers.
use Rattle.std.proofs.Common.{◌≡◌, ℕ, ◌≤◌, List, length, Result, Ok, Err, IfOk, IfErr, ◌⊎◌, inl, inr, refl, ap, ◌∙◌}
use Rattle.std.specs.Result.{IsOk, IsErrAnd}
use Rattle.snesl_data.specs.declared.dialect.Dialect.{Dialect}
use Rattle.snesl_values.specs.declared.environment.Inputs.{Inputs}
use Rattle.snesl_values.specs.declared.inputs.InputError.{InputError}
use Rattle.snesl_values.specs.declared.inputs.InputError.TheVariants.{Bad, NoMemory}
use Rattle.snesl_values.specs.Inputs.{greatest_input_length, InputDeclaration, Environment, environment_of, InputMeans, unlawful, spells, refused_at}
use Rattle.snesl_values.specs.Wants.{IsStopOf}
use Rattle.snesl_values.proofs.InputMeanings.{one_meaning}

-- the error is that memory was refused, or the offset at which the text is
abbrev pub IsRight : Dialect → List InputDeclaration → List ℕ → InputError → Type 0
IsRight dialect ds text error = (error ≡ NoMemory) ⊎ ((at : ℕ) × (error ≡ Bad at) × InputMeans dialect ds text (refused_at at))

pub right_stop : (dialect : Dialect) → (ds : List InputDeclaration) (text : List ℕ) (error : InputError) → length text ≤ greatest_input_length →
    IsStopOf dialect ds text error → IsRight dialect ds text error
right_stop dialect ds text (Bad at) fits s = inr (at, refl, unlawful fits s)
right_stop dialect ds text NoMemory fits s = inl refl

pub lawful_answered : (dialect : Dialect) → (ds : List InputDeclaration) (text : List ℕ) (r : Result Inputs InputError) → IfErr r (IsRight dialect ds text)
    → (environment : Environment) → InputMeans dialect ds text (spells environment) → IsOk r ⊎ (r ≡ Err NoMemory)
lawful_answered dialect ds text (Ok inputs) right environment means = inl refl
lawful_answered dialect ds text (Err error) (inl is) environment means = inr (ap (λ e. Err e) is)
lawful_answered dialect ds text (Err error) (inr (at, is, other)) environment means =
    let same = one_meaning dialect ds text (refused_at at) (spells environment) other means in cc

-- a text that spells an environment is not refused
pub not_refused : (dialect : Dialect) → (ds : List InputDeclaration) (text : List ℕ) (environment : Environment) (at : ℕ) → InputMeans dialect ds text (spells environment)
    → InputMeans dialect ds text (refused_at at) → ⊥
not_refused dialect ds text environment at spelled means = let same = one_meaning dialect ds text (spells environment) (refused_at at) spelled means in cc

pub unlawful_answered : (dialect : Dialect) → (ds : List InputDeclaration) (text : List ℕ) (r : Result Inputs InputError) →
    IfOk r (λ inputs. InputMeans dialect ds text (spells (environment_of inputs)))
    → IfErr r (IsRight dialect ds text) → (at : ℕ) → InputMeans dialect ds text (refused_at at) → (r ≡ Err (Bad at)) ⊎ (r ≡ Err NoMemory)
unlawful_answered dialect ds text (Ok inputs) spelled right at means = absurd (not_refused dialect ds text (environment_of inputs) at spelled means)
unlawful_answered dialect ds text (Err error) spelled (inl is) at means = inr (ap (λ e. Err e) is)
unlawful_answered dialect ds text (Err error) spelled (inr (other, is, stops)) at means =
    let same = one_meaning dialect ds text (refused_at other) (refused_at at) stops means in
    let places : other ≡ at = cc in
    inl (ap (λ e. Err e) (is ∙ ap (λ n. Bad n) places))

-- an error is no success
pub no_ok : {A E : Type 0} (P : A → Type 0) (r : Result A E) (e : E) → IsErrAnd r (λ x. x ≡ e) → IfOk r P
no_ok P (Ok x) e h = absurd h
no_ok P (Err x) e h = tt
