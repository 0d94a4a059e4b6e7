-- What a result says of a configuration that is lawful.
use Rattle.std.proofs.Common.{◌≡◌, ◌↔◌, Result, Ok, Err, IsErrAnd}
use Rattle.flow_drives.specs.declared.driver.DriveError.{DriveError}
use Rattle.flow_drives.specs.declared.driver.DriveError.TheVariants.{BadConfig}

module _ {A : Type 0} where
  is_refused : (r : Result A DriveError) (e f : DriveError) → IsErrAnd r (λ g. g ≡ e) → r ≡ Err f → e ≡ f
  is_refused (Ok x) e f h is = absurd h
  is_refused (Err g) e f h is = cc

  -- it is refused as something else
  other_refusal : (r : Result A DriveError) (e f : DriveError) → IsErrAnd r (λ g. g ≡ e) → (e ≡ f → ⊥) → r ≡ Err f → ⊥
  other_refusal r e f h other is = other (is_refused r e f h is)

  pub refused_else : (r : Result A DriveError) (e : DriveError) (Lawful : Type 0) → Lawful → IsErrAnd r (λ g. g ≡ e) → (e ≡ BadConfig → ⊥) → (r ≡ Err BadConfig) ↔ (Lawful → ⊥)
  refused_else r e Lawful lawful h other = (λ is _. other_refusal r e BadConfig h other is, λ no. absurd (no lawful))

  made_is_no_refusal : (x : A) (e : DriveError) → Ok x ≡ Err e → ⊥
  made_is_no_refusal x e is = cc

  pub made_lawful : (x : A) (Lawful : Type 0) → Lawful → (Ok x ≡ Err BadConfig) ↔ (Lawful → ⊥)
  made_lawful x Lawful lawful = (λ is _. made_is_no_refusal x BadConfig is, λ no. absurd (no lawful))

-- a call is refused for its configuration where one in it is, whose error is passed on
pub passed_on : {A B : Type 0} (e : DriveError) (r : Result B DriveError) (Lawful : Type 0) → IsErrAnd r (λ f. f ≡ e) →
    (((let origin : Result A DriveError = Err e in origin) ≡ Err BadConfig) ↔ (Lawful → ⊥)) → (r ≡ Err BadConfig) ↔ (Lawful → ⊥)
passed_on {A} {B} e (Ok x) Lawful h was = absurd h
passed_on {A} {B} e (Err f) Lawful h was = (λ bad. was.0 (let kind : e ≡ BadConfig = cc in cc), λ no. let is = was.1 no in cc)

-- and is not where that one is not
pub passed_made : {A B : Type 0} (x : A) (made : B) (Lawful : Type 0) →
    (((let origin : Result A DriveError = Ok x in origin) ≡ Err BadConfig) ↔ (Lawful → ⊥)) → (Ok made ≡ Err BadConfig) ↔ (Lawful → ⊥)
passed_made {A} {B} x made Lawful was = (λ bad. cc, λ no. let is = was.1 no in cc)
