-- What answers say, and what their parts say of the whole.
use Rattle.std.proofs.Common.{◌≡◌, Result, Ok, Err, ap, ◌∙◌}
use Rattle.snesl_data.specs.declared.refusal.Refusal.{Refusal}
use Rattle.snesl_data.specs.declared.refusal.Refusal.TheVariants.{NoMemory}
use Rattle.snesl_types.specs.Programs.{and_then}
use Rattle.snesl_types.specs.Verdicts.{both_of}

-- an answer is what is given, or the first violation; where there is none an integer is out of range
pub data Outcome {A : Type 0} (Given : A → Type 0) (Violated : Refusal → Type 0) (InRange : Type 0) : Result A Refusal → Type 0 where
  given : {x : A} → Given x → Outcome Given Violated InRange (Ok x)
  violated : {refusal : Refusal} → Violated refusal → Outcome Given Violated InRange (Err refusal)
  out_of_range : ¬ InRange → Outcome Given Violated InRange (Err NoMemory)

pub then_outcome : {A B : Type 0} {G : A → Type 0} {V : Refusal → Type 0} {R : Type 0} {H : B → Type 0} {W : Refusal → Type 0} {S : Type 0}
    {m : Result A Refusal} (f : A → Result B Refusal) → Outcome G V R m
    → ((r : Refusal) → V r → W r) → (S → R) → ((a : A) → G a → Outcome H W S (f a)) → Outcome H W S (and_then m f)
then_outcome f (given {x = a} g) v r next = next a g
then_outcome f (violated {refusal = e} x) v r next = violated (v e x)
then_outcome f (out_of_range n) v r next = out_of_range (λ s. n (r s))

pub both_outcome : {A B C : Type 0} {G : A → Type 0} {V : Refusal → Type 0} {R : Type 0} {G' : B → Type 0} {V' : Refusal → Type 0} {R' : Type 0}
    {H : C → Type 0} {W : Refusal → Type 0} {S : Type 0}
    {m : Result A Refusal} {n : Result B Refusal} (f : A × B → Result C Refusal) → Outcome G V R m → Outcome G' V' R' n
    → ((r : Refusal) → V r → W r) → (S → R) → ((a : A) → G a → (r : Refusal) → V' r → W r) → (S → R')
    → ((a : A) (b : B) → G a → G' b → Outcome H W S (f (a, b))) → Outcome H W S (and_then (both_of m n) f)
both_outcome f (given {x = a} x) (given {x = b} y) v r v' r' next = next a b x y
both_outcome f (given {x = a} x) (violated {refusal = e} y) v r v' r' next = violated (v' a x e y)
both_outcome f (given {x = a} x) (out_of_range n) v r v' r' next = out_of_range (λ s. n (r' s))
both_outcome f (violated {refusal = e} x) other v r v' r' next = violated (v e x)
both_outcome f (out_of_range n) other v r v' r' next = out_of_range (λ s. n (r s))

pub then_ok : {A B : Type 0} {m : Result A Refusal} (f : A → Result B Refusal) {x : A} {r : Result B Refusal} → m ≡ Ok x → f x ≡ r → and_then m f ≡ r
then_ok f e g = ap (λ z. and_then z f) e ∙ g

pub then_err : {A B : Type 0} {m : Result A Refusal} (f : A → Result B Refusal) {e : Refusal} → m ≡ Err e → and_then m f ≡ Err e
then_err f is = ap (λ z. and_then z f) is

pub both_ok : {A B : Type 0} {a : Result A Refusal} {b : Result B Refusal} {x : A} {y : B} → a ≡ Ok x → b ≡ Ok y → both_of a b ≡ Ok (x, y)
both_ok {b = b} {x = x} e f = ap (λ z. both_of z b) e ∙ ap (both_of (Ok x)) f

pub left_err : {A B : Type 0} {a : Result A Refusal} (b : Result B Refusal) {e : Refusal} → a ≡ Err e → both_of a b ≡ Err e
left_err b is = ap (λ z. both_of z b) is

pub right_err : {A B : Type 0} {a : Result A Refusal} {b : Result B Refusal} {x : A} {e : Refusal} → a ≡ Ok x → b ≡ Err e → both_of a b ≡ Err e
right_err {b = b} {x = x} there is = ap (λ z. both_of z b) there ∙ ap (both_of (Ok x)) is
