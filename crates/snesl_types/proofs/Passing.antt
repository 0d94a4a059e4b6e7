-- Answers that are passed on.
use Rattle.std.proofs.Common.{◌≡◌, ◌⊎◌, inl, inr, Result, Ok, Err, sym, ap, subst, ◌∙◌}
use Rattle.std.specs.Result.{IfErr, IsErr, IsErrAnd}
use Rattle.snesl_data.specs.declared.refusal.Refusal.{Refusal}
use Rattle.snesl_data.specs.declared.refusal.Refusal.TheVariants.{NoMemory}
use Rattle.snesl_types.specs.Programs.{and_then}
use Rattle.snesl_types.specs.Verdicts.{IsVerdict, both_of}

-- a refusal of the first part is one of the whole
of_first : {B C : Type 0} (v : Result C Refusal) (f : C → Result B Refusal) (e : Refusal)
    → (e ≡ NoMemory) ⊎ (v ≡ Err e) → (e ≡ NoMemory) ⊎ (and_then v f ≡ Err e)
of_first v f e (inl same) = inl same
of_first v f e (inr is) = inr (ap (λ r. and_then r f) is)

-- what the exit of a `?` returns
pub refused_by : {A B : Type 0} (view : A → B) (v : Result B Refusal) (e : Refusal) (r : Result A Refusal) → IsErr r × IsErrAnd r (λ g. g ≡ e)
    → (e ≡ NoMemory) ⊎ (v ≡ Err e) → IsVerdict view v r
refused_by view v e (Ok x) h is = cc
refused_by view v e (Err g) h (inl same) = inl (h.1 ∙ same)
refused_by view v e (Err g) h (inr is) = inr (is ∙ ap Err (sym h.1))

pub refused_first : {A B C : Type 0} (view : A → B) (v : Result C Refusal) (f : C → Result B Refusal) (e : Refusal) (r : Result A Refusal)
    → IsErr r × IsErrAnd r (λ g. g ≡ e) → (e ≡ NoMemory) ⊎ (v ≡ Err e) → IsVerdict view (and_then v f) r
refused_first view v f e r h is = refused_by view (and_then v f) e r h (of_first v f e is)

pub refused_left : {A B : Type 0} (a : Result A Refusal) (b : Result B Refusal) (e : Refusal)
    → (e ≡ NoMemory) ⊎ (a ≡ Err e) → (e ≡ NoMemory) ⊎ (both_of a b ≡ Err e)
refused_left a b e (inl same) = inl same
refused_left a b e (inr is) = inr (ap (λ z. both_of z b) is)

pub refused_right : {A B : Type 0} (a : Result A Refusal) (b : Result B Refusal) (x : A) (e : Refusal)
    → a ≡ Ok x → (e ≡ NoMemory) ⊎ (b ≡ Err e) → (e ≡ NoMemory) ⊎ (both_of a b ≡ Err e)
refused_right a b x e there (inl same) = inl same
refused_right a b x e there (inr is) = inr (ap (λ z. both_of z b) there ∙ ap (both_of (Ok x)) is)

pub both_there : {A B : Type 0} (a : Result A Refusal) (b : Result B Refusal) (x : A) (y : B) → a ≡ Ok x → b ≡ Ok y → both_of a b ≡ Ok (x, y)
both_there a b x y e f = ap (λ z. both_of z b) e ∙ ap (both_of (Ok x)) f

-- what the second part answers at what the first one gave
pub answered_second : {A B C : Type 0} (view : A → B) (v : Result C Refusal) (f : C → Result B Refusal) (x : C) (r : Result A Refusal)
    → v ≡ Ok x → IsVerdict view (f x) r → IsVerdict view (and_then v f) r
answered_second view v f x r is h = subst (λ z. IsVerdict view (and_then z f) r) (sym is) h

-- what holds of the refusal holds of what the exit of a `?` returns
pub passed_on : {A : Type 0} (r : Result A Refusal) (e : Refusal) (P : Refusal → Type 0) → IsErr r × IsErrAnd r (λ f. f ≡ e) → P e → IfErr r P
passed_on (Ok x) e P f h = tt
passed_on (Err y) e P f h = subst P (sym f.1) h
