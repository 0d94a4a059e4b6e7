-- Answers: what evaluation ends in.
use Rattle.std.specs.Prelude.{ℕ, List, [], ◌∷◌, ◌++◌, Option, Some, None, Result, Ok, Err}
use Rattle.snesl_data.specs.declared.fault.FaultKind.{FaultKind}

-- a result, or the first fault from the left with its offset
pub data Answer (A : Type 0) : Type 0 where
  gives : A → Answer A
  faults : FaultKind → ℕ → Answer A

-- goes on with the result; a fault ends all
abbrev pub go : {A B : Type 0} → Answer A → (A → Answer B) → Answer B
go (gives x) next = next x
go (faults kind at) next = faults kind at

-- the results at all items in order, or the first fault
abbrev pub go_all : {A B : Type 0} → (A → Answer B) → List A → Answer (List B)
go_all f [] = gives []
go_all f (x ∷ xs) = go (f x) (λ y. go (go_all f xs) (λ ys. gives (y ∷ ys)))

-- the same for lists of results, joined in order
abbrev pub go_join : {A B : Type 0} → (A → Answer (List B)) → List A → Answer (List B)
go_join f [] = gives []
go_join f (x ∷ xs) = go (f x) (λ ys. go (go_join f xs) (λ zs. gives (ys ++ zs)))

-- what is there, or else a fault
abbrev pub or_fault : {A : Type 0} → FaultKind → ℕ → Option A → Answer A
or_fault kind at (Some x) = gives x
or_fault kind at None = faults kind at

-- the result, or its fault at this offset
abbrev pub answer_at : {A : Type 0} → ℕ → Result A FaultKind → Answer A
answer_at at (Ok x) = gives x
answer_at at (Err kind) = faults kind at
