-- Blocks of the values of operators.
use Rattle.std.proofs.Common.{◌≡◌, ℕ, ◌+◌, ◌<◌, List, [], ◌∷◌, ◌++◌, length, take, map, get_or, sym, ◌∙◌, ap}
use Rattle.std.proofs.lemmas.List.{take_more, map-append}
use Rattle.snesl_data.specs.declared.operators.scalar.Scalar.{Scalar}
use Rattle.flow_messages.specs.Signals.{Signal, carry}
use Rattle.flow_folds.specs.Scalars.{cell_of_scalar}

-- what these values say
abbrev pub values_said : {A : Type 0} → (A → Scalar) → List A → List Signal
values_said said zs = map (λ z. carry (cell_of_scalar (said z))) zs

-- one more of a block
pub one_more : {A : Type 0} (f : A → Signal) (xs : List A) (n : ℕ) (none : A) → n < length xs → map f (take n xs) ++ f (get_or xs n none) ∷ [] ≡ map f (take (n + 1) xs)
one_more f xs n none within = sym (ap (map f) (take_more xs n none within) ∙ map-append f (take n xs) (get_or xs n none ∷ []))
