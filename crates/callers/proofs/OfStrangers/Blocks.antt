-- Blocks of one message.
use Rattle.std.proofs.Common.{◌≡◌, true, List, [], ◌∷◌, ◌++◌, ◌∙◌, ap, refl, sym, subst, ℤ}
use Rattle.std.proofs.lemmas.List.Elements.{All-nil, All-cons}
use Rattle.std.specs.List.{All}
use Rattle.std.specs.Prelude.{Option, Some, None}
use Rattle.flow_edges.specs.Flat.{Flat}
use Rattle.flow_edges.specs.Flat.TheVariants.{Unit as UnitFlat, Bool as BoolFlat, Int as IntFlat, End as EndFlat}
use Rattle.flow_edges.specs.Flats.{message_of, flat_signals}
use Rattle.flow_edges.specs.Kind.{Kind}
use Rattle.flow_edges.specs.Kind.TheVariants.{Unit as UnitKind, Int as IntKind}
use Rattle.flow_edges.specs.Kinds.{fits, FitsEdge, TakesKind}
use Rattle.flow_edges.specs.Signals.{signal_of, signals, orderly}

last_of_one : (x : Flat) → orderly (flat_signals (x ∷ [])) ≡ true
unfolding signals orderly
last_of_one UnitFlat = refl
last_of_one (BoolFlat b) = refl
last_of_one (IntFlat n) = refl
last_of_one EndFlat = refl

-- nothing follows an end in a block of one message
pub one_is_last : (x : Flat) (xs : List Flat) → xs ≡ x ∷ [] → orderly (flat_signals xs) ≡ true
one_is_last x xs is = subst (λ (ys : List Flat). orderly (flat_signals ys) ≡ true) (sym is) (last_of_one x)

unit_of_one : All (λ s. fits UnitKind s ≡ true) (flat_signals (UnitFlat ∷ []))
unfolding signals
unit_of_one = All-cons (λ s. fits UnitKind s ≡ true) (signal_of (message_of UnitFlat)) [] refl (All-nil (λ s. fits UnitKind s ≡ true))

-- a block of one unit has units
pub one_unit_fits : (k : Kind) (xs : List Flat) → k ≡ UnitKind → xs ≡ UnitFlat ∷ [] → All (λ s. fits k s ≡ true) (flat_signals xs)
one_unit_fits k xs units is =
    subst (λ j. All (λ s. fits j s ≡ true) (flat_signals xs)) (sym units)
    (subst (λ (ys : List Flat). All (λ s. fits UnitKind s ≡ true) (flat_signals ys)) (sym is) unit_of_one)

-- what is pushed to an empty block is all that it holds
pub alone : {x : Flat} {old new : List Flat} → new ≡ old ++ x ∷ [] → old ≡ [] → new ≡ x ∷ []
alone {x} {old} {new} is empty = is ∙ ap (λ (l : List Flat). l ++ x ∷ []) empty

-- an edge that takes integers takes a block of one of them
pub one_int_goes : (of : Option Kind) (n : ℤ) (xs : List Flat) → TakesKind of IntKind → xs ≡ IntFlat n ∷ [] → All (λ y. FitsEdge of (signal_of (message_of y))) xs
one_int_goes None n xs takes is = λ i d low. tt
one_int_goes (Some j) n xs takes is =
    let goes = λ (y : Flat). FitsEdge (Some j) (signal_of (message_of y)) in
    subst (λ (ys : List Flat). All goes ys) (sym is) (All-cons goes (IntFlat n) [] (takes (signal_of (message_of (IntFlat n))) refl) (All-nil goes))
