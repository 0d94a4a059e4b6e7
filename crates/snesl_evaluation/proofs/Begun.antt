-- Items in parts, seen from after a part that is begun.
use Rattle.std.proofs.Common.{◌≡◌, ℕ, zero, suc, ◌<◌, ◌≤◌, ◌≢◌, Bool, true, false, List, [], ◌∷◌, ◌++◌, map, drop, length, slice_get, Option, Some, None, refl, sym, ap, ◌∙◌, append_assoc, arith}
use Rattle.snesl_data.specs.declared.fault.FaultKind.{FaultKind}
use Rattle.snesl_data.specs.declared.fault.FaultKind.TheVariants.{Part}
use Rattle.snesl_data.specs.Values.{Value}
use Rattle.snesl_evaluation.specs.Answer.{Answer, gives, faults, go, or_fault}
use Rattle.snesl_evaluation.specs.Builtins.{into_first, parts_answer, sequence}

-- a part that is begun, before the rest of it and the other parts
abbrev pub begun : ℕ → List Value → List (List Value) → Answer (List (List Value))
begun at [] parts = gives parts
begun at (v ∷ vs) parts = go (begun at vs parts) (into_first at v)

-- the parts that are done, and those after them
abbrev pub behind : ℕ → List Value → List Value → List (List Value) → Answer (List Value)
behind at done part parts = go (begun at part parts) (λ all. gives (done ++ map sequence all))

pub begun_ends : (at : ℕ) (vs : List Value) (parts : List (List Value)) → begun at vs ([] ∷ parts) ≡ gives (vs ∷ parts)
begun_ends at [] parts = refl
begun_ends at (v ∷ vs) parts = ap (λ answer. go answer (into_first at v)) (begun_ends at vs parts)

pub begun_more : (at : ℕ) (vs : List Value) (v : Value) (parts : List (List Value)) → begun at (vs ++ v ∷ []) parts ≡ go (into_first at v parts) (begun at vs)
begun_more at [] v [] = refl
begun_more at [] v (part ∷ parts) = refl
begun_more at (w ∷ vs) v [] = ap (λ answer. go answer (into_first at w)) (begun_more at vs v [])
begun_more at (w ∷ vs) v (part ∷ parts) = ap (λ answer. go answer (into_first at w)) (begun_more at vs v (part ∷ parts))

pub begun_left : (at : ℕ) (v : Value) (vs : List Value) → begun at (v ∷ vs) [] ≡ faults Part at
begun_left at v [] = refl
begun_left at v (w ∷ vs) = ap (λ answer. go answer (into_first at v)) (begun_left at w vs)

ends : (at : ℕ) (done part : List Value) (answer : Answer (List (List Value)))
    → go (go answer (λ parts. gives ([] ∷ parts))) (behind at done part) ≡ go answer (behind at (done ++ sequence part ∷ []) [])
ends at done part (gives parts) =
    ap (λ answer. go answer (λ all. gives (done ++ map sequence all))) (begun_ends at part parts)
    ∙ ap gives (sym (append_assoc done (sequence part ∷ []) (map sequence parts)))
ends at done part (faults kind place) = refl

takes : (at : ℕ) (done part : List Value) (v : Value) (answer : Answer (List (List Value)))
    → go (go answer (into_first at v)) (behind at done part) ≡ go answer (behind at done (part ++ v ∷ []))
takes at done part v (gives []) = sym (ap (λ answer. go answer (λ all. gives (done ++ map sequence all))) (begun_more at part v []))
takes at done part v (gives (first ∷ parts)) = sym (ap (λ answer. go answer (λ all. gives (done ++ map sequence all))) (begun_more at part v (first ∷ parts)))
takes at done part v (faults kind place) = refl

-- a flag that is true ends the part that is begun
pub part_ends : (at : ℕ) (done part vs : List Value) (flags : List Bool)
    → go (parts_answer at vs (true ∷ flags)) (behind at done part) ≡ go (parts_answer at vs flags) (behind at (done ++ sequence part ∷ []) [])
part_ends at done part [] flags = ends at done part (parts_answer at [] flags)
part_ends at done part (v ∷ vs) flags = ends at done part (parts_answer at (v ∷ vs) flags)

-- a flag that is false takes the next item
pub part_takes : (at : ℕ) (done part vs : List Value) (i : ℕ) (v : Value) (flags : List Bool) → slice_get vs i ≡ Some v
    → go (parts_answer at (drop i vs) (false ∷ flags)) (behind at done part) ≡ go (parts_answer at (drop (suc i) vs) flags) (behind at done (part ++ v ∷ []))
part_takes at done part [] i v flags e = cc
part_takes at done part (w ∷ vs) zero v flags e =
    let same : w ≡ v = cc in
    takes at done part w (parts_answer at vs flags) ∙ ap (λ x. go (parts_answer at vs flags) (behind at done (part ++ x ∷ []))) same
part_takes at done part (w ∷ vs) (suc i) v flags e = part_takes at done part vs i v flags e

pub part_lacks : (at : ℕ) (vs : List Value) (i : ℕ) (flags : List Bool) → slice_get vs i ≡ None → parts_answer at (drop i vs) (false ∷ flags) ≡ faults Part at
part_lacks at [] zero flags e = refl
part_lacks at [] (suc i) flags e = refl
part_lacks at (v ∷ vs) zero flags e = cc
part_lacks at (v ∷ vs) (suc i) flags e = part_lacks at vs i flags e

-- items that no flag takes
pub part_leaves : (at : ℕ) (vs : List Value) (i : ℕ) → i < length vs → parts_answer at (drop i vs) [] ≡ faults Part at
part_leaves at [] i l = absurd (omega arith)
part_leaves at (v ∷ vs) zero l = refl
part_leaves at (v ∷ vs) (suc i) l = part_leaves at vs i (omega arith)

-- where no item is left for a flag
pub part_stops : (at : ℕ) (done part vs : List Value) (i : ℕ) (flags : List Bool) (kind : FaultKind) (place : ℕ)
    → go (or_fault Part at (slice_get vs i)) (λ v. gives (part ++ v ∷ [])) ≡ faults kind place
    → go (parts_answer at (drop i vs) (false ∷ flags)) (behind at done part) ≡ faults kind place
part_stops at done part vs i flags kind place e = by_item (slice_get vs i) refl e
  where
    by_item : (o : Option Value) → slice_get vs i ≡ o → go (or_fault Part at o) (λ v. gives (part ++ v ∷ [])) ≡ faults kind place
        → go (parts_answer at (drop i vs) (false ∷ flags)) (behind at done part) ≡ faults kind place
    by_item (Some v) o f = cc
    by_item None o f = ap (λ answer. go answer (behind at done part)) (part_lacks at vs i flags o) ∙ f

-- where one is, and the part has it then
pub part_grows : (at : ℕ) (done part grown vs : List Value) (i : ℕ) (flags : List Bool)
    → go (or_fault Part at (slice_get vs i)) (λ v. gives (part ++ v ∷ [])) ≡ gives grown
    → go (parts_answer at (drop i vs) (false ∷ flags)) (behind at done part) ≡ go (parts_answer at (drop (suc i) vs) flags) (behind at done grown)
part_grows at done part grown vs i flags e = by_item (slice_get vs i) refl e
  where
    by_item : (o : Option Value) → slice_get vs i ≡ o → go (or_fault Part at o) (λ v. gives (part ++ v ∷ [])) ≡ gives grown
        → go (parts_answer at (drop i vs) (false ∷ flags)) (behind at done part) ≡ go (parts_answer at (drop (suc i) vs) flags) (behind at done grown)
    by_item (Some v) o f =
        let same : part ++ v ∷ [] ≡ grown = cc in
        part_takes at done part vs i v flags o ∙ ap (λ l. go (parts_answer at (drop (suc i) vs) flags) (behind at done l)) same
    by_item None o f = cc

-- the same at equal places
pub at_same : (at : ℕ) (vs : List Value) (flags : List Bool) (i j k l : ℕ) (done made part grown : List Value) → i ≡ j → k ≡ l → done ≡ made → part ≡ grown
    → go (parts_answer at (drop i vs) (drop k flags)) (behind at done part) ≡ go (parts_answer at (drop j vs) (drop l flags)) (behind at made grown)
at_same at vs flags i j k l done made part grown e f g h =
    ap (λ x. go (parts_answer at (drop x vs) (drop k flags)) (behind at done part)) e
    ∙ ap (λ x. go (parts_answer at (drop j vs) (drop x flags)) (behind at done part)) f
    ∙ ap (λ x. go (parts_answer at (drop j vs) (drop l flags)) (behind at x part)) g
    ∙ ap (λ x. go (parts_answer at (drop j vs) (drop l flags)) (behind at made x)) h

pub drop_all : {A : Type 0} (xs : List A) (i : ℕ) → length xs ≤ i → drop i xs ≡ []
drop_all [] zero l = refl
drop_all [] (suc i) l = refl
drop_all (x ∷ xs) zero l = absurd (omega arith)
drop_all (x ∷ xs) (suc i) l = drop_all xs i (omega arith)

-- a part that no flag ends
pub part_left : (at : ℕ) (done part : List Value) → length part ≢ 0 → behind at done part [] ≡ faults Part at
part_left at done [] ne = absurd (ne refl)
part_left at done (v ∷ vs) ne = ap (λ answer. go answer (λ all. gives (done ++ map sequence all))) (begun_left at v vs)
