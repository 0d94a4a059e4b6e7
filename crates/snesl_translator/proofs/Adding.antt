-- What calls add, one after another and over lists.
use Rattle.std.proofs.Common.{◌≡◌, ◌<◌, ◌≤◌, ◌+◌, ◌∙◌, ℕ, suc, List, [], ◌∷◌, ◌++◌, length, map, take, drop, get_or, Result, Ok, Err, refl, sym, ap, subst, append-nil, take_all, drop-cons}
use Rattle.std.proofs.lemmas.List.{map-append, take_more, take-append-drop}
use Rattle.snesl_data.specs.declared.dialect.Dialect.{Dialect}
use Rattle.snesl_data.specs.declared.refusal.Refusal.{Refusal}
use Rattle.snesl_translation.specs.Makings.{Making, done, and_then}
use Rattle.snesl_translator.specs.steps.Views.{dialect_of_steps, steps_in, next_in}
use Rattle.snesl_translator.specs.steps.Added.{HasMade, Adds}
use Rattle.snesl_translator.specs.declared.steps.steps.Steps.{Steps}
use Rattle.snesl_translator.proofs.OfSteps.Adding.{done_made, made_then, then_done, refused_first}
use Rattle.snesl_translator.proofs.Listed.{made_all, made_all-append}

-- after a first making that was made the rest is added, in the same dialect
pub then_adds : {A B C : Type 0} {old middle : Steps} {first : Making B} {given : B} (view : A → C) (new : Steps) (rest : Dialect → B → ℕ → Making C) (result : Result A Refusal)
    → HasMade old middle first given → Adds view middle new (rest (dialect_of_steps middle) given (next_in middle)) result → Adds view old new (and_then first (rest (dialect_of_steps old))) result
then_adds {old = old} {middle = middle} {first = first} {given = given} view new rest result made adds =
    made_then view old middle new first (rest (dialect_of_steps old)) given result made
    (subst (λ dialect. Adds view middle new (rest dialect given (next_in middle)) result) made.dialect adds)

-- one more item was made
pub one_more_made : {A B : Type 0} {old middle new : Steps} (one : Dialect → A → ℕ → Making B) (xs : List A) (x : A) (us : List B) (u : B)
    → HasMade old middle (made_all (one (dialect_of_steps old)) xs (next_in old)) us → HasMade middle new (one (dialect_of_steps middle) x (next_in middle)) u
    → HasMade old new (made_all (one (dialect_of_steps old)) (xs ++ x ∷ []) (next_in old)) (us ++ u ∷ [])
one_more_made {old = old} {middle = middle} {new = new} one xs x us u made more =
    let first = one (dialect_of_steps old) in
    let more' : HasMade middle new (first x (next_in middle)) u = subst (λ dialect. HasMade middle new (one dialect x (next_in middle)) u) made.dialect more in
    let single : HasMade middle new (made_all first (x ∷ []) (next_in middle)) (u ∷ []) =
    made_then (λ l. l) middle new new (first x (next_in middle)) (λ u k. and_then (made_all first [] k) (λ us k. done (u ∷ us) k)) u (Ok (u ∷ [])) more'
    (then_done new new (done [] (next_in new)) (λ us. u ∷ us) [] (done_made new [])) in
    subst (λ m. HasMade old new m (us ++ u ∷ [])) (sym (made_all-append first xs (x ∷ []) (next_in old)))
    (made_then (λ l. l) old middle new (made_all first xs (next_in old)) (λ us k. and_then (made_all first (x ∷ []) k) (λ vs k. done (us ++ vs) k)) us (Ok (us ++ u ∷ [])) made
    (then_done middle new (made_all first (x ∷ []) (next_in middle)) (λ vs. us ++ vs) (u ∷ []) single))

-- one more item was refused
pub one_more_refused : {A B C D : Type 0} (view : C → B) (other : D → List B) {old middle : Steps} (new : Steps) (one : Dialect → A → ℕ → Making B)
    (xs : List A) (x : A) (ys : List A) (us : List B) (e : Refusal)
    → HasMade old middle (made_all (one (dialect_of_steps old)) xs (next_in old)) us → Adds view middle new (one (dialect_of_steps middle) x (next_in middle)) (Err e)
    → Adds other old new (made_all (one (dialect_of_steps old)) (xs ++ x ∷ ys) (next_in old)) (Err e)
one_more_refused view other {old = old} {middle = middle} new one xs x ys us e made refused =
    let first = one (dialect_of_steps old) in
    let refused' : Adds view middle new (first x (next_in middle)) (Err e) = subst (λ dialect. Adds view middle new (one dialect x (next_in middle)) (Err e)) made.dialect refused in
    subst (λ m. Adds other old new m (Err e)) (sym (made_all-append first xs (x ∷ ys) (next_in old)))
    (made_then other old middle new (made_all first xs (next_in old)) (λ us k. and_then (made_all first (x ∷ ys) k) (λ vs k. done (us ++ vs) k)) us (Err e) made
    (refused_first (λ l. l) other middle new new (made_all first (x ∷ ys) (next_in middle)) (λ vs k. done (us ++ vs) k) e
    (refused_first view (λ l. l) middle new new (first x (next_in middle)) (λ u k. and_then (made_all first ys k) (λ us k. done (u ∷ us) k)) e refused')))

-- nothing is added, and this is given
pub done_as : {A : Type 0} (steps : Steps) (x y : A) → x ≡ y → HasMade steps steps (done y (next_in steps)) x
done_as steps x y e = record { dialect = refl; steps = sym (append-nil (steps_in steps)); next = refl; given = e }

-- no item was made yet
pub none_made : {A B X : Type 0} (steps : Steps) (one : A → ℕ → Making B) (xs : List A) (view : X → B) (us : List X) → us ≡ []
    → HasMade steps steps (made_all one (take 0 xs) (next_in steps)) (map view us)
none_made steps one xs view us e = done_as steps (map view us) [] (ap (map view) e)

-- the item of this index was made
pub item_made : {A B X : Type 0} {old middle new : Steps} (one : Dialect → A → ℕ → Making B) (view : X → B) (xs : List A) (i : ℕ) (x : A) (us more : List X) (u : X)
    → i < length xs → x ≡ get_or xs i x → more ≡ us ++ u ∷ []
    → HasMade old middle (made_all (one (dialect_of_steps old)) (take i xs) (next_in old)) (map view us) → HasMade middle new (one (dialect_of_steps middle) x (next_in middle)) (view u)
    → HasMade old new (made_all (one (dialect_of_steps old)) (take (i + 1) xs) (next_in old)) (map view more)
item_made {old = old} {new = new} one view xs i x us more u l is e made later =
    let first = one (dialect_of_steps old) in
    let there = take_more xs i x l ∙ ap (λ y. take i xs ++ y ∷ []) (sym is) in
    subst (λ ys. HasMade old new (made_all first ys (next_in old)) (map view more)) (sym there)
    (subst (λ vs. HasMade old new (made_all first (take i xs ++ x ∷ []) (next_in old)) vs) (sym (ap (map view) e ∙ map-append view us (u ∷ [])))
    (one_more_made one (take i xs) x (map view us) (view u) made later))

-- the item of this index was refused
pub item_refused : {A B C D : Type 0} (view : C → B) (other : D → List B) {old middle : Steps} (new : Steps) (one : Dialect → A → ℕ → Making B)
    (xs : List A) (i : ℕ) (x : A) (us : List B) (e : Refusal)
    → i < length xs → x ≡ get_or xs i x
    → HasMade old middle (made_all (one (dialect_of_steps old)) (take i xs) (next_in old)) us → Adds view middle new (one (dialect_of_steps middle) x (next_in middle)) (Err e)
    → Adds other old new (made_all (one (dialect_of_steps old)) xs (next_in old)) (Err e)
item_refused view other {old = old} new one xs i x us e l is made refused =
    let there = ap (λ ys. take i xs ++ ys) (ap (λ y. y ∷ drop (suc i) xs) is ∙ sym (drop-cons xs i x l)) ∙ take-append-drop i xs in
    subst (λ ys. Adds other old new (made_all (one (dialect_of_steps old)) ys (next_in old)) (Err e)) there
    (one_more_refused view other new one (take i xs) x (drop (suc i) xs) us e made refused)

-- all items were made
pub items_made : {A B : Type 0} {old new : Steps} (one : A → ℕ → Making B) (xs : List A) (i : ℕ) (us : List B) → length xs ≤ i
    → HasMade old new (made_all one (take i xs) (next_in old)) us → HasMade old new (made_all one xs (next_in old)) us
items_made {old = old} {new = new} one xs i us l made = subst (λ ys. HasMade old new (made_all one ys (next_in old)) us) (take_all i xs l) made
