-- How what calls add to the steps of a plan goes together: a first making, and then another one of what it gave.
use Rattle.std.proofs.Common.{◌≡◌, ℕ, suc, ◌+◌, ◌<◌, List, ◌∷◌, ◌++◌, length, drop, drop-cons, get_or, Result, Ok, Err, refl, sym, ap, subst, ◌∙◌, arith, append_assoc, append-nil, length-append}
use Rattle.std.specs.Result.{IsErr, IsErrAnd}
use Rattle.snesl_data.specs.declared.refusal.Refusal.{Refusal}
use Rattle.snesl_data.specs.declared.refusal.Refusal.TheVariants.{TooBig, NoMemory}
use Rattle.snesl_translation.specs.Makings.{Making, done, and_then}
use Rattle.snesl_translator.specs.steps.Views.{steps_in, next_in}
use Rattle.snesl_translator.specs.steps.Added.{HasMade, Adds}
use Rattle.snesl_translator.specs.declared.steps.steps.Steps.{Steps}

-- nothing is added
pub done_made : {A : Type 0} (steps : Steps) (x : A) → HasMade steps steps (done x (next_in steps)) x
done_made steps x = record { dialect = refl; steps = sym (append-nil (steps_in steps)); next = refl; given = refl }

-- after a first making that was made, what is added by the rest is added by both
pub made_then : {A B C : Type 0} (view : A → C) (old middle new : Steps) (first : Making B) (rest : B → ℕ → Making C) (given : B) (result : Result A Refusal)
    → HasMade old middle first given → Adds view middle new (rest given (next_in middle)) result → Adds view old new (and_then first rest) result
unfolding and_then
made_then {A = A} {C = C} view old middle new first rest given result made adds =
    go (rest first.given first.next) result
    (subst (λ v. Adds view middle new (rest v first.next) result) made.given (subst (λ k. Adds view middle new (rest given k) result) made.next adds))
  where
    go : (later : Making C) (r : Result A Refusal) → Adds view middle new later r
        → Adds view old new (record { steps = first.steps ++ later.steps; given = later.given; next = later.next }) r
    go later (Ok x) h = record {
      dialect = h.dialect ∙ made.dialect;
      steps = h.steps ∙ ap (λ l. l ++ later.steps) made.steps ∙ append_assoc (steps_in old) first.steps later.steps;
      next = h.next;
      given = h.given;
    }
    go later (Err NoMemory) h = tt
    go later (Err TooBig) h =
        omega (arith, h, ap length made.steps, length-append (steps_in old) first.steps, length-append first.steps later.steps)
    go later (Err _) h = absurd h

-- the same where the rest only gives something else
pub then_done : {A B : Type 0} (old new : Steps) (first : Making A) (f : A → B) (given : A) → HasMade old new first given
    → HasMade old new (and_then first (λ x k. done (f x) k)) (f given)
then_done old new first f given made = made_then (λ x. x) old new new first (λ x k. done (f x) k) given (Ok (f given)) made (done_made new (f given))

-- a refusal of the same making, of a call that returns something else
pub refused_as : {A B C : Type 0} (view : A → B) (other : C → B) (old middle new : Steps) (making : Making B) (e : Refusal)
    → Adds view old middle making (Err e) → Adds other old new making (Err e)
refused_as view other old middle new making NoMemory h = tt
refused_as view other old middle new making TooBig h = h
refused_as view other old middle new making _ h = absurd h

-- a refusal of the first making is one of both
pub refused_first : {A B C D : Type 0} (view : A → B) (other : C → D) (old middle new : Steps) (first : Making B) (rest : B → ℕ → Making D) (e : Refusal)
    → Adds view old middle first (Err e) → Adds other old new (and_then first rest) (Err e)
unfolding and_then
refused_first view other old middle new first rest NoMemory h = tt
refused_first view other old middle new first rest TooBig h = omega (arith, h, length-append first.steps (rest first.given first.next).steps)
refused_first view other old middle new first rest _ h = absurd h

-- what the exit of a `?` returns

pub exits : {A B : Type 0} (view : A → B) (old new : Steps) (making : Making B) (e : Refusal) (r : Result A Refusal)
    → IsErr r × IsErrAnd r (λ g. g ≡ e) → Adds view old new making (Err e) → Adds view old new making r
exits view old new making e (Ok x) h adds = absurd h.1
exits view old new making e (Err g) h adds = subst (λ x. Adds view old new making (Err x)) (sym h.1) adds

pub exits_first : {A B C D : Type 0} (view : A → B) (other : C → D) (old middle new : Steps) (first : Making B) (rest : B → ℕ → Making D) (e : Refusal) (r : Result C Refusal)
    → IsErr r × IsErrAnd r (λ g. g ≡ e) → Adds view old middle first (Err e) → Adds other old new (and_then first rest) r
exits_first view other old middle new first rest e r h adds =
    exits other old new (and_then first rest) e r h (refused_first view other old middle new first rest e adds)

-- where memory was refused
pub exits_without_memory : {A B : Type 0} (view : A → B) (old new : Steps) (making : Making B) (r : Result A Refusal)
    → IsErr r × IsErrAnd r (λ g. g ≡ NoMemory) → Adds view old new making r
exits_without_memory view old new making r h = exits view old new making NoMemory r h tt

-- loops

-- what the rest adds from now on, the whole adds from the beginning on
abbrev pub Continues : Steps → Steps → Making (Unit {0}) → Making (Unit {0}) → Type 0
Continues old now rest whole =
    (new : Steps) (result : Result (Unit {0}) Refusal) → Adds (λ x. x) now new rest result → Adds (λ x. x) old new whole result

-- the item at an index, and the others after it
pub from_index : {A : Type 0} (xs : List A) (i : ℕ) (x : A) → i < length xs → get_or xs i x ∷ drop (i + 1) xs ≡ drop i xs
from_index xs i x within =
    let n : i + 1 ≡ suc i = omega arith in
    ap (λ j. get_or xs i x ∷ drop j xs) n ∙ sym (drop-cons xs i x within)
