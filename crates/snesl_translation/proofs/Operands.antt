-- Operators, built-in functions and calls: each means what its operands or arguments say.
use Rattle.std.specs.Prelude.{◌≡◌, ℕ, zero, suc, List, [], ◌∷◌, ◌++◌, map, length, replicate, zip, Option, Some, None, option_map, refl}
use Rattle.std.proofs.Common.{arith, sym, ap, ◌∙◌, subst}
use Rattle.snesl_data.specs.Types.{Ty}
use Rattle.snesl_data.specs.Values.{Value}
use Rattle.snesl_values.specs.Inputs.{Environment}
use Rattle.snesl_types.specs.Contexts.{Context}
use Rattle.flow_base.specs.Columns.{Columns}
use Rattle.flow_nodes.specs.functions.Lists.{bind, each}
use Rattle.snesl_translation.specs.Wires.{Wires, Bound}
use Rattle.snesl_translation.specs.Makings.{Making, done, and_then}
use Rattle.snesl_translation.specs.FreeNames.{Names}
use Rattle.snesl_translation.specs.Carrying.{Carries, GoesTo}
use Rattle.snesl_translation.specs.Meaning.{IsTranslation, AllCarry}
use Rattle.snesl_translation.proofs.ArgumentMeanings.{GoAll, AllMean}
use Rattle.snesl_translation.proofs.Carrying.{carried_on}
use Rattle.snesl_translation.proofs.Doing.{done_does}
use Rattle.snesl_translation.proofs.Instances.{nothing_left, each_two, each_length}
use Rattle.snesl_translation.proofs.Forms.{two_go, borne_on, borne_left, borne_right, controls_on}

-- an answer to what was answered at each instance
pub each_after : {X A C : Type 0} (f : X → Option A) (h : A → Option C) (xs : List X) → each (λ x. bind (f x) h) xs ≡ bind (each f xs) (each h)
each_after f h [] = refl
each_after {A = A} f h (x ∷ xs) = ap (λ o. bind (bind (f x) h) (λ y. option_map (λ ys. y ∷ ys) o)) (each_after f h xs) ∙ by_case (f x) (each f xs)
  where
    by_case : (a : Option A) (vs : Option (List A)) → bind (bind a h) (λ y. option_map (λ ys. y ∷ ys) (bind vs (each h))) ≡ bind (bind a (λ v. option_map (λ vs. v ∷ vs) vs)) (each h)
    by_case None vs = refl
    by_case (Some v) None = nothing_left (h v)
    by_case (Some v) (Some vs) = refl

-- one operand

pub after_means : (context : Context) (s t : Ty) (names : Names) (operand : Bound → ℕ → ℕ → Making Wires) (step : Wires → ℕ → Making Wires)
    (one : Environment → Option Value) (answer : Value → Option Value)
    → IsTranslation operand one names context s
    → ((streams : Columns) (u : Wires) (vs : List Value) → Carries streams u s vs → GoesTo streams t (step u (length streams)) (each answer vs))
    → IsTranslation (λ bound control k. and_then (operand bound control k) (λ u k. step u k)) (λ environment. bind (one environment) answer) names context t
after_means context s t names operand step one answer h goes streams bound control environments bears controls =
    subst (GoesTo streams t (and_then (operand bound control (length streams)) (λ u k. step u k))) (sym (each_after one answer environments))
    (two_go streams s t (operand bound control (length streams)) (λ u k. step u k) (each one environments) (each answer) (h streams bound control environments bears controls)
    (λ more u vs is c. goes (streams ++ more) u vs c))

-- two operands

pub firsts_of : {A B : Type 0} (vs : List A) (ws : List B) → length vs ≡ length ws → map (λ (p : A × B). p.0) (zip vs ws) ≡ vs
firsts_of [] [] e = refl
firsts_of [] (w ∷ ws) e = absurd (omega (arith))
firsts_of (v ∷ vs) [] e = absurd (omega (arith))
firsts_of (v ∷ vs) (w ∷ ws) e = ap (λ l. v ∷ l) (firsts_of vs ws (omega (arith)))

pub seconds_of : {A B : Type 0} (vs : List A) (ws : List B) → length vs ≡ length ws → map (λ (p : A × B). p.1) (zip vs ws) ≡ ws
seconds_of [] [] e = refl
seconds_of [] (w ∷ ws) e = absurd (omega (arith))
seconds_of (v ∷ vs) [] e = absurd (omega (arith))
seconds_of (v ∷ vs) (w ∷ ws) e = ap (λ l. w ∷ l) (seconds_of vs ws (omega (arith)))

pub both_mean : (context : Context) (r s t : Ty) (names others : Names) (left right : Bound → ℕ → ℕ → Making Wires) (step : Wires → Wires → ℕ → Making Wires)
    (one other : Environment → Option Value) (answer : Value → Value → Option Value)
    → IsTranslation left one names context r → IsTranslation right other others context s
    → ((streams : Columns) (u v : Wires) (ps : List (Value × Value)) → Carries streams u r (map (λ p. p.0) ps) → Carries streams v s (map (λ p. p.1) ps)
    → GoesTo streams t (step u v (length streams)) (each (λ p. answer p.0 p.1) ps))
    → IsTranslation (λ bound control k. and_then (left bound control k) (λ u k. and_then (right bound control k) (λ v k. step u v k)))
    (λ environment. bind (one environment) (λ v. bind (other environment) (λ w. answer v w))) (names ++ others) context t
both_mean context r s t names others left right step one other answer h g goes streams bound control environments bears controls =
    subst (GoesTo streams t (and_then (left bound control (length streams)) (λ u k. and_then (right bound control k) (λ v k. step u v k)))) (sym (each_two one other answer environments))
    (two_go streams r t (left bound control (length streams)) (λ u k. and_then (right bound control k) (λ v k. step u v k)) (each one environments)
    (λ vs. bind (each other environments) (λ ws. each (λ p. answer p.0 p.1) (zip vs ws)))
    (h streams bound control environments (borne_left streams bound names others context environments bears) controls)
    (λ more u vs is cu.
    let there = streams ++ more in
    two_go there s t (right bound control (length there)) (λ v k. step u v k) (each other environments) (λ ws. each (λ p. answer p.0 p.1) (zip vs ws))
    (g there bound control environments
    (borne_on streams more bound others context environments (borne_right streams bound names others context environments bears))
    (controls_on streams more control (length environments) controls))
    (λ later v ws is' cv.
    let last = there ++ later in
    let long : length vs ≡ length ws = each_length one environments vs is ∙ sym (each_length other environments ws is') in
    goes last u v (zip vs ws) (subst (Carries last u r) (sym (firsts_of vs ws long)) (carried_on there later u r vs cu)) (subst (Carries last v s) (sym (seconds_of vs ws long)) cv))))

-- arguments

pub carry_on : (streams more : Columns) (us : List Wires) (ts : List Ty) (rows : List (List Value)) → AllCarry streams us ts rows → AllCarry (streams ++ more) us ts rows
carry_on streams more [] [] rows h = h
carry_on streams more [] (t ∷ ts) rows h = absurd h
carry_on streams more (u ∷ us) [] rows h = absurd h
carry_on streams more (u ∷ us) (t ∷ ts) rows (vs, others, is, long, c, h) = (vs, others, is, long, carried_on streams more u t vs c, carry_on streams more us ts others h)

abbrev empty_row : List Value
empty_row = []

each_empty : {X : Type 0} (xs : List X) → each (λ x. Some empty_row) xs ≡ Some (replicate (length xs) empty_row)
each_empty [] = refl
each_empty (x ∷ xs) = ap (option_map (λ ys. [] ∷ ys)) (each_empty xs)

replicate_length : {A : Type 0} (n : ℕ) (x : A) → length (replicate n x) ≡ n
replicate_length zero x = refl
replicate_length (suc n) x = ap suc (replicate_length n x)

pub none_mean : (context : Context) → AllMean (λ bound control k. done [] k) (λ environment. Some []) [] context []
none_mean context streams bound control environments bears controls =
    subst (GoAll streams [] (done [] (length streams))) (sym (each_empty environments))
    (done_does [] streams (λ l us. AllCarry l us [] (replicate (length environments) empty_row))
    (ap (λ n. replicate n empty_row) (sym (replicate_length (length environments) empty_row))))

pub each_lists : {X : Type 0} (f : X → Option Value) (g : X → Option (List Value)) (xs : List X)
    → each (λ x. bind (f x) (λ v. bind (g x) (λ row. Some (v ∷ row)))) xs ≡ bind (each f xs) (λ vs. bind (each g xs) (λ rows. Some (map (λ p. p.0 ∷ p.1) (zip vs rows))))
each_lists f g xs = each_two f g (λ v row. Some (v ∷ row)) xs ∙ by_case (each f xs) (each g xs)
  where
    all_some : (ps : List (Value × List Value)) → each (λ p. Some (p.0 ∷ p.1)) ps ≡ Some (map (λ p. p.0 ∷ p.1) ps)
    all_some [] = refl
    all_some (p ∷ ps) = ap (option_map (λ ys. (p.0 ∷ p.1) ∷ ys)) (all_some ps)

    by_case : (a : Option (List Value)) (b : Option (List (List Value))) → bind a (λ vs. bind b (λ rows. each (λ p. Some (p.0 ∷ p.1)) (zip vs rows)))
        ≡ bind a (λ vs. bind b (λ rows. Some (map (λ p. p.0 ∷ p.1) (zip vs rows))))
    by_case None b = refl
    by_case (Some vs) None = refl
    by_case (Some vs) (Some rows) = all_some (zip vs rows)
