-- The simple forms: each means what its parts say.
use Rattle.std.specs.Prelude.{◌≡◌, ℕ, Bool, true, false, ◌&&◌, ◌||◌, List, [], ◌∷◌, ◌++◌, map, length, replicate, zip, Option, Some, None, option_map, refl}
use Rattle.std.specs.Str.{bytes_eq}
use Rattle.std.proofs.Common.{arith, sym, ap, ◌∙◌, subst, append-nil}
use Rattle.snesl_data.specs.Types.{Ty, pair}
use Rattle.snesl_data.specs.Values.{Value, a_pair}
use Rattle.snesl_values.specs.Inputs.{Environment}
use Rattle.snesl_types.specs.Contexts.{Context}
use Rattle.flow_messages.specs.Cells.{unit}
use Rattle.flow_base.specs.Columns.{Columns}
use Rattle.flow_values.specs.Shapes.{is_a, first_of, second_of}
use Rattle.flow_nodes.specs.functions.Lists.{bind, each}
use Rattle.flow_nodes.proofs.OfFunctions.ValueDecoding.{AllAre, all_split, all_cons}
use Rattle.snesl_translation.specs.Wires.{Wires, two, Bound}
use Rattle.snesl_translation.specs.Makings.{Making, done, and_then}
use Rattle.snesl_translation.specs.FreeNames.{Names, is_among}
use Rattle.snesl_translation.specs.Translation.{wires_named}
use Rattle.snesl_translation.specs.Carrying.{Carries, Controls, Makes, GoesTo}
use Rattle.snesl_translation.specs.Meaning.{Bears, IsTranslation}
use Rattle.snesl_translation.proofs.Carrying.{grown, carried_on, then_makes, rest_stops, first_stops, two_carry}
use Rattle.snesl_translation.proofs.Instances.{each_two, each_length}

-- makings one after the other go where what they make does
pub two_go : (streams : Columns) (s t : Ty) (first : Making Wires) (rest : Wires → ℕ → Making Wires) (o : Option (List Value)) (after : List Value → Option (List Value))
    → GoesTo streams s first o
    → ((more : Columns) (w : Wires) (vs : List Value) → o ≡ Some vs → Carries (streams ++ more) w s vs → GoesTo (streams ++ more) t (rest w (length (streams ++ more))) (after vs))
    → GoesTo streams t (and_then first rest) (bind o after)
two_go streams s t first rest None after goes later = first_stops first rest streams goes
two_go streams s t first rest (Some vs) after goes later = by_case (after vs) (later goes.0 first.given vs refl goes.3)
  where
    by_case : (o : Option (List Value)) → GoesTo (streams ++ goes.0) t (rest first.given (length (streams ++ goes.0))) o → GoesTo streams t (and_then first rest) o
    by_case None stops = rest_stops first streams goes.0 goes.1 goes.2 rest stops
    by_case (Some ws) makes = then_makes first streams goes.0 goes.1 goes.2 rest t ws makes

-- nothing is added, and what is given is there already
pub done_makes : (streams : Columns) (t : Ty) (w : Wires) (vs : List Value) → Carries streams w t vs → Makes streams t (done w (length streams)) vs
done_makes streams t w vs c =
    let same : streams ++ [] ≡ streams = append-nil streams in
    ([], ap Some (sym same), ap length (sym same), subst (λ l. Carries l w t vs) (sym same) c)

-- names that are borne stay so, and fewer are borne where more are
pub borne_on : (streams more : Columns) (bound : Bound) (names : Names) (context : Context) (environments : List Environment) → Bears streams bound names context environments
    → Bears (streams ++ more) bound names context environments
borne_on streams more bound names context environments bears bytes t among is =
    let b = bears bytes t among is in (b.0, b.1, carried_on streams more (wires_named bytes bound) t b.0 b.2, b.3)

pub controls_on : (streams more : Columns) (control n : ℕ) → Controls streams control n → Controls (streams ++ more) control n
controls_on streams more control n c = grown (control ∷ []) streams more (replicate n unit ∷ []) c

among_left : (bytes : List ℕ) (names others : Names) → is_among bytes names ≡ true → is_among bytes (names ++ others) ≡ true
among_left bytes [] others h = absurd (cc)
among_left bytes (name ∷ names) others h = by_case (bytes_eq bytes name) h (among_left bytes names others)
  where
    by_case : (b : Bool) → b || is_among bytes names ≡ true → (is_among bytes names ≡ true → is_among bytes (names ++ others) ≡ true) → b || is_among bytes (names ++ others) ≡ true
    by_case true h others = refl
    by_case false h others = others h

among_right : (bytes : List ℕ) (names others : Names) → is_among bytes others ≡ true → is_among bytes (names ++ others) ≡ true
among_right bytes [] others h = h
among_right bytes (name ∷ names) others h = by_case (bytes_eq bytes name) (among_right bytes names others h)
  where
    by_case : (b : Bool) → is_among bytes (names ++ others) ≡ true → b || is_among bytes (names ++ others) ≡ true
    by_case true h = refl
    by_case false h = h

pub borne_left : (streams : Columns) (bound : Bound) (names others : Names) (context : Context) (environments : List Environment) → Bears streams bound (names ++ others) context environments
    → Bears streams bound names context environments
borne_left streams bound names others context environments bears bytes t among is = bears bytes t (among_left bytes names others among) is

pub borne_right : (streams : Columns) (bound : Bound) (names others : Names) (context : Context) (environments : List Environment) → Bears streams bound (names ++ others) context environments
    → Bears streams bound others context environments
borne_right streams bound names others context environments bears bytes t among is = bears bytes t (among_right bytes names others among) is

-- pairs

made_pairs : (vs ws : List Value) → length vs ≡ length ws → (map first_of (map (λ p. a_pair p.0 p.1) (zip vs ws)) ≡ vs) × (map second_of (map (λ p. a_pair p.0 p.1) (zip vs ws)) ≡ ws)
made_pairs [] [] e = (refl, refl)
made_pairs [] (w ∷ ws) e = absurd (omega (arith))
made_pairs (v ∷ vs) [] e = absurd (omega (arith))
made_pairs (v ∷ vs) (w ∷ ws) e = let h = made_pairs vs ws (omega (arith)) in (ap (λ l. v ∷ l) h.0, ap (λ l. w ∷ l) h.1)

pairs_are : (s t : Ty) (vs ws : List Value) → AllAre s vs → AllAre t ws → AllAre (pair s t) (map (λ p. a_pair p.0 p.1) (zip vs ws))
pairs_are s t [] ws h g = refl
pairs_are s t (v ∷ vs) [] h g = refl
pairs_are s t (v ∷ vs) (w ∷ ws) h g =
    let p = all_split s v vs h in
    let q = all_split t w ws g in
    all_cons (pair s t) (a_pair v w) (map (λ p. a_pair p.0 p.1) (zip vs ws)) (ap (λ b. b && is_a t w) p.0 ∙ q.0) (pairs_are s t vs ws p.1 q.1)

each_some : {A B : Type 0} (f : A → B) (xs : List A) → each (λ x. Some (f x)) xs ≡ Some (map f xs)
each_some f [] = refl
each_some f (x ∷ xs) = ap (option_map (λ ys. f x ∷ ys)) (each_some f xs)

module _ (context : Context) where
  pub pair_means : (s t : Ty) (names others : Names) (first second : Bound → ℕ → ℕ → Making Wires) (one other : Environment → Option Value)
      → IsTranslation first one names context s → IsTranslation second other others context t
      → IsTranslation (λ b c k. and_then (first b c k) (λ u k. and_then (second b c k) (λ v k. done (two u v) k)))
      (λ environment. bind (one environment) (λ v. bind (other environment) (λ w. Some (a_pair v w)))) (names ++ others) context (pair s t)
  pair_means s t names others first second one other h g streams bound control environments bears controls =
      subst (GoesTo streams (pair s t) (and_then (first bound control (length streams)) (λ u k. and_then (second bound control k) (λ v k. done (two u v) k))))
      (sym (each_two one other (λ v w. Some (a_pair v w)) environments))
      (two_go streams s (pair s t) (first bound control (length streams)) (λ u k. and_then (second bound control k) (λ v k. done (two u v) k)) (each one environments)
      (λ vs. bind (each other environments) (λ ws. each (λ p. Some (a_pair p.0 p.1)) (zip vs ws)))
      (h streams bound control environments (borne_left streams bound names others context environments bears) controls)
      (λ more u vs is cu.
      let there = streams ++ more in
      two_go there t (pair s t) (second bound control (length there)) (λ v k. done (two u v) k) (each other environments) (λ ws. each (λ p. Some (a_pair p.0 p.1)) (zip vs ws))
      (g there bound control environments
      (borne_on streams more bound others context environments (borne_right streams bound names others context environments bears))
      (controls_on streams more control (length environments) controls))
      (λ later v ws is' cv.
      let last = there ++ later in
      let long : length vs ≡ length ws = each_length one environments vs is ∙ sym (each_length other environments ws is') in
      let made = map (λ p. a_pair p.0 p.1) (zip vs ws) in
      let parts = made_pairs vs ws long in
      let cu' : Carries last u s (map first_of made) = subst (λ l. Carries last u s l) (sym parts.0) (carried_on there later u s vs cu) in
      let cv' : Carries last v t (map second_of made) = subst (λ l. Carries last v t l) (sym parts.1) cv in
      subst (GoesTo last (pair s t) (done (two u v) (length last))) (sym (each_some (λ (p : Value × Value). a_pair p.0 p.1) (zip vs ws)))
      (done_makes last (pair s t) (two u v) made (two_carry last u v s t made cu' cv' (pairs_are s t vs ws cu.are cv.are))))))
