-- Arguments and calls.
use Rattle.std.specs.Prelude.{◌≡◌, ℕ, suc, List, [], ◌∷◌, ◌++◌, map, length, replicate, zip, Option, Some, None, refl}
use Rattle.std.proofs.Common.{arith, sym, ap, ◌∙◌, subst}
use Rattle.snesl_data.specs.Types.{Ty}
use Rattle.snesl_data.specs.Values.{Value}
use Rattle.snesl_values.specs.Inputs.{Environment}
use Rattle.snesl_types.specs.Contexts.{Context}
use Rattle.flow_base.specs.Columns.{Columns}
use Rattle.flow_nodes.specs.functions.Lists.{bind, each}
use Rattle.snesl_translation.specs.Wires.{Wires, Bound}
use Rattle.snesl_translation.specs.Makings.{Making, done, and_then}
use Rattle.snesl_translation.specs.FreeNames.{Names}
use Rattle.snesl_translation.specs.Carrying.{Carries, Controls, GoesTo}
use Rattle.snesl_translation.specs.Meaning.{IsTranslation, AllCarry}
use Rattle.snesl_translation.proofs.ArgumentMeanings.{GoAll, AllMean}
use Rattle.snesl_translation.proofs.Carrying.{carried_on, rest_stops, first_stops}
use Rattle.snesl_translation.proofs.Doing.{done_does, then_does}
use Rattle.snesl_translation.proofs.Instances.{each_length}
use Rattle.snesl_translation.proofs.Forms.{borne_on, borne_left, borne_right, controls_on}
use Rattle.snesl_translation.proofs.Operands.{each_after, each_lists, firsts_of, seconds_of}

-- an expression, and then arguments
head_goes : (streams : Columns) (s : Ty) (ts : List Ty) (first : Making Wires) (rest : Wires → ℕ → Making (List Wires)) (o : Option (List Value)) (after : List Value → Option (List (List Value)))
    → GoesTo streams s first o
    → ((more : Columns) (w : Wires) (vs : List Value) → o ≡ Some vs → Carries (streams ++ more) w s vs → GoAll (streams ++ more) ts (rest w (length (streams ++ more))) (after vs))
    → GoAll streams ts (and_then first rest) (bind o after)
head_goes streams s ts first rest None after goes later = first_stops first rest streams goes
head_goes streams s ts first rest (Some vs) after goes later = by_case (after vs) (later goes.0 first.given vs refl goes.3)
  where
    by_case : (o : Option (List (List Value))) → GoAll (streams ++ goes.0) ts (rest first.given (length (streams ++ goes.0))) o → GoAll streams ts (and_then first rest) o
    by_case None stops = rest_stops first streams goes.0 goes.1 goes.2 rest stops
    by_case (Some rows) does = then_does first rest streams (λ l w. Carries l w s vs) (λ l us. AllCarry l us ts rows) goes does

-- arguments, and then arguments
tail_goes : (streams : Columns) (ss ts : List Ty) (first : Making (List Wires)) (rest : List Wires → ℕ → Making (List Wires))
    (o : Option (List (List Value))) (after : List (List Value) → Option (List (List Value)))
    → GoAll streams ss first o
    → ((more : Columns) (us : List Wires) (rows : List (List Value)) → o ≡ Some rows → AllCarry (streams ++ more) us ss rows →
    GoAll (streams ++ more) ts (rest us (length (streams ++ more))) (after rows))
    → GoAll streams ts (and_then first rest) (bind o after)
tail_goes streams ss ts first rest None after goes later = first_stops first rest streams goes
tail_goes streams ss ts first rest (Some rows) after goes later = by_case (after rows) (later goes.0 first.given rows refl goes.3)
  where
    by_case : (o : Option (List (List Value))) → GoAll (streams ++ goes.0) ts (rest first.given (length (streams ++ goes.0))) o → GoAll streams ts (and_then first rest) o
    by_case None stops = rest_stops first streams goes.0 goes.1 goes.2 rest stops
    by_case (Some others) does = then_does first rest streams (λ l us. AllCarry l us ss rows) (λ l us. AllCarry l us ts others) goes does

-- arguments, and then an expression
pub arguments_go : (streams : Columns) (ss : List Ty) (t : Ty) (first : Making (List Wires)) (rest : List Wires → ℕ → Making Wires)
    (o : Option (List (List Value))) (after : List (List Value) → Option (List Value))
    → GoAll streams ss first o
    → ((more : Columns) (us : List Wires) (rows : List (List Value)) → o ≡ Some rows → AllCarry (streams ++ more) us ss rows →
    GoesTo (streams ++ more) t (rest us (length (streams ++ more))) (after rows))
    → GoesTo streams t (and_then first rest) (bind o after)
arguments_go streams ss t first rest None after goes later = first_stops first rest streams goes
arguments_go streams ss t first rest (Some rows) after goes later = by_case (after rows) (later goes.0 first.given rows refl goes.3)
  where
    by_case : (o : Option (List Value)) → GoesTo (streams ++ goes.0) t (rest first.given (length (streams ++ goes.0))) o → GoesTo streams t (and_then first rest) o
    by_case None stops = rest_stops first streams goes.0 goes.1 goes.2 rest stops
    by_case (Some vs) does = then_does first rest streams (λ l us. AllCarry l us ss rows) (λ l w. Carries l w t vs) goes does

pub more_mean : (context : Context) (t : Ty) (ts : List Ty) (names others : Names) (first : Bound → ℕ → ℕ → Making Wires) (rest : Bound → ℕ → ℕ → Making (List Wires))
    (one : Environment → Option Value) (all : Environment → Option (List Value))
    → IsTranslation first one names context t → AllMean rest all others context ts
    → AllMean (λ bound control k. and_then (first bound control k) (λ u k. and_then (rest bound control k) (λ us k. done (u ∷ us) k)))
    (λ environment. bind (one environment) (λ v. bind (all environment) (λ row. Some (v ∷ row)))) (names ++ others) context (t ∷ ts)
more_mean context t ts names others first rest one all h g streams bound control environments bears controls =
    let behind : Wires → ℕ → Making (List Wires) = λ u k. and_then (rest bound control k) (λ us k. done (u ∷ us) k) in
    subst (GoAll streams (t ∷ ts) (and_then (first bound control (length streams)) behind)) (sym (each_lists one all environments))
    (head_goes streams t (t ∷ ts) (first bound control (length streams)) behind (each one environments) (λ vs. bind (each all environments) (λ rows. Some (map (λ p. p.0 ∷ p.1) (zip vs rows))))
    (h streams bound control environments (borne_left streams bound names others context environments bears) controls)
    (λ more u vs is cu.
    let there = streams ++ more in
    tail_goes there ts (t ∷ ts) (rest bound control (length there)) (λ us k. done (u ∷ us) k) (each all environments) (λ rows. Some (map (λ p. p.0 ∷ p.1) (zip vs rows)))
    (g there bound control environments
    (borne_on streams more bound others context environments (borne_right streams bound names others context environments bears))
    (controls_on streams more control (length environments) controls))
    (λ later us rows is' cus.
    let last = there ++ later in
    let long : length vs ≡ length rows = each_length one environments vs is ∙ sym (each_length all environments rows is') in
    let made = map (λ p. p.0 ∷ p.1) (zip vs rows) in
    let carried : AllCarry last (u ∷ us) (t ∷ ts) made = (vs, rows, refl, long, carried_on there later u t vs cu, cus) in
    done_does (u ∷ us) last (λ l ws. AllCarry l ws (t ∷ ts) made) carried)))

-- what is answered to arguments
pub call_means : (context : Context) (ts : List Ty) (t : Ty) (names : Names) (arguments : Bound → ℕ → ℕ → Making (List Wires)) (step : List Wires → ℕ → ℕ → Making Wires)
    (all : Environment → Option (List Value)) (answer : List Value → Option Value)
    → AllMean arguments all names context ts
    → ((streams : Columns) (us : List Wires) (control : ℕ) (rows : List (List Value)) → AllCarry streams us ts rows → Controls streams control (length rows)
    → GoesTo streams t (step us control (length streams)) (each answer rows))
    → IsTranslation (λ bound control k. and_then (arguments bound control k) (λ us k. step us control k)) (λ environment. bind (all environment) answer) names context t
call_means context ts t names arguments step all answer h goes streams bound control environments bears controls =
    subst (GoesTo streams t (and_then (arguments bound control (length streams)) (λ us k. step us control k))) (sym (each_after all answer environments))
    (arguments_go streams ts t (arguments bound control (length streams)) (λ us k. step us control k) (each all environments) (each answer) (h streams bound control environments bears controls)
    (λ more us rows is c.
    goes (streams ++ more) us control rows c
    (subst (Controls (streams ++ more) control) (sym (each_length all environments rows is)) (controls_on streams more control (length environments) controls))))

-- rows of one value, and of two

empty_rows : (rows : List (List Value)) → rows ≡ replicate (length rows) [] → (vs : List Value) → length vs ≡ length rows → map (λ p. p.0 ∷ p.1) (zip vs rows) ≡ map (λ v. v ∷ []) vs
empty_rows [] e [] n = refl
empty_rows [] e (v ∷ vs) n = absurd (omega (arith))
empty_rows (row ∷ rows) e [] n = absurd (omega (arith))
empty_rows (row ∷ rows) e (v ∷ vs) n =
    let here : row ≡ [] = cc in
    let there : rows ≡ replicate (length rows) [] = cc in
    ap (λ r. (v ∷ r) ∷ map (λ p. p.0 ∷ p.1) (zip vs rows)) here ∙ ap (λ l. (v ∷ []) ∷ l) (empty_rows rows there vs (omega (arith)))

pub one_row : (streams : Columns) (us : List Wires) (s : Ty) (rows : List (List Value)) → AllCarry streams us (s ∷ []) rows
    → (u : Wires) × (vs : List Value) × (us ≡ u ∷ []) × (rows ≡ map (λ v. v ∷ []) vs) × Carries streams u s vs
one_row streams [] s rows h = absurd h
one_row streams (u ∷ v ∷ us) s rows (vs, others, is, long, c, h) = absurd h
one_row streams (u ∷ []) s rows (vs, others, is, long, c, h) = (u, vs, refl, is ∙ empty_rows others h vs long, c)

two_rows : (vs ws : List Value) → map (λ p. p.0 ∷ p.1) (zip vs (map (λ w. w ∷ []) ws)) ≡ map (λ (p : Value × Value). p.0 ∷ p.1 ∷ []) (zip vs ws)
two_rows [] ws = refl
two_rows (v ∷ vs) [] = refl
two_rows (v ∷ vs) (w ∷ ws) = ap (λ l. (v ∷ w ∷ []) ∷ l) (two_rows vs ws)

pub both_rows : (streams : Columns) (us : List Wires) (r s : Ty) (rows : List (List Value)) → AllCarry streams us (r ∷ s ∷ []) rows
    → (u : Wires) × (v : Wires) × (ps : List (Value × Value)) × (us ≡ u ∷ v ∷ []) × (rows ≡ map (λ p. p.0 ∷ p.1 ∷ []) ps)
    × Carries streams u r (map (λ p. p.0) ps) × Carries streams v s (map (λ p. p.1) ps)
both_rows streams [] r s rows h = absurd h
both_rows streams (u ∷ us) r s rows (vs, others, is, long, c, h) =
    let one = one_row streams us s others h in
    let ws = one.1 in
    let same : length vs ≡ length ws = long ∙ ap length one.3 ∙ map_length ws in (
      u,
      one.0,
      zip vs ws,
      ap (λ l. u ∷ l) one.2,
      is ∙ ap (λ l. map (λ p. p.0 ∷ p.1) (zip vs l)) one.3 ∙ two_rows vs ws,
      subst (Carries streams u r) (sym (firsts_of vs ws same)) c,
      subst (Carries streams one.0 s) (sym (seconds_of vs ws same)) one.4,
    )
  where
    map_length : (ws : List Value) → length (map (λ w. w ∷ []) ws) ≡ length ws
    map_length [] = refl
    map_length (w ∷ ws) = ap suc (map_length ws)
