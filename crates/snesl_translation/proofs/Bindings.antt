-- Constants, names and bindings: what each means.
use Rattle.std.specs.Prelude.{◌≡◌, ℕ, zero, suc, Bool, true, false, ◌||◌, List, [], ◌∷◌, ◌++◌, map, length, replicate, zip, Option, Some, option_map, if◌then◌else◌, refl}
use Rattle.std.specs.Str.{bytes_eq}
use Rattle.std.proofs.Common.{arith, sym, ap, ◌∙◌, subst}
use Rattle.std.proofs.lemmas.Slice.Eq.{bytes_eq-Decides}
use Rattle.snesl_data.specs.Types.{Ty, int, bool}
use Rattle.snesl_data.specs.Values.{Value, an_int, a_bool}
use Rattle.snesl_values.specs.Inputs.{Environment, value_in}
use Rattle.snesl_data.specs.declared.operators.scalar.Scalar.{Scalar}
use Rattle.snesl_data.specs.declared.operators.scalar.Scalar.TheVariants.{Int, Bool as Truth}
use Rattle.snesl_evaluation.specs.Builtins.{scalar_value}
use Rattle.snesl_types.specs.Contexts.{open_to, Context, bound as bound_to, found}
use Rattle.flow_base.specs.Columns.{Columns}
use Rattle.flow_messages.specs.Cells.{unit}
use Rattle.flow_folds.specs.Scalars.{cell_of_scalar}
use Rattle.flow_values.specs.Shapes.{cell_for}
use Rattle.flow_nodes.specs.functions.Lists.{bind, each}
use Rattle.flow_nodes.specs.functions.Made.{columns_of_values}
use Rattle.flow_nodes.proofs.OfFunctions.Encoded.{const_makes}
use Rattle.flow_nodes.proofs.OfFunctions.ValueDecoding.{AllAre, all_cons}
use Rattle.flow_nodes.specs.plans.Plans.{const}
use Rattle.snesl_translation.specs.Wires.{Wires, IsSingle, Bound}
use Rattle.snesl_translation.specs.Makings.{Making, done, and_then, stepped}
use Rattle.snesl_translation.specs.FreeNames.{Names, is_among, without}
use Rattle.snesl_translation.specs.Translation.{wires_named, is_bound}
use Rattle.snesl_translation.specs.Carrying.{Carries, Controls, GoesTo}
use Rattle.snesl_translation.specs.Meaning.{Bears, IsTranslation}
use Rattle.snesl_translation.proofs.Carrying.{stepped_makes, single_laid}
use Rattle.snesl_translation.proofs.Instances.{each_then, each_map, each_length}
use Rattle.snesl_translation.proofs.Forms.{two_go, done_makes, borne_on, borne_left, borne_right, controls_on}

-- constants

-- the type of a constant
abbrev pub constant_type : Scalar → Ty
constant_type (Int n) = int
constant_type (Truth b) = bool

each_constant : {X : Type 0} (v : Value) (xs : List X) → each (λ x. Some v) xs ≡ Some (replicate (length xs) v)
each_constant v [] = refl
each_constant v (x ∷ xs) = ap (option_map (λ ys. v ∷ ys)) (each_constant v xs)

constants_are : (k : Scalar) (n : ℕ) → AllAre (constant_type k) (replicate n (scalar_value k))
constants_are k zero = refl
constants_are (Int i) (suc n) = all_cons int (an_int i) (replicate n (an_int i)) refl (constants_are (Int i) n)
constants_are (Truth b) (suc n) = all_cons bool (a_bool b) (replicate n (a_bool b)) refl (constants_are (Truth b) n)

cells_constant : (k : Scalar) (n : ℕ) → map cell_for (replicate n (scalar_value k)) ≡ replicate n (cell_of_scalar k)
cells_constant k zero = refl
cells_constant (Int i) (suc n) = ap (λ l. cell_of_scalar (Int i) ∷ l) (cells_constant (Int i) n)
cells_constant (Truth b) (suc n) = ap (λ l. cell_of_scalar (Truth b) ∷ l) (cells_constant (Truth b) n)

constant_single : (k : Scalar) → IsSingle (constant_type k)
constant_single (Int n) = tt
constant_single (Truth b) = tt

pub const_means : (context : Context) (at : ℕ) (k : Scalar)
    → IsTranslation (λ bound control next. stepped at (const k) (control ∷ []) (constant_type k) next) (λ environment. Some (scalar_value k)) [] context (constant_type k)
const_means context at k streams bound control environments bears controls =
    let n = length environments in
    let vs = replicate n (scalar_value k) in
    let cells : columns_of_values (constant_type k) vs ≡ replicate n (cell_of_scalar k) ∷ [] = single_laid (constant_type k) (constant_single k) vs ∙ ap (λ l. l ∷ []) (cells_constant k n) in
    subst (GoesTo streams (constant_type k) (stepped at (const k) (control ∷ []) (constant_type k) (length streams))) (sym (each_constant (scalar_value k) environments))
    (stepped_makes streams at (const k) (control ∷ []) (constant_type k) (replicate n unit ∷ []) vs controls (const_makes k n ∙ ap Some (sym cells)) (constants_are k n))

-- names

among_one : (bytes : List ℕ) → is_among bytes (bytes ∷ []) ≡ true
among_one bytes = ap (λ b. b || false) ((bytes_eq-Decides bytes bytes).1 refl)

pub name_means : (context : Context) (bytes : List ℕ) (t : Ty) → found bytes context ≡ Some (open_to t)
    → IsTranslation (λ bound control next. done (wires_named bytes bound) next) (value_in bytes) (bytes ∷ []) context t
name_means context bytes t is streams bound control environments bears controls =
    let b = bears bytes t (among_one bytes) is in
    subst (GoesTo streams t (done (wires_named bytes bound) (length streams))) (sym b.1) (done_makes streams t (wires_named bytes bound) b.0 b.2)

-- bindings

-- another name that is among some is among them without one
among_without : (bytes name : List ℕ) (names : Names) → bytes_eq bytes name ≡ false → is_among bytes names ≡ true → is_among bytes (without name names) ≡ true
among_without bytes name [] other h = h
among_without bytes name (n ∷ names) other h = by_case (bytes_eq name n) (bytes_eq bytes n) refl refl h (among_without bytes name names other)
  where
    by_case : (b c : Bool) → bytes_eq name n ≡ b → bytes_eq bytes n ≡ c → c || is_among bytes names ≡ true → (is_among bytes names ≡ true → is_among bytes (without name names) ≡ true)
        → is_among bytes (if b then without name names else n ∷ without name names) ≡ true
    by_case true true e f h rest =
        let one : name ≡ n = (bytes_eq-Decides name n).0 e in
        let two : bytes ≡ n = (bytes_eq-Decides bytes n).0 f in
        let same : bytes_eq bytes name ≡ true = (bytes_eq-Decides bytes name).1 (two ∙ sym one) in
        absurd (cc)
    by_case true false e f h rest = rest h
    by_case false true e f h rest = ap (λ b. b || is_among bytes (without name names)) f
    by_case false false e f h rest = ap (λ b. b || is_among bytes (without name names)) f ∙ rest h

-- the instances with a name that has one more value at each
abbrev pub with_name : List ℕ → List Environment → List Value → List Environment
with_name name environments vs = map (λ p. (name, p.1) ∷ p.0) (zip environments vs)

-- the values of the name there, and those of other names
own_values : (name : List ℕ) (environments : List Environment) (vs : List Value) → length vs ≡ length environments → each (value_in name) (with_name name environments vs) ≡ Some vs
own_values name [] [] e = refl
own_values name [] (v ∷ vs) e = absurd (omega (arith))
own_values name (environment ∷ environments) [] e = absurd (omega (arith))
own_values name (environment ∷ environments) (v ∷ vs) e =
    ap (λ b. bind (if b then Some v else value_in name environment) (λ y. option_map (λ ys. y ∷ ys) (each (value_in name) (with_name name environments vs)))) ((bytes_eq-Decides name name).1 refl)
    ∙ ap (option_map (λ ys. v ∷ ys)) (own_values name environments vs (omega (arith)))

other_values : (name bytes : List ℕ) (environments : List Environment) (vs : List Value) → length vs ≡ length environments → bytes_eq bytes name ≡ false
    → each (value_in bytes) (with_name name environments vs) ≡ each (value_in bytes) environments
other_values name bytes [] [] e other = refl
other_values name bytes [] (v ∷ vs) e other = absurd (omega (arith))
other_values name bytes (environment ∷ environments) [] e other = absurd (omega (arith))
other_values name bytes (environment ∷ environments) (v ∷ vs) e other =
    ap (λ b. bind (if b then Some v else value_in bytes environment) (λ y. option_map (λ ys. y ∷ ys) (each (value_in bytes) (with_name name environments vs)))) other
    ∙ ap (λ o. bind (value_in bytes environment) (λ y. option_map (λ ys. y ∷ ys) o)) (other_values name bytes environments vs (omega (arith)) other)

pub with_name_length : (name : List ℕ) (environments : List Environment) (vs : List Value) → length vs ≡ length environments → length (with_name name environments vs) ≡ length environments
with_name_length name [] [] e = refl
with_name_length name [] (v ∷ vs) e = absurd (omega (arith))
with_name_length name (environment ∷ environments) [] e = absurd (omega (arith))
with_name_length name (environment ∷ environments) (v ∷ vs) e = ap suc (with_name_length name environments vs (omega (arith)))

-- streams bear one name more
pub borne_with : (streams : Columns) (bound : Bound) (name : List ℕ) (w : Wires) (s : Ty) (names : Names) (context : Context) (environments : List Environment) (vs : List Value)
    → length vs ≡ length environments → Carries streams w s vs → Bears streams bound (without name names) context environments
    → Bears streams ((name, w) ∷ bound) names (bound_to name s ∷ context) (with_name name environments vs)
borne_with streams bound name w s names context environments vs long c bears bytes t among is = by_case (bytes_eq bytes name) refl is
  where
    by_case : (b : Bool) → bytes_eq bytes name ≡ b → (if b then Some (open_to s) else found bytes context) ≡ Some (open_to t)
        → (values : List Value) × (each (value_in bytes) (with_name name environments vs) ≡ Some values) × Carries streams (if b then w else wires_named bytes bound) t values
        × ((if b then true else is_bound bytes bound) ≡ true)
    by_case true e is =
        let same : name ≡ bytes = sym ((bytes_eq-Decides bytes name).0 e) in
        let types : s ≡ t = cc in
        (vs, subst (λ n. each (value_in n) (with_name name environments vs) ≡ Some vs) same (own_values name environments vs long), subst (λ t. Carries streams w t vs) types c, refl)
    by_case false e is =
        let b = bears bytes t (among_without bytes name names e among) is in
        (b.0, other_values name bytes environments vs long e ∙ b.1, b.2, b.3)

pub binding_means : (context : Context) (name : List ℕ) (s t : Ty) (names others : Names) (value body : Bound → ℕ → ℕ → Making Wires) (one other : Environment → Option Value)
    → IsTranslation value one names context s → IsTranslation body other others (bound_to name s ∷ context) t
    → IsTranslation (λ b c k. and_then (value b c k) (λ u k. body ((name, u) ∷ b) c k))
    (λ environment. bind (one environment) (λ v. other ((name, v) ∷ environment))) (names ++ without name others) context t
binding_means context name s t names others value body one other h g streams bound control environments bears controls =
    let rest : Wires → ℕ → Making Wires = λ u k. body ((name, u) ∷ bound) control k in
    subst (GoesTo streams t (and_then (value bound control (length streams)) rest))
    (sym (each_then one (λ environment v. other ((name, v) ∷ environment)) environments))
    (two_go streams s t (value bound control (length streams)) rest (each one environments) (λ vs. each (λ p. other ((name, p.1) ∷ p.0)) (zip environments vs))
    (h streams bound control environments (borne_left streams bound names (without name others) context environments bears) controls)
    (λ more u vs is cu.
    let there = streams ++ more in
    let long : length vs ≡ length environments = each_length one environments vs is in
    let inner = with_name name environments vs in
    let borne = borne_with there bound name u s others context environments vs long cu
    (borne_on streams more bound (without name others) context environments (borne_right streams bound names (without name others) context environments bears)) in
    let counted : Controls there control (length inner) =
    subst (Controls there control) (sym (with_name_length name environments vs long))
    (controls_on streams more control (length environments) controls) in
    subst (GoesTo there t (body ((name, u) ∷ bound) control (length there))) (each_map other (λ p. (name, p.1) ∷ p.0) (zip environments vs))
    (g there ((name, u) ∷ bound) control inner borne counted)))
