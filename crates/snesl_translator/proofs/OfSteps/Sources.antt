-- The sources of an input, one after another.
use Rattle.std.proofs.Common.{◌≡◌, ℕ, ◌+◌, ◌<◌, suc, List, [], ◌∷◌, Result, Err, length, drop, get_or, refl, ap, subst}
use Rattle.snesl_data.specs.declared.refusal.Refusal.{Refusal}
use Rattle.flow_messages.specs.declared.message.Kind.{Kind}
use Rattle.flow_messages.specs.declared.message.Kind.TheVariants.{Unit as UnitKind}
use Rattle.flow_nodes.specs.plans.Plans.{Step, source}
use Rattle.snesl_translation.specs.Makings.{Making, tested, and_then}
use Rattle.snesl_translation.specs.Programs.{source_steps, unset_cells}
use Rattle.snesl_translator.specs.steps.Views.{next_in}
use Rattle.snesl_translator.specs.steps.Added.{HasMade, Adds, only_steps}
use Rattle.snesl_translator.specs.declared.steps.steps.Steps.{Steps}
use Rattle.snesl_translator.proofs.OfSteps.Adding.{made_then, refused_first, Continues, from_index}

-- where nothing is set, the numbers of the streams say nothing
same_sources : (at m n : ℕ) (kinds : List Kind) → source_steps at unset_cells m kinds ≡ source_steps at unset_cells n kinds
same_sources at m n [] = refl
same_sources at m n (kind ∷ kinds) =
    let step : Step = record { at = at; operation = source kind []; reads = [] } in
    ap (λ l. step ∷ l) (same_sources at (suc m) (suc n) kinds)

-- those of these kinds
abbrev sources_of : ℕ → ℕ → List Kind → Making (Unit {0})
sources_of at next kinds = only_steps (source_steps at unset_cells next kinds) next

source_then : (at : ℕ) (kind : Kind) (kinds : List Kind) (now middle new : Steps) (result : Result (Unit {0}) Refusal)
    → HasMade now middle (tested at (source kind []) [] (tt {0}) (next_in now)) tt → Adds (λ x. x) middle new (sources_of at (next_in middle) kinds) result
    → Adds (λ x. x) now new (sources_of at (next_in now) (kind ∷ kinds)) result
unfolding and_then
source_then at kind kinds now middle new result made adds =
    let step : Step = record { at = at; operation = source kind []; reads = [] } in
    subst (λ l. Adds (λ x. x) now new (only_steps (step ∷ l) (next_in now)) result) (same_sources at (next_in now) (suc (next_in now)) kinds)
    (made_then (λ x. x) now middle new (tested at (source kind []) [] (tt {0}) (next_in now)) (λ _ k. sources_of at k kinds) tt result made adds)

source_refused : (at : ℕ) (kind : Kind) (kinds : List Kind) (now middle new : Steps) (e : Refusal)
    → Adds {A = Unit {0}} (λ x. x) now middle (tested at (source kind []) [] (tt {0}) (next_in now)) (Err e)
    → Adds {A = Unit {0}} (λ x. x) now new (sources_of at (next_in now) (kind ∷ kinds)) (Err e)
unfolding and_then
source_refused at kind kinds now middle new e adds =
    let step : Step = record { at = at; operation = source kind []; reads = [] } in
    subst (λ l. Adds {A = Unit {0}} (λ x. x) now new (only_steps (step ∷ l) (next_in now)) (Err e)) (same_sources at (next_in now) (suc (next_in now)) kinds)
    (refused_first {A = Unit {0}} {C = Unit {0}} (λ x. x) (λ x. x) now middle new (tested at (source kind []) [] (tt {0}) (next_in now)) (λ _ k. sources_of at k kinds) e adds)

pub sources_continue : (at i : ℕ) (kinds : List Kind) (reads : List ℕ) (old now middle : Steps) (whole : Making (Unit {0})) → i < length kinds → reads ≡ []
    → HasMade now middle (tested at (source (get_or kinds i UnitKind) []) reads (tt {0}) (next_in now)) tt
    → Continues old now (sources_of at (next_in now) (drop i kinds)) whole → Continues old middle (sources_of at (next_in middle) (drop (i + 1) kinds)) whole
sources_continue at i kinds reads old now middle whole within none made continues new result adds =
    let kind = get_or kinds i UnitKind in
    continues new result
    (subst (λ l. Adds (λ x. x) now new (sources_of at (next_in now) l) result) (from_index kinds i UnitKind within)
    (source_then at kind (drop (i + 1) kinds) now middle new result
    (subst (λ l. HasMade now middle (tested at (source kind []) l (tt {0}) (next_in now)) tt) none made) adds))

pub sources_refused : (at i : ℕ) (kinds : List Kind) (reads : List ℕ) (old now middle new : Steps) (whole : Making (Unit {0})) (e : Refusal) → i < length kinds → reads ≡ []
    → Adds {A = Unit {0}} (λ x. x) now middle (tested at (source (get_or kinds i UnitKind) []) reads (tt {0}) (next_in now)) (Err e)
    → Continues old now (sources_of at (next_in now) (drop i kinds)) whole → Adds {A = Unit {0}} (λ x. x) old new whole (Err e)
sources_refused at i kinds reads old now middle new whole e within none adds continues =
    let kind = get_or kinds i UnitKind in
    continues new (Err e)
    (subst (λ l. Adds {A = Unit {0}} (λ x. x) now new (sources_of at (next_in now) l) (Err e)) (from_index kinds i UnitKind within)
    (source_refused at kind (drop (i + 1) kinds) now middle new e
    (subst (λ l. Adds {A = Unit {0}} (λ x. x) now middle (tested at (source kind []) l (tt {0}) (next_in now)) (Err e)) none adds)))
