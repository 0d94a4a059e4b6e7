-- What parts of a program that run more often, or less often, see, step by step.
use Rattle.std.proofs.Common.{◌≡◌, ℕ, [], ◌∷◌, ◌++◌, ap, ◌∙◌}
use Rattle.flow_nodes.specs.plans.Plans.{flag_of_bool}
use Rattle.snesl_translation.specs.Makings.{Making, done, and_then}
use Rattle.snesl_translation.specs.Wires.{Bound, Wires, segments, stream_of}
use Rattle.snesl_translation.specs.FreeNames.{Names}
use Rattle.snesl_translation.specs.Moving.{all_moved, distributed, flags_stepped, kept}
use Rattle.snesl_translation.specs.Translation.{Sources, filtered, first_flags, in_step, items_bound, units_step}
use Rattle.snesl_translator.specs.Rows.{Opened, each_opened, where_opened}
use Rattle.snesl_translator.proofs.Makings.{three_in_turn}

module _ (at : ℕ) (names : Names) (bound : Bound) where
  -- an item's control stream, and all of it
  abbrev pub where_units : ℕ → Bound → ℕ → Making Opened
  where_units flags inner next = and_then (units_step at flags next) (λ c k. done (record { flags = flags; bound = inner; control = stream_of c }) k)

  abbrev pub where_names : (d : ℕ) → Wires → ℕ → Making Opened
  where_names d f next = and_then (all_moved (kept at d) names bound next) (λ inner k. where_units (stream_of f) inner k)

  -- a comprehension's control stream, its names from outside, and all of it, with flags f
  abbrev pub each_units : Sources → ℕ → Bound → ℕ → Making Opened
  each_units sources f inner next = and_then (units_step at f next) (λ c k. done (record { flags = f; bound = items_bound sources ++ inner; control = stream_of c }) k)

  abbrev pub each_names : Sources → ℕ → ℕ → Making Opened
  each_names sources f next = and_then (all_moved (distributed at f) names bound next) (λ inner k. each_units sources f inner k)

  abbrev pub each_steps : Sources → ℕ → ℕ → Making Opened
  each_steps sources f next = and_then (in_step at sources next) (λ _ k. each_names sources f k)

abbrev pub opened : ℕ → Bound → ℕ → Opened
opened f b c = record { flags = f; bound = b; control = c }

pub same_opened : {f f' : ℕ} {b b' : Bound} {c c' : ℕ} → f ≡ f' → b ≡ b' → c ≡ c' → opened f b c ≡ opened f' b' c'
same_opened {f' = f'} {b = b} {b' = b'} {c = c} e h g =
    ap (λ x. opened x b c) e ∙ ap (λ x. opened f' x c) h ∙ ap (λ x. opened f' b' x) g

-- a comprehension after its sequences, with what follows the opening of its rows
abbrev pub each_rest : ℕ → Names → Bound → Sources → (Opened → ℕ → Making Wires) → ℕ → Making Wires
each_rest at names bound sources rest next =
    and_then (in_step at sources next) (λ _ k.
    and_then (all_moved (distributed at (first_flags sources)) names bound k) (λ inner k.
    and_then (units_step at (first_flags sources) k) (λ c k.
    rest (opened (first_flags sources) (items_bound sources ++ inner) (stream_of c)) k)))

pub each_opens : (at : ℕ) (names : Names) (bound : Bound) (sources : Sources) (rest : Opened → ℕ → Making Wires) (next : ℕ)
    → and_then (each_opened at names sources bound next) rest ≡ each_rest at names bound sources rest next
each_opens at names bound sources rest next =
    three_in_turn (in_step at sources next) (λ _ k. all_moved (distributed at (first_flags sources)) names bound k) (λ _ inner k. units_step at (first_flags sources) k)
    (λ _ inner c. opened (first_flags sources) (items_bound sources ++ inner) (stream_of c)) rest

-- an item where truth values are true opens its rows, and is then translated in them
pub where_opens : (at : ℕ) (names : Names) (item : Bound → (control next : ℕ) → Making Wires) (bound : Bound) (d next : ℕ)
    → and_then (where_opened at names bound d next) (λ rows k. and_then (item rows.bound rows.control k) (λ w k. done (segments rows.flags w) k)) ≡ filtered at names item bound d next
where_opens at names item bound d next =
    three_in_turn (flags_stepped at flag_of_bool (d ∷ []) next) (λ f k. all_moved (kept at d) names bound k) (λ f inner k. units_step at (stream_of f) k)
    (λ f inner c. opened (stream_of f) inner (stream_of c)) (λ rows k. and_then (item rows.bound rows.control k) (λ w k. done (segments rows.flags w) k))
