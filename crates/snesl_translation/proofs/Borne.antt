-- Names that streams bear, in the parts of a program that run more often, or less often.
use Rattle.std.specs.Prelude.{◌≡◌, ℕ, Bool, true, false, cond, List, [], ◌∷◌, ◌++◌, map, length, Option, Some, option_map, refl}
use Rattle.std.specs.Str.{bytes_eq}
use Rattle.std.proofs.Common.{sym, ap, ◌∙◌, subst}
use Rattle.snesl_data.specs.Types.{Ty, is_concrete}
use Rattle.snesl_values.specs.Inputs.{Environment, value_in}
use Rattle.snesl_types.specs.Contexts.{Binding, open_to, shut, Context, found, inside, shut_if_streamed}
use Rattle.flow_messages.specs.Cells.{flag}
use Rattle.flow_base.specs.Columns.{Columns}
use Rattle.flow_base.specs.Flags.{flags}
use Rattle.flow_nodes.specs.functions.Lists.{each, dist, pack}
use Rattle.flow_nodes.proofs.OfFunctions.Options.{map_gives, each_forth, each_back}
use Rattle.flow_nodes.proofs.OfFunctions.Mapped.{dist_map, pack_map}
use Rattle.flow_nodes.specs.plans.Plans.{streams_at}
use Rattle.snesl_translation.specs.Wires.{Bound}
use Rattle.snesl_translation.specs.FreeNames.{Names, is_among}
use Rattle.snesl_translation.specs.Moving.{distributed, kept, all_moved}
use Rattle.snesl_translation.specs.Translation.{wires_named}
use Rattle.snesl_translation.specs.Carrying.{Carries}
use Rattle.snesl_translation.specs.Meaning.{Bears}
use Rattle.snesl_translation.proofs.Doing.{Does}
use Rattle.snesl_translation.proofs.BoundMoved.{Held, Stands, Given, ForNames, all_distributed_make, all_kept_make}

-- what items have, and what they have once they are moved

module _ {X A : Type 0} (f : X → Option A) where
  -- an item with what it has
  abbrev Having : Type 0
  Having = (x : X) × (a : A) × (f x ≡ Some a)

  abbrev item : Having → X
  item z = z.0

  abbrev had : Having → A
  had z = z.1

  having : (xs : List X) (vs : List A) → each f xs ≡ Some vs → (zs : List Having) × (xs ≡ map item zs) × (vs ≡ map had zs)
  having xs vs e = each_back f item had (λ x a e. ((x, a, e), refl, refl)) xs vs e

  all_had : (zs : List Having) → each f (map item zs) ≡ Some (map had zs)
  all_had zs = each_forth f item had (λ z. z.2) zs

  pub each_distributed : (ns : List ℕ) (xs ys : List X) (vs : List A) → each f xs ≡ Some vs → dist ns xs ≡ Some ys → (ws : List A) × (dist ns vs ≡ Some ws) × (each f ys ≡ Some ws)
  each_distributed ns xs ys vs e moved =
      let h = having xs vs e in
      let g = map_gives (map item) (dist ns h.0) (sym (dist_map item ns h.0) ∙ ap (dist ns) (sym h.1) ∙ moved) in
      (map had g.0, ap (dist ns) h.2 ∙ dist_map had ns h.0 ∙ ap (option_map (map had)) g.1, ap (each f) g.2 ∙ all_had g.0)

  pub each_kept : (ds : List Bool) (xs ys : List X) (vs : List A) → each f xs ≡ Some vs → pack ds xs ≡ Some ys → (ws : List A) × (pack ds vs ≡ Some ws) × (each f ys ≡ Some ws)
  each_kept ds xs ys vs e moved =
      let h = having xs vs e in
      let g = map_gives (map item) (pack ds h.0) (sym (pack_map item ds h.0) ∙ ap (pack ds) (sym h.1) ∙ moved) in
      (map had g.0, ap (pack ds) h.2 ∙ pack_map had ds h.0 ∙ ap (option_map (map had)) g.1, ap (each f) g.2 ∙ all_had g.0)

-- past the edge of a comprehension's body

still_open : (binding : Binding) (t : Ty) → shut_if_streamed binding ≡ open_to t → (binding ≡ open_to t) × (is_concrete t ≡ true)
still_open shut t e = absurd (cc)
still_open (open_to u) t e = by_test (is_concrete u) refl e
  where
    by_test : (b : Bool) → is_concrete u ≡ b → cond b (open_to u) shut ≡ open_to t → (open_to u ≡ open_to t) × (is_concrete t ≡ true)
    by_test true c e = let same : u ≡ t = cc in (e, ap is_concrete (sym same) ∙ c)
    by_test false c e = absurd (cc)

-- a name that may be used inside stands for the same outside, and that is of a concrete type
pub found_outside : (bytes : List ℕ) (context : Context) (t : Ty) → found bytes (inside context) ≡ Some (open_to t) → (found bytes context ≡ Some (open_to t)) × (is_concrete t ≡ true)
found_outside bytes [] t e = absurd (cc)
found_outside bytes (entry ∷ context) t e = by_test (bytes_eq bytes entry.bytes) e (found_outside bytes context t)
  where
    by_test : (b : Bool) → cond b (Some (shut_if_streamed entry.binding)) (found bytes (inside context)) ≡ Some (open_to t)
        → (found bytes (inside context) ≡ Some (open_to t) → (found bytes context ≡ Some (open_to t)) × (is_concrete t ≡ true))
        → (cond b (Some entry.binding) (found bytes context) ≡ Some (open_to t)) × (is_concrete t ≡ true)
    by_test true e others =
        let same : shut_if_streamed entry.binding ≡ open_to t = cc in
        let g = still_open entry.binding t same in
        (ap Some g.0, g.1)
    by_test false e others = others e

-- names

-- each of these names may be used
abbrev pub AreOpen : Names → Context → Type 0
AreOpen names context = (bytes : List ℕ) → is_among bytes names ≡ true → (t : Ty) × (found bytes context ≡ Some (open_to t))

-- the values that a name has at the instances, of the type that it has in the context
abbrev pub HeldAt : Context → List Environment → Held
HeldAt context environments bytes t vs = (found bytes context ≡ Some (open_to t)) × (each (value_in bytes) environments ≡ Some vs)

module _ (names : Names) (context : Context) (usable : AreOpen names context) where
  pub stand_borne : (bound : Bound) (environments : List Environment) (streams : Columns) → Bears streams bound names context environments
      → ForNames names bound (Stands (HeldAt context environments) streams)
  stand_borne bound environments streams bears bytes among held =
      let o = usable bytes among in
      let b = bears bytes o.0 among o.1 in
      (o.0, b.0, (o.1, b.1), b.2)

  pub borne_given : (bound given : Bound) (environments inner : List Environment) (streams on : Columns) → Bears streams bound names context environments
      → Given names bound (Stands (HeldAt context inner) on) given → Bears on given names context inner
  borne_given bound given environments inner streams on bears g bytes t among is =
      let h = g bytes among (bears bytes t among is).3 in
      let s = h.1 in
      let types : Some (open_to s.0) ≡ Some (open_to t) = sym s.2.0 ∙ is in
      let same : s.0 ≡ t = cc in
      (s.1, s.2.1, subst (λ t. Carries on (wires_named bytes given) t s.1) same s.3, h.0)

-- where truth values are beside the instances, the names are borne at those that are true
pub bears_kept : (at d : ℕ) (ds : List Bool) (names : Names) (context : Context) (bound : Bound) (environments inner : List Environment) (streams : Columns) → AreOpen names context
    → streams_at (d ∷ []) streams ≡ Some (map flag ds ∷ []) → pack ds environments ≡ Some inner → Bears streams bound names context environments
    → Does streams (all_moved (kept at d) names bound (length streams)) (λ l given. Bears l given names context inner)
bears_kept at d ds names context bound environments inner streams usable truths moved bears =
    let does = all_kept_make (HeldAt context environments) (HeldAt context inner) at d ds names bound streams truths
    (λ bytes t vs among h. let m = each_kept (value_in bytes) ds environments inner vs h.1 moved in (m.0, m.1, (h.0, m.2)))
    (stand_borne names context usable bound environments streams bears) in
    let given = (all_moved (kept at d) names bound (length streams)).given in
    (does.0, does.1, does.2, borne_given names context usable bound given environments inner streams (streams ++ does.0) bears does.3)

-- where numbers are beside the instances, the names that may be used inside are borne at each instance as often as its number
pub bears_distributed : (at f : ℕ) (ns : List ℕ) (names : Names) (context : Context) (bound : Bound) (environments inner : List Environment) (streams : Columns) → AreOpen names (inside context)
    → streams_at (f ∷ []) streams ≡ Some (flags ns ∷ []) → dist ns environments ≡ Some inner → Bears streams bound names context environments
    → Does streams (all_moved (distributed at f) names bound (length streams)) (λ l given. Bears l given names (inside context) inner)
bears_distributed at f ns names context bound environments inner streams usable flagged moved bears =
    let outside : Bears streams bound names (inside context) environments = λ bytes t among is. bears bytes t among (found_outside bytes context t is).0 in
    let does = all_distributed_make (HeldAt (inside context) environments) (HeldAt (inside context) inner) at f ns names bound streams flagged
    (λ bytes t vs among h. let m = each_distributed (value_in bytes) ns environments inner vs h.1 moved in ((found_outside bytes context t h.0).1, m.0, m.1, (h.0, m.2)))
    (stand_borne names (inside context) usable bound environments streams outside) in
    let given = (all_moved (distributed at f) names bound (length streams)).given in
    (does.0, does.1, does.2, borne_given names (inside context) usable bound given environments inner streams (streams ++ does.0) outside does.3)
