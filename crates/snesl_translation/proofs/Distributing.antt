-- Each value as often as its number: what `distributed` makes.
use Rattle.std.specs.Prelude.{◌≡◌, ℕ, zero, suc, true, List, [], ◌∷◌, ◌++◌, map, length, replicate, Some, option_map, refl}
use Rattle.std.proofs.Common.{sym, ap, ◌∙◌, subst}
use Rattle.snesl_data.specs.Types.{Ty, pair, is_concrete}
use Rattle.snesl_data.specs.Values.{Value}
use Rattle.flow_messages.specs.Cells.{Cell}
use Rattle.flow_base.specs.Columns.{Columns}
use Rattle.flow_base.specs.Flags.{flags}
use Rattle.flow_values.specs.Shapes.{is_a, cell_for, first_of, second_of}
use Rattle.flow_values.specs.laws.Kinds.{both_true}
use Rattle.flow_nodes.specs.functions.Lists.{paired, copied, dist}
use Rattle.flow_nodes.specs.functions.Made.{one}
use Rattle.flow_nodes.proofs.OfFunctions.Options.{map_gives, paired_back}
use Rattle.flow_nodes.proofs.OfFunctions.Mapped.{dist_map}
use Rattle.flow_nodes.proofs.OfFunctions.Encoded.{dist_makes}
use Rattle.flow_nodes.proofs.OfFunctions.ValueDecoding.{AllAre, all_split, all_cons, all_joined}
use Rattle.flow_nodes.specs.plans.Plans.{dist as dist_step, streams_at}
use Rattle.snesl_translation.specs.Wires.{Wires, wire, two, segments, type_of_wires, kind_of_type, IsSingle}
use Rattle.snesl_translation.specs.Makings.{stepped}
use Rattle.snesl_translation.specs.Moving.{distributed}
use Rattle.snesl_translation.specs.Carrying.{Carries, Makes}
use Rattle.snesl_translation.proofs.Carrying.{grown, streams_joined, carried_on, stepped_makes, first_carries, second_carries, single_laid}
use Rattle.snesl_translation.proofs.Doing.{pair_makes, cells_are}

-- copies of values of a type are of it

all_copies : (t : Ty) (n : ℕ) (v : Value) → is_a t v ≡ true → AllAre t (replicate n v)
all_copies t zero v is = refl
all_copies t (suc n) v is = all_cons t v (replicate n v) is (all_copies t n v is)

all_copied : (t : Ty) (ps : List (ℕ × Value)) → AllAre t (map (λ p. p.1) ps) → AllAre t (copied ps)
all_copied t [] are = refl
all_copied t (p ∷ ps) are =
    let s = all_split t p.1 (map (λ p. p.1) ps) are in
    all_joined t (replicate p.0 p.1) (copied ps) (all_copies t p.0 p.1 s.0) (all_copied t ps s.1)

pub all_distributed : (t : Ty) (ns : List ℕ) (vs ws : List Value) → AllAre t vs → dist ns vs ≡ Some ws → AllAre t ws
all_distributed t ns vs ws are e =
    let g = map_gives copied (paired ns vs) e in
    let p = paired_back ns vs g.0 g.1 in
    subst (AllAre t) (sym g.2) (all_copied t g.0 (subst (AllAre t) p.1 are))

module _ (at f : ℕ) (ns : List ℕ) where
  single_distributed : (streams : Columns) (a : ℕ) (t : Ty) (vs ws : List Value) → IsSingle t → AllAre t vs → streams_at (a ∷ []) streams ≡ Some (map cell_for vs ∷ [])
      → streams_at (f ∷ []) streams ≡ Some (flags ns ∷ []) → dist ns vs ≡ Some ws → Makes streams t (stepped at (dist_step (kind_of_type t)) (a ∷ f ∷ []) t (length streams)) ws
  single_distributed streams a t vs ws h are there flagged moved =
      stepped_makes streams at (dist_step (kind_of_type t)) (a ∷ f ∷ []) t (map cell_for vs ∷ flags ns ∷ []) ws
      (streams_joined (a ∷ []) (f ∷ []) streams (map cell_for vs ∷ []) (flags ns ∷ []) there flagged)
      (dist_makes (kind_of_type t) (map cell_for vs) ns (cells_are t h vs are)
      ∙ ap (one (λ (r : List Cell). r)) (dist_map cell_for ns vs ∙ ap (option_map (map cell_for)) moved)
      ∙ ap Some (sym (single_laid t h ws)))
      (all_distributed t ns vs ws are moved)

  distributed_of : (streams : Columns) (w : Wires) (vs ws : List Value) → Carries streams w (type_of_wires w) vs → is_concrete (type_of_wires w) ≡ true
      → streams_at (f ∷ []) streams ≡ Some (flags ns ∷ []) → dist ns vs ≡ Some ws → Makes streams (type_of_wires w) (distributed at f w (length streams)) ws
  distributed_of streams (wire t a) vs ws c concrete flagged moved =
      single_distributed streams a t vs ws c.whole c.are (c.there ∙ ap Some (single_laid t c.whole vs)) flagged moved
  distributed_of streams (two u v) vs ws c concrete flagged moved =
      let s = type_of_wires u in
      let t = type_of_wires v in
      let both = both_true (is_concrete s) (is_concrete t) concrete in
      let firsts : dist ns (map first_of vs) ≡ Some (map first_of ws) = dist_map first_of ns vs ∙ ap (option_map (map first_of)) moved in
      let seconds : dist ns (map second_of vs) ≡ Some (map second_of ws) = dist_map second_of ns vs ∙ ap (option_map (map second_of)) moved in
      pair_makes streams (λ k. distributed at f u k) (λ k. distributed at f v k) s t ws
      (distributed_of streams u (map first_of vs) (map first_of ws) (first_carries streams (two u v) s t vs c) both.0 flagged firsts)
      (λ more.
      let carried = carried_on streams more v t (map second_of vs) (second_carries streams (two u v) s t vs c) in
      distributed_of (streams ++ more) v (map second_of vs) (map second_of ws) carried both.1 (grown (f ∷ []) streams more (flags ns ∷ []) flagged) seconds)
      (all_distributed (pair s t) ns vs ws c.are moved)
  distributed_of streams (segments g items) vs ws c concrete flagged moved = absurd (cc)

  -- of a concrete type each value as often as its number
  pub distributed_makes : (streams : Columns) (w : Wires) (t : Ty) (vs ws : List Value) → Carries streams w t vs → is_concrete t ≡ true
      → streams_at (f ∷ []) streams ≡ Some (flags ns ∷ []) → dist ns vs ≡ Some ws → Makes streams t (distributed at f w (length streams)) ws
  distributed_makes streams w t vs ws c concrete flagged moved =
      let back = sym c.of_type in
      subst (λ u. Makes streams u (distributed at f w (length streams)) ws) c.of_type
      (distributed_of streams w vs ws (subst (λ u. Carries streams w u vs) back c) (subst (λ u. is_concrete u ≡ true) back concrete) flagged moved)
