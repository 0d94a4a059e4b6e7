-- The values beside which true stands: what `kept` makes.
use Rattle.std.specs.Prelude.{◌≡◌, ℕ, Bool, true, false, List, [], ◌∷◌, ◌++◌, map, length, replicate, Some, option_map, refl}
use Rattle.std.proofs.Common.{sym, ap, ◌∙◌, subst}
use Rattle.std.proofs.Math.Path.{ap₂}
use Rattle.snesl_data.specs.Types.{Ty, pair, seq}
use Rattle.snesl_data.specs.Values.{Value}
use Rattle.flow_messages.specs.Cells.{Cell, flag}
use Rattle.flow_messages.specs.declared.message.Kind.TheVariants.{Bool as BoolKind}
use Rattle.flow_base.specs.Columns.{Columns}
use Rattle.flow_base.specs.Flags.{flags, concatenation, lengths}
use Rattle.flow_base.specs.Ranges.{AllOf}
use Rattle.flow_values.specs.Shapes.{cell_for, first_of, second_of, elements_of}
use Rattle.flow_nodes.specs.functions.Lists.{paired, copied, dist, pack, kept as kept_items}
use Rattle.flow_nodes.specs.functions.Made.{one}
use Rattle.flow_nodes.proofs.OfFunctions.Options.{map_gives, paired_back, paired_map, lengths_map}
use Rattle.flow_nodes.proofs.OfFunctions.Mapped.{map_some_map, dist_map, pack_map}
use Rattle.flow_nodes.proofs.OfFunctions.Encoded.{dist_makes, pack_makes, pack_groups_makes}
use Rattle.flow_nodes.proofs.OfFunctions.ValueDecoding.{AllAre, all_split, all_cons}
use Rattle.flow_nodes.specs.plans.Plans.{dist as dist_step, pack as pack_step, pack_groups, streams_at}
use Rattle.snesl_translation.specs.Wires.{Wires, wire, two, segments, type_of_wires, kind_of_type, IsSingle, stream_of}
use Rattle.snesl_translation.specs.Makings.{done, and_then, stepped}
use Rattle.snesl_translation.specs.Moving.{flags_stepped, kept}
use Rattle.snesl_translation.specs.Carrying.{Carries, Makes}
use Rattle.snesl_translation.proofs.Carrying.{grown, streams_joined, carried_on, stepped_makes, first_carries, second_carries, flags_carry, items_carry, single_laid}
use Rattle.snesl_translation.proofs.Doing.{Writes, then_does, flags_written, pair_makes, segments_makes, cells_are}

-- Lists

pack_true : {A : Type 0} (x : A) (bs : List Bool) (xs : List A) → pack (true ∷ bs) (x ∷ xs) ≡ option_map (λ l. x ∷ l) (pack bs xs)
pack_true x bs xs = map_some_map kept_items (λ ps. (true, x) ∷ ps) (paired bs xs) ∙ sym (map_some_map (λ l. x ∷ l) kept_items (paired bs xs))

pack_false : {A : Type 0} (x : A) (bs : List Bool) (xs : List A) → pack (false ∷ bs) (x ∷ xs) ≡ pack bs xs
pack_false x bs xs = map_some_map kept_items (λ ps. (false, x) ∷ ps) (paired bs xs)

pack_all : {A : Type 0} (l : List A) (bs : List Bool) (xs ys : List A) → pack bs xs ≡ Some ys → pack (replicate (length l) true ++ bs) (l ++ xs) ≡ Some (l ++ ys)
pack_all [] bs xs ys e = e
pack_all (x ∷ l) bs xs ys e = pack_true x (replicate (length l) true ++ bs) (l ++ xs) ∙ ap (option_map (λ m. x ∷ m)) (pack_all l bs xs ys e)

pack_no : {A : Type 0} (l : List A) (bs : List Bool) (xs ys : List A) → pack bs xs ≡ Some ys → pack (replicate (length l) false ++ bs) (l ++ xs) ≡ Some ys
pack_no [] bs xs ys e = e
pack_no (x ∷ l) bs xs ys e = pack_false x (replicate (length l) false ++ bs) (l ++ xs) ∙ pack_no l bs xs ys e

-- what stands beside a group, for each of its items
pack_joined : {A : Type 0} (ps : List (Bool × List A)) → pack (copied (map (λ p. (length p.1, p.0)) ps)) (concatenation (map (λ p. p.1) ps)) ≡ Some (concatenation (kept_items ps))
pack_joined [] = refl
pack_joined ((true, l) ∷ ps) = pack_all l (copied (map (λ p. (length p.1, p.0)) ps)) (concatenation (map (λ p. p.1) ps)) (concatenation (kept_items ps)) (pack_joined ps)
pack_joined ((false, l) ∷ ps) = pack_no l (copied (map (λ p. (length p.1, p.0)) ps)) (concatenation (map (λ p. p.1) ps)) (concatenation (kept_items ps)) (pack_joined ps)

-- the items of the groups that are kept are those that are kept by what stands beside their groups
pub pack_inside : {A : Type 0} (ds : List Bool) (ls ms : List (List A)) → pack ds ls ≡ Some ms
    → (es : List Bool) × (dist (lengths ls) ds ≡ Some es) × (pack es (concatenation ls) ≡ Some (concatenation ms))
pack_inside ds ls ms e =
    let g = map_gives kept_items (paired ds ls) e in
    let ps = g.0 in
    let p = paired_back ds ls ps g.1 in
    let es = copied (map (λ p. (length p.1, p.0)) ps) in (
      es,
      ap₂ (λ ns bs. dist ns bs) (ap lengths p.1 ∙ lengths_map (λ p. p.1) ps) p.0 ∙ ap (option_map copied) (paired_map (λ p. length p.1) (λ p. p.0) ps),
      ap (λ l. pack es (concatenation l)) p.1 ∙ pack_joined ps ∙ ap (λ m. Some (concatenation m)) (sym g.2),
    )

pub lengths_are : {A : Type 0} (ls : List (List A)) → lengths ls ≡ map (λ l. length l) ls
lengths_are [] = refl
lengths_are (l ∷ ls) = ap (λ ns. length l ∷ ns) (lengths_are ls)

pack_lengths : {A : Type 0} (ds : List Bool) (ls ms : List (List A)) → pack ds ls ≡ Some ms → pack ds (lengths ls) ≡ Some (lengths ms)
pack_lengths ds ls ms e =
    ap (λ l. pack ds l) (lengths_are ls) ∙ pack_map (λ l. length l) ds ls ∙ ap (option_map (map (λ l. length l))) e ∙ ap Some (sym (lengths_are ms))

-- Values

all_kept_items : (t : Ty) (ps : List (Bool × Value)) → AllAre t (map (λ p. p.1) ps) → AllAre t (kept_items ps)
all_kept_items t [] are = refl
all_kept_items t ((true, v) ∷ ps) are = let s = all_split t v (map (λ p. p.1) ps) are in all_cons t v (kept_items ps) s.0 (all_kept_items t ps s.1)
all_kept_items t ((false, v) ∷ ps) are = all_kept_items t ps (all_split t v (map (λ p. p.1) ps) are).1

pub all_packed : (t : Ty) (ds : List Bool) (vs ws : List Value) → AllAre t vs → pack ds vs ≡ Some ws → AllAre t ws
all_packed t ds vs ws are e =
    let g = map_gives kept_items (paired ds vs) e in
    let p = paired_back ds vs g.0 g.1 in
    subst (AllAre t) (sym g.2) (all_kept_items t g.0 (subst (AllAre t) p.1 are))

truths_of_kind : (ds : List Bool) → AllOf BoolKind (map flag ds)
truths_of_kind [] = tt
truths_of_kind (d ∷ ds) = (refl, truths_of_kind ds)

-- Streams

module _ (at : ℕ) where
  single_kept : (d : ℕ) (ds : List Bool) (streams : Columns) (a : ℕ) (t : Ty) (vs ws : List Value) → IsSingle t → AllAre t vs → streams_at (a ∷ []) streams ≡ Some (map cell_for vs ∷ [])
      → streams_at (d ∷ []) streams ≡ Some (map flag ds ∷ []) → pack ds vs ≡ Some ws → Makes streams t (stepped at (pack_step (kind_of_type t)) (d ∷ a ∷ []) t (length streams)) ws
  single_kept d ds streams a t vs ws h are there truths moved =
      stepped_makes streams at (pack_step (kind_of_type t)) (d ∷ a ∷ []) t (map flag ds ∷ map cell_for vs ∷ []) ws
      (streams_joined (d ∷ []) (a ∷ []) streams (map flag ds ∷ []) (map cell_for vs ∷ []) truths there)
      (pack_makes (kind_of_type t) ds (map cell_for vs) (cells_are t h vs are)
      ∙ ap (one (λ (r : List Cell). r)) (pack_map cell_for ds vs ∙ ap (option_map (map cell_for)) moved)
      ∙ ap Some (sym (single_laid t h ws)))
      (all_packed t ds vs ws are moved)

  kept_of : (d : ℕ) (ds : List Bool) (streams : Columns) (w : Wires) (vs ws : List Value) → Carries streams w (type_of_wires w) vs
      → streams_at (d ∷ []) streams ≡ Some (map flag ds ∷ []) → pack ds vs ≡ Some ws → Makes streams (type_of_wires w) (kept at d w (length streams)) ws
  kept_of d ds streams (wire t a) vs ws c truths moved =
      single_kept d ds streams a t vs ws c.whole c.are (c.there ∙ ap Some (single_laid t c.whole vs)) truths moved
  kept_of d ds streams (two u v) vs ws c truths moved =
      let s = type_of_wires u in
      let t = type_of_wires v in
      let firsts : pack ds (map first_of vs) ≡ Some (map first_of ws) = pack_map first_of ds vs ∙ ap (option_map (map first_of)) moved in
      let seconds : pack ds (map second_of vs) ≡ Some (map second_of ws) = pack_map second_of ds vs ∙ ap (option_map (map second_of)) moved in
      pair_makes streams (λ k. kept at d u k) (λ k. kept at d v k) s t ws
      (kept_of d ds streams u (map first_of vs) (map first_of ws) (first_carries streams (two u v) s t vs c) truths firsts)
      (λ more.
      let carried = carried_on streams more v t (map second_of vs) (second_carries streams (two u v) s t vs c) in
      kept_of d ds (streams ++ more) v (map second_of vs) (map second_of ws) carried (grown (d ∷ []) streams more (map flag ds ∷ []) truths) seconds)
      (all_packed (pair s t) ds vs ws c.are moved)
  kept_of d ds streams (segments g items) vs ws c truths moved =
      let t = type_of_wires items in
      let Kept : Columns → Wires → Type 0 = λ l w. Carries l w (seq t) ws in
      let ls = map elements_of vs in
      let ms = map elements_of ws in
      let packed : pack ds ls ≡ Some ms = pack_map elements_of ds vs ∙ ap (option_map (map elements_of)) moved in
      let inside = pack_inside ds ls ms packed in
      let read : Columns = map flag ds ∷ flags (lengths ls) ∷ [] in
      let there : streams_at (d ∷ g ∷ []) streams ≡ Some read =
      streams_joined (d ∷ []) (g ∷ []) streams (map flag ds ∷ []) (flags (lengths ls) ∷ []) truths (flags_carry streams (segments g items) t vs c) in
      let groups : Writes streams (flags_stepped at pack_groups (d ∷ g ∷ []) (length streams)) (flags (lengths ms)) =
      flags_written streams at pack_groups (d ∷ g ∷ []) read (flags (lengths ms)) there (pack_groups_makes ds (lengths ls) ∙ ap (one flags) (pack_lengths ds ls ms packed)) in
      let on = streams ++ groups.0 in
      let h = (flags_stepped at pack_groups (d ∷ g ∷ []) (length streams)).given in
      let spread : Writes on (flags_stepped at (dist_step BoolKind) (d ∷ g ∷ []) (length on)) (map flag inside.0) =
      flags_written on at (dist_step BoolKind) (d ∷ g ∷ []) read (map flag inside.0) (grown (d ∷ g ∷ []) streams groups.0 read there)
      (dist_makes BoolKind (map flag ds) (lengths ls) (truths_of_kind ds) ∙ ap (one (λ (r : List Cell). r)) (dist_map flag (lengths ls) ds ∙ ap (option_map (map flag)) inside.1)) in
      let all = on ++ spread.0 in
      let e = (flags_stepped at (dist_step BoolKind) (d ∷ g ∷ []) (length on)).given in
      let carried : Carries all items t (concatenation ls) =
      carried_on on spread.0 items t (concatenation ls)
      (carried_on streams groups.0 items t (concatenation ls) (items_carry streams (segments g items) t vs c)) in
      let elements : Makes all t (kept at (stream_of e) items (length all)) (concatenation ms) =
      kept_of (stream_of e) inside.0 all items (concatenation ls) (concatenation ms) carried spread.3 inside.2 in
      then_does (flags_stepped at pack_groups (d ∷ g ∷ []) (length streams))
      (λ h k. and_then (flags_stepped at (dist_step BoolKind) (d ∷ g ∷ []) k) (λ e k. and_then (kept at (stream_of e) items k) (λ u k. done (segments (stream_of h) u) k)))
      streams (λ l w. streams_at (stream_of w ∷ []) l ≡ Some (flags (lengths ms) ∷ [])) Kept groups
      (then_does (flags_stepped at (dist_step BoolKind) (d ∷ g ∷ []) (length on)) (λ e k. and_then (kept at (stream_of e) items k) (λ u k. done (segments (stream_of h) u) k))
      on (λ l w. streams_at (stream_of w ∷ []) l ≡ Some (map flag inside.0 ∷ [])) Kept spread
      (segments_makes all (stream_of h) (kept at (stream_of e) items (length all)) t ws
      (grown (stream_of h ∷ []) on spread.0 (flags (lengths ms) ∷ []) groups.3) elements (all_packed (seq t) ds vs ws c.are moved)))

  -- of any type the values beside which true stands
  pub kept_makes : (d : ℕ) (ds : List Bool) (streams : Columns) (w : Wires) (t : Ty) (vs ws : List Value) → Carries streams w t vs
      → streams_at (d ∷ []) streams ≡ Some (map flag ds ∷ []) → pack ds vs ≡ Some ws → Makes streams t (kept at d w (length streams)) ws
  kept_makes d ds streams w t vs ws c truths moved =
      subst (λ u. Makes streams u (kept at d w (length streams)) ws) c.of_type (kept_of d ds streams w vs ws (subst (λ u. Carries streams w u vs) (sym c.of_type) c) truths moved)
