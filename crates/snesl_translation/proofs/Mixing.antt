-- The groups of two values taken alternately: what `mixed` makes.
use Rattle.std.specs.Prelude.{◌≡◌, ℕ, ◌+◌, List, [], ◌∷◌, ◌++◌, map, sum, length, Some, option_map, refl}
use Rattle.std.proofs.Common.{sym, ap, ◌∙◌, subst, length-append, append_assoc}
use Rattle.std.proofs.Math.Path.{ap₂}
use Rattle.std.proofs.lemmas.List.Sums.{sum_by-cons}
use Rattle.snesl_data.specs.Types.{Ty, pair, seq}
use Rattle.snesl_data.specs.Values.{Value}
use Rattle.flow_messages.specs.Cells.{Cell}
use Rattle.flow_base.specs.Columns.{Columns}
use Rattle.flow_base.specs.Flags.{flags, concatenation, lengths}
use Rattle.flow_segment.specs.Rows.{Sides, lefts, rights, alternated}
use Rattle.flow_values.specs.Shapes.{cell_for, first_of, second_of, elements_of}
use Rattle.flow_nodes.specs.functions.Lists.{interleave, concat_flags}
use Rattle.flow_nodes.specs.functions.Made.{one}
use Rattle.flow_nodes.proofs.OfFunctions.Options.{cut_forth, lengths_map, interleave_forth, interleave_back}
use Rattle.flow_nodes.proofs.OfFunctions.Mapped.{cut_map, interleave_map}
use Rattle.flow_nodes.proofs.OfFunctions.Encoded.{interleave_makes, interleave_groups_makes, concat_flags_makes}
use Rattle.flow_nodes.proofs.OfFunctions.ValueDecoding.{AllAre, all_joined, all_apart}
use Rattle.flow_nodes.specs.plans.Plans.{interleave as interleave_step, interleave_groups, concat_flags as concat_step, streams_at}
use Rattle.snesl_translation.specs.Wires.{Wires, wire, two, segments, type_of_wires, kind_of_type, IsSingle, stream_of, first_wires, second_wires, item_wires}
use Rattle.snesl_translation.specs.Makings.{done, and_then, stepped}
use Rattle.snesl_translation.specs.Moving.{flags_stepped, mixed}
use Rattle.snesl_translation.specs.Carrying.{Carries, Makes}
use Rattle.snesl_translation.proofs.Carrying.{grown, streams_joined, carried_on, stepped_makes, first_carries, second_carries, flags_carry, items_carry, single_laid, stream_carries}
use Rattle.snesl_translation.proofs.Doing.{Writes, then_does, flags_written, pair_makes, segments_makes, cells_are}

-- Lists

module _ {A B : Type 0} (e : A → List B) where
  -- all that the items hold
  abbrev opened : List A → List B
  opened l = concatenation (map e l)

  abbrev both_opened : List A × List A → List B × List B
  both_opened p = (opened p.0, opened p.1)

  abbrev size : A → ℕ
  size x = length (e x)

  opened_append : (l m : List A) → opened (l ++ m) ≡ opened l ++ opened m
  opened_append [] m = refl
  opened_append (x ∷ l) m = ap (λ k. e x ++ k) (opened_append l m) ∙ sym (append_assoc (e x) (opened l) (opened m))

  opened_joined : (ls : List (List A)) → concatenation (map opened ls) ≡ opened (concatenation ls)
  opened_joined [] = refl
  opened_joined (l ∷ ls) = ap (λ k. opened l ++ k) (opened_joined ls) ∙ sym (opened_append l (concatenation ls))

  opened_alternated : (xs : Sides A) → alternated (map both_opened xs) ≡ opened (alternated xs)
  opened_alternated [] = refl
  opened_alternated ((u, v) ∷ xs) =
      ap (λ k. opened u ++ (opened v ++ k)) (opened_alternated xs)
      ∙ sym (opened_append u (v ++ alternated xs) ∙ ap (λ k. opened u ++ k) (opened_append v (alternated xs)))

  lefts_opened : (xs : Sides A) → lefts (map both_opened xs) ≡ map opened (lefts xs)
  lefts_opened [] = refl
  lefts_opened (x ∷ xs) = ap (λ k. opened x.0 ∷ k) (lefts_opened xs)

  rights_opened : (xs : Sides A) → rights (map both_opened xs) ≡ map opened (rights xs)
  rights_opened [] = refl
  rights_opened (x ∷ xs) = ap (λ k. opened x.1 ∷ k) (rights_opened xs)

  sizes_sum : (l : List A) → sum (map size l) ≡ length (opened l)
  sizes_sum [] = refl
  sizes_sum (x ∷ l) = sum_by-cons (λ n. n) (size x) (map size l) ∙ ap (λ n. size x + n) (sizes_sum l) ∙ sym (length-append (e x) (opened l))

  sums_are : (ls : List (List A)) → map sum (map (map size) ls) ≡ lengths (map opened ls)
  sums_are [] = refl
  sums_are (l ∷ ls) = ap₂ (λ n ns. n ∷ ns) (sizes_sum l) (sums_are ls)

  concat_opened : (ls : List (List A)) → concat_flags (lengths ls) (lengths (map e (concatenation ls))) ≡ Some (lengths (map opened ls))
  concat_opened ls =
      ap (concat_flags (lengths ls)) (lengths_map e (concatenation ls))
      ∙ ap (option_map (map sum)) (cut_map size (lengths ls) (concatenation ls) ∙ ap (option_map (map (map size))) (cut_forth ls))
      ∙ ap Some (sums_are ls)

  interleave_opened : (xs : Sides A) →
      interleave (lengths (map opened (lefts xs))) (lengths (map opened (rights xs))) (opened (concatenation (lefts xs)))
      (opened (concatenation (rights xs))) ≡ Some (opened (alternated xs))
  interleave_opened xs =
      ap₂ (λ k l. interleave (lengths (map opened (lefts xs))) (lengths (map opened (rights xs))) k l) (sym (opened_joined (lefts xs))) (sym (opened_joined (rights xs)))
      ∙ ap₂ (λ k l. interleave (lengths k) (lengths l) (concatenation k) (concatenation l)) (sym (lefts_opened xs)) (sym (rights_opened xs))
      ∙ interleave_forth (map both_opened xs) ∙ ap Some (opened_alternated xs)

  -- what the items of the groups hold, in groups of their own
  interleave_inside : (ns ms : List ℕ) (us vs r : List A) → interleave ns ms us vs ≡ Some r
      → (ks ls : List ℕ) × (concat_flags ns (lengths (map e us)) ≡ Some ks) × (concat_flags ms (lengths (map e vs)) ≡ Some ls) × (interleave ks ls (opened us) (opened vs) ≡ Some (opened r))
  interleave_inside ns ms us vs r moved =
      let g = interleave_back ns ms us vs r moved in
      let ks = lengths (map opened (lefts g.sides)) in
      let ls = lengths (map opened (rights g.sides)) in (
        ks,
        ls,
        ap₂ (λ ns us. concat_flags ns (lengths (map e us))) g.ns_are g.us_are ∙ concat_opened (lefts g.sides),
        ap₂ (λ ns us. concat_flags ns (lengths (map e us))) g.ms_are g.vs_are ∙ concat_opened (rights g.sides),
        ap₂ (λ us vs. interleave ks ls (opened us) (opened vs)) g.us_are g.vs_are ∙ interleave_opened g.sides ∙ ap (λ r. Some (opened r)) (sym g.r_is),
      )

  interleave_sizes : (ns ms : List ℕ) (us vs r : List A) → interleave ns ms us vs ≡ Some r → interleave ns ms (lengths (map e us)) (lengths (map e vs)) ≡ Some (lengths (map e r))
  interleave_sizes ns ms us vs r moved =
      ap₂ (λ k l. interleave ns ms k l) (lengths_map e us) (lengths_map e vs) ∙ interleave_map size ns ms us vs
      ∙ ap (option_map (map size)) moved ∙ ap Some (sym (lengths_map e r))

-- Values

all_alternated : (t : Ty) (xs : Sides Value) → AllAre t (concatenation (lefts xs)) → AllAre t (concatenation (rights xs)) → AllAre t (alternated xs)
all_alternated t [] h g = refl
all_alternated t ((u, v) ∷ xs) h g =
    let l = all_apart t u (concatenation (lefts xs)) h in
    let r = all_apart t v (concatenation (rights xs)) g in
    all_joined t u (v ++ alternated xs) l.0 (all_joined t v (alternated xs) r.0 (all_alternated t xs l.1 r.1))

pub all_interleaved : (t : Ty) (ns ms : List ℕ) (us vs r : List Value) → AllAre t us → AllAre t vs → interleave ns ms us vs ≡ Some r → AllAre t r
all_interleaved t ns ms us vs r are others moved =
    let g = interleave_back ns ms us vs r moved in
    subst (AllAre t) (sym g.r_is) (all_alternated t g.sides (subst (AllAre t) g.us_are are) (subst (AllAre t) g.vs_are others))

-- Streams

-- the numbers of which two streams are flags
pub record BothFlags (streams : Columns) (f g : ℕ) (ns ms : List ℕ) : Type 0 where
  pub left : streams_at (f ∷ []) streams ≡ Some (flags ns ∷ [])
  pub right : streams_at (g ∷ []) streams ≡ Some (flags ms ∷ [])

pub both_on : (streams more : Columns) (f g : ℕ) (ns ms : List ℕ) → BothFlags streams f g ns ms → BothFlags (streams ++ more) f g ns ms
both_on streams more f g ns ms h = record { left = grown (f ∷ []) streams more (flags ns ∷ []) h.left; right = grown (g ∷ []) streams more (flags ms ∷ []) h.right }

four_there : (streams : Columns) (f g a b : ℕ) (ns ms : List ℕ) (xs ys : List Cell) → BothFlags streams f g ns ms → streams_at (a ∷ []) streams
    ≡ Some (xs ∷ []) → streams_at (b ∷ []) streams ≡ Some (ys ∷ [])
    → streams_at (f ∷ g ∷ a ∷ b ∷ []) streams ≡ Some (flags ns ∷ flags ms ∷ xs ∷ ys ∷ [])
four_there streams f g a b ns ms xs ys h there other =
    streams_joined (f ∷ []) (g ∷ a ∷ b ∷ []) streams (flags ns ∷ []) (flags ms ∷ xs ∷ ys ∷ []) h.left
    (streams_joined (g ∷ []) (a ∷ b ∷ []) streams (flags ms ∷ []) (xs ∷ ys ∷ []) h.right (streams_joined (a ∷ []) (b ∷ []) streams (xs ∷ []) (ys ∷ []) there other))

module _ (at : ℕ) where
  single_mixed : (f g : ℕ) (ns ms : List ℕ) (streams : Columns) (a b : ℕ) (t : Ty) (us vs r : List Value) → IsSingle t → AllAre t us → AllAre t vs → BothFlags streams f g ns ms
      → streams_at (a ∷ []) streams ≡ Some (map cell_for us ∷ []) → streams_at (b ∷ []) streams ≡ Some (map cell_for vs ∷ []) → interleave ns ms us vs ≡ Some r
      → Makes streams t (stepped at (interleave_step (kind_of_type t)) (f ∷ g ∷ a ∷ b ∷ []) t (length streams)) r
  single_mixed f g ns ms streams a b t us vs r h are others grouped there other moved =
      stepped_makes streams at (interleave_step (kind_of_type t)) (f ∷ g ∷ a ∷ b ∷ []) t (flags ns ∷ flags ms ∷ map cell_for us ∷ map cell_for vs ∷ []) r
      (four_there streams f g a b ns ms (map cell_for us) (map cell_for vs) grouped there other)
      (interleave_makes (kind_of_type t) ns ms (map cell_for us) (map cell_for vs) (cells_are t h us are) (cells_are t h vs others)
      ∙ ap (one (λ (r : List Cell). r)) (interleave_map cell_for ns ms us vs ∙ ap (option_map (map cell_for)) moved)
      ∙ ap Some (sym (single_laid t h r)))
      (all_interleaved t ns ms us vs r are others moved)

  mixed_of : (f g : ℕ) (ns ms : List ℕ) (streams : Columns) (w other : Wires) (us vs r : List Value) → BothFlags streams f g ns ms → Carries streams w (type_of_wires w) us
      → Carries streams other (type_of_wires w) vs → interleave ns ms us vs ≡ Some r → Makes streams (type_of_wires w) (mixed at f g w other (length streams)) r
  mixed_of f g ns ms streams (wire t a) other us vs r grouped c d moved =
      single_mixed f g ns ms streams a (stream_of other) t us vs r c.whole c.are d.are grouped (c.there ∙ ap Some (single_laid t c.whole us)) (stream_carries streams other t vs c.whole d) moved
  mixed_of f g ns ms streams (two p q) other us vs r grouped c d moved =
      let s = type_of_wires p in
      let t = type_of_wires q in
      let firsts : interleave ns ms (map first_of us) (map first_of vs) ≡ Some (map first_of r) = interleave_map first_of ns ms us vs ∙ ap (option_map (map first_of)) moved in
      let seconds : interleave ns ms (map second_of us) (map second_of vs) ≡ Some (map second_of r) = interleave_map second_of ns ms us vs ∙ ap (option_map (map second_of)) moved in
      pair_makes streams (λ k. mixed at f g p (first_wires other) k) (λ k. mixed at f g q (second_wires other) k) s t r
      (mixed_of f g ns ms streams p (first_wires other) (map first_of us) (map first_of vs) (map first_of r) grouped
      (first_carries streams (two p q) s t us c) (first_carries streams other s t vs d) firsts)
      (λ more.
      let left = carried_on streams more q t (map second_of us) (second_carries streams (two p q) s t us c) in
      let right = carried_on streams more (second_wires other) t (map second_of vs) (second_carries streams other s t vs d) in
      mixed_of f g ns ms (streams ++ more) q (second_wires other) (map second_of us) (map second_of vs) (map second_of r) (both_on streams more f g ns ms grouped) left right seconds)
      (all_interleaved (pair s t) ns ms us vs r c.are d.are moved)
  mixed_of f g ns ms streams (segments p items) other us vs r grouped c d moved =
      let t = type_of_wires items in
      let Mixed : Columns → Wires → Type 0 = λ l w. Carries l w (seq t) r in
      let q = stream_of other in
      let ps = lengths (map elements_of us) in
      let qs = lengths (map elements_of vs) in
      let rs = lengths (map elements_of r) in
      let inside = interleave_inside elements_of ns ms us vs r moved in
      let ks = inside.0 in
      let ls = inside.1 in
      let left_there : streams_at (p ∷ []) streams ≡ Some (flags ps ∷ []) = flags_carry streams (segments p items) t us c in
      let right_there : streams_at (q ∷ []) streams ≡ Some (flags qs ∷ []) = flags_carry streams other t vs d in
      let both_left : streams_at (f ∷ p ∷ []) streams ≡ Some (flags ns ∷ flags ps ∷ []) = streams_joined (f ∷ []) (p ∷ []) streams (flags ns ∷ []) (flags ps ∷ []) grouped.left left_there in
      let both_right : streams_at (g ∷ q ∷ []) streams ≡ Some (flags ms ∷ flags qs ∷ []) = streams_joined (g ∷ []) (q ∷ []) streams (flags ms ∷ []) (flags qs ∷ []) grouped.right right_there in
      let groups : Writes streams (flags_stepped at interleave_groups (f ∷ g ∷ p ∷ q ∷ []) (length streams)) (flags rs) =
      flags_written streams at interleave_groups (f ∷ g ∷ p ∷ q ∷ []) (flags ns ∷ flags ms ∷ flags ps ∷ flags qs ∷ []) (flags rs)
      (four_there streams f g p q ns ms (flags ps) (flags qs) grouped left_there right_there)
      (interleave_groups_makes ns ms ps qs ∙ ap (one flags) (interleave_sizes elements_of ns ms us vs r moved)) in
      let on = streams ++ groups.0 in
      let h = (flags_stepped at interleave_groups (f ∷ g ∷ p ∷ q ∷ []) (length streams)).given in
      let lefter : Writes on (flags_stepped at concat_step (f ∷ p ∷ []) (length on)) (flags ks) =
      flags_written on at concat_step (f ∷ p ∷ []) (flags ns ∷ flags ps ∷ []) (flags ks)
      (grown (f ∷ p ∷ []) streams groups.0 (flags ns ∷ flags ps ∷ []) both_left) (concat_flags_makes ns ps ∙ ap (one flags) inside.2) in
      let further = on ++ lefter.0 in
      let i = (flags_stepped at concat_step (f ∷ p ∷ []) (length on)).given in
      let righter : Writes further (flags_stepped at concat_step (g ∷ q ∷ []) (length further)) (flags ls) =
      flags_written further at concat_step (g ∷ q ∷ []) (flags ms ∷ flags qs ∷ []) (flags ls)
      (grown (g ∷ q ∷ []) on lefter.0 (flags ms ∷ flags qs ∷ []) (grown (g ∷ q ∷ []) streams groups.0 (flags ms ∷ flags qs ∷ []) both_right)) (concat_flags_makes ms qs ∙ ap (one flags) inside.3) in
      let all = further ++ righter.0 in
      let j = (flags_stepped at concat_step (g ∷ q ∷ []) (length further)).given in
      let later : (v : Wires) (xs : List Value) → Carries streams v t xs → Carries all v t xs =
      λ v xs k. carried_on further righter.0 v t xs (carried_on on lefter.0 v t xs (carried_on streams groups.0 v t xs k)) in
      let inner : BothFlags all (stream_of i) (stream_of j) ks ls = record { left = grown (stream_of i ∷ []) further righter.0 (flags ks ∷ []) lefter.3; right = righter.3 } in
      let elements : Makes all t (mixed at (stream_of i) (stream_of j) items (item_wires other) (length all)) (concatenation (map elements_of r)) =
      mixed_of (stream_of i) (stream_of j) ks ls all items (item_wires other) (concatenation (map elements_of us)) (concatenation (map elements_of vs)) (concatenation (map elements_of r)) inner
      (later items (concatenation (map elements_of us)) (items_carry streams (segments p items) t us c))
      (later (item_wires other) (concatenation (map elements_of vs)) (items_carry streams other t vs d)) inside.4 in
      let there : streams_at (stream_of h ∷ []) all ≡ Some (flags rs ∷ []) =
      grown (stream_of h ∷ []) further righter.0 (flags rs ∷ []) (grown (stream_of h ∷ []) on lefter.0 (flags rs ∷ []) groups.3) in
      then_does (flags_stepped at interleave_groups (f ∷ g ∷ p ∷ q ∷ []) (length streams))
      (λ h k. and_then (flags_stepped at concat_step (f ∷ p ∷ []) k) (λ i k. and_then (flags_stepped at concat_step (g ∷ q ∷ []) k) (λ j k.
      and_then (mixed at (stream_of i) (stream_of j) items (item_wires other) k) (λ u k. done (segments (stream_of h) u) k))))
      streams (λ l w. streams_at (stream_of w ∷ []) l ≡ Some (flags rs ∷ [])) Mixed groups
      (then_does (flags_stepped at concat_step (f ∷ p ∷ []) (length on))
      (λ i k. and_then (flags_stepped at concat_step (g ∷ q ∷ []) k) (λ j k. and_then (mixed at (stream_of i) (stream_of j) items (item_wires other) k) (λ u k. done (segments (stream_of h) u) k)))
      on (λ l w. streams_at (stream_of w ∷ []) l ≡ Some (flags ks ∷ [])) Mixed lefter
      (then_does (flags_stepped at concat_step (g ∷ q ∷ []) (length further))
      (λ j k. and_then (mixed at (stream_of i) (stream_of j) items (item_wires other) k) (λ u k. done (segments (stream_of h) u) k))
      further (λ l w. streams_at (stream_of w ∷ []) l ≡ Some (flags ls ∷ [])) Mixed righter
      (segments_makes all (stream_of h) (mixed at (stream_of i) (stream_of j) items (item_wires other) (length all)) t r there elements (all_interleaved (seq t) ns ms us vs r c.are d.are moved))))

  -- of any type the values of both, group by group
  pub mixed_makes : (f g : ℕ) (ns ms : List ℕ) (streams : Columns) (w other : Wires) (t : Ty) (us vs r : List Value) → BothFlags streams f g ns ms → Carries streams w t us
      → Carries streams other t vs → interleave ns ms us vs ≡ Some r → Makes streams t (mixed at f g w other (length streams)) r
  mixed_makes f g ns ms streams w other t us vs r grouped c d moved =
      let back = sym c.of_type in
      subst (λ u. Makes streams u (mixed at f g w other (length streams)) r) c.of_type
      (mixed_of f g ns ms streams w other us vs r grouped (subst (λ u. Carries streams w u us) back c) (subst (λ u. Carries streams other u vs) back d) moved)

  -- the same where both are in as many groups
  pub sides_make : (f g : ℕ) (streams : Columns) (w other : Wires) (t : Ty) (xs : Sides Value) → BothFlags streams f g (lengths (lefts xs)) (lengths (rights xs))
      → Carries streams w t (concatenation (lefts xs)) → Carries streams other t (concatenation (rights xs)) → Makes streams t (mixed at f g w other (length streams)) (alternated xs)
  sides_make f g streams w other t xs grouped c d =
      mixed_makes f g (lengths (lefts xs)) (lengths (rights xs)) streams w other t (concatenation (lefts xs)) (concatenation (rights xs)) (alternated xs) grouped c d (interleave_forth xs)
