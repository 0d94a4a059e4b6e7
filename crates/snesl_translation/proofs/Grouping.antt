-- Sequences by the groups of their elements: flags of the lengths, and the elements of all.
use Rattle.std.specs.Prelude.{◌≡◌, ℕ, List, [], ◌∷◌, map, length, Option, Some, option_map, refl}
use Rattle.std.proofs.Common.{sym, ap, ◌∙◌, subst}
use Rattle.snesl_data.specs.Types.{Ty, vec, seq}
use Rattle.snesl_data.specs.Values.{Value}
use Rattle.flow_base.specs.Columns.{Columns}
use Rattle.flow_base.specs.Flags.{flags, concatenation, lengths}
use Rattle.flow_values.specs.Shapes.{elements_of}
use Rattle.flow_nodes.specs.functions.Lists.{bind, each}
use Rattle.flow_nodes.specs.functions.Decoded.{a_seq_of}
use Rattle.flow_nodes.proofs.OfFunctions.ValueDecoding.{AllAre, all_cons, all_apart, all_split, elements_made, groups_made}
use Rattle.flow_nodes.specs.plans.Plans.{streams_at}
use Rattle.snesl_translation.specs.Wires.{Wires, segments, stream_of, item_wires}
use Rattle.snesl_translation.specs.Carrying.{Carries}
use Rattle.snesl_translation.proofs.Carrying.{flags_carry, items_carry, segments_carry}
use Rattle.snesl_translation.proofs.Views.{all_from, seq_from, a_vec_of}

-- of what is carried as sequences, the groups
pub record Grouped (streams : Columns) (u : Wires) (t : Ty) (vs : List Value) : Type 0 where
  pub groups : List (List Value)
  pub view : vs ≡ map a_seq_of groups
  pub flags_there : streams_at (stream_of u ∷ []) streams ≡ Some (flags (lengths groups) ∷ [])
  pub items : Carries streams (item_wires u) t (concatenation groups)

pub grouped_from : (streams : Columns) (u : Wires) (t : Ty) (vs : List Value) → Carries streams u (seq t) vs → Grouped streams u t vs
grouped_from streams u t vs c =
    let all = all_from (seq t) a_seq_of (seq_from t) vs c.are in
    let same : map elements_of vs ≡ all.0 = ap (map elements_of) all.1 ∙ elements_made all.0 in
    record {
      groups = all.0;
      view = all.1;
      flags_there = flags_carry streams u t vs c ∙ ap (λ gs. Some (flags (lengths gs) ∷ [])) same;
      items = subst (λ gs. Carries streams (item_wires u) t (concatenation gs)) same (items_carry streams u t vs c);
    }

pub grouped_carry : (streams : Columns) (f : ℕ) (items : Wires) (t : Ty) (gs : List (List Value)) → streams_at (f ∷ []) streams
    ≡ Some (flags (lengths gs) ∷ []) → Carries streams items t (concatenation gs)
    → Carries streams (segments f items) (seq t) (map a_seq_of gs)
grouped_carry streams f items t gs there c =
    let same : gs ≡ map elements_of (map a_seq_of gs) = sym (elements_made gs) in
    segments_carry streams f items t (map a_seq_of gs) (there ∙ ap (λ gs. Some (flags (lengths gs) ∷ [])) same)
    (subst (λ gs. Carries streams items t (concatenation gs)) same c) (groups_made t gs c.are)

pub each_lengths : {A B : Type 0} (f : ℕ → Option B) (gs : List (List A)) → each f (lengths gs) ≡ each (λ g. f (length g)) gs
each_lengths f [] = refl
each_lengths f (g ∷ gs) = ap (λ o. bind (f (length g)) (λ b. option_map (λ bs. b ∷ bs) o)) (each_lengths f gs)

pub each_some : {A : Type 0} (xs : List A) → each (λ x. Some x) xs ≡ Some xs
each_some [] = refl
each_some (x ∷ xs) = ap (option_map (λ l. x ∷ l)) (each_some xs)

-- vectors and sequences of the same elements
pub vectors_of_groups : (t : Ty) (gs : List (List Value)) → AllAre t (concatenation gs) → AllAre (vec t) (map a_vec_of gs)
vectors_of_groups t [] are = refl
vectors_of_groups t (g ∷ gs) are = let s = all_apart t g (concatenation gs) are in all_cons (vec t) (a_vec_of g) (map a_vec_of gs) s.0 (vectors_of_groups t gs s.1)

pub groups_of_vectors : (t : Ty) (gs : List (List Value)) → AllAre (vec t) (map a_vec_of gs) → AllAre (seq t) (map a_seq_of gs)
groups_of_vectors t [] are = refl
groups_of_vectors t (g ∷ gs) are = let s = all_split (vec t) (a_vec_of g) (map a_vec_of gs) are in all_cons (seq t) (a_seq_of g) (map a_seq_of gs) s.0 (groups_of_vectors t gs s.1)
