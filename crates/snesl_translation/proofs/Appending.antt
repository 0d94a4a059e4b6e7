-- One sequence followed by another, over all instances.
use Rattle.std.specs.Prelude.{◌≡◌, ℕ, ◌+◌, List, [], ◌∷◌, ◌++◌, map, length, Some, option_map, refl}
use Rattle.std.proofs.Common.{sym, ap, ◌∙◌, subst, length-append, append_assoc}
use Rattle.std.proofs.Math.Path.{ap₂}
use Rattle.snesl_data.specs.declared.dialect.Dialect.{Dialect}
use Rattle.snesl_data.specs.Types.{Ty, seq}
use Rattle.snesl_data.specs.Values.{Value}
use Rattle.snesl_grammar.specs.declared.tree.operator.Operator.TheVariants.{Append}
use Rattle.flow_base.specs.Columns.{Columns}
use Rattle.flow_base.specs.Flags.{flags, concatenation, lengths}
use Rattle.flow_segment.specs.Rows.{Sides, lefts, rights, alternated}
use Rattle.flow_values.specs.Shapes.{elements_of}
use Rattle.flow_nodes.specs.functions.Lists.{append_flags as added}
use Rattle.flow_nodes.specs.functions.Decoded.{a_seq_of}
use Rattle.flow_nodes.specs.functions.Made.{one}
use Rattle.flow_nodes.proofs.OfFunctions.Options.{paired_map, lengths_map}
use Rattle.flow_nodes.proofs.OfFunctions.Encoded.{append_flags_makes}
use Rattle.flow_nodes.proofs.OfFunctions.ValueDecoding.{AllAre, elements_made, groups_made, list_values}
use Rattle.snesl_evaluation.specs.Answer.{Answer, gives, go_all}
use Rattle.snesl_evaluation.specs.Builtins.{sequence, binary_answer}
use Rattle.flow_nodes.specs.plans.Plans.{append_flags, streams_at}
use Rattle.snesl_translation.specs.Wires.{Wires, segments, stream_of, item_wires}
use Rattle.snesl_translation.specs.Makings.{done, and_then}
use Rattle.snesl_translation.specs.Moving.{flags_stepped, mixed}
use Rattle.snesl_translation.specs.Translation.{appended, binary_streams}
use Rattle.snesl_translation.specs.Carrying.{Carries, Makes, Goes}
use Rattle.snesl_translation.proofs.Carrying.{streams_joined, carried_on, flags_carry, items_carry}
use Rattle.snesl_translation.proofs.Doing.{Writes, then_does, flags_written, segments_makes}
use Rattle.snesl_translation.proofs.Mixing.{BothFlags, both_on, sides_make}
use Rattle.snesl_translation.proofs.Twins.{go_all_gives}
use Rattle.snesl_translation.proofs.Views.{both_from, seq_from}

-- Lists

-- the groups of both sides as one
abbrev pub both_sides : {A : Type 0} → List A × List A → List A
both_sides x = x.0 ++ x.1

abbrev sizes : {A : Type 0} → List A × List A → ℕ × ℕ
sizes x = (length x.0, length x.1)

abbrev plus : ℕ × ℕ → ℕ
plus p = p.0 + p.1

sums_are : {A : Type 0} (xs : Sides A) → map plus (map sizes xs) ≡ lengths (map both_sides xs)
sums_are [] = refl
sums_are (x ∷ xs) = ap₂ (λ n ns. n ∷ ns) (sym (length-append x.0 x.1)) (sums_are xs)

added_lengths : {A : Type 0} (xs : Sides A) → added (lengths (lefts xs)) (lengths (rights xs)) ≡ Some (lengths (map both_sides xs))
added_lengths xs =
    ap₂ (λ ns ms. added ns ms) (lengths_map (λ x. x.0) xs) (lengths_map (λ x. x.1) xs)
    ∙ ap (option_map (map plus)) (paired_map (λ x. length x.0) (λ x. length x.1) xs) ∙ ap Some (sums_are xs)

pub alternated_joined : {A : Type 0} (xs : Sides A) → alternated xs ≡ concatenation (map both_sides xs)
alternated_joined [] = refl
alternated_joined (x ∷ xs) = ap (λ l. x.0 ++ (x.1 ++ l)) (alternated_joined xs) ∙ sym (append_assoc x.0 x.1 (concatenation (map both_sides xs)))

-- Streams

-- the sequences of one side
abbrev pub left_sequences : Sides Value → List Value
left_sequences xs = map a_seq_of (lefts xs)

abbrev pub right_sequences : Sides Value → List Value
right_sequences xs = map a_seq_of (rights xs)

-- those of both, one followed by the other
abbrev pub all_sequences : Sides Value → List Value
all_sequences xs = map a_seq_of (map both_sides xs)

pub appended_makes : (at : ℕ) (streams : Columns) (u v : Wires) (t : Ty) (xs : Sides Value) → Carries streams u (seq t) (left_sequences xs) → Carries streams v (seq t) (right_sequences xs)
    → Makes streams (seq t) (appended at u v (length streams)) (all_sequences xs)
appended_makes at streams u v t xs c d =
    let Appended : Columns → Wires → Type 0 = λ l w. Carries l w (seq t) (all_sequences xs) in
    let f = stream_of u in
    let g = stream_of v in
    let ns = lengths (lefts xs) in
    let ms = lengths (rights xs) in
    let gs = map both_sides xs in
    let left_there : streams_at (f ∷ []) streams ≡ Some (flags ns ∷ []) = flags_carry streams u t (left_sequences xs) c ∙ ap (λ gs. Some (flags (lengths gs) ∷ [])) (elements_made (lefts xs)) in
    let right_there : streams_at (g ∷ []) streams ≡ Some (flags ms ∷ []) = flags_carry streams v t (right_sequences xs) d ∙ ap (λ gs. Some (flags (lengths gs) ∷ [])) (elements_made (rights xs)) in
    let both : BothFlags streams f g ns ms = record { left = left_there; right = right_there } in
    let there : streams_at (f ∷ g ∷ []) streams ≡ Some (flags ns ∷ flags ms ∷ []) = streams_joined (f ∷ []) (g ∷ []) streams (flags ns ∷ []) (flags ms ∷ []) left_there right_there in
    let groups : Writes streams (flags_stepped at append_flags (f ∷ g ∷ []) (length streams)) (flags (lengths gs)) =
    flags_written streams at append_flags (f ∷ g ∷ []) (flags ns ∷ flags ms ∷ []) (flags (lengths gs)) there (append_flags_makes ns ms ∙ ap (one flags) (added_lengths xs)) in
    let on = streams ++ groups.0 in
    let h = (flags_stepped at append_flags (f ∷ g ∷ []) (length streams)).given in
    let lefter : Carries on (item_wires u) t (concatenation (lefts xs)) =
    carried_on streams groups.0 (item_wires u) t (concatenation (lefts xs))
    (subst (λ gs. Carries streams (item_wires u) t (concatenation gs)) (elements_made (lefts xs)) (items_carry streams u t (left_sequences xs) c))
    in
    let righter : Carries on (item_wires v) t (concatenation (rights xs)) =
    carried_on streams groups.0 (item_wires v) t (concatenation (rights xs))
    (subst (λ gs. Carries streams (item_wires v) t (concatenation gs)) (elements_made (rights xs)) (items_carry streams v t (right_sequences xs) d))
    in
    let mix : Makes on t (mixed at f g (item_wires u) (item_wires v) (length on)) (alternated xs) =
    sides_make at f g on (item_wires u) (item_wires v) t xs (both_on streams groups.0 f g ns ms both) lefter righter in
    let back : gs ≡ map elements_of (all_sequences xs) = sym (elements_made gs) in
    let elements : Makes on t (mixed at f g (item_wires u) (item_wires v) (length on)) (concatenation (map elements_of (all_sequences xs))) =
    subst (λ l. Makes on t (mixed at f g (item_wires u) (item_wires v) (length on)) l) (alternated_joined xs ∙ ap concatenation back) mix in
    let are : AllAre (seq t) (all_sequences xs) = groups_made t gs (subst (AllAre t) (alternated_joined xs) mix.3.are) in
    then_does (flags_stepped at append_flags (f ∷ g ∷ []) (length streams))
    (λ h k. and_then (mixed at f g (item_wires u) (item_wires v) k) (λ w k. done (segments (stream_of h) w) k))
    streams (λ l w. streams_at (stream_of w ∷ []) l ≡ Some (flags (lengths gs) ∷ [])) Appended groups
    (segments_makes on (stream_of h) (mixed at f g (item_wires u) (item_wires v) (length on)) t (all_sequences xs) (groups.3 ∙ ap (λ gs. Some (flags (lengths gs) ∷ [])) back) elements are)

-- Answers

-- the operands of `++`
abbrev pub both_sequences : List Value × List Value → Value × Value
both_sequences x = (a_seq_of x.0, a_seq_of x.1)

left_is : (xs : Sides Value) → map (λ p. p.0) (map both_sequences xs) ≡ left_sequences xs
left_is [] = refl
left_is (x ∷ xs) = ap (λ l. a_seq_of x.0 ∷ l) (left_is xs)

right_is : (xs : Sides Value) → map (λ p. p.1) (map both_sequences xs) ≡ right_sequences xs
right_is [] = refl
right_is (x ∷ xs) = ap (λ l. a_seq_of x.1 ∷ l) (right_is xs)

all_is : (xs : Sides Value) → map (λ x. a_seq_of (both_sides x)) xs ≡ all_sequences xs
all_is [] = refl
all_is (x ∷ xs) = ap (λ l. a_seq_of (both_sides x) ∷ l) (all_is xs)

module _ (dialect : Dialect) (at : ℕ) where
  append_gives : (x : List Value × List Value) → binary_answer dialect at Append (a_seq_of x.0) (a_seq_of x.1) ≡ gives (a_seq_of (both_sides x))
  append_gives x = ap₂ (λ vs ws. gives (sequence (vs ++ ws))) (list_values x.0) (list_values x.1)

  -- `++` between its operands
  pub append_goes : (streams : Columns) (u v : Wires) (t : Ty) (ps : List (Value × Value)) → Carries streams u (seq t) (map (λ p. p.0) ps) → Carries streams v (seq t) (map (λ p. p.1) ps)
      → Goes streams (seq t) (binary_streams dialect at Append u v (length streams)) (go_all (λ p. binary_answer dialect at Append p.0 p.1) ps)
  append_goes streams u v t ps c d =
      let s = both_from (seq t) (seq t) a_seq_of a_seq_of (seq_from t) (seq_from t) ps c.are d.are in
      let xs = s.0 in
      let f : Value × Value → Answer Value = λ p. binary_answer dialect at Append p.0 p.1 in
      let answer : go_all f ps ≡ gives (all_sequences xs) = ap (go_all f) s.1 ∙ go_all_gives both_sequences f (λ x. a_seq_of (both_sides x)) append_gives xs ∙ ap gives (all_is xs) in
      let left : Carries streams u (seq t) (left_sequences xs) = subst (Carries streams u (seq t)) (ap (map (λ p. p.0)) s.1 ∙ left_is xs) c in
      let right : Carries streams v (seq t) (right_sequences xs) = subst (Carries streams v (seq t)) (ap (map (λ p. p.1)) s.1 ∙ right_is xs) d in
      subst (Goes streams (seq t) (binary_streams dialect at Append u v (length streams))) (sym answer) (appended_makes at streams u v t xs left right)
