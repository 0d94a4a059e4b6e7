-- The rows of the nodes over flags as functions.
use Rattle.std.specs.Prelude.{◌≡◌, ℕ, zero, suc, ◌+◌, Bool, true, false, ◌==◌, List, [], ◌∷◌, ◌++◌, map, length, sum, sum_by, replicate, Option, Some, refl}
use Rattle.std.proofs.Common.{arith, sym, ◌∙◌, ap, map-id}
use Rattle.std.proofs.Math.Path.{ap₂}
use Rattle.std.proofs.lemmas.List.Sums.{sum_by-cons}
use Rattle.std.proofs.lemmas.Bool.{eqb-true, eq-eqb}
use Rattle.flow_messages.specs.Cells.{Cell, flag}
use Rattle.flow_base.specs.Lists.{Lists}
use Rattle.flow_base.specs.Flags.{F, T, elements, flags, concatenation, lengths}
use Rattle.flow_base.specs.Columns.{Columns, columns, RowOf}
use Rattle.snesl_data.specs.operators.Operators.{same_truth}
use Rattle.flow_segment.specs.Rows.{Sides, lefts, rights, alternated, kept_flags, pack_groups_reads, pack_groups_writes, PackGroupsRow}
use Rattle.flow_segment.specs.Rows.{flag_of_bool_reads, flag_of_bool_writes, FlagOfBoolRow, same_flags_reads, SameFlagsRow, concat_flags_reads}
use Rattle.flow_segment.specs.Rows.{concat_flags_writes, ConcatFlagsRow, part_flags_reads, part_flags_writes, PartFlagsRow, the_check_reads}
use Rattle.flow_segment.specs.Rows.{TheCheckRow, append_flags_reads, append_flags_writes, AppendFlagsRow, interleave_groups_reads}
use Rattle.flow_segment.specs.Rows.{InterleaveGroupsRow}
use Rattle.flow_nodes.specs.functions.Lists.{each, same_lists, paired, cut, kept}
use Rattle.flow_nodes.specs.functions.Decoded.{numbers, truth_in, truths}
use Rattle.flow_nodes.specs.functions.Made.{pack_groups_made, flag_of_bool_made, same_flags_made, concat_flags_made, part_flags_made, the_check_made, append_flags_made, interleave_groups_made}
use Rattle.flow_nodes.specs.functions.RowsAreFunctions.{IsFunction}
use Rattle.flow_nodes.proofs.OfFunctions.Options.{bind_gives, map_gives, only_if_gives, only_if_true, each_forth, each_back, paired_forth, paired_back, cut_forth}
use Rattle.flow_nodes.proofs.OfFunctions.Options.{cut_back, map_map, interleave_forth, interleave_back, same_lists_forth, same_lists_back}
use Rattle.flow_nodes.proofs.OfFunctions.Decoding.{numbers_forth, numbers_back, truths_forth, truths_back}

-- a row of instances is the function that gives just what they write
pub function_of : {X : Type 0} (reads writes : X → Columns) (made : Columns → Option Columns) (inputs outputs : ℕ) → ((x : X) → made (reads x) ≡ Some (writes x)) →
    ((i : Lists Cell) (o : Columns) → made (columns inputs i) ≡ Some o → (x : X) × (columns inputs i ≡ reads x) × (o ≡ writes x)) → IsFunction (RowOf reads writes inputs outputs) made inputs outputs
function_of reads writes made inputs outputs forth back i o = (
  λ h. ap made h.1 ∙ forth h.0 ∙ ap Some (sym h.2),
  λ e. back i (columns outputs o) e,
)

pub four : {f g p q f' g' p' q' : List Cell} → f ≡ f' → g ≡ g' → p ≡ p' → q ≡ q' → f ∷ g ∷ p ∷ q ∷ [] ≡ f' ∷ g' ∷ p' ∷ q' ∷ []
four a b c d = cc

-- the flags of a number are one more than the number
elements_length : (n : ℕ) (l : List Cell) → length (elements n (T ∷ l)) ≡ suc n + length l
elements_length zero l = omega arith
elements_length (suc n) l = let e = elements_length n l in omega arith

flags_length : (ns : List ℕ) → length (flags ns) ≡ sum_by suc ns
flags_length [] = refl
flags_length (n ∷ ns) = elements_length n (flags ns) ∙ ap (λ k. suc n + k) (flags_length ns) ∙ sym (sum_by-cons suc n ns)

elements_append : (n : ℕ) (xs ys : List Cell) → elements n (T ∷ xs) ++ ys ≡ elements n (T ∷ (xs ++ ys))
elements_append zero xs ys = refl
elements_append (suc n) xs ys = ap (λ l. F ∷ l) (elements_append n xs ys)

flags_append : (ns ms : List ℕ) → flags (ns ++ ms) ≡ flags ns ++ flags ms
flags_append [] ms = refl
flags_append (n ∷ ns) ms = ap (λ l. elements n (T ∷ l)) (flags_append ns ms) ∙ sym (elements_append n (flags ns) (flags ms))

pub flags_joined : (groups : List (List ℕ)) → flags (concatenation groups) ≡ concatenation (map flags groups)
flags_joined [] = refl
flags_joined (ns ∷ groups) = flags_append ns (concatenation groups) ∙ ap (λ l. flags ns ++ l) (flags_joined groups)

-- PartFlags

segments_lengths : (groups : List (List ℕ)) → lengths (map flags groups) ≡ map (sum_by suc) groups
segments_lengths [] = refl
segments_lengths (ns ∷ groups) = ap₂ (λ n ns. n ∷ ns) (flags_length ns) (segments_lengths groups)

segments_cut : (groups : List (List ℕ)) → cut (map (sum_by suc) groups) (flags (concatenation groups)) ≡ Some (map flags groups)
segments_cut groups = ap₂ cut (sym (segments_lengths groups)) (flags_joined groups) ∙ cut_forth (map flags groups)

each_numbers : (groups : List (List ℕ)) → each numbers (map flags groups) ≡ Some groups
each_numbers groups = each_forth numbers flags (λ ns. ns) numbers_forth groups ∙ ap Some (map-id groups)

each_numbers_back : (segments : List (List Cell)) (parts : List (List ℕ)) → each numbers segments ≡ Some parts → segments ≡ map flags parts
each_numbers_back segments parts e = let g = each_back numbers flags (λ ns. ns) (λ l ns e. (ns, numbers_back l ns e, refl)) segments parts e in g.1 ∙ ap (map flags) (sym (g.2 ∙ map-id g.0))

pub same_numbers : (ns : List ℕ) → same_lists ◌==◌ ns ns ≡ true
same_numbers ns = same_lists_forth ◌==◌ (λ n. eq-eqb n n refl) ns

pub same_numbers_back : (ns ms : List ℕ) → same_lists ◌==◌ ns ms ≡ true → ns ≡ ms
same_numbers_back ns ms e = same_lists_back ◌==◌ eqb-true ns ms e

part_flags_forth : (groups : List (List ℕ)) → part_flags_made (part_flags_reads groups) ≡ Some (part_flags_writes groups)
part_flags_forth groups = rw (numbers_forth (map (sum_by suc) groups), segments_cut groups, each_numbers groups, numbers_forth (map sum groups), same_numbers (map sum groups)) refl

part_flags_back : (g b f : List Cell) (o : Columns) → part_flags_made (g ∷ b ∷ f ∷ []) ≡ Some o → (groups : List (List ℕ)) × (g ∷ b ∷ f ∷ [] ≡ part_flags_reads groups) × (o ≡ part_flags_writes groups)
part_flags_back g b f o e =
    let s1 = bind_gives (numbers g) _ e in
    let s2 = bind_gives (cut s1.0 b) _ s1.2 in
    let s3 = bind_gives (each numbers s2.0) _ s2.2 in
    let s4 = bind_gives (numbers f) _ s3.2 in
    let s5 = only_if_gives _ _ s4.2 in
    let parts = s3.0 in
    let segments = each_numbers_back s2.0 parts s3.1 in
    let c = cut_back s1.0 b s2.0 s2.1 in
    let g_is = numbers_back g s1.0 s1.1 ∙ ap flags (c.0 ∙ ap lengths segments ∙ segments_lengths parts) in
    let b_is = c.1 ∙ ap concatenation segments ∙ sym (flags_joined parts) in
    let f_is = numbers_back f s4.0 s4.1 ∙ ap flags (sym (same_numbers_back (map sum parts) s4.0 s5.0)) in
    (parts, ap₂ (λ g l. g ∷ l) g_is (ap₂ (λ b f. b ∷ f ∷ []) b_is f_is), s5.1)

pub part_flags_row : IsFunction PartFlagsRow part_flags_made 3 2
part_flags_row = function_of part_flags_reads part_flags_writes part_flags_made 3 2 part_flags_forth (λ i. part_flags_back (i 0) (i 1) (i 2))

-- PackGroups

kept_is : (xs : List (Bool × ℕ)) → flags (kept xs) ≡ kept_flags xs
kept_is [] = refl
kept_is ((true, n) ∷ xs) = ap (λ l. elements n (T ∷ l)) (kept_is xs)
kept_is ((false, n) ∷ xs) = kept_is xs

pack_groups_forth : (xs : List (Bool × ℕ)) → pack_groups_made (pack_groups_reads xs) ≡ Some (pack_groups_writes xs)
pack_groups_forth xs = rw (each_forth truth_in (λ x. flag x.0) (λ x. x.0) (λ x. refl) xs, numbers_forth (map (λ x. x.1) xs), paired_forth xs) (ap (λ l. Some (l ∷ [])) (kept_is xs))

pack_groups_back : (b f : List Cell) (o : Columns) → pack_groups_made (b ∷ f ∷ []) ≡ Some o → (xs : List (Bool × ℕ)) × (b ∷ f ∷ [] ≡ pack_groups_reads xs) × (o ≡ pack_groups_writes xs)
pack_groups_back b f o e =
    let s0 = map_gives _ _ e in
    let s1 = bind_gives (truths b) _ s0.1 in
    let s2 = bind_gives (numbers f) _ s1.2 in
    let s3 = map_gives kept (paired s1.0 s2.0) s2.2 in
    let p = paired_back s1.0 s2.0 s3.0 s3.1 in (
      s3.0,
      ap₂ (λ b f. b ∷ f ∷ []) (truths_back b s1.0 s1.1 ∙ ap (map flag) p.0 ∙ map_map flag (λ x. x.0) s3.0)
          (numbers_back f s2.0 s2.1 ∙ ap flags p.1),
      s0.2 ∙ ap (λ l. l ∷ []) (ap flags s3.2 ∙ kept_is s3.0),
    )

pub pack_groups_row : IsFunction PackGroupsRow pack_groups_made 2 1
pack_groups_row = function_of pack_groups_reads pack_groups_writes pack_groups_made 2 1 pack_groups_forth (λ i. pack_groups_back (i 0) (i 1))

-- FlagOfBool

flag_of_bool_forth : (bs : List Bool) → flag_of_bool_made (flag_of_bool_reads bs) ≡ Some (flag_of_bool_writes bs)
flag_of_bool_forth bs = rw (truths_forth bs) refl

flag_of_bool_back : (b : List Cell) (o : Columns) → flag_of_bool_made (b ∷ []) ≡ Some o → (bs : List Bool) × (b ∷ [] ≡ flag_of_bool_reads bs) × (o ≡ flag_of_bool_writes bs)
flag_of_bool_back b o e =
    let s0 = map_gives _ (truths b) e in
    (s0.0, ap (λ l. l ∷ []) (truths_back b s0.0 s0.1), s0.2)

pub flag_of_bool_row : IsFunction FlagOfBoolRow flag_of_bool_made 1 1
flag_of_bool_row = function_of flag_of_bool_reads flag_of_bool_writes flag_of_bool_made 1 1 flag_of_bool_forth (λ i. flag_of_bool_back (i 0))

-- SameFlags

truth_same : (b : Bool) → same_truth b b ≡ true
truth_same true = refl
truth_same false = refl

truth_same_back : (b c : Bool) → same_truth b c ≡ true → b ≡ c
truth_same_back true true e = refl
truth_same_back false false e = refl
truth_same_back true false e = absurd (cc)
truth_same_back false true e = absurd (cc)

pub same_flags_forth : (bs : List Bool) → same_flags_made (same_flags_reads bs) ≡ Some []
same_flags_forth bs = rw (truths_forth bs, same_lists_forth same_truth truth_same bs) refl

same_flags_back : (f g : List Cell) (o : Columns) → same_flags_made (f ∷ g ∷ []) ≡ Some o → (bs : List Bool) × (f ∷ g ∷ [] ≡ same_flags_reads bs) × (o ≡ [])
same_flags_back f g o e =
    let s1 = bind_gives (truths f) _ e in
    let s2 = bind_gives (truths g) _ s1.2 in
    let s3 = only_if_gives _ _ s2.2 in
    (s1.0, ap₂ (λ f g. f ∷ g ∷ []) (truths_back f s1.0 s1.1) (truths_back g s2.0 s2.1 ∙ ap (map flag) (sym (same_lists_back same_truth truth_same_back s1.0 s2.0 s3.0))), s3.1)

pub same_flags_row : IsFunction SameFlagsRow same_flags_made 2 0
same_flags_row = function_of same_flags_reads (λ _. []) same_flags_made 2 0 same_flags_forth (λ i. same_flags_back (i 0) (i 1))

-- ConcatFlags

concat_flags_forth : (groups : List (List ℕ)) → concat_flags_made (concat_flags_reads groups) ≡ Some (concat_flags_writes groups)
concat_flags_forth groups = rw (numbers_forth (lengths groups), numbers_forth (concatenation groups), cut_forth groups) refl

concat_flags_back : (f g : List Cell) (o : Columns) → concat_flags_made (f ∷ g ∷ []) ≡ Some o → (groups : List (List ℕ)) × (f ∷ g ∷ [] ≡ concat_flags_reads groups) × (o ≡ concat_flags_writes groups)
concat_flags_back f g o e =
    let s0 = map_gives _ _ e in
    let s1 = bind_gives (numbers f) _ s0.1 in
    let s2 = bind_gives (numbers g) _ s1.2 in
    let s3 = map_gives (map sum) (cut s1.0 s2.0) s2.2 in
    let c = cut_back s1.0 s2.0 s3.0 s3.1 in
    (s3.0, ap₂ (λ f g. f ∷ g ∷ []) (numbers_back f s1.0 s1.1 ∙ ap flags c.0) (numbers_back g s2.0 s2.1 ∙ ap flags c.1), s0.2 ∙ ap (λ ns. flags ns ∷ []) s3.2)

pub concat_flags_row : IsFunction ConcatFlagsRow concat_flags_made 2 1
concat_flags_row = function_of concat_flags_reads concat_flags_writes concat_flags_made 2 1 concat_flags_forth (λ i. concat_flags_back (i 0) (i 1))

-- TheCheck

length_copies : {A : Type 0} (n : ℕ) (x : A) → length (replicate n x) ≡ n
length_copies zero x = refl
length_copies (suc n) x = ap suc (length_copies n x)

pub the_check_forth : (n : ℕ) → the_check_made (the_check_reads n) ≡ Some []
the_check_forth n = rw (numbers_forth (replicate n 1)) (only_if_true _ [] (ap (λ m. same_lists ◌==◌ (replicate n 1) (replicate m 1)) (length_copies n 1) ∙ same_numbers (replicate n 1)))

the_check_back : (f : List Cell) (o : Columns) → the_check_made (f ∷ []) ≡ Some o → (n : ℕ) × (f ∷ [] ≡ the_check_reads n) × (o ≡ [])
the_check_back f o e =
    let s1 = bind_gives (numbers f) _ e in
    let s2 = only_if_gives _ _ s1.2 in
    let n = length s1.0 in
    (n, ap (λ l. l ∷ []) (numbers_back f s1.0 s1.1 ∙ ap flags (same_numbers_back s1.0 (replicate n 1) s2.0)), s2.1)

pub the_check_row : IsFunction TheCheckRow the_check_made 1 0
the_check_row = function_of the_check_reads (λ _. []) the_check_made 1 0 the_check_forth (λ i. the_check_back (i 0))

-- AppendFlags

append_flags_forth : (xs : List (ℕ × ℕ)) → append_flags_made (append_flags_reads xs) ≡ Some (append_flags_writes xs)
append_flags_forth xs = rw (numbers_forth (map (λ x. x.0) xs), numbers_forth (map (λ x. x.1) xs), paired_forth xs) refl

append_flags_back : (f g : List Cell) (o : Columns) → append_flags_made (f ∷ g ∷ []) ≡ Some o → (xs : List (ℕ × ℕ)) × (f ∷ g ∷ [] ≡ append_flags_reads xs) × (o ≡ append_flags_writes xs)
append_flags_back f g o e =
    let s0 = map_gives _ _ e in
    let s1 = bind_gives (numbers f) _ s0.1 in
    let s2 = bind_gives (numbers g) _ s1.2 in
    let s3 = map_gives _ (paired s1.0 s2.0) s2.2 in
    let p = paired_back s1.0 s2.0 s3.0 s3.1 in
    (s3.0, ap₂ (λ f g. f ∷ g ∷ []) (numbers_back f s1.0 s1.1 ∙ ap flags p.0) (numbers_back g s2.0 s2.1 ∙ ap flags p.1), s0.2 ∙ ap (λ ns. flags ns ∷ []) s3.2)

pub append_flags_row : IsFunction AppendFlagsRow append_flags_made 2 1
append_flags_row = function_of append_flags_reads append_flags_writes append_flags_made 2 1 append_flags_forth (λ i. append_flags_back (i 0) (i 1))

-- InterleaveGroups

interleave_groups_forth : (xs : Sides ℕ) → interleave_groups_made (interleave_groups_reads xs) ≡ Some (flags (alternated xs) ∷ [])
interleave_groups_forth xs =
    rw (
      numbers_forth (lengths (lefts xs)),
      numbers_forth (lengths (rights xs)),
      numbers_forth (concatenation (lefts xs)),
      numbers_forth (concatenation (rights xs)),
      interleave_forth xs,
    ) refl

interleave_groups_back : (f g p q : List Cell) (o : Columns) → interleave_groups_made (f ∷ g ∷ p ∷ q ∷ []) ≡ Some o → (xs : Sides ℕ)
    × (f ∷ g ∷ p ∷ q ∷ [] ≡ interleave_groups_reads xs) × (o ≡ flags (alternated xs) ∷ [])
interleave_groups_back f g p q o e =
    let s0 = map_gives _ _ e in
    let s1 = bind_gives (numbers f) _ s0.1 in
    let s2 = bind_gives (numbers g) _ s1.2 in
    let s3 = bind_gives (numbers p) _ s2.2 in
    let s4 = bind_gives (numbers q) _ s3.2 in
    let h = interleave_back s1.0 s2.0 s3.0 s4.0 s0.0 s4.2 in
    let f_is = numbers_back f s1.0 s1.1 ∙ ap flags h.ns_are in
    let g_is = numbers_back g s2.0 s2.1 ∙ ap flags h.ms_are in
    let p_is = numbers_back p s3.0 s3.1 ∙ ap flags h.us_are in
    let q_is = numbers_back q s4.0 s4.1 ∙ ap flags h.vs_are in
    (h.sides, four f_is g_is p_is q_is, s0.2 ∙ ap (λ ns. flags ns ∷ []) h.r_is)

pub interleave_groups_row : IsFunction InterleaveGroupsRow interleave_groups_made 4 1
interleave_groups_row = function_of interleave_groups_reads (λ xs. flags (alternated xs) ∷ []) interleave_groups_made 4 1 interleave_groups_forth (λ i. interleave_groups_back (i 0) (i 1) (i 2) (i 3))
