-- The rows: what each transducer reads and writes, in whole instances.
use Rattle.std.specs.Prelude.{ℕ, ◌≡◌, ◌+◌, true, false, Bool, List, [], ◌∷◌, ◌++◌, map, sum, length, replicate, suc, sum_by}
use Rattle.flow_messages.specs.Cells.{Cell, flag}
use Rattle.flow_messages.specs.declared.message.Kind.{Kind}
use Rattle.flow_base.specs.Lists.{Lists}
use Rattle.flow_base.specs.Flags.{T, elements, flags, concatenation, lengths}
use Rattle.flow_base.specs.Ranges.{AllOf}
use Rattle.flow_base.specs.Columns.{Columns, RowOf}

-- Dist

-- each item as often as the number at its place
abbrev pub repeated : List ℕ → List Cell → List Cell
repeated (n ∷ ns) (x ∷ a) = replicate n x ++ repeated ns a
repeated _ _ = []

-- a are items of the kind, f are flags of as many numbers, and r is each item as often as its number
pub record DistRow (kind : Kind) (a f r : List Cell) : Type 0 where
  pub ns : List ℕ
  pub as_many : length ns ≡ length a
  pub of_kind : AllOf kind a
  pub segments_are : f ≡ flags ns
  pub written : r ≡ repeated ns a

-- Pack

-- truth values, each with an item
abbrev pub Pairs : Type 0
Pairs = List (Bool × Cell)

-- the items of the pairs
abbrev pub pair_items : Pairs → List Cell
pair_items xs = map (λ x. x.1) xs

-- what pairs read: the truth values and the items
abbrev pub pack_reads : Pairs → Columns
pack_reads xs = map (λ x. flag x.0) xs ∷ pair_items xs ∷ []

-- the items whose truth values are true
abbrev pub items_kept : Pairs → List Cell
items_kept [] = []
items_kept ((true, x) ∷ xs) = x ∷ items_kept xs
items_kept ((false, x) ∷ xs) = items_kept xs

-- pairs whose items are of the kind are read, and the items are written whose truth values are true
abbrev pub PackRow : Kind → Lists Cell → Lists Cell → Type 0
PackRow kind i o = RowOf {X = (xs : Pairs) × AllOf kind (pair_items xs)} (λ x. pack_reads x.0) (λ x. items_kept x.0 ∷ []) 2 1 i o

-- PackGroups

-- truth values, and the flags of as many segments
abbrev pub pack_groups_reads : List (Bool × ℕ) → Columns
pack_groups_reads xs = map (λ x. flag x.0) xs ∷ flags (map (λ x. x.1) xs) ∷ []

-- the flags of the segments whose truth values are true
abbrev pub kept_flags : List (Bool × ℕ) → List Cell
kept_flags [] = []
kept_flags ((true, n) ∷ xs) = elements n (T ∷ kept_flags xs)
kept_flags ((false, n) ∷ xs) = kept_flags xs

-- these flags, at the only output
abbrev pub pack_groups_writes : List (Bool × ℕ) → Columns
pack_groups_writes xs = kept_flags xs ∷ []

-- truth values and segments are read, and the segments are written whose truth values are true
abbrev pub PackGroupsRow : Lists Cell → Lists Cell → Type 0
PackGroupsRow i o = RowOf pack_groups_reads pack_groups_writes 2 1 i o

-- FlagOfBool

-- 1 for true, 0 for false
abbrev pub one_if : Bool → ℕ
one_if true = 1
one_if false = 0

-- truth values
abbrev pub flag_of_bool_reads : List Bool → Columns
flag_of_bool_reads truths = map flag truths ∷ []

-- the flags of a segment of one element for true, and of an empty one for false
abbrev pub flag_of_bool_writes : List Bool → Columns
flag_of_bool_writes truths = flags (map one_if truths) ∷ []

-- truth values are read, and a segment is written for each
abbrev pub FlagOfBoolRow : Lists Cell → Lists Cell → Type 0
FlagOfBoolRow i o = RowOf flag_of_bool_reads flag_of_bool_writes 1 1 i o

-- SameFlags

-- flags, and the same flags
abbrev pub same_flags_reads : List Bool → Columns
same_flags_reads bs = map flag bs ∷ map flag bs ∷ []

-- the same flags are read twice, and nothing is written
abbrev pub SameFlagsRow : Lists Cell → Lists Cell → Type 0
SameFlagsRow i o = RowOf same_flags_reads (λ _. []) 2 0 i o

-- ConcatFlags

-- the flags of outer segments, and those of the inner ones, as many as the outer ones have elements
abbrev pub concat_flags_reads : List (List ℕ) → Columns
concat_flags_reads groups = flags (lengths groups) ∷ flags (concatenation groups) ∷ []

-- for each outer segment the flags of all elements of its inner ones
abbrev pub concat_flags_writes : List (List ℕ) → Columns
concat_flags_writes groups = flags (map sum groups) ∷ []

-- outer and inner segments are read, and the inner ones of each outer one are written as one
abbrev pub ConcatFlagsRow : Lists Cell → Lists Cell → Type 0
ConcatFlagsRow i o = RowOf concat_flags_reads concat_flags_writes 2 1 i o

-- PartFlags

-- The truth values of a segment are given as numbers: for each, so many false and then a true, which as cells are the
-- flags of the number. What segments read: flags of how many truth values each has, these, and flags of how many are
-- false.
abbrev pub part_flags_reads : List (List ℕ) → Columns
part_flags_reads groups = flags (map (sum_by suc) groups) ∷ flags (concatenation groups) ∷ flags (map sum groups) ∷ []

-- what they write: flags of how many are true, and those of the numbers of false before each true
abbrev pub part_flags_writes : List (List ℕ) → Columns
part_flags_writes groups = flags (lengths groups) ∷ flags (concatenation groups) ∷ []

-- segments are read that are empty or end in a true, and their parts are written
abbrev pub PartFlagsRow : Lists Cell → Lists Cell → Type 0
PartFlagsRow i o = RowOf part_flags_reads part_flags_writes 3 2 i o

-- TheCheck

-- the flags of n segments of one element
abbrev pub the_check_reads : ℕ → Columns
the_check_reads n = flags (replicate n 1) ∷ []

-- segments of one element are read, and nothing is written
abbrev pub TheCheckRow : Lists Cell → Lists Cell → Type 0
TheCheckRow i o = RowOf the_check_reads (λ _. []) 1 0 i o

-- AppendFlags

-- the flags of the first segments, and those of the second ones
abbrev pub append_flags_reads : List (ℕ × ℕ) → Columns
append_flags_reads xs = flags (map (λ x. x.0) xs) ∷ flags (map (λ x. x.1) xs) ∷ []

-- for each pair the flags of the elements of both
abbrev pub append_flags_writes : List (ℕ × ℕ) → Columns
append_flags_writes xs = flags (map (λ x. x.0 + x.1) xs) ∷ []

-- pairs of segments are read, and for each pair a segment of the elements of both is written
abbrev pub AppendFlagsRow : Lists Cell → Lists Cell → Type 0
AppendFlagsRow i o = RowOf append_flags_reads append_flags_writes 2 1 i o

-- Interleave

-- pairs of lists: a left one and a right one
abbrev pub Sides : Type 0 → Type 0
Sides A = List (List A × List A)

-- the left lists
abbrev pub lefts : {A : Type 0} → Sides A → List (List A)
lefts xs = map (λ x. x.0) xs

-- the right lists
abbrev pub rights : {A : Type 0} → Sides A → List (List A)
rights xs = map (λ x. x.1) xs

-- the first of the left, the first of the right, the second of the left, and so on, joined
abbrev pub alternated : {A : Type 0} → Sides A → List A
alternated [] = []
alternated ((u, v) ∷ xs) = u ++ (v ++ alternated xs)

-- the items of all these lists are of the kind
abbrev pub AllOfSides : Kind → Sides Cell → Type 0
AllOfSides kind [] = Unit {0}
AllOfSides kind ((u, v) ∷ xs) = AllOf kind u × AllOf kind v × AllOfSides kind xs

-- what pairs of lists of items read: the flags of both sides, and the items of both
abbrev pub interleave_reads : Sides Cell → Columns
interleave_reads xs = flags (lengths (lefts xs)) ∷ flags (lengths (rights xs)) ∷ concatenation (lefts xs) ∷ concatenation (rights xs) ∷ []

-- pairs of lists of items of the kind are read, and their lists are written alternately
abbrev pub InterleaveRow : Kind → Lists Cell → Lists Cell → Type 0
InterleaveRow kind i o = RowOf {X = (xs : Sides Cell) × AllOfSides kind xs} (λ x. interleave_reads x.0) (λ x. alternated x.0 ∷ []) 4 1 i o

-- InterleaveGroups

-- what pairs of lists of numbers read: the flags of both sides, and those of the numbers of both
abbrev pub interleave_groups_reads : Sides ℕ → Columns
interleave_groups_reads xs = flags (lengths (lefts xs)) ∷ flags (lengths (rights xs)) ∷ flags (concatenation (lefts xs)) ∷ flags (concatenation (rights xs)) ∷ []

-- pairs of lists of numbers are read, and the flags of their lists are written alternately
abbrev pub InterleaveGroupsRow : Lists Cell → Lists Cell → Type 0
InterleaveGroupsRow i o = RowOf interleave_groups_reads (λ xs. flags (alternated xs) ∷ []) 4 1 i o
