-- The due items of a value are of the kinds of its edges, and in the range of a dialect where the value is.
use Rattle.std.specs.Prelude.{◌≡◌, ℕ, suc, ◌+◌, true, List, [], ◌∷◌, ◌++◌, length, refl}
use Rattle.std.proofs.Common.{sym, ◌∙◌, ap, subst, arith, append_assoc, append-nil, length-append}
use Rattle.snesl_data.specs.declared.dialect.Dialect.{Dialect}
use Rattle.snesl_data.specs.Types.{Ty, int, bool, pair, vec, seq}
use Rattle.snesl_data.specs.Values.{Value, Values, an_int, a_bool, a_pair, a_vec, a_seq, no_values, more_values, list_of}
use Rattle.flow_messages.specs.Cells.{Cell, is_of}
use Rattle.flow_messages.specs.declared.message.Kind.{Kind}
use Rattle.flow_messages.specs.declared.message.Kind.TheVariants.{Bool as BoolKind, Int as IntKind, Vec as VecKind}
use Rattle.flow_base.specs.Flags.{F, T}
use Rattle.flow_base.specs.Ranges.{InRange, AllInRange, CellInRange}
use Rattle.flow_base.specs.Segments.{concatenation_by}
use Rattle.flow_values.specs.Shapes.{is_a, all_are, kinds_of, cell_for, first_of, second_of, kind_at}
use Rattle.flow_values.specs.Flats.{width}
use Rattle.flow_values.specs.laws.Kinds.{both_true, kind_right}
use Rattle.flow_values.specs.Dues.{DueCell, due, element_dues, dues_of, output_of, DuesOfKind, DuesInRange}
use Rattle.flow_values.specs.laws.Dues.{output_is}

-- of all kinds, these are those from port p on
record Within (all kinds : List Kind) (p : ℕ) : Type 0 where
  before : List Kind
  after : List Kind
  all_are : all ≡ before ++ (kinds ++ after)
  place : p ≡ length before

both_of_kind : (kinds : List Kind) (ds es : List DueCell) → DuesOfKind kinds ds → DuesOfKind kinds es → DuesOfKind kinds (ds ++ es)
both_of_kind kinds [] es h g = g
both_of_kind kinds (d ∷ ds) es h g = (h.0, both_of_kind kinds ds es h.1 g)

-- the kind at the first of the ports
first_kind : (all : List Kind) (kind : Kind) (others : List Kind) (p : ℕ) → Within all (kind ∷ others) p → kind_at all (output_of (length all) p) ≡ kind
first_kind all kind others p h =
    let size : length all ≡ length h.before + suc (length (others ++ h.after)) = ap length h.all_are ∙ length-append h.before (kind ∷ (others ++ h.after)) in
    let place = h.place in
    let there : output_of (length all) p ≡ length h.before + 0 = output_is (length all) p (omega (arith, size, place)) ∙ place ∙ omega arith in
    ap (kind_at all) there ∙ ap (λ l. kind_at l (length h.before + 0)) h.all_are ∙ kind_right h.before (kind ∷ (others ++ h.after)) 0

leaf_of_kind : (all : List Kind) (kind : Kind) (others : List Kind) (p : ℕ) (x : Cell) → Within all (kind ∷ others) p → is_of kind x ≡ true → DuesOfKind all (due p x ∷ [])
leaf_of_kind all kind others p x h is = (ap (λ k. is_of k x) (first_kind all kind others p h) ∙ is, tt)

within_first : (all : List Kind) (first second : List Kind) (p : ℕ) → Within all (first ++ second) p → Within all first p
within_first all first second p h = record { before = h.before; after = second ++ h.after; all_are = h.all_are ∙ ap (λ l. h.before ++ l) (append_assoc first second h.after); place = h.place }

within_second : (all : List Kind) (first second : List Kind) (p : ℕ) → Within all (first ++ second) p → Within all second (p + length first)
within_second all first second p h = record {
  before = h.before ++ first;
  after = h.after;
  all_are = h.all_are ∙ ap (λ l. h.before ++ l) (append_assoc first second h.after) ∙ sym (append_assoc h.before first (second ++ h.after));
  place = ap (λ k. k + length first) h.place ∙ sym (length-append h.before first);
}

within_items : (all : List Kind) (kind : Kind) (others : List Kind) (p : ℕ) → Within all (kind ∷ others) p → Within all others (p + 1)
within_items all kind others p h = within_second all (kind ∷ []) others p h

-- the elements of a sequence, and their flags
segment_of_kind : (all : List Kind) (item : Ty) (p : ℕ) → Within all (BoolKind ∷ kinds_of item) p → ((v : Value) → is_a item v ≡ true → DuesOfKind all (dues_of item (p + 1) v)) →
    (vs : Values) → all_are item vs ≡ true → DuesOfKind all (concatenation_by (element_dues p (λ e. dues_of item (p + 1) e)) (list_of vs) ++ (due p T ∷ []))
segment_of_kind all item p here each no_values are = leaf_of_kind all BoolKind (kinds_of item) p T here refl
segment_of_kind all item p here each (more_values v vs) are =
    let both = both_true (is_a item v) (all_are item vs) are in
    let one = dues_of item (p + 1) v in
    let others = concatenation_by (element_dues p (λ e. dues_of item (p + 1) e)) (list_of vs) in
    let flag = leaf_of_kind all BoolKind (kinds_of item) p F here refl in
    let rest = both_of_kind all one (others ++ (due p T ∷ [])) (each v both.0) (segment_of_kind all item p here each vs both.1) in
    (flag.0, subst (DuesOfKind all) (sym (append_assoc one others (due p T ∷ []))) rest)

kinds_within : (ty : Ty) (all : List Kind) (p : ℕ) (v : Value) → Within all (kinds_of ty) p → is_a ty v ≡ true → DuesOfKind all (dues_of ty p v)
kinds_within int all p (an_int n) here is = leaf_of_kind all IntKind [] p (cell_for (an_int n)) here refl
kinds_within int all p _ here is = absurd (cc)
kinds_within bool all p (a_bool b) here is = leaf_of_kind all BoolKind [] p (cell_for (a_bool b)) here refl
kinds_within bool all p _ here is = absurd (cc)
kinds_within (vec item) all p (a_vec vs) here is = leaf_of_kind all VecKind [] p (cell_for (a_vec vs)) here refl
kinds_within (vec item) all p _ here is = absurd (cc)
kinds_within (pair first second) all p (a_pair a b) here is =
    let both = both_true (is_a first a) (is_a second b) is in
    both_of_kind all (dues_of first p a) (dues_of second (p + width first) b)
    (kinds_within first all p a (within_first all (kinds_of first) (kinds_of second) p here) both.0)
    (kinds_within second all (p + width first) b (within_second all (kinds_of first) (kinds_of second) p here) both.1)
kinds_within (pair first second) all p _ here is = absurd (cc)
kinds_within (seq item) all p (a_seq vs) here is =
    segment_of_kind all item p here (λ e one. kinds_within item all (p + 1) e (within_items all BoolKind (kinds_of item) p here) one) vs is
kinds_within (seq item) all p _ here is = absurd (cc)

all_within : (kinds : List Kind) → Within kinds kinds 0
all_within kinds = record { before = []; after = []; all_are = sym (append-nil kinds); place = refl }

-- the items of a value, at the edges of its type
pub value_of_kind : (ty : Ty) (v : Value) → is_a ty v ≡ true → DuesOfKind (kinds_of ty) (dues_of ty 0 v)
value_of_kind ty v is = kinds_within ty (kinds_of ty) 0 v (all_within (kinds_of ty)) is

-- the items of a vector as a sequence
pub vector_of_kind : (item : Ty) (vs : Values) → all_are item vs ≡ true → DuesOfKind (kinds_of (seq item)) (dues_of (seq item) 0 (a_vec vs))
vector_of_kind item vs are = value_of_kind (seq item) (a_seq vs) are

-- Ranges.

module _ (dialect : Dialect) where
  both_in_range : (ds es : List DueCell) → DuesInRange dialect ds → DuesInRange dialect es → DuesInRange dialect (ds ++ es)
  both_in_range [] es h g = g
  both_in_range (d ∷ ds) es h g = (h.0, both_in_range ds es h.1 g)

  cell_in_range : (v : Value) → InRange dialect v → CellInRange dialect (cell_for v)
  cell_in_range (an_int n) h = h
  cell_in_range (a_bool b) h = tt
  cell_in_range (a_pair a b) h = h
  cell_in_range (a_vec vs) h = h
  cell_in_range (a_seq vs) h = h

  first_in_range : (v : Value) → InRange dialect v → InRange dialect (first_of v)
  first_in_range (a_pair a b) h = h.0
  first_in_range (an_int n) h = h
  first_in_range (a_bool b) h = h
  first_in_range (a_vec vs) h = h
  first_in_range (a_seq vs) h = h

  second_in_range : (v : Value) → InRange dialect v → InRange dialect (second_of v)
  second_in_range (a_pair a b) h = h.1
  second_in_range (an_int n) h = h
  second_in_range (a_bool b) h = h
  second_in_range (a_vec vs) h = h
  second_in_range (a_seq vs) h = h

  segment_in_range : (p : ℕ) (dues : Value → List DueCell) → ((v : Value) → InRange dialect v → DuesInRange dialect (dues v)) → (vs : Values) →
      AllInRange dialect vs → DuesInRange dialect (concatenation_by (element_dues p dues) (list_of vs) ++ (due p T ∷ []))
  segment_in_range p dues each no_values h = (tt, tt)
  segment_in_range p dues each (more_values v vs) h =
      let others = concatenation_by (element_dues p dues) (list_of vs) in
      (tt, subst (DuesInRange dialect) (sym (append_assoc (dues v) others (due p T ∷ []))) (both_in_range (dues v) (others ++ (due p T ∷ [])) (each v h.0) (segment_in_range p dues each vs h.1)))

  -- the items of a value in the range
  pub value_in_range : (ty : Ty) (p : ℕ) (v : Value) → InRange dialect v → DuesInRange dialect (dues_of ty p v)
  value_in_range int p v h = (cell_in_range v h, tt)
  value_in_range bool p v h = (cell_in_range v h, tt)
  value_in_range (vec item) p v h = (cell_in_range v h, tt)
  value_in_range (pair first second) p v h =
      both_in_range (dues_of first p (first_of v)) (dues_of second (p + width first) (second_of v))
      (value_in_range first p (first_of v) (first_in_range v h)) (value_in_range second (p + width first) (second_of v) (second_in_range v h))
  value_in_range (seq item) p (a_vec vs) h = segment_in_range p (λ e. dues_of item (p + 1) e) (value_in_range item (p + 1)) vs h
  value_in_range (seq item) p (a_seq vs) h = segment_in_range p (λ e. dues_of item (p + 1) e) (value_in_range item (p + 1)) vs h
  value_in_range (seq item) p _ h = (tt, tt)
