-- What is due for a sequence, element by element.
use Rattle.std.proofs.Common.{◌≡◌, ℕ, zero, suc, ◌+◌, ◌<◌, true, List, [], ◌∷◌, ◌++◌, length, take, map, get_or, Vec, Global, sym, ap, ◌∙◌, arith, append_assoc, append-nil, length-append}
use Rattle.snesl_data.specs.declared.datum.Datum.{Datum, Seq as SeqDatum}
use Rattle.snesl_data.specs.Types.{Ty, pair, seq}
use Rattle.snesl_data.specs.Values.{value_of, values_of}
use Rattle.snesl_data.proofs.Data.{value_of-Seq, list_values}
use Rattle.flow_base.specs.Flags.{F}
use Rattle.flow_base.specs.Segments.{concatenation_by}
use Rattle.flow_values.specs.Shapes.{is_a, all_are, kinds_of}
use Rattle.flow_values.specs.Flats.{width}
use Rattle.flow_values.specs.laws.Dues.{has_edge}
use Rattle.flow_values.specs.laws.Kinds.{both_true}
use Rattle.flow_values.specs.Dues.{DueCell, due, element_dues, dues_of, segment_dues}

-- the parts of a pair have fewer edges than it has
pub parts_narrower : (first second : Ty) → (width first < width (pair first second)) × (width second < width (pair first second))
parts_narrower first second =
    let size = length-append (kinds_of first) (kinds_of second) in
    let a = (has_edge first).1 in
    let b = (has_edge second).1 in
    (omega (arith, size, b), omega (arith, size, a))

-- one of several that are of the type
pub member_is : (item : Ty) (ds : List Datum) (i : ℕ) (d : Datum) → i < length ds → d ≡ get_or ds i d → all_are item (values_of (map value_of ds)) ≡ true → is_a item (value_of d) ≡ true
member_is item [] i d lt at h = absurd (omega arith)
member_is item (x ∷ ds) zero d lt at h = ap (λ x. is_a item (value_of x)) at ∙ (both_true (is_a item (value_of x)) (all_are item (values_of (map value_of ds))) h).0
member_is item (x ∷ ds) (suc i) d lt at h = member_is item ds i d (omega arith) at (both_true (is_a item (value_of x)) (all_are item (values_of (map value_of ds))) h).1

-- what is due for each of the first i elements
abbrev before : Ty → ℕ → List Datum → ℕ → List DueCell
before item p ds i = concatenation_by (element_dues p (λ e. dues_of item (p + 1) e)) (map value_of (take i ds))

one_more : (item : Ty) (p : ℕ) (ds : List Datum) (i : ℕ) (d : Datum) → i < length ds → d ≡ get_or ds i d → before item p ds (i + 1)
    ≡ before item p ds i ++ (due p F ∷ dues_of item (p + 1) (value_of d))
one_more item p [] i d lt at = absurd (omega arith)
one_more item p (x ∷ ds) zero d lt at =
    ap (λ l. due p F ∷ l) (append-nil (dues_of item (p + 1) (value_of x))) ∙ ap (λ x. due p F ∷ dues_of item (p + 1) (value_of x)) (sym at)
one_more item p (x ∷ ds) (suc i) d lt at =
    let next : suc i + 1 ≡ suc (i + 1) = omega arith in
    let first = due p F ∷ dues_of item (p + 1) (value_of x) in
    ap (before item p (x ∷ ds)) next ∙ ap (λ l. first ++ l) (one_more item p ds i d (omega arith) at) ∙ sym (append_assoc first (before item p ds i) (due p F ∷ dues_of item (p + 1) (value_of d)))

-- one element more, after what was due before
pub element_added : (item : Ty) (p : ℕ) (ds : List Datum) (i : ℕ) (d : Datum) (old so_far flagged now : List DueCell) → i < length ds → d ≡ get_or ds i d →
    so_far ≡ old ++ before item p ds i → flagged ≡ so_far ++ due p F ∷ [] → now ≡ flagged ++ dues_of item (p + 1) (value_of d) → now ≡ old ++ before item p ds (i + 1)
element_added item p ds i d old so_far flagged now lt at a b c =
    let one = dues_of item (p + 1) (value_of d) in
    c ∙ ap (λ l. l ++ one) (b ∙ ap (λ l. l ++ due p F ∷ []) a) ∙ append_assoc (old ++ before item p ds i) (due p F ∷ []) one
    ∙ append_assoc old (before item p ds i) (due p F ∷ one) ∙ sym (ap (λ l. old ++ l) (one_more item p ds i d lt at))

pub sequence_dues : (item : Ty) (p : ℕ) (v : Vec Datum Global) → dues_of (seq item) p (value_of (SeqDatum v)) ≡ segment_dues item p (map value_of v.items)
sequence_dues item p v = ap (dues_of (seq item) p) (value_of-Seq v) ∙ ap (segment_dues item p) (list_values (map value_of v.items))
