-- Data as values.
use Rattle.std.proofs.Common.{◌≡◌, ℤ, ℕ, Bool, List, [], ◌∷◌, map, length, Vec, Global, refl, sym, ap, ◌∙◌}
use Rattle.std.specs.Arc.{arc_value}
use Rattle.std.specs.declared.sync.Arc.{Arc}
use Rattle.std.proofs.lemmas.List.{length-map}
use mathlib.Core.Former.{Count}
use Rattle.snesl_data.specs.declared.datum.Datum.{Datum, Seq as SeqDatum, Seq', Row_of-Datum, end_of-Datum, more_of-Datum, items-the_row-Datum, items_hidden-the_row-Datum-0}
use Rattle.snesl_data.specs.declared.datum.Elements.{Elements, Ints, Wides, Bools, Others, Others'}
use Rattle.snesl_data.specs.Values.{Value, an_int, a_bool, a_seq, Values, values_of, list_of, value_of, row_values, elements_of, entries}

row_listed : (n : Count) (row : Row_of-Datum n) → row_values row ≡ values_of (map value_of (items-the_row-Datum n row))
row_listed n end_of-Datum = refl
row_listed n (more_of-Datum d rest) = ap (Values.more_values (value_of d)) (row_listed _ rest)

abbrev row_of : Datum → (n : Count) × Row_of-Datum n
row_of (Seq' shape row) = (_, row)
row_of _ = (_, end_of-Datum)

abbrev row_in : Elements → (n : Count) × Row_of-Datum n
row_in (Others' p shape row) = (_, row)
row_in _ = (_, end_of-Datum)

-- a sequence holds the values of its items
pub value_of-Seq : (v : Vec Datum Global) → value_of (SeqDatum v) ≡ a_seq (values_of (map value_of v.items))
value_of-Seq v =
    let row = row_of (SeqDatum v) in
    ap a_seq (row_listed row.0 row.1) ∙ ap (λ l. a_seq (values_of (map value_of l))) (items_hidden-the_row-Datum-0 v)

-- and so do elements of no one kind
pub elements_of-Others : (v : Arc (Vec Datum Global) Global) → elements_of (Others v) ≡ values_of (map value_of (arc_value v).items)
elements_of-Others v =
    let row = row_in (Others v) in
    row_listed row.0 row.1 ∙ ap (λ l. values_of (map value_of l)) (items_hidden-the_row-Datum-0 (arc_value v))

pub list_values : (l : List Value) → list_of (values_of l) ≡ l
list_values [] = refl
list_values (v ∷ l) = ap (λ m. v ∷ m) (list_values l)

-- the elements of each kind as a list
pub entries-Ints : (v : Arc (Vec ℤ Global) Global) → entries (Ints v) ≡ map an_int (arc_value v).items
entries-Ints v = list_values (map an_int (arc_value v).items)

pub entries-Wides : (v : Arc (Vec ℤ Global) Global) → entries (Wides v) ≡ map an_int (arc_value v).items
entries-Wides v = list_values (map an_int (arc_value v).items)

pub entries-Bools : (v : Arc (Vec Bool Global) Global) → entries (Bools v) ≡ map a_bool (arc_value v).items
entries-Bools v = list_values (map a_bool (arc_value v).items)

pub entries-Others : (v : Arc (Vec Datum Global) Global) → entries (Others v) ≡ map value_of (arc_value v).items
entries-Others v = ap list_of (elements_of-Others v) ∙ list_values (map value_of (arc_value v).items)

-- as many as the vector has items
pub length_is : {X : Type 0} (f : X → Value) (v : Vec X Global) (e es : Elements) (n : ℕ) → e ≡ es → entries es ≡ map f v.items → n ≡ v.len → n ≡ length (entries e)
length_is f v e es n is are was =
    was ∙ v.ok.0 ∙ sym (length-map v.items f) ∙ ap length (sym are) ∙ ap (λ e. length (entries e)) (sym is)
