-- What is known of the types of vectors and of their elements.
use Rattle.std.proofs.Common.{◌≡◌, true, List, [], ◌∷◌, ◌++◌, Option, Some, None, Ok, Global, map, refl, sym, ap, ◌∙◌, append_assoc}
use Rattle.std.specs.declared.sync.Arc.{Arc}
use Rattle.std.proofs.lemmas.List.{map-append}
use Rattle.snesl_data.specs.declared.ty.Ty.{Ty as TyTree}
use Rattle.snesl_data.specs.declared.datum.Datum.{Datum}
use Rattle.snesl_data.specs.Types.{Ty, is_same}
use Rattle.snesl_data.specs.Values.{Value, Values, value_of, values_of}
use Rattle.snesl_data.proofs.SameTypes.{same_eq}
use Rattle.flow_messages.specs.declared.message.Item.{Item}
use Rattle.flow_messages.specs.Cells.{Cell}
use Rattle.flow_values.specs.Shapes.{is_a, all_are, shared_type}
use Rattle.flow_values.specs.Parts.{Built, built}
use Rattle.flow_values.specs.TabMachine.{MakesDatum}
use Rattle.flow_values.specs.laws.Kinds.{both_true, and_true}
use Rattle.flow_values.specs.laws.Parts.{built-is}

-- values of a type are of the same type under another name
pub as_same : (known item : Ty) (vs : Values) → true ≡ is_same known item → all_are known vs ≡ all_are item vs
as_same known item vs same = ap (λ t. all_are t vs) (same_eq known item (sym same))

-- no type is kept of one more edge
pub none_pushed : (l : List (Option (Arc TyTree Global))) (ts : List (Option Ty)) → map shared_type (l ++ None ∷ []) ++ ts ≡ map shared_type l ++ None ∷ ts
none_pushed l ts = ap (λ m. m ++ ts) (map-append shared_type l (None ∷ [])) ∙ append_assoc (map shared_type l) (None ∷ []) ts

-- one more element of the type
pub one_more_are : (item : Ty) (es : List Value) (e : Value) → all_are item (values_of es) ≡ true → is_a item e ≡ true → all_are item (values_of (es ++ e ∷ [])) ≡ true
one_more_are item [] e are is = and_true (is_a item e) true is refl
one_more_are item (x ∷ es) e are is =
    let both = both_true (is_a item x) (all_are item (values_of es)) are in
    and_true (is_a item x) (all_are item (values_of (es ++ e ∷ []))) both.0 (one_more_are item es e both.1 is)

-- an element that was made of items is of the type
pub made_is : (item : Ty) (got : List Cell) (d : Datum) (rest : List Item) → MakesDatum (built item got) (Ok d) rest → is_a item (value_of d) ≡ true
made_is item got d rest h = go (built item got) refl h
  where
    go : (b : Built) → built item got ≡ b → MakesDatum b (Ok d) rest → is_a item (value_of d) ≡ true
    go None is h = absurd h
    go (Some (e, left)) is h = ap (is_a item) h.0 ∙ (built-is item got e left is).0
