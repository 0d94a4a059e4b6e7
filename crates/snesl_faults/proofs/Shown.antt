-- How sequences are shown.
use Rattle.std.proofs.Common.{◌≡◌, length, map, Vec, Global, ap, ◌∙◌}
use Rattle.std.proofs.lemmas.List.{length-map}
use Rattle.snesl_data.specs.declared.datum.Datum.{Datum, Seq as SeqDatum}
use Rattle.snesl_data.specs.Values.{value_of}
use Rattle.snesl_data.proofs.Data.{value_of-Seq, list_values}
use Rattle.snesl_faults.specs.Notes.{elements_text, value_text}

pub items_shown : (d : Datum) (v : Vec Datum Global) → d ≡ SeqDatum v → value_text (value_of d) ≡ elements_text (length v.items)
items_shown d v e =
    ap (λ x. value_text (value_of x)) e
    ∙ ap value_text (value_of-Seq v)
    ∙ ap (λ l. elements_text (length l)) (list_values (map value_of v.items))
    ∙ ap elements_text (length-map v.items value_of)
