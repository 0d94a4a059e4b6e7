-- The items of data.
use Rattle.std.proofs.Common.{◌≡◌, ℕ, map, Vec, Global, ap, ◌∙◌}
use Rattle.snesl_data.specs.declared.datum.Datum.{Datum, Seq as SeqDatum}
use Rattle.snesl_data.specs.Values.{value_of}
use Rattle.snesl_data.proofs.Data.{value_of-Seq, list_values}
use Rattle.snesl_evaluation.specs.Answer.{gives}
use Rattle.snesl_evaluation.specs.Builtins.{items_at}

pub items_at-Seq : (at : ℕ) (v : Vec Datum Global) → items_at at (value_of (SeqDatum v)) ≡ gives (map value_of v.items)
items_at-Seq at v = ap (items_at at) (value_of-Seq v) ∙ ap gives (list_values (map value_of v.items))
