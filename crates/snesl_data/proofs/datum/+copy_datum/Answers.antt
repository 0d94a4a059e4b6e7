use Rattle.std.proofs.Common.{map, sym, ap, ◌∙◌}
use Rattle.snesl_data.specs.Values.{value_of, values_of, a_seq}
use Rattle.snesl_data.proofs.Data.{value_of-Seq}
use Rattle.snesl_data.proofs.datum.+copy_datum.Goals as goal

pub copy_datum-returns-in_ok-items-in-Seq : goal.copy_datum-returns-in_ok-items-in-Seq
copy_datum-returns-in_ok-items-in-Seq t c =
    value_of-Seq c.in_ok-items-in-Seq.items
    ∙ ap (λ l. a_seq (values_of l)) (c.in_ok-items-in-Seq.ensures ∙ ap (map value_of) c.deref-in-Seq.ensures.value)
    ∙ sym (value_of-Seq c.in-Seq.all)
    ∙ ap value_of (sym c.in-Seq.is)
