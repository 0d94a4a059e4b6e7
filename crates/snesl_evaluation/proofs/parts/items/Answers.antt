use Rattle.std.proofs.Common.{map, sym, ap, ◌∙◌}
use Rattle.snesl_data.specs.Values.{value_of}
use Rattle.snesl_evaluation.specs.Answer.{gives}
use Rattle.snesl_evaluation.specs.Builtins.{items_at}
use Rattle.snesl_evaluation.proofs.Data.{items_at-Seq}
use Rattle.snesl_evaluation.proofs.parts.items.Goals as goal

pub returns-in-Seq : goal.returns-in-Seq
returns-in-Seq c =
    ap (λ d. items_at c.args.at (value_of d)) c.in-Seq.is
    ∙ items_at-Seq c.args.at c.in-Seq.all
    ∙ ap (λ l. gives (map value_of l)) (sym c.deref.ensures.value)
