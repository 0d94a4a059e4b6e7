use Rattle.std.proofs.Common.{option_map, map, Bor, sym, ap, ◌∙◌}
use Rattle.snesl_data.specs.declared.datum.Datum.{Datum}
use Rattle.snesl_values.specs.Inputs.{value_in}
use Rattle.snesl_data.specs.Values.{value_of}
use Rattle.snesl_evaluation.specs.Scopes.{bound_items_of, environment_in, names_at}
use Rattle.snesl_evaluation.proofs.Rows.{value_in-some, value_in-none}
use Rattle.snesl_evaluation.proofs.scope.+find.Goals as goal

pub returns-in-Some : goal.returns-in-Some
returns-in-Some t c =
    let text = c.args.text.now in
    let name = c.args.name.now in
    let row = names_at c.in-Row.index (map (bound_items_of text) c.in-Row.columns.now) in
    let found = sym c.find_in_row.ensures ∙ ap (option_map (λ (d : Bor Datum). value_of d.now)) c.in-Some.is in
    sym (ap (λ s. value_in name (environment_in text s)) c.in-Row.is ∙ value_in-some name row (environment_in text c.in-Row.outer.now) _ found)

pub returns-in-None : goal.returns-in-None
returns-in-None t c =
    let text = c.args.text.now in
    let name = c.args.name.now in
    let row = names_at c.in-Row.index (map (bound_items_of text) c.in-Row.columns.now) in
    let found = sym c.find_in_row.ensures ∙ ap (option_map (λ (d : Bor Datum). value_of d.now)) c.in-None.is in
    c.find-in-None.ensures ∙ sym (ap (λ s. value_in name (environment_in text s)) c.in-Row.is ∙ value_in-none name row (environment_in text c.in-Row.outer.now) found)
