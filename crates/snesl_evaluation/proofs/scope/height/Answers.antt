use Rattle.std.proofs.Common.{ℕ, Err, map, if◌then◌else◌, sym, ap, ◌∙◌, subst}
use Rattle.snesl_data.specs.declared.fault.FaultKind.TheVariants.{Length}
use Rattle.snesl_evaluation.specs.Answer.{gives, faults}
use Rattle.snesl_evaluation.specs.Eval.{rows_of, in_step}
use Rattle.snesl_evaluation.specs.Results.{Answers}
use Rattle.snesl_evaluation.specs.Scopes.{bound_items_of}
use Rattle.snesl_evaluation.proofs.Rows.{in_step_seen}
use Rattle.snesl_evaluation.proofs.scope.height.Goals as goal

pub returns-then-are_level-clause-in_step : goal.returns-then-are_level-clause-in_step
returns-then-are_level-clause-in_step c = λ text.
    let columns = c.args.columns.now in
    let n = c.first_height-height.result in
    in_step_seen c.args.at text columns n c.are_level.result c.first_height-height.ensures c.are_level.ensures
    ∙ ap (λ b. if b then gives (rows_of n (map (bound_items_of text) columns)) else faults Length c.args.at) c.if-are_level.true

pub returns-else-are_level-clause-in_step : goal.returns-else-are_level-clause-in_step
returns-else-are_level-clause-in_step c = λ text.
    let columns = c.args.columns.now in
    let n = c.first_height-height.result in
    subst (λ halt. Answers (λ (m : ℕ). rows_of m (map (bound_items_of text) columns)) (Err halt) (in_step c.args.at (map (bound_items_of text) columns))) (sym c.fault.ensures)
    (in_step_seen c.args.at text columns n c.are_level.result c.first_height-height.ensures c.are_level.ensures
    ∙ ap (λ b. if b then gives (rows_of n (map (bound_items_of text) columns)) else faults Length c.args.at) c.if-are_level.false)
