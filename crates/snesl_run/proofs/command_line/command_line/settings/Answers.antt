use Rattle.std.proofs.Common.{◌∙◌, inr, refl, sym, true≢false}
use Rattle.clap.specs.Walk.{texts}
use Rattle.clap.specs.Words.{first_of, found_of, rows_of}
use Rattle.snesl_run.proofs.OfCommandLine.Fields.{fields_said, lawful_by_fields, refuses_on}
use Rattle.snesl_run.proofs.command_line.command_line.settings.Goals as goal

pub returns-in_err-config-clause-unsaid : goal.returns-in_err-config-clause-unsaid
returns-in_err-config-clause-unsaid c =
    let words = texts c.args.words.now in
    let rows = rows_of (found_of c.in_ok-matches.matches) in
    refuses_on c.from_residual-in_err-config.result c.in_err-config.field-0.0 c.from_residual-in_err-config.ensures.1
    (λ said. (said.0, fields_said words rows said.0 c.in_ok-matches.ensures.rows said.1, said.2)) c.in_err-config.ensures.refused

pub returns-clause-unsaid : goal.returns-clause-unsaid
returns-clause-unsaid c =
    let words = texts c.args.words.now in
    let rows = rows_of (found_of c.in_ok-matches.matches) in
    inr (
      refl,
      λ said. absurd (true≢false (sym (c.lawful.ensures.1 (lawful_by_fields (λ name. first_of name rows) said.0 c.in_ok-config.config
          (fields_said words rows said.0 c.in_ok-matches.ensures.rows said.1) c.in_ok-config.ensures.fields said.2)) ∙ c.if-lawful.false)),
    )
