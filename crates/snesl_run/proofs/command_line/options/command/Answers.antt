use Rattle.std.proofs.Common.{◌≡◌, ◌∙◌, ap, ap₂, codes, rules}
use Rattle.std.proofs.lemmas.Result.{IfOk-weaker}
use Rattle.clap.specs.Simple.{app_of_fields}
use Rattle.clap.specs.Words.{App, app_of, new_app, rule_of, with_rule}
use Rattle.snesl_run.specs.command_line.Settings.{option_named, without_help}
use Rattle.snesl_run.proofs.command_line.options.command.Goals as goal

-- the command after each option
abbrev start : App
start = without_help (new_app (codes "snesl"))

abbrev first : App
first = with_rule start (option_named (codes "capacity"))

abbrev second : App
second = with_rule first (option_named (codes "chunk"))

abbrev third : App
third = with_rule second (option_named (codes "threads"))

abbrev fourth : App
fourth = with_rule third (option_named (codes "idle"))

abbrev fifth : App
fifth = with_rule fourth (option_named (codes "drive"))

pub returns : goal.returns
returns c =
    let option-1 : rule_of c.option.result ≡ option_named (codes "capacity") = search rules in
    let option-2 : rule_of c.option-2.result ≡ option_named (codes "chunk") = search rules in
    let option-3 : rule_of c.option-3.result ≡ option_named (codes "threads") = search rules in
    let option-4 : rule_of c.option-4.result ≡ option_named (codes "idle") = search rules in
    let option-5 : rule_of c.option-5.result ≡ option_named (codes "drive") = search rules in
    let option-6 : rule_of c.option-6.result ≡ option_named (codes "deal") = search rules in
    let none : app_of c.disable_help_flag.result ≡ start = ap app_of_fields c.disable_help_flag.ensures ∙ ap without_help c.new.ensures.app in
    let one : app_of c.in_ok-arg.field-0 ≡ first = c.in_ok-arg.ensures.shape (search rules) ∙ ap₂ with_rule none option-1 in
    let two : app_of c.in_ok-arg-2.field-0 ≡ second = c.in_ok-arg-2.ensures.shape (search rules) ∙ ap₂ with_rule one option-2 in
    let three : app_of c.in_ok-arg-3.field-0 ≡ third = c.in_ok-arg-3.ensures.shape (search rules) ∙ ap₂ with_rule two option-3 in
    let four : app_of c.in_ok-arg-4.field-0 ≡ fourth = c.in_ok-arg-4.ensures.shape (search rules) ∙ ap₂ with_rule three option-4 in
    let five : app_of c.in_ok-arg-5.field-0 ≡ fifth = c.in_ok-arg-5.ensures.shape (search rules) ∙ ap₂ with_rule four option-5 in
    IfOk-weaker c.arg-6.result _ _ (λ command added. added.shape (search rules) ∙ ap₂ with_rule five option-6) c.arg-6.ensures
