use Rattle.std.proofs.Common.{arith, subst, sym, Ok}
use Rattle.snesl_grammar.specs.lexer.Lexical.{dialect_of, Tokens}
use Rattle.snesl_syntax.specs.DialectMachine.{whole_program}
use Rattle.snesl_syntax.specs.Parse.{Parses, too_long, read, IsRight}
use Rattle.snesl_syntax.proofs.Verdicts.{one_parse, bad_right, tokens_right, passed_on, right_of_text, right_returns, copy_spells}
use Rattle.snesl_syntax.proofs.parser.parse.Goals as goal

pub returns-then-text-gt-GREATEST_LENGTH-clause-right : goal.returns-then-text-gt-GREATEST_LENGTH-clause-right
returns-then-text-gt-GREATEST_LENGTH-clause-right c = too_long (omega arith)

pub returns-in_err-tokens-clause-right : goal.returns-in_err-tokens-clause-right
returns-in_err-tokens-clause-right c =
    passed_on (IsRight (Parses c.args.text.now)) c.from_residual.result c.in_err-tokens.field-0.0 c.from_residual.ensures.1
    (bad_right c.args.text.now c.in_err-tokens.field-0.0 (omega arith) c.in_err-tokens.ensures.bad)

pub returns-in_err-tokens-clause-accepts : goal.returns-in_err-tokens-clause-accepts
returns-in_err-tokens-clause-accepts c =
    right_returns c.args.text.now c.from_residual.result (returns-in_err-tokens-clause-right c)

pub returns-in_err-tokens-clause-refusals : goal.returns-in_err-tokens-clause-refusals
returns-in_err-tokens-clause-refusals c =
    right_of_text c.args.text.now c.from_residual.result (returns-in_err-tokens-clause-right c)

pub returns-in_err-whole-clause-right : goal.returns-in_err-whole-clause-right
returns-in_err-whole-clause-right c =
    passed_on (IsRight (Parses c.args.text.now)) c.from_residual-in_err-whole.result c.in_err-whole.field-0.0 c.from_residual-in_err-whole.ensures.1
    (tokens_right c.args.text.now c.deref.result.now c.in_err-whole.field-0.0 (omega arith)
    (subst (Tokens (dialect_of c.args.text.now) 0 c.args.text.now) (sym c.deref.ensures.value) c.in_ok-tokens.ensures.found) c.in_err-whole.ensures)

pub returns-in_err-whole-clause-accepts : goal.returns-in_err-whole-clause-accepts
returns-in_err-whole-clause-accepts c =
    right_returns c.args.text.now c.from_residual-in_err-whole.result (returns-in_err-whole-clause-right c)

pub returns-in_err-whole-clause-refusals : goal.returns-in_err-whole-clause-refusals
returns-in_err-whole-clause-refusals c =
    right_of_text c.args.text.now c.from_residual-in_err-whole.result (returns-in_err-whole-clause-right c)

pub invariant_of-result : goal.invariant_of-result
invariant_of-result c =
    let found : Tokens (dialect_of c.args.text.now) 0 c.args.text.now c.deref.result.now =
    subst (Tokens (dialect_of c.args.text.now) 0 c.args.text.now) (sym c.deref.ensures.value) c.in_ok-tokens.ensures.found in
    record {
      spelled = ∣ copy_spells c.args.text.now c.in_ok-copy.copy.items c.deref.result.now (whole_program c.in_ok-whole.whole)
          (omega arith) found c.in_ok-whole.ensures c.in_ok-copy.ensures.items ∣₁;
    }

pub returns-clause-right : goal.returns-clause-right
returns-clause-right c =
    read (omega arith) (subst (Tokens (dialect_of c.args.text.now) 0 c.args.text.now) (sym c.deref.ensures.value) c.in_ok-tokens.ensures.found) c.in_ok-whole.ensures

pub returns-clause-accepts : goal.returns-clause-accepts
returns-clause-accepts c = λ answer reading.
    one_parse c.args.text.now answer (Ok (whole_program c.in_ok-whole.whole)) reading (returns-clause-right c)
