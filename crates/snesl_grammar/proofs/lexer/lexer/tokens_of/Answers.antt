use Rattle.std.proofs.Common.{subst, IfOk, IfErr}
use Rattle.snesl_grammar.specs.lexer.Lexical.{Tokens, IsBadOf}
use Rattle.snesl_grammar.proofs.lexer.lexer.tokens_of.Goals as goal

pub returns-clause-found : goal.returns-clause-found
returns-clause-found c =
    subst (λ dialect. IfOk c.tokens_in.result (λ tokens. Tokens dialect 0 c.args.text.now tokens.items)) c.dialect_of.ensures c.tokens_in.ensures.found

pub returns-clause-bad : goal.returns-clause-bad
returns-clause-bad c =
    subst (λ dialect. IfErr c.tokens_in.result (IsBadOf dialect 0 c.args.text.now)) c.dialect_of.ensures c.tokens_in.ensures.bad
