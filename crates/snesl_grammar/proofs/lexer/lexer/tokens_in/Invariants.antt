use Rattle.std.proofs.Common.{ℕ, ◌-◌, ◌≤◌, List, ◌++◌, drop, length}
use Rattle.snesl_grammar.specs.declared.lexer.token.Token.{Token}
use Rattle.snesl_grammar.specs.lexer.Lexical.{Tokens, BadAt}
use Rattle.snesl_grammar.proofs.lexer.lexer.tokens_in.Given as goal

abbrev pub invariant-loop-at : goal.invariant-loop-at
invariant-loop-at l = record {
  below : l.at ≤ length l.text;
  found : (ts : List Token) → Tokens l.fn.dialect l.at (drop l.at l.text) ts → Tokens l.fn.dialect 0 l.text (l.tokens.items ++ ts);
  bad : (n : ℕ) → BadAt l.fn.dialect l.at (drop l.at l.text) n → BadAt l.fn.dialect 0 l.text n;
}

abbrev pub decreases-loop-at : goal.decreases-loop-at
decreases-loop-at l = length l.text - l.at
