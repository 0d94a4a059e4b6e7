use Rattle.std.proofs.Common.{◌≡◌, ◌≤◌, drop, IsTrue}
use Rattle.std.specs.List.{AllByRecursion}
use Rattle.std.specs.Char.{is_ascii_digit}
use Rattle.snesl_data.specs.Characters.{value_from}
use Rattle.snesl_grammar.proofs.lexer.lexer.number.Given as goal

abbrev pub invariant-loop-c : goal.invariant-loop-c
invariant-loop-c l = record {
  same : value_from l.value (drop l.c-index l.digits) ≡ value_from 0 l.digits;
  low : l.value ≤ l.greatest;
  digits : AllByRecursion (λ c. IsTrue (is_ascii_digit c)) (drop l.c-index l.digits);
}
