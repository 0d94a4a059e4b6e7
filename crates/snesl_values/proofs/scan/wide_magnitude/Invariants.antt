use Rattle.std.proofs.Common.{◌≡◌, ◌≤◌, suc, drop, IsTrue}
use Rattle.std.specs.List.{AllByRecursion}
use Rattle.std.specs.Char.{is_ascii_digit}
use Rattle.snesl_data.specs.declared.dialect.Dialect.TheVariants.{Two}
use Rattle.snesl_data.specs.Integers.{greatest_integer}
use Rattle.snesl_data.specs.Characters.{value_from}
use Rattle.snesl_values.proofs.scan.wide_magnitude.Given as goal

abbrev pub invariant-loop-c : goal.invariant-loop-c
invariant-loop-c l = record {
  same : value_from l.value (drop l.c-index l.digits) ≡ value_from l.number l.digits;
  low : l.value ≤ suc (greatest_integer Two);
  digits : AllByRecursion (λ c. IsTrue (is_ascii_digit c)) (drop l.c-index l.digits);
}
