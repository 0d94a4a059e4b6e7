use Rattle.std.proofs.Common.{◌≡◌, ◌≤◌, drop, length, IsTrue}
use Rattle.std.specs.List.{AllByRecursion}
use Rattle.std.specs.Char.{is_ascii_digit}
use Rattle.snesl_data.specs.Characters.{value_from}
use Rattle.snesl_values.proofs.scan.magnitude.Given as goal

abbrev pub invariant-loop-at : goal.invariant-loop-at
invariant-loop-at l = record {
  same : value_from l.value (drop l.at l.digits) ≡ value_from 0 l.digits;
  within : l.at ≤ length l.digits;
  digits : AllByRecursion (λ c. IsTrue (is_ascii_digit c)) (drop l.at l.digits);
}
