-- Sizes that are capped.
use Rattle.std.proofs.Common.{◌≡◌, suc, ◌+◌, ℕ, arith}
use Rattle.snesl_types.specs.Verdicts.{capped}

pub capped_once : (a : ℕ) → capped (1 + capped a) ≡ capped (suc a)
capped_once a = omega arith

pub capped_call : (a b : ℕ) → capped (1 + capped (capped a + b)) ≡ capped (suc (a + b))
capped_call a b = omega arith

pub capped_three : (a b c : ℕ) → capped (1 + capped (capped a + capped (capped b + capped c))) ≡ capped (suc (a + (b + c)))
capped_three a b c = omega arith
