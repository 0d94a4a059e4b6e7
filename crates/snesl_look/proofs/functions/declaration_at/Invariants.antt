use Rattle.std.proofs.Common.{◌≡◌, ℕ, ◌<◌, ◌≤◌}
use Rattle.snesl_look.specs.Functions.{BeginsDeclaration, EndsDeclaration, depth_at}
use Rattle.snesl_look.proofs.functions.declaration_at.Given as goal

-- the last declaration that began, not after the offset, has not ended before this place
abbrev pub invariant-loop-place : goal.invariant-loop-place
invariant-loop-place l = record {
  deep : l.depth ≡ depth_at l.text l.place;
  few : l.depth ≤ l.place;
  begins : BeginsDeclaration l.text l.start;
  reached : l.start ≤ l.place;
  behind : l.start ≤ l.fn.offset;
  one : (k : ℕ) → l.start ≤ k → k < l.place → ¬ EndsDeclaration l.text k;
}
