-- How far a search for a declaration has come.
use Rattle.std.proofs.Common.{◌≡◌, ◌∙◌, ℕ, ◌+◌, ◌<◌, ◌≤◌, List, arith, inr, length, refl, slice_index, subst, sym, ⊎_elim}
use Rattle.std.proofs.Math.Nat.{eq-or-lt_of_le}
use Rattle.snesl_look.specs.Functions.{BeginsDeclaration, EndsDeclaration, depth_at}

-- the last declaration that began, not after the offset, has not ended before a place
pub record DeclarationSoFar (text : List ℕ) (offset start place : ℕ) : Type 0 where
  pub begins : BeginsDeclaration text start
  pub reached : start ≤ place
  pub behind : start ≤ offset
  pub one : (k : ℕ) → start ≤ k → k < place → ¬ EndsDeclaration text k

-- it ends there, and the next one begins
pub restarts : (text : List ℕ) (offset place depth : ℕ) → place < length text → place < offset
    → depth ≡ depth_at text place → slice_index text place ≡ 59 → depth ≡ 0 → DeclarationSoFar text offset (place + 1) (place + 1)
restarts text offset place depth within early deep is none = record {
  begins = inr (place, refl, (within, is, sym deep ∙ none));
  reached = omega arith;
  behind = omega arith;
  one = λ k from to. absurd (omega (arith, from, to));
}

-- it does not end there
pub goes_on : (text : List ℕ) (offset start place depth : ℕ) → DeclarationSoFar text offset start place
    → depth ≡ depth_at text place → (slice_index text place ≡ 59 → depth ≡ 0 → ⊥) → DeclarationSoFar text offset start (place + 1)
goes_on text offset start place depth so_far deep goes = record {
  begins = so_far.begins;
  reached = omega (arith, so_far.reached);
  behind = so_far.behind;
  one = λ k from to ends. ⊎_elim
      (λ (e : k ≡ place). let there = subst (EndsDeclaration text) e ends in goes there.1 (deep ∙ there.2))
      (λ (before : k < place). so_far.one k from before ends)
      (eq-or-lt_of_le {n = k} {m = place} (omega (arith, to)));
}
