-- One step of a scan.
use Rattle.std.proofs.Common.{◌≡◌, ℕ, zero, suc, ◌+◌, ◌<◌, List, [], ◌∷◌, ◌++◌, length, drop, get_or, map, Result, Ok, Err, ℤ, ◌+ℤ◌, refl, sym, ap, ◌∙◌, append_assoc, arith}
use Rattle.snesl_data.specs.declared.dialect.Dialect.{Dialect}
use Rattle.snesl_data.specs.declared.fault.FaultKind.{FaultKind}
use Rattle.snesl_data.specs.Values.{Value, an_int}
use Rattle.snesl_data.specs.operators.Operators.{ranged}
use Rattle.snesl_data.specs.operators.Reductions.{and_then, scan_from}
use Rattle.snesl_evaluation.specs.Answer.{Answer, gives, faults, go, answer_at}

-- the sums that are given, and those after them
abbrev pub sums_behind : ℕ → List Value → Result (List ℤ) FaultKind → Answer (List Value)
sums_behind at given later = go (answer_at at later) (λ sums. gives (given ++ map an_int sums))

after_and_then : {A : Type 0} (at : ℕ) (given : List Value) (r : Result A FaultKind) (next : A → Result (List ℤ) FaultKind)
    → sums_behind at given (and_then r next) ≡ go (answer_at at r) (λ x. sums_behind at given (next x))
after_and_then at given (Ok x) next = refl
after_and_then at given (Err kind) next = refl

after_more : (at : ℕ) (given : List Value) (n : ℤ) (r : Result (List ℤ) FaultKind)
    → sums_behind at given (and_then r (λ sums. Ok (n ∷ sums))) ≡ sums_behind at (given ++ an_int n ∷ []) r
after_more at given n (Ok sums) = ap gives (sym (append_assoc given (an_int n ∷ []) (map an_int sums)))
after_more at given n (Err kind) = refl

-- a number that is not the last is added to the sum
pub scan_step : (dialect : Dialect) (at : ℕ) (given : List Value) (so_far sum d : ℤ) (ns : List ℤ) (i : ℕ) → i + 1 < length ns
    → answer_at at (ranged dialect (so_far +ℤ get_or ns i d)) ≡ gives sum
    → sums_behind at given (scan_from dialect so_far (drop i ns)) ≡ sums_behind at (given ++ an_int so_far ∷ []) (scan_from dialect sum (drop (suc i) ns))
scan_step dialect at given so_far sum d [] i l e = absurd (omega arith)
scan_step dialect at given so_far sum d (n ∷ []) zero l e = absurd (omega arith)
scan_step dialect at given so_far sum d (n ∷ m ∷ ns) zero l e =
    after_and_then at given (ranged dialect (so_far +ℤ n)) (λ x. and_then (scan_from dialect x (m ∷ ns)) (λ sums. Ok (so_far ∷ sums)))
    ∙ ap (λ answer. go answer (λ x. sums_behind at given (and_then (scan_from dialect x (m ∷ ns)) (λ sums. Ok (so_far ∷ sums))))) e
    ∙ after_more at given so_far (scan_from dialect sum (m ∷ ns))
scan_step dialect at given so_far sum d (n ∷ ns) (suc i) l e = scan_step dialect at given so_far sum d ns i (omega arith) e

pub scan_fault : (dialect : Dialect) (at : ℕ) (given : List Value) (so_far d : ℤ) (ns : List ℤ) (i : ℕ) (kind : FaultKind) (place : ℕ) → i + 1 < length ns
    → answer_at at (ranged dialect (so_far +ℤ get_or ns i d)) ≡ faults kind place
    → sums_behind at given (scan_from dialect so_far (drop i ns)) ≡ faults kind place
scan_fault dialect at given so_far d [] i kind place l e = absurd (omega arith)
scan_fault dialect at given so_far d (n ∷ []) zero kind place l e = absurd (omega arith)
scan_fault dialect at given so_far d (n ∷ m ∷ ns) zero kind place l e =
    after_and_then at given (ranged dialect (so_far +ℤ n)) (λ x. and_then (scan_from dialect x (m ∷ ns)) (λ sums. Ok (so_far ∷ sums)))
    ∙ ap (λ answer. go answer (λ x. sums_behind at given (and_then (scan_from dialect x (m ∷ ns)) (λ sums. Ok (so_far ∷ sums))))) e
scan_fault dialect at given so_far d (n ∷ ns) (suc i) kind place l e = scan_fault dialect at given so_far d ns i kind place (omega arith) e

-- the last number is in no sum
pub scan_last : (dialect : Dialect) (at : ℕ) (given : List Value) (so_far : ℤ) (ns : List ℤ) (i : ℕ) → i + 1 ≡ length ns
    → sums_behind at given (scan_from dialect so_far (drop i ns)) ≡ gives (given ++ an_int so_far ∷ [])
scan_last dialect at given so_far [] i e = absurd (omega arith)
scan_last dialect at given so_far (n ∷ []) zero e = refl
scan_last dialect at given so_far (n ∷ m ∷ ns) zero e = absurd (omega arith)
scan_last dialect at given so_far (n ∷ ns) (suc i) e = scan_last dialect at given so_far ns i (omega arith)
