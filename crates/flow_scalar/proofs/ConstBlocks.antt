-- A constant once for each unit, along units.
use Rattle.std.proofs.Common.{◌≡◌, ℕ, ℤ, zero, suc, ◌+◌, ◌*◌, ◌<◌, ◌≤◌, Bool, true, false, List, [], ◌∷◌, length, take, get_or, refl, ◌∙◌, ap, subst, arith}
use Rattle.std.specs.Prelude.{replicate}
use Rattle.snesl_data.specs.declared.operators.scalar.Scalar.{Scalar}
use Rattle.flow_messages.specs.Blocks.{unit_signals, flag_signals, int_signals}
use Rattle.flow_messages.specs.Cells.{Cell, unit, flag, int}
use Rattle.flow_messages.specs.Signals.{Signal, carry}
use Rattle.flow_base.proofs.Along.{Single, single_none, single_first, single_write, single_then}
use Rattle.flow_folds.specs.Scalars.{cell_of_scalar}
use Rattle.flow_scalar.specs.ConstMachine.{const_machine}

-- so many of an item
abbrev pub copies : Cell → ℕ → List Signal
copies x n = replicate n (carry x)

said_ints : (n : ℤ) (count : ℕ) → int_signals (replicate count n) ≡ copies (int n) count
said_ints n zero = refl
said_ints n (suc count) = ap (λ l. carry (int n) ∷ l) (said_ints n count)

said_flags : (b : Bool) (count : ℕ) → flag_signals (replicate count b) ≡ copies (flag b) count
said_flags b zero = refl
said_flags b (suc count) = ap (λ l. carry (flag b) ∷ l) (said_flags b count)

-- places that were filled with one value
filled_with : {A : Type 0} (x d : A) (n : ℕ) (xs : List A) → n ≤ length xs → ((k : ℕ) → k < n → get_or xs k d ≡ x) → take n xs ≡ replicate n x
filled_with x d zero xs within filled = refl
filled_with x d (suc n) [] within filled = absurd (omega arith)
filled_with x d (suc n) (y ∷ xs) within filled =
    let first : y ≡ x = filled 0 (omega arith) in
    let rest : take n xs ≡ replicate n x = filled_with x d n xs (omega arith) (λ k h. filled (suc k) (omega (arith, h))) in
    cc

pub filled_ints : (n d : ℤ) (count : ℕ) (xs : List ℤ) → count ≤ length xs → ((k : ℕ) → k < count → get_or xs k d ≡ n) → int_signals (take count xs) ≡ copies (int n) count
filled_ints n d count xs within filled = ap int_signals (filled_with n d count xs within filled) ∙ said_ints n count

pub filled_flags : (b d : Bool) (count : ℕ) (xs : List Bool) → count ≤ length xs → ((k : ℕ) → k < count → get_or xs k d ≡ b) → flag_signals (take count xs) ≡ copies (flag b) count
filled_flags b d count xs within filled = ap flag_signals (filled_with b d count xs within filled) ∙ said_flags b count

-- a unit is one step, and the scalar one more
pub const_steps : (k : Scalar) (n : ℕ) → Single const_machine k false false (unit_signals n) [] (copies (cell_of_scalar k) n) (2 * n)
const_steps k zero = single_none const_machine k false
const_steps k (suc n) =
    let m = const_machine in
    let read = single_first m k false true unit refl refl in
    let wrote = single_write m k true false (cell_of_scalar k) refl refl refl in
    let one = single_then m k (carry unit ∷ []) [] [] [] [] (carry (cell_of_scalar k) ∷ []) read wrote in
    let steps : (1 + 1) + 2 * n ≡ 2 * suc n = omega arith in
    subst (Single m k false false (unit_signals (suc n)) [] (copies (cell_of_scalar k) (suc n))) steps
    (single_then m k (carry unit ∷ []) [] (carry (cell_of_scalar k) ∷ []) (unit_signals n) [] (copies (cell_of_scalar k) n) one (const_steps k n))
