-- A unit for each element that flags stand for, along flags.
use Rattle.std.proofs.Common.{◌≡◌, ℕ, suc, ◌+◌, Bool, true, false, not, cond, List, [], ◌∷◌, length, refl, subst, arith}
use Rattle.std.specs.List.{count_by}
use Rattle.std.proofs.lemmas.List.Recursion.{is_count_by}
use Rattle.flow_messages.specs.Cells.{unit, flag}
use Rattle.flow_messages.specs.Signals.{carry}
use Rattle.flow_messages.specs.Blocks.{unit_signals, flag_signals}
use Rattle.flow_base.proofs.Along.{Single, single_none, single_first, single_write, single_then}
use Rattle.flow_scalar.specs.UnitsOfMachine.{units_of_machine}

-- how many of the flags stand for an element
abbrev pub elements : List Bool → ℕ
elements [] = 0
elements (false ∷ flags) = suc (elements flags)
elements (true ∷ flags) = elements flags

one_flag : (flag : Bool) (flags : List Bool) → elements (flag ∷ flags) ≡ cond (not flag) (1 + elements flags) (elements flags)
one_flag false flags = omega arith
one_flag true flags = refl

pub counted : (flags : List Bool) → elements flags ≡ count_by not flags
counted flags = is_count_by elements not refl one_flag flags

-- a flag is one step, and the unit of an element one more
pub units_of_steps : (flags : List Bool) → Single units_of_machine tt false false (flag_signals flags) [] (unit_signals (elements flags)) (length flags + elements flags)
units_of_steps [] = single_none units_of_machine tt false
units_of_steps (false ∷ flags) =
    let m = units_of_machine in
    let read = single_first m tt false true (flag false) refl refl in
    let wrote = single_write m tt true false unit refl refl refl in
    let one = single_then m tt (carry (flag false) ∷ []) [] [] [] [] (carry unit ∷ []) read wrote in
    let steps : (1 + 1) + (length flags + elements flags) ≡ length (false ∷ flags) + elements (false ∷ flags) = omega arith in
    subst (Single m tt false false (flag_signals (false ∷ flags)) [] (unit_signals (elements (false ∷ flags)))) steps
    (single_then m tt (carry (flag false) ∷ []) [] (carry unit ∷ []) (flag_signals flags) [] (unit_signals (elements flags)) one
    (units_of_steps flags))
units_of_steps (true ∷ flags) =
    let m = units_of_machine in
    let one = single_first m tt false false (flag true) refl refl in
    let steps : 1 + (length flags + elements flags) ≡ length (true ∷ flags) + elements (true ∷ flags) = omega arith in
    subst (Single m tt false false (flag_signals (true ∷ flags)) [] (unit_signals (elements (true ∷ flags)))) steps
    (single_then m tt (carry (flag true) ∷ []) [] [] (flag_signals flags) [] (unit_signals (elements flags)) one (units_of_steps flags))
