-- The runs of Iota are its row.
use Rattle.std.specs.Prelude.{◌≡◌, ◌≤◌, ℕ, zero, suc, ℤ, pos, negsuc, ◌+ℤ◌, ◌-ℤ◌, ◌≤ℤ◌, ◌<ℤ◌, int_lt, Bool, true, false, cond, not, List, [], ◌∷◌, ◌++◌, map, refl}
use Rattle.std.proofs.Common.{arith, sym, ◌∙◌, ap, subst}
use Rattle.std.proofs.lemmas.Bool.Decides.{nat_tests}
use Rattle.std.proofs.lemmas.Int.{ints}
use Rattle.snesl_data.specs.declared.dialect.Dialect.{Dialect}
use Rattle.snesl_data.specs.declared.dialect.Dialect.TheVariants.{One, Two}
use Rattle.snesl_data.specs.Integers.{greatest_integer, IsInteger}
use Rattle.flow_messages.specs.Cells.{Cell, flag, int}
use Rattle.flow_base.specs.Flags.{F, T, elements, flags, concatenation}
use Rattle.flow_base.specs.Columns.{Columns, push_column, rows_from}
use Rattle.flow_base.specs.Machines.{MachineLaws, SoundAt, OfKind, OfRange, on_int, RunOf, Runs}
use Rattle.flow_base.specs.MachineRuns.{Then, reading, writing, run_is}
use Rattle.flow_scalar.specs.Rows.{numbers_from, numbers_below, iota_reads, iota_writes}
use Rattle.flow_scalar.specs.IotaMachine.{number_after, natural_of, count_left, first_flag, flag_move, iota_move, iota_in_range, iota_machine}
use Rattle.flow_scalar.specs.declared.iota.Iota.{Iota}
use Rattle.flow_scalar.specs.declared.iota.Iota.TheVariants.{Between, Flag, Number}

-- an integer that is not negative is a natural number
natural_is : (z : ℤ) → pos 0 ≤ℤ z → z ≡ pos (natural_of z)
natural_is (pos n) h = refl
natural_is (negsuc n) h = absurd (omega (arith, ints))

-- an integer up to 0 counts for 0
natural_of_negative : (z : ℤ) → z ≤ℤ pos 0 → natural_of z ≡ 0
natural_of_negative (pos n) h = omega (arith, ints)
natural_of_negative (negsuc n) h = refl

-- below the end the next number is one more
after_is : (number end : ℤ) → int_lt number end ≡ true → number_after number end ≡ number +ℤ pos 1
after_is number end h = ap (λ b. cond b (number +ℤ pos 1) end) h

-- below the end there is one number more from a number on than from the next on
left_below : (number end : ℤ) → int_lt number end ≡ true → count_left number end ≡ suc (count_left (number_after number end) end)
left_below number end h =
    let below : number <ℤ end = grind (arith, ints) in
    let others = natural_is (end -ℤ (number +ℤ pos 1)) (omega (arith, ints)) in
    let all : end -ℤ number ≡ pos (suc (count_left (number +ℤ pos 1) end)) = omega (arith, ints) in
    ap natural_of all ∙ ap (λ z. suc (count_left z end)) (sym (after_is number end h))

-- from the end on there is none
left_at_end : (number end : ℤ) → int_lt number end ≡ false → count_left number end ≡ 0
left_at_end number end h =
    let above : end ≤ℤ number = grind (arith, ints) in
    natural_of_negative (end -ℤ number) (omega (arith, ints))

-- an integer of the dialect lies between these bounds
bounds : (dialect : Dialect) (z : ℤ) → IsInteger dialect z → (negsuc (greatest_integer dialect) ≤ℤ z) × (z ≤ℤ pos (greatest_integer dialect))
bounds dialect (pos n) h = let le : n ≤ greatest_integer dialect = grind (arith, nat_tests) in (omega (arith, ints), omega (arith, ints))
bounds dialect (negsuc n) h = let le : n ≤ greatest_integer dialect = grind (arith, nat_tests) in (omega (arith, ints), omega (arith, ints))

-- and what lies between them is one
between_bounds : (dialect : Dialect) (z : ℤ) → negsuc (greatest_integer dialect) ≤ℤ z → z ≤ℤ pos (greatest_integer dialect) → IsInteger dialect z
between_bounds dialect (pos n) low high = let le : n ≤ greatest_integer dialect = omega (arith, ints) in grind (arith, nat_tests)
between_bounds dialect (negsuc n) low high = let le : n ≤ greatest_integer dialect = omega (arith, ints) in grind (arith, nat_tests)

-- the next number lies in the range where the number and the end do
in_range_after : (dialect : Dialect) (number end : ℤ) → IsInteger dialect number → IsInteger dialect end → IsInteger dialect (number_after number end)
in_range_after dialect number end h g = go (int_lt number end) refl
  where
    go : (b : Bool) → int_lt number end ≡ b → IsInteger dialect (cond b (number +ℤ pos 1) end)
    go false e = g
    go true e =
        let below : number <ℤ end = grind (arith, ints) in
        let low = bounds dialect number h in
        let high = bounds dialect end g in
        between_bounds dialect (number +ℤ pos 1) (omega (arith, ints)) (omega (arith, ints))

-- the table keeps to its laws at a flag, by the test
flag_sound : (next end : ℤ) (b : Bool) → int_lt next end ≡ b → SoundAt iota_machine tt (Flag next end) (flag_move next end b)
flag_sound next end true e = let more = left_below next end e in (omega arith, omega arith, λ _. (refl, tt), λ _ _ h. (tt, h))
flag_sound next end false e = (omega arith, omega arith, λ _. (refl, tt), λ _ _ _. (tt, tt))

-- the table keeps to its laws
sound : (s : Iota) → SoundAt iota_machine tt s (iota_move s)
sound Between = (refl, (omega arith, refl, λ _. kinds, λ dialect _ _. ranges dialect))
  where
    kinds : OfKind (λ _. Unit {0}) (on_int first_flag)
    kinds (pos n) = tt
    kinds (negsuc n) = tt

    ranges : (dialect : Dialect) → OfRange dialect (iota_in_range dialect) (on_int first_flag)
    ranges One (pos n) h = (refl, h)
    ranges Two (pos n) h = (refl, h)
    ranges dialect (negsuc n) h = tt
sound (Flag next end) = flag_sound next end (int_lt next end) refl
sound (Number next end) = (omega arith, omega arith, λ _. (refl, tt), λ dialect _ h. (h.0, (in_range_after dialect next end h.0 h.1, h.1)))

-- a run from this state reads a and writes f and r
abbrev Does : Iota → List Cell → List Cell → List Cell → Type 0
Does s a f r = Runs iota_machine tt s (a ∷ []) (f ∷ r ∷ [])

-- the numbers that are left, and then a run, are a run
flag_runs : (left : ℕ) (number end : ℤ) → count_left number end ≡ left → {a f r : List Cell} → Does Between a f r → Does (Flag number end) a (elements left (T ∷ f)) (numbers_from number left ++ r)
flag_runs zero number end e {a = a} {f = f} {r = r} run = go (int_lt number end) refl
  where
    go : (b : Bool) → int_lt number end ≡ b → (n : ℕ) × RunOf iota_machine tt n (flag_move number end b) (a ∷ []) ((T ∷ f) ∷ r ∷ [])
    go false lt = (suc run.0, (refl, run.1))
    go true lt = let more = left_below number end lt in absurd (omega arith)
flag_runs (suc left) number end e {a = a} {f = f} {r = r} run =
    go (int_lt number end) refl (λ lt. flag_runs left (number_after number end) end (let more = left_below number end lt in omega arith) run)
  where
    go : (b : Bool) → int_lt number end ≡ b → (int_lt number end ≡ true → Does (Flag (number_after number end) end) a (elements left (T ∷ f)) (numbers_from (number_after number end) left ++ r)) →
        (n : ℕ) × RunOf iota_machine tt n (flag_move number end b) (a ∷ []) ((F ∷ elements left (T ∷ f)) ∷ (int number ∷ (numbers_from (number +ℤ pos 1) left ++ r)) ∷ [])
    go true lt others = let k =
        subst (λ z. Does (Flag (number_after number end) end) a (elements left (T ∷ f)) (numbers_from z left ++ r)) (after_is number end lt) (others lt)
        in (suc (suc k.0), (refl, (refl, k.1)))
    go false lt others = let none = left_at_end number end lt in absurd (omega arith)

-- the row is a run
runs : (ns : List ℕ) → Runs iota_machine tt Between (iota_reads ns) (iota_writes ns)
runs [] = (zero, (refl, refl))
runs (n ∷ ns) = let k = flag_runs n (pos 0) (pos n) (omega arith) (runs ns) in (suc k.0, k.1)

-- what a run reads and writes
data Owes : Iota → Columns → Columns → Type 0 where
  start : (ns : List ℕ) → Owes Between (iota_reads ns) (iota_writes ns)
  flagged : (number end : ℤ) (left : ℕ) → count_left number end ≡ left → (a f r : List Cell) → Owes Between (a ∷ []) (f ∷ r ∷ []) →
      Owes (Flag number end) (a ∷ []) (elements left (T ∷ f) ∷ (numbers_from number left ++ r) ∷ [])
  numbered : (number end : ℤ) {i o : Columns} → Owes (Flag (number_after number end) end) i o → Owes (Number number end) i (push_column 1 (int number) o)

-- what a flag and then the next state owe
after_flag : (number end : ℤ) (b : Bool) → int_lt number end ≡ b → (i o : Columns) → Owes (cond b (Number number end) Between) i o → Owes (Flag number end) i (push_column 0 (flag (not b)) o)
after_flag number end true lt _ _ (numbered _ _ (flagged _ _ left is a f r o)) =
    subst (λ z. Owes (Flag number end) (a ∷ []) ((F ∷ elements left (T ∷ f)) ∷ (int number ∷ (numbers_from z left ++ r)) ∷ []))
    (sym (after_is number end lt)) (flagged number end (suc left) (left_below number end lt ∙ ap suc is) a f r o)
after_flag number end false lt _ _ (start ns) = flagged number end zero (left_at_end number end lt) (map (λ n. int (pos n)) ns) (flags ns) (concatenation (map numbers_below ns)) (start ns)

-- what the next state owes, and the step before it
earlier : (s : Iota) (x : Cell) (i o : Columns) → Then (λ next. Owes next i o) (iota_move s) x → Owes s (reading (iota_move s) x i) (writing (iota_move s) o)
earlier Between (int (pos n)) _ _ (flagged _ _ left e a f r (start ns)) =
    let same : n ≡ left = omega arith in
    subst (λ k. Owes Between ((int (pos n) ∷ map (λ n. int (pos n)) ns) ∷ []) (elements k (T ∷ flags ns) ∷ (numbers_from (pos 0) k ++ concatenation (map numbers_below ns)) ∷ [])) same (start (n ∷ ns))
earlier (Flag number end) _ i o h = after_flag number end (int_lt number end) refl i o h
earlier (Number number end) _ _ _ o = numbered number end o
earlier _ _ _ _ h = absurd h

-- what is owed between two segments is the row
whole : {i o : Columns} → Owes Between i o → (ns : List ℕ) × (i ≡ iota_reads ns) × (o ≡ iota_writes ns)
whole (start ns) = (ns, refl, refl)

pub iota_laws : MachineLaws iota_machine
iota_laws = record {
  sound = λ _. sound;
  begins_at_start = λ _. refl;
  starts_of_kind = λ _. tt;
  rows = λ _. rows_from iota_reads iota_writes (Runs iota_machine tt Between) runs (λ i o r. whole (run_is iota_machine tt Owes sound (start []) earlier Between i o r)) 1 2;
}
