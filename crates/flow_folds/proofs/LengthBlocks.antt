-- What Length makes of flags: the lengths of the segments that end among them.
use Rattle.std.proofs.Common.{◌≡◌, ℕ, zero, suc, ◌+◌, ◌<◌, ◌≤◌, ℤ, pos, Bool, true, false, cond, List, [], ◌∷◌, ◌++◌, length, Ok, Err, refl, ◌∙◌, ap, subst, arith}
use Rattle.std.proofs.lemmas.Bool.Decides.{nat_tests}
use Rattle.kahn.specs.declared.want.Want.TheVariants.{Read}
use Rattle.snesl_data.specs.declared.dialect.Dialect.{Dialect}
use Rattle.snesl_data.specs.declared.fault.FaultKind.TheVariants.{Overflow}
use Rattle.snesl_data.specs.Integers.{greatest_integer, is_integer}
use Rattle.flow_messages.specs.Cells.{Cell, flag, int}
use Rattle.flow_messages.specs.Blocks.{flag_signals, int_signals}
use Rattle.flow_base.specs.Machines.{ask_of, state_after_item, state_after_read}
use Rattle.flow_base.specs.Nodes.{want_for}
use Rattle.flow_base.proofs.Along.{Single, single_none, single_first, single_write, single_then}
use Rattle.flow_folds.specs.LengthMachine.{one_element_more, length_counts, length_move, length_machine}
use Rattle.flow_folds.specs.LengthBlocks.{LengthsAlong}
use Rattle.flow_folds.specs.declared.length.Count.TheVariants.{Counting, Due}

-- a flag is wanted at the beginning of a segment and within it
pub counts_want : (p : Dialect) (n : ℕ) → want_for (ask_of (length_move p (Counting n))) ≡ Read 0
counts_want p zero = refl
counts_want p (suc n) = refl

pub counts_read : (p : Dialect) (n : ℕ) (y : Cell) → state_after_read (length_move p (Counting n)) y ≡ state_after_item (length_counts p n) y
counts_read p zero y = refl
counts_read p (suc n) y = refl

-- one flag more, which stands for an element
pub element_more : (n more : ℕ) (flags : List Bool) (lengths : List ℤ) → LengthsAlong n flags lengths more → LengthsAlong n (flags ++ false ∷ []) lengths (suc more)
element_more n more [] [] along = ap suc along
element_more n more [] (l ∷ lengths) along = absurd along
element_more n more (false ∷ flags) lengths along = element_more (suc n) more flags lengths along
element_more n more (true ∷ flags) (l ∷ lengths) along = (along.0, element_more 0 more flags lengths along.1)
element_more n more (true ∷ flags) [] along = absurd along

-- and one that ends the segment
pub end_more : (n more : ℕ) (flags : List Bool) (lengths : List ℤ) → LengthsAlong n flags lengths more → LengthsAlong n (flags ++ true ∷ []) (lengths ++ pos more ∷ []) 0
end_more n more [] [] along = (ap pos along, refl)
end_more n more [] (l ∷ lengths) along = absurd along
end_more n more (false ∷ flags) lengths along = end_more (suc n) more flags lengths along
end_more n more (true ∷ flags) (l ∷ lengths) along = (along.0, end_more 0 more flags lengths along.1)
end_more n more (true ∷ flags) [] along = absurd along

-- a count in the range is an integer
counted_integer : (dialect : Dialect) (n : ℕ) → n ≤ greatest_integer dialect → is_integer dialect (pos n) ≡ true
counted_integer dialect n within = grind (arith, nat_tests)

module _ (d : Dialect) where
  -- steps that read these flags and write these lengths, from one count to another
  abbrev pub Lengths : ℕ → ℕ → List Bool → List ℤ → ℕ → Type 0
  Lengths n more flags lengths steps = Single length_machine d (Counting n) (Counting more) (flag_signals flags) [] (int_signals lengths) steps

  -- an element of a segment
  element_step : (n : ℕ) → n < greatest_integer d → Lengths n (suc n) (false ∷ []) [] 1
  element_step n within =
      let leads : state_after_item (length_counts d n) (flag false) ≡ Ok (Counting (suc n)) = let least : one_element_more d n ≡ suc n = omega arith in ap (λ k. Ok (Counting k)) least in
      single_first length_machine d (Counting n) (Counting (suc n)) (flag false) (counts_want d n) (counts_read d n (flag false) ∙ leads)

  -- the end of a segment, with its length
  end_steps : (n : ℕ) → n ≤ greatest_integer d → Lengths n 0 (true ∷ []) (pos n ∷ []) 2
  end_steps n within =
      let m = length_machine in
      let leads : state_after_item (length_counts d n) (flag true) ≡ Ok (Due (pos n)) = ap (λ t. cond t (Ok (Due (pos n))) (Err Overflow)) (counted_integer d n within) in
      let read = single_first m d (Counting n) (Due (pos n)) (flag true) (counts_want d n) (counts_read d n (flag true) ∙ leads) in
      let wrote = single_write m d (Due (pos n)) (Counting 0) (int (pos n)) refl refl refl in
      single_then m d (flag_signals (true ∷ [])) [] [] [] [] (int_signals (pos n ∷ [])) read wrote

  -- flags in the range are steps
  pub lengths_steps : (n more : ℕ) (flags : List Bool) (lengths : List ℤ) → n + length flags ≤ greatest_integer d → LengthsAlong n flags lengths more
      → Lengths n more flags lengths (length flags + length lengths)
  lengths_steps n more [] [] within along = subst (λ k. Lengths n k [] [] 0) along (single_none length_machine d (Counting n))
  lengths_steps n more [] (l ∷ lengths) within along = absurd along
  lengths_steps n more (false ∷ flags) lengths within along =
      let steps : 1 + (length flags + length lengths) ≡ length (false ∷ flags) + length lengths = omega arith in
      let rest = lengths_steps (suc n) more flags lengths (omega (arith, within)) along in
      subst (Lengths n more (false ∷ flags) lengths) steps
      (single_then length_machine d (flag_signals (false ∷ [])) [] [] (flag_signals flags) [] (int_signals lengths)
      (element_step n (omega (arith, within))) rest)
  lengths_steps n more (true ∷ flags) (l ∷ lengths) within along =
      let steps : 2 + (length flags + length lengths) ≡ length (true ∷ flags) + length (l ∷ lengths) = omega arith in
      let rest = lengths_steps 0 more flags lengths (omega (arith, within)) along.1 in
      let ended = subst (λ k. Lengths n 0 (true ∷ []) (k ∷ []) 2) along.0 (end_steps n (omega (arith, within))) in
      subst (Lengths n more (true ∷ flags) (l ∷ lengths)) steps
      (single_then length_machine d (flag_signals (true ∷ [])) [] (int_signals (l ∷ [])) (flag_signals flags) [] (int_signals lengths) ended rest)
  lengths_steps n more (true ∷ flags) [] within along = absurd along
