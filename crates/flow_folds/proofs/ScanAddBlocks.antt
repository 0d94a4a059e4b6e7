-- What ScanAdd makes of flags: the elements that they stand for, and the sums before these.
use Rattle.std.proofs.Common.{◌≡◌, ℕ, ◌+◌, ◌*◌, ℤ, pos, ◌+ℤ◌, Bool, true, false, List, [], ◌∷◌, ◌++◌, length, Ok, refl, sym, ◌∙◌, ap, subst, arith}
use Rattle.kahn.specs.declared.want.Want.TheVariants.{Read}
use Rattle.snesl_data.specs.declared.dialect.Dialect.{Dialect}
use Rattle.snesl_data.specs.operators.Operators.{ranged}
use Rattle.flow_messages.specs.Cells.{int}
use Rattle.flow_messages.specs.Blocks.{flag_signals, int_signals}
use Rattle.flow_base.specs.Flags.{F, T}
use Rattle.flow_base.specs.Machines.{ask_of, state_after_read}
use Rattle.flow_base.specs.Nodes.{want_for}
use Rattle.flow_base.proofs.Along.{Single, single_none, single_first, single_second, single_write, single_then}
use Rattle.flow_folds.specs.ScanAddMachine.{after_sum, scan_add_move, scan_add_machine}
use Rattle.flow_folds.specs.ScanAddBlocks.{AwaitsFlag, IsNextSum, SumsAlong}
use Rattle.flow_folds.specs.declared.scan_add.Stage.{Stage}
use Rattle.flow_folds.specs.declared.scan_add.Stage.TheVariants.{Start, Flag, Element, Write}

-- where F leads to an element, a flag comes next
pub flag_next : (d : Dialect) (s : Stage) (before last : ℤ) → state_after_read (scan_add_move d s) F ≡ Ok (Element before last) → want_for (ask_of (scan_add_move d s)) ≡ Read 0
flag_next d Start before last e = refl
flag_next d (Flag b l) before last e = refl
flag_next d (Element b l) before last e = absurd (cc)
flag_next d (Write b l) before last e = absurd (cc)

-- and T ends the segment
pub ends_there : (d : Dialect) (s : Stage) (before last : ℤ) → state_after_read (scan_add_move d s) F ≡ Ok (Element before last) → state_after_read (scan_add_move d s) T ≡ Ok Start
ends_there d Start before last e = refl
ends_there d (Flag b l) before last e = refl
ends_there d (Element b l) before last e = absurd (cc)
ends_there d (Write b l) before last e = absurd (cc)

pub awaits : (d : Dialect) (s : Stage) (before last : ℤ) → state_after_read (scan_add_move d s) F ≡ Ok (Element before last) → AwaitsFlag s
awaits d Start before last e = tt
awaits d (Flag b l) before last e = tt
awaits d (Element b l) before last e = absurd (cc)
awaits d (Write b l) before last e = absurd (cc)

-- such a flag is wanted, and one that ends the segment leads to the start
awaits_want : (d : Dialect) (s : Stage) → AwaitsFlag s → want_for (ask_of (scan_add_move d s)) ≡ Read 0
awaits_want d Start comes = refl
awaits_want d (Flag b l) comes = refl
awaits_want d (Element b l) comes = absurd comes
awaits_want d (Write b l) comes = absurd comes

awaits_end : (d : Dialect) (s : Stage) → AwaitsFlag s → state_after_read (scan_add_move d s) T ≡ Ok Start
awaits_end d Start comes = refl
awaits_end d (Flag b l) comes = refl
awaits_end d (Element b l) comes = absurd comes
awaits_end d (Write b l) comes = absurd comes

-- and the sum of what is held is the next
pub next_sum : (d : Dialect) (s : Stage) (before last sum : ℤ) → state_after_read (scan_add_move d s) F ≡ Ok (Element before last) → ranged d (before +ℤ last) ≡ Ok sum → IsNextSum d s sum
next_sum d Start before last sum e is =
    let first : before ≡ pos 0 = cc in
    let second : last ≡ pos 0 = cc in
    ap (λ n. ranged d (n +ℤ pos 0)) (sym first) ∙ ap (λ n. ranged d (before +ℤ n)) (sym second) ∙ is
next_sum d (Flag b l) before last sum e is =
    let first : before ≡ b = cc in
    let second : last ≡ l = cc in
    ap (λ n. ranged d (n +ℤ l)) (sym first) ∙ ap (λ n. ranged d (before +ℤ n)) (sym second) ∙ is
next_sum d (Element b l) before last sum e is = absurd (cc)
next_sum d (Write b l) before last sum e is = absurd (cc)

-- one flag more, which ends a segment
pub end_more : (d : Dialect) (s t : Stage) (flags : List Bool) (xs sums : List ℤ) → SumsAlong d s flags xs sums t → AwaitsFlag t → SumsAlong d s (flags ++ true ∷ []) xs sums Start
end_more d s t [] [] [] along comes = (subst AwaitsFlag (sym along) comes, refl)
end_more d s t [] [] (v ∷ sums) along comes = absurd along
end_more d s t [] (x ∷ xs) sums along comes = absurd along
end_more d s t (true ∷ flags) xs sums along comes = (along.0, end_more d Start t flags xs sums along.1 comes)
end_more d s t (false ∷ flags) (x ∷ xs) (v ∷ sums) along comes = (along.0, end_more d (Flag v x) t flags xs sums along.1 comes)
end_more d s t (false ∷ flags) [] sums along comes = absurd along
end_more d s t (false ∷ flags) (x ∷ xs) [] along comes = absurd along

-- and one that stands for an element
pub element_more : (d : Dialect) (s t : Stage) (flags : List Bool) (xs sums : List ℤ) (x sum : ℤ) → SumsAlong d s flags xs sums t → IsNextSum d t sum
    → SumsAlong d s (flags ++ false ∷ []) (xs ++ x ∷ []) (sums ++ sum ∷ []) (Flag sum x)
element_more d s t [] [] [] x sum along is = (subst (λ k. IsNextSum d k sum) (sym along) is, refl)
element_more d s t [] [] (v ∷ sums) x sum along is = absurd along
element_more d s t [] (y ∷ xs) sums x sum along is = absurd along
element_more d s t (true ∷ flags) xs sums x sum along is = (along.0, element_more d Start t flags xs sums x sum along.1 is)
element_more d s t (false ∷ flags) (y ∷ xs) (v ∷ sums) x sum along is = (along.0, element_more d (Flag v y) t flags xs sums x sum along.1 is)
element_more d s t (false ∷ flags) [] sums x sum along is = absurd along
element_more d s t (false ∷ flags) (y ∷ xs) [] x sum along is = absurd along

module _ (d : Dialect) where
  -- steps that read these flags and elements and write these sums
  abbrev pub Sums : Stage → Stage → List Bool → List ℤ → List ℤ → ℕ → Type 0
  Sums s t flags xs sums n = Single scan_add_machine d s t (flag_signals flags) (int_signals xs) (int_signals sums) n

  -- the flag that ends a segment
  end_step : (s : Stage) → AwaitsFlag s → Sums s Start (true ∷ []) [] [] 1
  end_step s comes = single_first scan_add_machine d s Start T (awaits_want d s comes) (awaits_end d s comes)

  -- a flag with its element, after these
  after_steps : (s : Stage) (before last x sum : ℤ) → state_after_read (scan_add_move d s) F ≡ Ok (Element before last) → ranged d (before +ℤ last)
      ≡ Ok sum → Sums s (Flag sum x) (false ∷ []) (x ∷ []) (sum ∷ []) 3
  after_steps s before last x sum opens is =
      let m = scan_add_machine in
      let one = single_first m d s (Element before last) F (flag_next d s before last opens) opens in
      let two = single_second m d (Element before last) (Write sum x) (int x) refl (ap (λ q. after_sum q x) is) in
      let three = single_write m d (Write sum x) (Flag sum x) (int sum) refl refl refl in
      single_then m d (flag_signals (false ∷ [])) (int_signals (x ∷ [])) [] [] [] (int_signals (sum ∷ []))
      (single_then m d (flag_signals (false ∷ [])) [] [] [] (int_signals (x ∷ [])) [] one two) three

  element_steps : (s : Stage) (x sum : ℤ) → IsNextSum d s sum → Sums s (Flag sum x) (false ∷ []) (x ∷ []) (sum ∷ []) 3
  element_steps Start x sum is = after_steps Start (pos 0) (pos 0) x sum refl is
  element_steps (Flag before last) x sum is = after_steps (Flag before last) before last x sum refl is
  element_steps (Element before last) x sum is = absurd is
  element_steps (Write before last) x sum is = absurd is

  -- steps, and then others
  sums_then : (s t u : Stage) (bs cs : List Bool) (xs vs ys ws : List ℤ) (n k l : ℕ) → n + k ≡ l → Sums s t bs xs vs n → Sums t u cs ys ws k →
      Single scan_add_machine d s u (flag_signals bs ++ flag_signals cs) (int_signals xs ++ int_signals ys) (int_signals vs ++ int_signals ws) l
  sums_then s t u bs cs xs vs ys ws n k l count one more =
      subst (Single scan_add_machine d s u (flag_signals bs ++ flag_signals cs) (int_signals xs ++ int_signals ys) (int_signals vs ++ int_signals ws))
      count (single_then scan_add_machine d (flag_signals bs) (int_signals xs) (int_signals vs) (flag_signals cs) (int_signals ys) (int_signals ws) one
      more)

  pub sums_steps : (s t : Stage) (flags : List Bool) (xs sums : List ℤ) → SumsAlong d s flags xs sums t → Sums s t flags xs sums (length flags + 2 * length xs)
  sums_steps s t [] [] [] along = subst (λ k. Sums s k [] [] [] 0) along (single_none scan_add_machine d s)
  sums_steps s t [] [] (v ∷ sums) along = absurd along
  sums_steps s t [] (x ∷ xs) sums along = absurd along
  sums_steps s t (true ∷ flags) xs sums along =
      sums_then s Start t (true ∷ []) flags [] [] xs sums 1 (length flags + 2 * length xs) (length (true ∷ flags) + 2 * length xs) (omega arith)
      (end_step s along.0) (sums_steps Start t flags xs sums along.1)
  sums_steps s t (false ∷ flags) (x ∷ xs) (v ∷ sums) along =
      sums_then s (Flag v x) t (false ∷ []) flags (x ∷ []) (v ∷ []) xs sums 3 (length flags + 2 * length xs)
      (length (false ∷ flags) + 2 * length (x ∷ xs)) (omega arith) (element_steps s x v along.0) (sums_steps (Flag v x) t flags xs sums along.1)
  sums_steps s t (false ∷ flags) [] sums along = absurd along
  sums_steps s t (false ∷ flags) (x ∷ xs) [] along = absurd along
