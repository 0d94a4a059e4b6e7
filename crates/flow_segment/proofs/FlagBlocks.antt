-- Steps of a table along flags.
use Rattle.std.proofs.Common.{◌≡◌, ℕ, ◌+◌, ◌<◌, Bool, false, List, [], ◌∷◌, ◌++◌, length, take, set, get_or, sym, ◌∙◌, ap, subst, arith, append-nil, length-append}
use Rattle.std.proofs.lemmas.List.{map-append, take_more, take_more_set}
use Rattle.kahn.specs.declared.want.Want.TheVariants.{Read}
use Rattle.flow_messages.specs.Cells.{Cell, flag}
use Rattle.flow_messages.specs.Blocks.{flag_signals}
use Rattle.flow_messages.specs.Signals.{carry}
use Rattle.flow_base.specs.Machines.{Taking, state_after_item, gives, ask_of, state_after_read, written_cell, state_after_write, Leads}
use Rattle.flow_base.specs.Nodes.{want_for}
use Rattle.flow_base.proofs.Along.{only, ran_as, single_none, single_first, single_second, single_write, single_then}
use Rattle.flow_segment.specs.FlagTables.{FlagTable, over_flags}
use Rattle.flow_segment.specs.FlagBlocks.{RunsOver}

said_then : (xs : List Bool) (b : Bool) → flag_signals xs ++ carry (flag b) ∷ [] ≡ flag_signals (xs ++ b ∷ [])
said_then xs b = sym (map-append (λ x. carry (flag x)) xs (b ∷ []))

module _ {S : Type 0} (t : FlagTable S) where
  -- no step
  pub runs_none : (s : S) → RunsOver t s [] [] [] s
  runs_none s = single_none (over_flags t) tt s

  module _ (s : S) (xs ys zs : List Bool) (u : S) (run : RunsOver t s xs ys zs u) where
    -- it reads a flag of its first input
    pub runs_first : (k : Taking S) (b : Bool) (next : S) → want_for (ask_of (t.move u)) ≡ Read 0 →
        ((y : Cell) → state_after_read (t.move u) y ≡ state_after_item k y) → Leads k (carry (flag b)) next → RunsOver t s (xs ++ b ∷ []) ys zs next
    runs_first k b next wants given leads =
        let m = over_flags t in
        let more = single_then m tt (flag_signals xs) (flag_signals ys) (flag_signals zs) (carry (flag b) ∷ []) [] [] run (single_first m tt u next (flag b) wants (given (flag b) ∙ leads)) in
        ran_as m tt more (flag_signals (xs ++ b ∷ [])) (flag_signals ys) (only (flag_signals zs)) (length (xs ++ b ∷ []) + length ys + length zs)
        (said_then xs b) (append-nil (flag_signals ys)) (λ q. ap (λ l. only l q) (append-nil (flag_signals zs)))
        (omega (arith, length-append xs (b ∷ [])))

    -- it reads a flag of its second input
    pub runs_second : (k : Taking S) (b : Bool) (next : S) → want_for (ask_of (t.move u)) ≡ Read 1 →
        ((y : Cell) → state_after_read (t.move u) y ≡ state_after_item k y) → Leads k (carry (flag b)) next → RunsOver t s xs (ys ++ b ∷ []) zs next
    runs_second k b next wants given leads =
        let m = over_flags t in
        let more = single_then m tt (flag_signals xs) (flag_signals ys) (flag_signals zs) [] (carry (flag b) ∷ []) [] run (single_second m tt u next (flag b) wants (given (flag b) ∙ leads)) in
        ran_as m tt more (flag_signals xs) (flag_signals (ys ++ b ∷ [])) (only (flag_signals zs)) (length xs + length (ys ++ b ∷ []) + length zs)
        (append-nil (flag_signals xs)) (said_then ys b) (λ q. ap (λ l. only l q) (append-nil (flag_signals zs)))
        (omega (arith, length-append ys (b ∷ [])))

    -- it writes a flag
    pub runs_write : (b : Bool) (next : S) → gives 0 (flag b) next ≡ t.move u → RunsOver t s xs ys (zs ++ b ∷ []) next
    runs_write b next is =
        let m = over_flags t in
        let wrote = single_write m tt u next (flag b) (sym (ap (λ v. want_for (ask_of v)) is)) (sym (ap written_cell is)) (sym (ap (state_after_write u) is)) in
        let more = single_then m tt (flag_signals xs) (flag_signals ys) (flag_signals zs) [] [] (carry (flag b) ∷ []) run wrote in
        ran_as m tt more (flag_signals xs) (flag_signals ys) (only (flag_signals (zs ++ b ∷ []))) (length xs + length ys + length (zs ++ b ∷ []))
        (append-nil (flag_signals xs)) (append-nil (flag_signals ys)) (λ q. ap (λ l. only l q) (said_then zs b))
        (omega (arith, length-append zs (b ∷ [])))

module _ {S : Type 0} (t : FlagTable S) (s : S) (xs ys zs : List Bool) (i j n : ℕ) (u next : S) (run : RunsOver t s (take i xs) (take j ys) (take n zs) u) where
  -- the next flag of the first input, and of the second
  pub next_first : (k : Taking S) → i < length xs → want_for (ask_of (t.move u)) ≡ Read 0 →
      ((y : Cell) → state_after_read (t.move u) y ≡ state_after_item k y) → Leads k (carry (flag (get_or xs i false))) next →
      RunsOver t s (take (i + 1) xs) (take j ys) (take n zs) next
  next_first k within wants given leads =
      subst (λ l. RunsOver t s l (take j ys) (take n zs) next) (sym (take_more xs i false within))
      (runs_first t s (take i xs) (take j ys) (take n zs) u run k (get_or xs i false) next wants given leads)

  pub next_second : (k : Taking S) → j < length ys → want_for (ask_of (t.move u)) ≡ Read 1 →
      ((y : Cell) → state_after_read (t.move u) y ≡ state_after_item k y) → Leads k (carry (flag (get_or ys j false))) next →
      RunsOver t s (take i xs) (take (j + 1) ys) (take n zs) next
  next_second k within wants given leads =
      subst (λ l. RunsOver t s (take i xs) l (take n zs) next) (sym (take_more ys j false within))
      (runs_second t s (take i xs) (take j ys) (take n zs) u run k (get_or ys j false) next wants given leads)

  -- the next flag that is written
  pub next_written : (b : Bool) → n < length zs → gives 0 (flag b) next ≡ t.move u → RunsOver t s (take i xs) (take j ys) (take (n + 1) (set zs n b)) next
  next_written b within is = subst (λ l. RunsOver t s (take i xs) (take j ys) l next) (sym (take_more_set zs n b within)) (runs_write t s (take i xs) (take j ys) (take n zs) u run b next is)
