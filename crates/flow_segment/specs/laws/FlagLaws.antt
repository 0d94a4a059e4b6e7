-- What the laws of workers over flags share.
use Rattle.std.specs.Prelude.{◌≡◌, ℕ, zero, suc, List, [], ◌∷◌, map, sum_by, refl, ◌↔◌}
use Rattle.std.proofs.Common.{◌∙◌, ap}
use Rattle.std.proofs.lemmas.List.Sums.{sum_by-cons}
use Rattle.flow_messages.specs.Cells.{Cell}
use Rattle.flow_base.specs.Lists.{Lists}
use Rattle.flow_base.specs.Flags.{T, elements, flags}
use Rattle.flow_base.specs.Segments.{elements-add}
use Rattle.flow_base.specs.Columns.{Columns, columns}
use Rattle.flow_base.specs.Machines.{Taking, begins, takes, Machine, ask_of, RunOf, Runs, SoundAt, MachineLaws}
use Rattle.flow_base.specs.declared.worker.Ask.TheVariants.{Begin}
use Rattle.flow_segment.specs.FlagTables.{FlagTable, over_flags}

-- what runs from a state that reads from port 0 runs from one that begins an instance with the same
pub from_start : {P S : Type 0} (m : Machine P S) (p : P) (t : Taking S) {i o : Columns} → ((n : ℕ) × RunOf m p n (takes 0 t) i o) → (n : ℕ) × RunOf m p n (begins t) i o
from_start m p t (suc n, r) = (suc n, r)
from_start m p t (zero, r) = absurd r

-- a sound table whose row is what its runs read and write keeps to the laws
pub flag_laws : {S : Type 0} (t : FlagTable S) → ((s : S) → SoundAt (over_flags t) tt s (t.move s)) → ask_of (t.move t.start) ≡ Begin →
    ((i o : Lists Cell) → t.row i o ↔ Runs (over_flags t) tt t.start (columns t.inputs i) (columns t.outputs o)) → MachineLaws (over_flags t)
flag_laws t sound starts rows = record { sound = λ _. sound; begins_at_start = λ _. starts; starts_of_kind = λ _. tt; rows = λ _. rows }

-- for each number as many elements as f says, then the list
abbrev pub all_elements : (ℕ → ℕ) → List ℕ → List Cell → List Cell
all_elements f [] r = r
all_elements f (m ∷ ms) r = elements (f m) (all_elements f ms r)

-- flags of the sum over each group, one element at a time
abbrev pub sum_flags : (ℕ → ℕ) → List (List ℕ) → List Cell
sum_flags f [] = []
sum_flags f (ms ∷ groups) = all_elements f ms (T ∷ sum_flags f groups)

pub sums_are : (f : ℕ → ℕ) (groups : List (List ℕ)) → flags (map (sum_by f) groups) ≡ sum_flags f groups
sums_are f [] = refl
sums_are f (ms ∷ groups) = go ms (T ∷ flags (map (sum_by f) groups)) ∙ ap (λ r. all_elements f ms (T ∷ r)) (sums_are f groups)
  where
    go : (ms : List ℕ) (r : List Cell) → elements (sum_by f ms) r ≡ all_elements f ms r
    go [] r = refl
    go (m ∷ ms) r = ap (λ k. elements k r) (sum_by-cons f m ms) ∙ elements-add (f m) (sum_by f ms) r ∙ ap (elements (f m)) (go ms r)
