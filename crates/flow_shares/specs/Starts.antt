-- What a start was asked.
use Rattle.std.specs.Prelude.{◌≡◌, ◌≤◌, ◌++◌, ℕ, zero, suc, List, [], length}
use Rattle.std.specs.List.{range_with_len}
use Rattle.std.specs.Io.Iter.{u64_saturate}

-- it was asked for so many threads, each once and in order: those with the numbers from 0 on
abbrev pub AskedForEach : (count : ℕ) → (before after : List ℕ) → Type 0
AskedForEach count before after = after ≡ before ++ range_with_len 0 count

-- it was asked for the first of so many threads, perhaps for none or for all
abbrev pub AskedForFirst : (count : ℕ) → (before after : List ℕ) → Type 0
AskedForFirst count before after = (first : ℕ) × (first ≤ count) × AskedForEach first before after

-- the numbers of so many threads, so many times
abbrev pub each_again : (times count : ℕ) → List ℕ
each_again zero count = []
each_again (suc times) count = each_again times count ++ range_with_len 0 count

-- Each of some turns asked for so many threads, and nothing else did. How many turns there were is counted in a u64, which stays
-- at its most.
pub record AskedAtEach (turns count : ℕ) (before after : List ℕ) : Type 0 where
  pub times : ℕ
  pub counted : turns ≡ u64_saturate times
  pub asked : after ≡ before ++ each_again times count

-- the same of a start before and after
module _ {Y : Type 0} (asked : Y → List ℕ) (start start' : Y) where
  -- it was asked for a thread for each of these, in order
  abbrev pub AsksForEach : {A : Type 0} → List A → Type 0
  AsksForEach these = AskedForEach (length these) (asked start) (asked start')

  -- it was asked for threads for the first of these
  abbrev pub AsksForFirst : {A : Type 0} → List A → Type 0
  AsksForFirst these = AskedForFirst (length these) (asked start) (asked start')

  -- each of so many turns asked it for a thread for each of these
  abbrev pub AsksAtEach : {A : Type 0} → ℕ → List A → Type 0
  AsksAtEach turns these = AskedAtEach turns (length these) (asked start) (asked start')
