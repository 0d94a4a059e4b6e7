-- What a run of integers holds.
use Rattle.std.specs.Prelude.{◌≡◌, ℤ, List, ◌++◌}
use Rattle.flow_messages.specs.declared.int_run.IntRun.{IntRun}
use Rattle.flow_messages.specs.Runs.{run_items}

-- the integers that were not taken, the oldest first: those of 64 bits, and from the first that is wider all others
abbrev pub integers_in : IntRun → List ℤ
integers_in r = run_items r.narrow ++ r.wide.items

-- the run holds these integers now, and has room for as many as before
pub record IntRunBecomes (xs : List ℤ) (a b : IntRun) : Type 0 where
  pub items : integers_in b ≡ xs
  pub most : b.most ≡ a.most
