-- What a run of items holds.
use Rattle.std.specs.Prelude.{◌≡◌, List, drop}
use Rattle.flow_messages.specs.declared.run.Run.{Run}

-- the items that were not taken, the oldest first
abbrev pub run_items : {X : Type 0} → Run X → List X
run_items r = drop r.taken r.items.items

-- the run holds these items now, and has room for as many as before
pub record RunBecomes {X : Type 0} (xs : List X) (a b : Run X) : Type 0 where
  pub items : run_items b ≡ xs
  pub most : b.most ≡ a.most
