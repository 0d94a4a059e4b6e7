-- What was taken from an edge: what was sent on it and is not held.
use Rattle.std.specs.Prelude.{◌-◌, List, length, take}

-- of what was sent, what is not among these, the youngest of them
abbrev pub gone : {X : Type 0} → List X → List X → List X
gone sent held = take (length sent - length held) sent
