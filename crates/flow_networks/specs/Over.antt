-- Nodes that are over.
use Rattle.std.specs.Prelude.{Bool, true, false}
use Rattle.kahn.specs.declared.want.Want.{Want}
use Rattle.kahn.specs.declared.want.Want.TheVariants.{Read, Write, Ended, Faulted}

-- whether a node that wants this makes no step again
abbrev pub is_over : Want → Bool
is_over Ended = true
is_over (Faulted fault) = true
is_over (Read p) = false
is_over (Write q) = false
