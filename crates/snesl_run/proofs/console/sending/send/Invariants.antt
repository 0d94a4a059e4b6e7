use Rattle.std.proofs.Common.{◌≡◌, ℕ, List, ◌++◌, length}
use Rattle.std.specs.Io.KnownBytes.{Appends}
use Rattle.snesl_data.specs.Counted.{counted_inner, failures_of}
use Rattle.snesl_run.proofs.console.sending.send.Given as goal

abbrev pub invariant-loop-rest : goal.invariant-loop-rest
invariant-loop-rest g l =
    (front : List ℕ) × (l.fn.bytes ≡ front ++ l.rest)
    × Appends (g.W.Write.contents (counted_inner l.initial.out)) (g.W.Write.contents (counted_inner l.out)) front
    × (failures_of l.out ≡ failures_of l.initial.out)

abbrev pub decreases-loop-rest : goal.decreases-loop-rest
decreases-loop-rest g l = length l.rest
