-- What Seq has still to write of a vector.
use Rattle.std.specs.Prelude.{◌≡◌, ℕ, ℤ, ◌+◌, List, drop, map}
use Rattle.snesl_data.specs.Types.{int}
use Rattle.snesl_data.specs.Values.{an_int}
use Rattle.flow_values.specs.Dues.{segment_dues}
use Rattle.flow_values.specs.SeqMachine.{left_dues}
use Rattle.flow_values.specs.declared.seq.Seq.{Seq}

-- after n elements more the others of these integers are due
abbrev pub IntsAreLeft : Seq → List ℤ → ℕ → Type 0
IntsAreLeft seq ints n = left_dues int seq.vector (seq.begun + n) ≡ segment_dues int 0 (map an_int (drop n ints))
