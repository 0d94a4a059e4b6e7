-- Messages as they are counted.
use Rattle.std.specs.Prelude.{ℕ, List, length}
use Rattle.std.specs.Io.Iter.{u64_saturate}
use Rattle.flow_messages.specs.Signals.{Signal}

-- how many messages these are, as a u64 says, which stays at its most
abbrev pub tally : List Signal → ℕ
tally messages = u64_saturate (length messages)
