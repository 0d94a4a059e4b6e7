-- The limits of a configuration, as numbers. That of the capacity is the table's.
use Rattle.std.specs.Prelude.{ℕ}

-- the most steps of a node at one visit
abbrev pub greatest_chunk : ℕ
greatest_chunk = 1024

-- the most threads
abbrev pub most_threads : ℕ
most_threads = 16

-- the most turns in a row without a step
abbrev pub most_idle_turns : ℕ
most_idle_turns = 1000000

-- the most entries of the list that deals out the nodes
abbrev pub most_entries : ℕ
most_entries = 4096
