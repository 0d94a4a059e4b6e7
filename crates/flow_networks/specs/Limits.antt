-- The limits of a graph, as numbers.
use Rattle.std.specs.Prelude.{ℕ}

-- the most nodes of a graph
abbrev pub most_nodes : ℕ
most_nodes = 4096

-- the most edges of a graph
abbrev pub most_edges : ℕ
most_edges = 16384
