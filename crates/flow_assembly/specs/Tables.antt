-- How often each stream is read, as a table says it.
use Rattle.std.specs.Prelude.{◌≡◌, ℕ, ◌+◌, ◌<◌, List, slice_index_or}
use Rattle.flow_networks.specs.Limits.{most_edges}
use Rattle.flow_nodes.specs.plans.Layouts.{times}

-- how often the stream is read; one that is not in the table is not read
abbrev pub uses_in : List ℕ → ℕ → ℕ
uses_in table s = slice_index_or table s 0

-- later these reads are counted too
abbrev pub CountsReads : List ℕ → (reads : List ℕ) → List ℕ → Type 0
CountsReads table reads later = (s : ℕ) → uses_in later s ≡ uses_in table s + times s reads

-- later all other streams are read as often
abbrev pub SameUsesBut : List ℕ → (stream : ℕ) → List ℕ → Type 0
SameUsesBut table stream later = (s : ℕ) → (s ≡ stream → ⊥) → uses_in later s ≡ uses_in table s

-- with these reads some stream is read more often than a graph may have edges
abbrev pub CountsTooMany : List ℕ → (reads : List ℕ) → Type 0
CountsTooMany table reads = (s : ℕ) × (most_edges < uses_in table s + times s reads)
