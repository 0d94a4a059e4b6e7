-- What is printed of a network that has ended at its least capacity.
use Rattle.std.specs.Prelude.{◌≡◌, ℕ, ◌<◌, ◌≤◌, List, [], ◌++◌, Option, Some, None, MatchOption, codes, decimal, length}
use Rattle.std.specs.Io.Iter.{u64_saturate}
use Rattle.kahn.specs.Basics.{total}
use Rattle.snesl_flatten.specs.Networks.{StreamNodeState}
use Rattle.snesl_flatten.specs.network.NodesAtRest.{FinalView}

-- how many messages went over an edge, as they are counted: a count stays at the greatest u64
abbrev pub count_over : FinalView StreamNodeState → ℕ → ℕ
count_over rest e = u64_saturate (length (rest.traffic.sent e))

-- how many went over all edges, counted so
abbrev pub message_count : FinalView StreamNodeState → ℕ
message_count rest = u64_saturate (total (count_over rest) (length rest.edges))

-- Of the first `edges` edges e is the first over which most messages went.
pub record IsBusiestOf (rest : FinalView StreamNodeState) (edges e : ℕ) : Type 0 where
  pub within : e < edges
  pub most : (f : ℕ) → f < edges → count_over rest f ≤ count_over rest e
  pub first : (f : ℕ) → f < e → count_over rest f < count_over rest e

-- of all edges e is the first over which most messages went
abbrev pub IsBusiest : FinalView StreamNodeState → ℕ → Type 0
IsBusiest rest e = IsBusiestOf rest (length rest.edges) e

-- the first over which most went was found, or there is no edge
abbrev pub FindsBusiest : FinalView StreamNodeState → Option ℕ → Type 0
FindsBusiest rest found = MatchOption found (length rest.edges ≡ 0) (IsBusiest rest)

-- a name and a number
abbrev pub name_and_number : List ℕ → ℕ → List ℕ
name_and_number name number = name ++ decimal number ++ codes "\n"

-- the least capacity, how many nodes and edges there are, and how many messages went over all edges
abbrev pub sizes_part : ℕ → FinalView StreamNodeState → List ℕ
sizes_part least rest =
    name_and_number (codes "least capacity: ") least ++ name_and_number (codes "nodes: ") (length rest.states) ++ name_and_number (codes "edges: ") (length rest.edges)
    ++ name_and_number (codes "messages: ") (message_count rest)

-- these lines were added
abbrev pub AddsSizes : ℕ → FinalView StreamNodeState → (before after : List ℕ) → Type 0
AddsSizes least rest before after = after ≡ before ++ sizes_part least rest

-- the edge over which most of them went, and how many
abbrev pub busiest_part : ℕ → ℕ → List ℕ
busiest_part edge count = name_and_number (codes "busiest edge: ") edge ++ name_and_number (codes "messages on it: ") count

-- the edge that was full at one message less, where there is one
abbrev pub full_part : Option ℕ → List ℕ
full_part (Some edge) = name_and_number (codes "full at one less: edge ") edge
full_part None = []

-- the lines of the busiest edge of a network, or none where it has no edge
pub data BusiestLines (rest : FinalView StreamNodeState) : List ℕ → Type 0 where
  with_edges : (e : ℕ) → IsBusiest rest e → BusiestLines rest (busiest_part e (count_over rest e))
  without_edges : length rest.edges ≡ 0 → BusiestLines rest []

-- such lines were added
abbrev pub AddsBusiest : FinalView StreamNodeState → (before after : List ℕ) → Type 0
AddsBusiest rest before after = (lines : List ℕ) × BusiestLines rest lines × (after ≡ before ++ lines)

-- What is printed of a network that has ended at its least capacity, where this edge was full at one message less.
pub record IsSizeTable (least : ℕ) (full : Option ℕ) (rest : FinalView StreamNodeState) (table : List ℕ) : Type 0 where
  pub busiest : List ℕ
  pub lines : BusiestLines rest busiest
  pub is : table ≡ sizes_part least rest ++ busiest ++ full_part full
