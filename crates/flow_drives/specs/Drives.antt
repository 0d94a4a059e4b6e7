-- What a drive makes of a graph.
use Rattle.std.specs.Prelude.{◌≡◌, ℕ, ◌<◌, List, length}
use Rattle.kahn.specs.declared.want.Want.TheVariants.{Write}
use Rattle.flow_base.specs.Transducers.{Behaviour}
use Rattle.flow_networks.specs.declared.edge.Edge.{Edge}
use Rattle.flow_networks.specs.Edges.{edge_at}
use Rattle.flow_networks.specs.Networks.{state_at}
-- where a maximal run ends, and how it came out there
pub use Rattle.flow_networks.specs.MaximalRuns.{EndsMaximalRun, IsSoundAt, RestsAt, ComesOut}

module _ {S : Type 0} (b : Behaviour S) (states : List S) (edges : List Edge) where
  -- the writer of the edge wants to write to it
  abbrev pub WantsToWrite : ℕ → Type 0
  WantsToWrite e = b.process.want (state_at b states (edge_at edges e).writer) ≡ Write (edge_at edges e).writer_port

  -- e is the first edge whose writer wants to write to it
  abbrev pub IsFirstToWrite : ℕ → Type 0
  IsFirstToWrite e = (e < length edges) × WantsToWrite e × ((f : ℕ) → f < e → WantsToWrite f → ⊥)
