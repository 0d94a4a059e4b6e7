-- The network of a program before any step, and why there may be none.
use Rattle.std.specs.Prelude.{List, ℕ}
use Rattle.snesl_data.specs.declared.refusal.Refusal.{Refusal}
use Rattle.flow_networks.specs.declared.edge.Edge.{Edge}
use Rattle.flow_drives.specs.declared.config.Config.{Config}
use Rattle.snesl_flatten.specs.Networks.{NetworkMeans, StreamNodeState}
use Rattle.snesl_flatten.specs.network.Driven.{CameToRest, FitsInGraph, IsNetworkFor, WasRefused}
use Rattle.snesl_flatten.specs.network.NodesAtRest.{FinalView}

module _ (text input : List ℕ) where
  -- These nodes and edges are the network of the program with its input, which a graph may have, and compute its value.
  pub record IsMeantFor (states : List StreamNodeState) (edges : List Edge) : Type 0 where
    pub start : IsNetworkFor text input states edges
    pub few : FitsInGraph text start.program start.declared.inputs
    pub means : NetworkMeans text start.program start.environment states edges

  -- there is no network of it, whatever the configuration
  abbrev pub HasNoNetwork : Refusal → Type 0
  HasNoNetwork refusal = (config : Config) → WasRefused text input config refusal

-- what rests is as each program says of which these are the nodes and edges
abbrev pub IsAsMeant : List StreamNodeState → List Edge → Config → FinalView StreamNodeState → Type 0
IsAsMeant states edges config rest = (text input : List ℕ) → IsMeantFor text input states edges → CameToRest text input config rest

-- so is the refusal
abbrev pub IsRefusedAsMeant : List StreamNodeState → List Edge → Config → Refusal → Type 0
IsRefusedAsMeant states edges config refusal = (text input : List ℕ) → IsMeantFor text input states edges → WasRefused text input config refusal
