-- A program with an input text has one network.
use Rattle.std.specs.Prelude.{◌≡◌, ℕ, List}
use Rattle.flow_networks.specs.declared.edge.Edge.{Edge}
use Rattle.snesl_flatten.specs.Networks.{StreamNodeState}
use Rattle.snesl_flatten.specs.network.Driven.{IsNetworkFor}

-- no two networks are that of one program text with one input text, but that they agree node by node and edge by edge
abbrev pub HaveOneNetwork : Type 0
HaveOneNetwork =
    (text input : List ℕ) (states others : List StreamNodeState) (edges more : List Edge)
    → IsNetworkFor text input states edges → IsNetworkFor text input others more → (states ≡ others) × (edges ≡ more)
