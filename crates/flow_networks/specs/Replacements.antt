-- Which transducers may stand in place of a node of a graph.
use Rattle.std.specs.Prelude.{◌≡◌, ℕ, ◌<◌, List, length}
use Rattle.flow_base.specs.Transducers.{Behaviour}
use Rattle.flow_networks.specs.Networks.{inputs_at, outputs_at, kind_to, kind_from}

-- A transducer in state s may stand in place of node k: there is such a node, s is an opening state, and both have as
-- many ports, for items of the same kinds.
pub record MayReplace {S : Type 0} (b : Behaviour S) (states : List S) (k : ℕ) (s : S) : Type 0 where
  pub node : k < length states
  pub opened : b.opening s ≡ s
  pub inputs : b.inputs s ≡ inputs_at b states k
  pub outputs : b.outputs s ≡ outputs_at b states k
  pub kinds_in : (p : ℕ) → p < inputs_at b states k → b.kind_in s p ≡ kind_to b states k p
  pub kinds_out : (q : ℕ) → q < outputs_at b states k → b.kind_out s q ≡ kind_from b states k q
