-- Runs of one network, seen from other states of its nodes, and what is counted in them.
use Rattle.std.proofs.Common.{◌≡◌, ℕ, List, length, Some, refl, subst, ap, ◌∙◌}
use Rattle.kahn.specs.Configurations.{start}
use Rattle.kahn.specs.Runs.{Reaches}
use Rattle.flow_messages.specs.Ends.{View}
use Rattle.flow_base.specs.Transducers.{Behaviour}
use Rattle.flow_networks.specs.declared.edge.Edge.{Edge}
use Rattle.flow_networks.specs.Networks.{network_of, configuration_of}
use Rattle.flow_networks.specs.MaximalRuns.{RunLeadsTo}
use Rattle.flow_networks.specs.Shapes.{IsSameNetwork}
use Rattle.flow_dealing.specs.Counts.{AreCounts, AreOfARun}

-- nodes in the same states make the same network
pub same_at_first : {S : Type 0} (b : Behaviour S) (states : List S) (edges : List Edge) → IsSameNetwork b states edges states edges
same_at_first b states edges = record { nodes = refl; same_edges = refl; network = refl }

module _ {S : Type 0} (b : Behaviour S) (capacity : ℕ) (states : List S) (edges : List Edge) where
  -- a run of the same network, at the same capacity
  pub same_run : (capacity' : ℕ) (later : List S) (edges' : List Edge) (states' : List S) (view : View) → IsSameNetwork b states edges later edges' → capacity' ≡ capacity
      → RunLeadsTo b capacity' later edges' states' view → RunLeadsTo b capacity states edges states' view
  same_run capacity' later edges' states' view same even run =
      let net = network_of b states edges in
      subst (λ limit. Reaches b.process net (Some limit) (start net) (configuration_of b states' view)) even
      (subst (λ of. Reaches b.process of (Some capacity') (start of) (configuration_of b states' view)) same.network run)

  -- what is counted where a run leads
  pub counted : (n : ℕ) (edges' : List Edge) (states' : List S) (view : View) (counts : List ℕ) → n ≡ length edges' → edges' ≡ edges
      → RunLeadsTo b capacity states edges states' view → AreCounts n view counts → AreOfARun b capacity states edges counts
  counted n edges' states' view counts count same run are = (states', view, run, subst (λ m. AreCounts m view counts) (count ∙ ap length same) are)
