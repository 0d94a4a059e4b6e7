-- Visits of the nodes of a graph.
use Rattle.std.proofs.Common.{◌≡◌, ℕ, Bool, true, false, List, [], ◌∷◌, ◌++◌, Some, ◌||◌, sym, ◌∙◌, subst, nat_lt, arith}
use Rattle.std.proofs.lemmas.Bool.Decides.{nat_tests}
use Rattle.kahn.specs.Networks.{Network, IsWired}
use Rattle.kahn.specs.Configurations.{Configuration, IsSound}
use Rattle.kahn.proofs.Steps.{sound_run}
use Rattle.flow_messages.specs.Ends.{View, SameEnds}
use Rattle.flow_messages.specs.Signals.{Signal}
use Rattle.flow_messages.specs.Tables.{IsFresh}
use Rattle.flow_base.specs.Transducers.{Behaviour}
use Rattle.flow_networks.specs.declared.edge.Edge.{Edge}
use Rattle.flow_networks.specs.Networks.{network_of, configuration_of}
use Rattle.flow_networks.specs.Shapes.{IsSameNetwork}
use Rattle.flow_networks.specs.Visits.{IsVisited, HasAllEnds, Visits}
use Rattle.flow_networks.proofs.VisitedNodes.{visited_none, visited_push}

-- of fresh edges all ends are there
pub fresh_all_ends : (edges : ℕ) (v : View) → IsFresh edges v → HasAllEnds edges v
fresh_all_ends edges v fresh e low =
    let is : nat_lt e edges ≡ true = grind (arith, nat_tests, low) in
    (fresh.writes e ∙ is, fresh.reads e ∙ is)

-- the same ends are all there
pub all_ends_still : (edges edges' : ℕ) (a v : View) → edges' ≡ edges → SameEnds a v → HasAllEnds edges a → HasAllEnds edges' v
all_ends_still edges edges' a v count same all = λ e inside. (same.writes e ∙ (all e (omega (arith, count))).0, same.reads e ∙ (all e (omega (arith, count))).1)

module _ {S : Type 0} (b : Behaviour S) where
  module _ (capacity : ℕ) (states : List S) (edges : List Edge) (view : View) where
    pub visits_none : Visits b capacity [] edges states view states view false
    visits_none sound = visited_none b.process (network_of b states edges) (Some capacity) (configuration_of b states view)

    -- what was done in the same network
    module _ (wired : IsWired (network_of b states edges)) (states' : List S) (edges' : List Edge) (view' : View)
        (same : IsSameNetwork b states edges states' edges') (capacity' : ℕ) (even : capacity' ≡ capacity) where
      pub in_network : (nodes : List ℕ) (states'' : List S) (view'' : View) (any : Bool)
          → IsSound b.process (network_of b states edges) (configuration_of b states' view')
          → Visits b capacity' nodes edges' states' view' states'' view'' any
          → IsVisited b.process (network_of b states edges) (Some capacity) nodes (configuration_of b states' view') (configuration_of b states'' view'') any
      in_network nodes states'' view'' any sound visits =
          let net : Network S = network_of b states edges in
          let d : Configuration S Signal = configuration_of b states' view' in
          let e : Configuration S Signal = configuration_of b states'' view'' in
          let there : IsVisited b.process (network_of b states' edges') (Some capacity') nodes d e any = visits (subst (λ n. IsSound b.process n d) (sym same.network) sound) in
          subst (λ n. IsVisited b.process net (Some n) nodes d e any) even (subst (λ n. IsVisited b.process n (Some capacity') nodes d e any) same.network there)

      sound_then : (nodes : List ℕ) (any : Bool) → IsSound b.process (network_of b states edges) (configuration_of b states view)
          → IsVisited b.process (network_of b states edges) (Some capacity) nodes (configuration_of b states view) (configuration_of b states' view') any
          → IsSound b.process (network_of b states edges) (configuration_of b states' view')
      sound_then nodes any sound s =
          sound_run b.process (network_of b states edges) wired (Some capacity) s.reaches.0 (configuration_of b states view) (configuration_of b states' view') sound s.reaches.1

      pub visits_push : (nodes : List ℕ) (k : ℕ) (states'' : List S) (view'' : View) (any one : Bool)
          → Visits b capacity nodes edges states view states' view' any → Visits b capacity' (k ∷ []) edges' states' view' states'' view'' one
          → Visits b capacity (nodes ++ k ∷ []) edges states view states'' view'' (any || one)
      visits_push nodes k states'' view'' any one first second sound =
          visited_push b.process (network_of b states edges) (Some capacity) nodes k (configuration_of b states view) (configuration_of b states' view') (configuration_of b states'' view'') any one
          (first sound) (in_network (k ∷ []) states'' view'' one (sound_then nodes any sound (first sound)) second)
