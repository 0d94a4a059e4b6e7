-- Nodes that are dropped from those that are visited.
use Rattle.std.specs.Prelude.{◌≡◌, ℕ, true, List, ◌⊎◌}
use Rattle.std.specs.List.{Contains}
use Rattle.flow_base.specs.declared.transducer.Transducer.{Ghosts}
use Rattle.flow_networks.specs.declared.graph.Graph.{Graph}
use Rattle.flow_networks.specs.Over.{is_over}
use Rattle.flow_networks.specs.Standing.{wanted_at}

-- each of these nodes is left, or makes no step again
abbrev pub DropsOnlyOver : {X : Type 0} {t : Ghosts X} → Graph X t → List ℕ → List ℕ → Type 0
DropsOnlyOver graph nodes left = (k : ℕ) → Contains nodes k → Contains left k ⊎ (is_over (wanted_at graph k) ≡ true)
