-- The neighbours of nodes.
use Rattle.std.specs.Prelude.{◌≡◌, ℕ, ◌<◌, ◌≤◌, List, length}
use Rattle.std.specs.List.{All}
use Rattle.std.specs.declared.vec.Vec.{Vec}
use Rattle.flow_dealing.specs.cut.Loads.{IsDealing}
use Rattle.flow_dealing.specs.declared.cut.near.Near.{Near}

-- neighbours among so many nodes
abbrev pub AreInside : ℕ → List Near → Type 0
AreInside nodes near = All (λ one. one.node < nodes) near

-- a list of neighbours for each of so many nodes
abbrev pub AreNear : {Z : Type 0} → ℕ → List (Vec Near Z) → Type 0
AreNear nodes lists = (length lists ≡ nodes) × All (λ list. AreInside nodes list.items) lists

-- What a search moves: nodes with these neighbours, dealt so to so many shares, of which there are at most 256.
pub record CanSearch {Z : Type 0} (nodes threads : ℕ) (near : List (Vec Near Z)) (share : List ℕ) : Type 0 where
  pub each : AreNear nodes near
  pub dealing : IsDealing nodes threads share
  pub limit : threads ≤ 256
