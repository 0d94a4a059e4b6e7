-- Turns and sweeps: what one turn of a node, and one turn of each, make of a configuration.
use Rattle.std.specs.Prelude.{◌≡◌, ℕ, ◌<◌, Bool, true, false, Option}
use Rattle.kahn.specs.Processes.{Process, Event}
use Rattle.kahn.specs.Networks.{Network, actor}
use Rattle.kahn.specs.Configurations.{Configuration, moved}
use Rattle.kahn.specs.Runs.{Can, next, Reaches}

module _ {State Message : Type 0} (P : Process State Message) (net : Network State) where
  -- what one turn of node k makes of c: one step of it, or nothing where it cannot step
  abbrev pub Turn : Option ℕ → ℕ → Configuration State Message → Configuration State Message → Bool → Type 0
  Turn limit k c d true = (a : Event Message) × (actor net a ≡ k) × Can P net limit c a × (d ≡ next P net c a)
  Turn limit k c d false = (d ≡ c) × ((a : Event Message) → actor net a ≡ k → Can P net limit c a → ⊥)

  -- From c to d each node below k had its turn, and `any` says whether one of them made a step.
  pub record IsSwept (limit : Option ℕ) (k : ℕ) (c d : Configuration State Message) (any : Bool) : Type 0 where
    pub reaches : Reaches P net limit c d
    pub calm : any ≡ false → (d ≡ c) × ((a : Event Message) → actor net a < k → Can P net limit d a → ⊥)
    pub busy : any ≡ true → moved net c < moved net d
