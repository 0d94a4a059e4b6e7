-- Where two runs of one network end: the statement is the contract of a function in src/theorems.rt.
use Rattle.std.specs.Prelude.{◌≡◌, ℕ, List, length}
use Rattle.kahn.specs.declared.outcome.Outcome.{Outcome}
use Rattle.flow_messages.specs.Ends.{View}
use Rattle.flow_base.specs.Transducers.{Behaviour}
use Rattle.flow_networks.specs.declared.edge.Edge.{Edge}
use Rattle.flow_networks.specs.Laws.{IsNetwork}
use Rattle.flow_networks.specs.MaximalRuns.{EndsMaximalRun, ComesOut}

module _ {S : Type 0} (b : Behaviour S) (capacity : ℕ) (edges : List Edge) where
  -- The nodes have the same states, each edge had the same traffic, and both came out alike.
  pub record AreAlike (one other : List S) (view more : View) : Type 0 where
    pub states : one ≡ other
    pub sent : (e : ℕ) → view.sent e ≡ more.sent e
    pub received : (e : ℕ) → view.received e ≡ more.received e
    pub outcome : (o p : Outcome) → ComesOut b one edges capacity view o → ComesOut b other edges capacity more p → o ≡ p

-- where two maximal runs of one network end, at one capacity, is alike
abbrev pub RunsRestAlike : {S : Type 0} → Behaviour S → Type 0
RunsRestAlike {S} b =
    (capacity : ℕ) (states : List S) (edges : List Edge) → IsNetwork b states edges
    → (one other : List S) (view more : View) → length one ≡ length states → length other ≡ length states
    → EndsMaximalRun b capacity states edges one view → EndsMaximalRun b capacity states edges other more
    → AreAlike b capacity edges one other view more
