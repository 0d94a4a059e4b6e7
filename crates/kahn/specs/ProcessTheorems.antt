-- What holds of every lawful process: the statements, each of which is the contract of a function in src/.
use Rattle.std.specs.Prelude.{◌≡◌, ℕ, ◌<◌, List}
use Rattle.snesl_data.specs.declared.fault.Fault.{Fault}
use Rattle.kahn.specs.declared.want.Want.TheVariants.{Ended, Faulted}
use Rattle.kahn.specs.Basics.{Begins}
use Rattle.kahn.specs.Processes.{Process, Event, Does, reads, writes, RunsToEnd, IsLawfulProcess}

module _ {State Message : Type 0} (P : Process State Message) (opening : State) (inputs : ℕ) where
  -- On beginnings of what a complete run of it reads, a process writes beginnings of what that run writes,
  -- and has not faulted.
  abbrev pub FollowsWhole : Type 0
  FollowsWhole =
      (whole : List (Event Message)) (z : State) → Does P opening whole z → P.want z ≡ Ended
      → (h : List (Event Message)) (s : State) → Does P opening h s → ((p : ℕ) → p < inputs → Begins (reads p h) (reads p whole))
      → ((p : ℕ) → Begins (writes p h) (writes p whole)) × ((f : Fault) → P.want s ≡ Faulted f → ⊥)

  -- A process that has a complete run over lists that begin with what it read wrote beginnings of what
  -- that run writes, and has not faulted.
  abbrev pub FollowsLists : Type 0
  FollowsLists =
      (read written : ℕ → List Message) → RunsToEnd P opening inputs read written
      → (h : List (Event Message)) (s : State) → Does P opening h s → ((p : ℕ) → p < inputs → Begins (reads p h) (read p))
      → ((p : ℕ) → Begins (writes p h) (written p)) × ((f : Fault) → P.want s ≡ Faulted f → ⊥)

-- X holds of each state in which a lawful process begins, and of how many input ports it has
abbrev pub OfLawfulOpenings : {State Message : Type 0} → Process State Message → (State → ℕ → Type 0) → Type 0
OfLawfulOpenings {State} P X = (opening : State) (inputs outputs : ℕ) → IsLawfulProcess P opening inputs outputs → X opening inputs
