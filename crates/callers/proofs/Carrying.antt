-- How many messages a run leaves on an edge.
use Rattle.std.proofs.Common.{◌≡◌, ℕ, ◌+◌, ◌≤◌, eqb, cond, List, [], ◌∷◌, ◌++◌, length, Some, subst, ap, ⊎_elim, eq-eqb, ne_eqb, length-append, arith}
use Rattle.std.proofs.lemmas.Bool.{cases_eq}
use Rattle.flow_graph.specs.Configurations.{Configuration, start}
use Rattle.flow_graph.specs.Ends.{View}
use Rattle.flow_graph.specs.MaximalRuns.{EndsMaximalRun}
use Rattle.flow_graph.specs.Networks.{network_of, configuration_of}
use Rattle.flow_graph.specs.Processes.{Event, Reads, Writes}
use Rattle.flow_graph.specs.Runs.{Can, next, Run}
use Rattle.flow_graph.specs.Signals.{Signal}
use Rattle.flow_graph.specs.Transducers.{Behaviour}
use Rattle.flow_graph.specs.Edge.{Edge}

-- From each edge no more was received than was sent, and no more was sent than was received and fits.
pub record IsHeld {S : Type 0} (capacity : ℕ) (c : Configuration S Signal) : Type 0 where
  pub received : (e : ℕ) → length (c.received e) ≤ length (c.sent e)
  pub sent : (e : ℕ) → length (c.sent e) ≤ length (c.received e) + capacity

-- what holds of the new value at its number, and of the old ones, holds of all
at_each : {X : Type 0} (f : ℕ → X) (i : ℕ) (x : X) (P : ℕ → X → Type 0) → ((j : ℕ) → j ≡ i → P j x) → ((j : ℕ) → P j (f j)) → (j : ℕ) → P j (cond (eqb j i) x (f j))
at_each f i x P here others j =
    ⊎_elim (λ same. rw (eq-eqb j i same) (here j same)) (λ other. rw (ne_eqb j i other) (others j)) (cases_eq j i)

module _ {S : Type 0} (b : Behaviour S) (capacity : ℕ) (states : List S) (edges : List Edge) where
  -- each step leaves it so
  after : (c : Configuration S Signal) (a : Event Signal) → Can b.process (network_of b states edges) (Some capacity) c a → IsHeld capacity c →
      IsHeld capacity (next b.process (network_of b states edges) c a)
  after c (Reads e m) (inside, wants, begins) held =
      let some : length (c.received e ++ m ∷ []) ≤ length (c.sent e) = omega (arith, length-append {A = Signal}, ap length begins.1) in
      record {
        received = at_each c.received e (c.received e ++ m ∷ []) (λ j ms. length ms ≤ length (c.sent j)) (λ j same. omega (arith, some, ap (λ i. length (c.sent i)) same)) held.received;
        sent = at_each c.received e (c.received e ++ m ∷ []) (λ j ms. length (c.sent j) ≤ length ms + capacity)
            (λ j same. omega (arith, held.sent e, length-append {A = Signal}, ap (λ i. length (c.sent i)) same)) held.sent;
      }
  after c (Writes e m) (inside, wants, is, room) held =
      record {
        received = at_each c.sent e (c.sent e ++ m ∷ []) (λ j ms. length (c.received j) ≤ length ms)
            (λ j same. omega (arith, held.received e, length-append {A = Signal}, ap (λ i. length (c.received i)) same)) held.received;
        sent = at_each c.sent e (c.sent e ++ m ∷ []) (λ j ms. length ms ≤ length (c.received j) + capacity)
            (λ j same. omega (arith, room, held.received e, length-append {A = Signal}, ap (λ i. length (c.received i)) same)) held.sent;
      }

  along : (events : List (Event Signal)) (c d : Configuration S Signal) → Run b.process (network_of b states edges) (Some capacity) events c d → IsHeld capacity c → IsHeld capacity d
  along [] c d same held = subst (λ (at : Configuration S Signal). IsHeld capacity at) same held
  along (a ∷ more) c d (can, run) held = along more (next b.process (network_of b states edges) c a) d run (after c a can held)

  -- so it is where a run ends
  pub held_at_end : (states' : List S) (view : View) → EndsMaximalRun b capacity states edges states' view → IsHeld capacity (configuration_of b states' view)
  held_at_end states' view (events, maximal) =
      along events (start (network_of b states edges)) (configuration_of b states' view) maximal.run (record { received = λ e. omega arith; sent = λ e. omega arith })
