-- Whatever a schedule did first, maximal runs from there end where one from the start ends.
use Rattle.std.proofs.Common.{ℕ, Bool, true, false, List, [], ◌∷◌, Some, sym, subst}
use Rattle.kahn.specs.Processes.{Event}
use Rattle.kahn.specs.Networks.{Network}
use Rattle.kahn.specs.Configurations.{Configuration, start}
use Rattle.kahn.specs.Runs.{Run, Reaches, Maximal}
use Rattle.kahn.specs.Turns.{Turn}
use Rattle.kahn.proofs.Conclusions.{all_runs_go_on, runs_end_alike}
use Rattle.flow_messages.specs.Signals.{Signal}
use Rattle.flow_base.specs.Transducers.{Behaviour}
use Rattle.flow_networks.specs.declared.edge.Edge.{Edge}
use Rattle.flow_networks.specs.Laws.{IsNetwork}
use Rattle.flow_networks.specs.Networks.{network_of}
use Rattle.flow_networks.specs.Schedules.{IsScheduled, EndsAt}

module _ {S : Type 0} (b : Behaviour S) (net : Network S) (capacity : ℕ) where
  -- a turn and then a run are a run
  turn_reaches : (k : ℕ) (c between d : Configuration S Signal) (stepped : Bool) → Turn b.process net (Some capacity) k c between stepped
      → Reaches b.process net (Some capacity) between d → Reaches b.process net (Some capacity) c d
  turn_reaches k c between d true turn (events, run) =
      (turn.0 ∷ events, (turn.2, subst (λ x. Run b.process net (Some capacity) events x d) turn.3 run))
  turn_reaches k c between d false turn reaches = subst (λ x. Reaches b.process net (Some capacity) x d) turn.0 reaches

  -- the turns of a schedule are a run
  pub schedule_reaches : (schedule : List ℕ) (c d : Configuration S Signal) → IsScheduled b net capacity schedule c d → Reaches b.process net (Some capacity) c d
  schedule_reaches [] c d same = ([], sym same)
  schedule_reaches (k ∷ more) c d (between, stepped, turn, rest) =
      turn_reaches k c between d stepped turn (schedule_reaches more between d rest)

module _ {S : Type 0} (b : Behaviour S) (capacity : ℕ) (states : List S) (edges : List Edge) (network : IsNetwork b states edges) where
  abbrev net_of : Network S
  net_of = network_of b states edges

  pub end_alike : (schedule : List ℕ) (c last : Configuration S Signal) (events : List (Event Signal)) → IsScheduled b net_of capacity schedule (start net_of) c
      → Maximal b.process net_of (Some capacity) events (start net_of) last → EndsAt b net_of capacity c last
  end_alike schedule c last events scheduled maximal =
      let done = schedule_reaches b net_of capacity schedule (start net_of) c scheduled in
      let on = all_runs_go_on b.process net_of network.wired (Some capacity) done.0 events (start net_of) c last maximal done.1 in
      let left : Maximal b.process net_of (Some capacity) on.0 c last = record { run = on.1; rest = maximal.rest } in
      record {
        run = (on.0, left);
        only = λ other d again. runs_end_alike b.process net_of network.wired (Some capacity) other on.0 c d last again left;
      }
