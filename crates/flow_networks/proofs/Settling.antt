-- Single steps of nodes as runs of the network.
use Rattle.std.proofs.Common.{◌≡◌, ℕ, Bool, true, false, [], ◌∷◌, Option, Some, sym, subst}
use Rattle.kahn.specs.Processes.{Process}
use Rattle.kahn.specs.Networks.{Network}
use Rattle.kahn.specs.Configurations.{Configuration, start, IsSound}
use Rattle.kahn.specs.Runs.{Reaches}
use Rattle.kahn.specs.Turns.{Turn}
use Rattle.kahn.proofs.Steps.{sound_start, sound_run}
use Rattle.kahn.proofs.Turns.{reaches_then}
use Rattle.flow_messages.specs.Ends.{View}
use Rattle.flow_messages.specs.Signals.{Signal}
use Rattle.flow_base.specs.declared.transducer.Transducer.{Ghosts}
use Rattle.flow_networks.specs.declared.graph.Graph.{Graph}
use Rattle.flow_networks.specs.declared.step.Stepped.{Stepped}
use Rattle.flow_networks.specs.Graphs.{states_of, edges_of}
use Rattle.flow_networks.specs.MaximalRuns.{RunReaches}
use Rattle.flow_networks.specs.Networks.{network_of, configuration_of}
use Rattle.flow_networks.specs.Shapes.{KeepsShape}
use Rattle.flow_networks.specs.Steps.{is_one}
use Rattle.flow_networks.specs.Turns.{TurnsNetwork}
use Rattle.flow_networks.proofs.Nets.{graph_wired}

-- a turn is a run of one event, or of none
turn_reaches : {State Message : Type 0} (P : Process State Message) (net : Network State) (limit : Option ℕ) (k : ℕ)
    (c d : Configuration State Message) (any : Bool) → Turn P net limit k c d any → Reaches P net limit c d
turn_reaches P net limit k c d true turn = (turn.0 ∷ [], (turn.2, sym turn.3))
turn_reaches P net limit k c d false turn = ([], sym turn.0)

-- a run goes on by a turn of a node
module _ {X Y : Type 0} {t : Ghosts X} (Same : Y → Y → Type 0) (view : Y → View) (capacity : Y → ℕ)
    (even : (x y : Y) → Same x y → capacity y ≡ capacity x) (g : Graph X t) (e : Y) (g' : Graph X t) (e' : Y) (g'' : Graph X t) (e'' : Y) where
  pub turn_reached : KeepsShape Same view g e g' e' → RunReaches (capacity e) g g' (view e') → (node : ℕ) (moved : Stepped) →
      TurnsNetwork view node g' e' g'' e'' (capacity e') moved → RunReaches (capacity e) g g'' (view e'')
  turn_reached shape reached node moved turn =
      reaches_then P net (Some (capacity e)) (start net) c d reached goes
    where
      P : Process t.State Signal
      P = t.behaviour.process

      net : Network t.State
      net = network_of t.behaviour (states_of g) (edges_of g)

      net' : Network t.State
      net' = network_of t.behaviour (states_of g') (edges_of g')

      c : Configuration t.State Signal
      c = configuration_of t.behaviour (states_of g') (view e')

      d : Configuration t.State Signal
      d = configuration_of t.behaviour (states_of g'') (view e'')

      sound : IsSound P net' c
      sound = subst (λ n. IsSound P n c) (sym shape.network.network) (sound_run P net (graph_wired g) (Some (capacity e)) reached.0 (start net) c (sound_start P net) reached.1)

      goes : Reaches P net (Some (capacity e)) c d
      goes = subst (λ n. Reaches P n (Some (capacity e)) c d) shape.network.network
          (subst (λ n. Reaches P net' (Some n) c d) (even e e' shape.same)
          (turn_reaches P net' (Some (capacity e')) node c d (is_one moved) (turn.turn sound)))
