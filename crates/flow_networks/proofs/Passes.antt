-- Passes over the nodes that still run, until one moves nothing.
use Rattle.std.proofs.Common.{◌≡◌, ℕ, ◌-◌, ◌<◌, Bool, true, false, List, [], length, Some, ◌⊎◌, inl, inr, refl, sym, ◌∙◌, ap, subst}
use Rattle.std.specs.List.{Contains}
use Rattle.kahn.specs.Processes.{Settles}
use Rattle.kahn.specs.Networks.{IsWired}
use Rattle.kahn.specs.Configurations.{moved, start, IsSound}
use Rattle.kahn.proofs.Finite.{most_events}
use Rattle.kahn.proofs.Steps.{sound_start, sound_run}
use Rattle.kahn.proofs.Turns.{reaches_then}
use Rattle.flow_messages.specs.Ends.{View}
use Rattle.flow_messages.specs.Tables.{IsFresh}
use Rattle.flow_base.specs.Transducers.{Behaviour}
use Rattle.flow_base.specs.declared.transducer.Transducer.{Ghosts}
use Rattle.flow_networks.specs.declared.edge.Edge.{Edge}
use Rattle.flow_networks.specs.Networks.{state_at, AreOpened, network_of, configuration_of}
use Rattle.flow_networks.specs.declared.graph.Graph.{Graph}
use Rattle.flow_networks.specs.Graphs.{states_of, edges_of}
use Rattle.flow_networks.specs.Shapes.{IsSameNetwork, KeepsShape}
use Rattle.flow_networks.proofs.Nets.{opens, graph_wired}
use Rattle.flow_networks.specs.Visits.{IsVisited, Visits}
use Rattle.flow_networks.specs.Over.{is_over}
use Rattle.flow_networks.specs.MaximalRuns.{RunLeadsTo, EndsMaximalRun}
use Rattle.flow_networks.proofs.VisitedNodes.{over_stays, visited_rest, visited_falls}
use Rattle.flow_networks.proofs.VisitedGraphs.{in_network}

module _ {S : Type 0} (b : Behaviour S) (capacity : ℕ) (states : List S) (edges : List Edge) where
  -- each node that is not among these is over
  abbrev pub OthersAreOver : List S → List ℕ → Type 0
  OthersAreOver states' running = (k : ℕ) → k < length states → Contains running k ⊎ (is_over (b.process.want (state_at b states' k)) ≡ true)

  pub reached_first : (view : View) → AreOpened b states → IsFresh (length edges) view → RunLeadsTo b capacity states edges states view
  reached_first view opened fresh = ([], sym (opens b states edges view opened fresh))

  module _ (wired : IsWired (network_of b states edges)) where
    -- how many messages are still to come
    pub left_of : Settles b.process → View → ℕ
    left_of settles view =
        let net = network_of b states edges in
        most_events b.process net wired settles (start net) (λ e inside. ([], refl)) - moved net (configuration_of b states view)

    -- what a pass over the nodes that are running makes of a run
    pub record GoesOn (running : List ℕ) (states' : List S) (view' : View) (states'' : List S) (view'' : View) (any : Bool) : Type 0 where
      pub reached : RunLeadsTo b capacity states edges states'' view''
      -- where nothing moved the run is maximal
      pub ends : any ≡ false → OthersAreOver states' running → EndsMaximalRun b capacity states edges states'' view''
      -- those that are over stay so
      pub others : OthersAreOver states' running → (left : List ℕ) → ((k : ℕ) → Contains running k → Contains left k ⊎ (is_over (b.process.want (state_at b states'' k)) ≡ true)) →
          OthersAreOver states'' left
      pub falls : (settles : Settles b.process) → any ≡ true → left_of settles view'' < left_of settles view'

    module _ (states' : List S) (edges' : List Edge) (view' : View) (same : IsSameNetwork b states edges states' edges') (capacity' : ℕ)
        (even : capacity' ≡ capacity) (reached : RunLeadsTo b capacity states edges states' view') (nodes : List ℕ) (states'' : List S) (view'' : View)
      where
        visited : (any : Bool) → Visits b capacity' nodes edges' states' view' states'' view'' any
            → IsVisited b.process (network_of b states edges) (Some capacity) nodes (configuration_of b states' view') (configuration_of b states'' view'') any
        visited any visits =
            let sound : IsSound b.process (network_of b states edges) (configuration_of b states' view') =
            sound_run b.process (network_of b states edges) wired (Some capacity) reached.0 (start (network_of b states edges)) (configuration_of b states' view')
            (sound_start b.process (network_of b states edges)) reached.1 in
            in_network b capacity states edges view' wired states' edges' view' same capacity' even nodes states'' view'' any sound visits

        pub reached_then : (any : Bool) → Visits b capacity' nodes edges' states' view' states'' view'' any → RunLeadsTo b capacity states edges states'' view''
        reached_then any visits =
            reaches_then b.process (network_of b states edges) (Some capacity) (start (network_of b states edges)) (configuration_of b states' view')
            (configuration_of b states'' view'') reached (visited any visits).reaches

        -- where nothing moved the run is maximal
        pub ends_run : (any : Bool) → any ≡ false → Visits b capacity' nodes edges' states' view' states'' view'' any → OthersAreOver states' nodes →
            EndsMaximalRun b capacity states edges states'' view''
        ends_run true h visits others = absurd (cc)
        ends_run false h visits others =
            let all = reached_then false visits in (
              all.0,
              record {
                run = all.1;
                rest = visited_rest b.process (network_of b states edges) (Some capacity) wired nodes (configuration_of b states' view')
                    (configuration_of b states'' view'') (visited false visits) others;
              },
            )

        -- those that are over stay so
        pub others_then : (any : Bool) → Visits b capacity' nodes edges' states' view' states'' view'' any → OthersAreOver states' nodes
            → (left : List ℕ) → ((k : ℕ) → Contains nodes k → Contains left k ⊎ (is_over (b.process.want (state_at b states'' k)) ≡ true)) → OthersAreOver states'' left
        others_then any visits others left drops k inside = go (others k inside)
          where
            go : Contains nodes k ⊎ (is_over (b.process.want (state_at b states' k)) ≡ true) → Contains left k ⊎ (is_over (b.process.want (state_at b states'' k)) ≡ true)
            go (inl has) = drops k has
            go (inr over) =
                let s = (visited any visits).reaches in
                inr (ap (λ t. is_over (b.process.want t))
                (over_stays b.process (network_of b states edges) (Some capacity) s.0 (configuration_of b states' view')
                (configuration_of b states'' view'') s.1 k over) ∙ over)

        pub left_falls : (settles : Settles b.process) (any : Bool) → any ≡ true → Visits b capacity' nodes edges' states' view' states'' view'' any → left_of settles view'' < left_of settles view'
        unfolding left_of
        left_falls settles false h visits = absurd (cc)
        left_falls settles true h visits =
            visited_falls b.process (network_of b states edges) (Some capacity) wired settles nodes (configuration_of b states' view')
            (configuration_of b states'' view'') reached (visited true visits)

        pub goes_on : (any : Bool) → Visits b capacity' nodes edges' states' view' states'' view'' any → GoesOn nodes states' view' states'' view'' any
        goes_on any visits = record {
          reached = reached_then any visits;
          ends = λ none others. ends_run any none visits others;
          others = others_then any visits;
          falls = λ settles some. left_falls settles any some visits;
        }

-- the same of a graph and its ends, after one pass more
module _ {X Y : Type 0} {t : Ghosts X} (Same : Y → Y → Type 0) (view : Y → View) (capacity : Y → ℕ)
    (even : (x y : Y) → Same x y → capacity y ≡ capacity x) (g : Graph X t) (e : Y) (g' : Graph X t) (e' : Y) (g'' : Graph X t) (e'' : Y)
    (shape : KeepsShape Same view g e g' e') (reached : RunLeadsTo t.behaviour (capacity e) (states_of g) (edges_of g) (states_of g') (view e'))
    (nodes : List ℕ) (any : Bool)
    (visits : Visits t.behaviour (capacity e') nodes (edges_of g') (states_of g') (view e') (states_of g'') (view e'') any) where
  pub pass_goes_on : GoesOn t.behaviour (capacity e) (states_of g) (edges_of g) (graph_wired g) nodes (states_of g') (view e') (states_of g'') (view e'') any
  pass_goes_on =
      goes_on t.behaviour (capacity e) (states_of g) (edges_of g) (graph_wired g) (states_of g') (edges_of g') (view e') shape.network
      (capacity e') (even e e' shape.same) reached nodes (states_of g'') (view e'') any visits

  pub pass_reached : RunLeadsTo t.behaviour (capacity e) (states_of g) (edges_of g) (states_of g'') (view e'')
  pass_reached = pass_goes_on.reached

-- of one that kept the shape too, over a copy of those that are running
module _ {X Y : Type 0} {t : Ghosts X} {Same : Y → Y → Type 0} {view : Y → View} (capacity : Y → ℕ)
    (even : (x y : Y) → Same x y → capacity y ≡ capacity x) {g : Graph X t} {e : Y} {g' : Graph X t} {e' : Y} {g'' : Graph X t} {e'' : Y}
    (shape : KeepsShape Same view g e g' e') (pass : KeepsShape Same view g' e' g'' e'')
    (reached : RunLeadsTo t.behaviour (capacity e) (states_of g) (edges_of g) (states_of g') (view e')) where
  pub pass_over_running : {nodes running : List ℕ} → nodes ≡ running → (any : Bool) →
      Visits t.behaviour (capacity e') nodes (edges_of g') (states_of g') (view e') (states_of g'') (view e'') any →
      GoesOn t.behaviour (capacity e) (states_of g) (edges_of g) (graph_wired g) running (states_of g') (view e') (states_of g'') (view e'') any
  pass_over_running is any visits =
      pass_goes_on Same view capacity even g e g' e' g'' e'' shape reached _ any
      (subst (λ l. Visits t.behaviour (capacity e') l (edges_of g') (states_of g') (view e') (states_of g'') (view e'') any) is visits)
