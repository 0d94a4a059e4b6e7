-- Runs at greater capacities.
use Rattle.std.proofs.Common.{◌≡◌, ◌∙◌, ◌≤◌, List, Some, [], ◌∷◌, ap, arith, length, subst, sym, ℕ}
use Rattle.kahn.specs.declared.outcome.Outcome.{Outcome}
use Rattle.kahn.specs.declared.outcome.Outcome.TheVariants.{Value as Ended}
use Rattle.kahn.specs.Processes.{Process, Event, Reads, Writes}
use Rattle.kahn.specs.Networks.{Network, IsWired}
use Rattle.kahn.specs.Configurations.{Configuration, AllEnded}
use Rattle.kahn.specs.Runs.{Can, next, Run}
use Rattle.kahn.proofs.Outcomes.{same_outcome}
use Rattle.kahn.proofs.Traffic.{ended_rests}
use Rattle.flow_messages.specs.Ends.{View}
use Rattle.flow_base.specs.Transducers.{Behaviour}
use Rattle.flow_networks.specs.Alike.{RunsRestAlike}
use Rattle.flow_networks.specs.declared.edge.Edge.{Edge}
use Rattle.flow_networks.specs.Laws.{IsNetwork}
use Rattle.flow_networks.specs.MaximalRuns.{EndsMaximalRun}
use Rattle.flow_networks.specs.Networks.{configuration_of, network_of}
use Rattle.flow_drives.specs.declared.config.Config.{Config}
use Rattle.flow_nodes.specs.StreamNodes.{node_behaviour}
use Rattle.snesl_flatten.specs.Networks.{StreamNodeState}
use Rattle.snesl_flatten.specs.network.Driven.{CameToRest, HaveEnded}
use Rattle.snesl_flatten.specs.network.NodesAtRest.{FinalView}
use Rattle.snesl_flatten.specs.network.OneNetwork.{HaveOneNetwork}
use Rattle.snesl_run.specs.Runs.{CameOut, outcome_of, view_in_report}
use Rattle.snesl_size.specs.Staying.{EndedNetworksStay, EndingStays}

-- a run at one capacity is a run at each greater one
module _ {State Message : Type 0} (P : Process State Message) (net : Network State) (small great : ℕ) (more : small ≤ great) where
  can_more : (c : Configuration State Message) (a : Event Message) → Can P net (Some small) c a → Can P net (Some great) c a
  can_more c (Reads e m) can = can
  can_more c (Writes e m) (inside, wants, is, room) = (inside, wants, is, omega (arith, room, more))

  run_more : (events : List (Event Message)) (c d : Configuration State Message) → Run P net (Some small) events c d → Run P net (Some great) events c d
  run_more [] c d same = same
  run_more (a ∷ events) c d (can, run) = (can_more c a can, run_more events (next P net c a) d run)

-- and one at whose end all nodes have ended is maximal there too
module _ {S : Type 0} (b : Behaviour S) (states : List S) (edges : List Edge) (network : IsNetwork b states edges) (small great : ℕ) (more : small ≤ great)
    (now : List S) (others : List Edge) (view : View) (many : length now ≡ length states)
    (ended : AllEnded b.process (network_of b now others) (configuration_of b now view)) where
  all_ended : AllEnded b.process (network_of b states edges) (configuration_of b now view)
  all_ended = λ k inside. ended k (omega (arith, many, inside))

  maximal_more : EndsMaximalRun b small states edges now view → EndsMaximalRun b great states edges now view
  maximal_more run = (
    run.0,
    record {
      run = run_more b.process (network_of b states edges) small great more run.0 _ (configuration_of b now view) run.1.run;
      rest = ended_rests b.process (network_of b states edges) (Some great) (configuration_of b now view) network.wired all_ended;
    },
  )

-- a run of a network, said of one that is the same
run_of : {S : Type 0} (b : Behaviour S) (capacity : ℕ) (states others : List S) (edges more : List Edge) (now : List S) (view : View)
    → states ≡ others → edges ≡ more → EndsMaximalRun b capacity others more now view → EndsMaximalRun b capacity states edges now view
run_of b capacity states others edges more now view same joined run =
    subst (λ l. EndsMaximalRun b capacity l edges now view) (sym same)
    (subst (λ l. EndsMaximalRun b capacity others l now view) (sym joined) run)

-- nodes that have ended, said of states that are the same
ended_in : {S : Type 0} (b : Behaviour S) (states others : List S) (edges more : List Edge) (view : View) (after : View) → others ≡ states
    → AllEnded b.process (network_of b states edges) (configuration_of b states view)
    → AllEnded b.process (network_of b others more) (configuration_of b others after)
ended_in b states others edges more view after same ended =
    subst (λ l. AllEnded b.process (network_of b l more) (configuration_of b l after)) (sym same) (λ k inside. ended k inside)

pub networks_stay : HaveOneNetwork → RunsRestAlike node_behaviour → EndedNetworksStay
networks_stay networks alike program input config greater rest other steps more_steps more one ended two =
    let same = networks program input one.states two.states one.edges two.edges one.start two.start in
    let run = maximal_more node_behaviour one.states one.edges one.start.joined config.capacity greater.capacity more rest.states rest.edges rest.traffic
    one.same.nodes ended (one.run steps) in
    let again = run_of node_behaviour greater.capacity one.states two.states one.edges two.edges other.states other.traffic same.0 same.1 (two.run more_steps) in
    let a = alike greater.capacity one.states one.edges one.start.joined rest.states other.states rest.traffic other.traffic
    one.same.nodes (two.same.nodes ∙ ap length (sym same.0)) run again in
    record {
      ended = ended_in node_behaviour rest.states other.states rest.edges other.edges rest.traffic other.traffic (sym a.states) ended;
      states = sym a.states;
      sent = λ e. sym (a.sent e);
      received = λ e. sym (a.received e);
    }

-- a network whose nodes have all ended came out so, and not otherwise
pub ends_alone : (program input : List ℕ) (config : Config) (rest : FinalView StreamNodeState) → CameToRest program input config rest → HaveEnded rest
    → (outcome : Outcome) → CameOut rest outcome → outcome ≡ Ended
ends_alone program input config rest came ended outcome so =
    let wired = subst (λ net. IsWired net) (sym came.same.network) came.start.joined.wired in
    same_outcome node_behaviour.process (network_of node_behaviour rest.states rest.edges) rest.capacity
    (configuration_of node_behaviour rest.states rest.traffic) wired outcome Ended so ended

pub ending_stays : EndedNetworksStay → EndingStays
ending_stays stay program input config greater report other steps more_steps more reported is told =
    let ended : HaveEnded (view_in_report report) = subst (CameOut (view_in_report report)) is reported.outcome in
    let so = stay program input config greater (view_in_report report) (view_in_report other) steps more_steps more reported.came ended told.came in
    record {
      outcome = ends_alone program input greater (view_in_report other) told.came so.ended (outcome_of other) told.outcome ∙ sym is;
      states = so.states;
      sent = so.sent;
      received = so.received;
    }
