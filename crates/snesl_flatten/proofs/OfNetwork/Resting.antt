-- How the network of a program comes to rest.
use Rattle.std.proofs.Common.{◌≡◌, ℕ, ◌+◌, ◌<◌, ◌≤◌, List, length, Some, refl, sym, subst, ◌∙◌}
use Rattle.std.proofs.Math.Logic.{∥∥₁_elim}
use Rattle.std.proofs.Props.{props}
use mathlib.Core.Sum.{⊎_set}
use Rattle.snesl_data.specs.declared.fault.Fault.{Fault}
use Rattle.snesl_data.specs.declared.fault.FaultKind.{FaultKind}
use Rattle.snesl_data.specs.Values.{Value}
use Rattle.snesl_data.specs.Text.{text as text_of_value}
use Rattle.snesl_evaluation.specs.Answer.{Answer, gives, faults}
use Rattle.snesl_evaluation.specs.Eval.{program_value}
use Rattle.snesl_meaning.specs.Meaning.{Means, evaluated, meaning_of, has_value, has_fault, HaveOneMeaning}
use Rattle.kahn.specs.Networks.{Network}
use Rattle.kahn.specs.Processes.{Process}
use Rattle.kahn.specs.Configurations.{Configuration, AllEnded, IsSound}
use Rattle.kahn.specs.Runs.{AtRest}
use Rattle.kahn.specs.Outcomes.{HasFault}
use Rattle.flow_messages.specs.Cells.{Cell}
use Rattle.flow_messages.specs.Signals.{Signal}
use Rattle.flow_base.specs.Transducers.{closed}
use Rattle.flow_nodes.specs.StreamNodes.{node_behaviour, text_in}
use Rattle.flow_networks.specs.declared.edge.Edge.{Edge}
use Rattle.flow_networks.specs.Networks.{network_of, configuration_of}
use Rattle.flow_networks.specs.Flows.{IsLawfulFlow}
use Rattle.flow_networks.specs.FlowTheorems.{FlowIsBegun, FlowNeverStalls}
use Rattle.flow_networks.specs.Shapes.{IsSameNetwork}
use Rattle.flow_drives.specs.declared.config.Config.{Config}
use Rattle.flow_drives.specs.Configs.{IsLawful, IsInSteps}
use Rattle.flow_drives.specs.Drives.{EndsMaximalRun, IsSoundAt, RestsAt}
use Rattle.flow_drives.specs.Texts.{last_text}
use Rattle.snesl_flatten.specs.Networks.{StreamNodeState}
use Rattle.snesl_flatten.specs.network.NodesAtRest.{FinalView}
use Rattle.snesl_flatten.specs.network.Driven.{HaveEnded, IsNamed, CameToRest}
use Rattle.snesl_flatten.specs.network.Meant.{IsMeantFor}

module _ (text input : List ℕ) (states : List StreamNodeState) (edges : List Edge) (meant : IsMeantFor text input states edges) (one : HaveOneMeaning) where
  -- what evaluation answers
  abbrev answer : Answer Value
  answer = program_value text meant.start.program meant.start.environment

  -- the program means what evaluation answers
  means_as : (a : Answer Value) → answer ≡ a → Means text input (meaning_of a)
  means_as a is = subst (λ x. Means text input (meaning_of x)) is (evaluated meant.start.parses meant.start.types meant.start.inputs)

  -- where it has a value, that is what evaluation answers
  gives_value : (v : Value) → Means text input (has_value v) → answer ≡ gives v
  gives_value v has = by_answer answer refl
    where
      by_answer : (a : Answer Value) → answer ≡ a → answer ≡ gives v
      by_answer (gives w) is = let same : has_value w ≡ has_value v = one text input (has_value w) (has_value v) (means_as (gives w) is) has in cc
      by_answer (faults kind at) is =
          let same : has_fault kind at ≡ has_value v = one text input (has_fault kind at) (has_value v) (means_as (faults kind at) is) has in absurd (cc)

  module _ (config : Config) (rest : FinalView StreamNodeState) (same : IsSameNetwork node_behaviour states edges rest.states rest.edges) (capacity_is : rest.capacity ≡ config.capacity)
      (sound : IsSoundAt node_behaviour rest.states rest.edges rest.traffic) (rests : RestsAt node_behaviour rest.states rest.edges rest.capacity rest.traffic)
      (begun : FlowIsBegun node_behaviour states edges) (never_stalls : FlowNeverStalls node_behaviour states edges) where
    abbrev P : Process StreamNodeState Signal
    P = node_behaviour.process

    abbrev net : Network StreamNodeState
    net = network_of node_behaviour states edges

    abbrev at_rest : Configuration StreamNodeState Signal
    at_rest = configuration_of node_behaviour rest.states rest.traffic

    -- what rests is sound, and no node can step, in the network as it was at its start
    started_sound : ∥ IsSound P net at_rest ∥₁
    started_sound = subst (λ n. ∥ IsSound P n at_rest ∥₁) same.network sound

    started_rests : AtRest P net (Some config.capacity) at_rest
    started_rests = subst (λ n. AtRest P n (Some config.capacity) at_rest) same.network (subst (λ many. RestsAt node_behaviour rest.states rest.edges many rest.traffic) capacity_is rests)

    value_printed : HaveEnded rest → (v : Value) × Means text input (has_value v) × (last_text text_in rest.states ≡ text_of_value v)
    value_printed ended = by_answer answer refl
      where
        printed : IsSound P net at_rest → (v : Value) × (answer ≡ gives v) × (last_text text_in rest.states ≡ text_of_value v)
        printed s = meant.means.prints rest.states rest.traffic same.nodes (record { sound = s; ended = subst (λ n. AllEnded P n at_rest) same.network ended })

        by_answer : (a : Answer Value) → answer ≡ a → (v : Value) × Means text input (has_value v) × (last_text text_in rest.states ≡ text_of_value v)
        by_answer (gives v) is = (
          v,
          means_as (gives v) is,
          ∥∥₁_elim started_sound (hlevel props) (λ s. let print = printed s in let both : gives print.0 ≡ gives v = sym print.1 ∙ is in let prints = print.2 in cc),
        )
        by_answer (faults kind at) is =
            absurd (∥∥₁_elim started_sound (λ x y. absurd x) (λ s. let print = printed s in let both : gives print.0 ≡ faults kind at = sym print.1 ∙ is in cc))

    -- where a node has faulted, the network has no lawful flow, so the program has no value
    fault_meant : (f : Fault) → IsNamed rest f → (kind : FaultKind) × (at : ℕ) × Means text input (has_fault kind at)
    fault_meant f named = by_answer answer refl
      where
        by_answer : (a : Answer Value) → answer ≡ a → (kind : FaultKind) × (at : ℕ) × Means text input (has_fault kind at)
        by_answer (faults kind at) is = (kind, at, means_as (faults kind at) is)
        by_answer (gives v) is =
            let flow = meant.means.flows v is in
            let at : HasFault P net at_rest f = subst (λ n. HasFault P n at_rest f) same.network named.stands in
            absurd (∥∥₁_elim started_sound (λ x y. absurd x) (λ s. (begun flow.0 flow.1 at_rest s).1 at.0 at.1 f at.2))

    all_end : (v : Value) → Means text input (has_value v)
        → (bodies : ℕ → List Cell) × IsLawfulFlow node_behaviour states edges bodies
        × (((e : ℕ) → e < length edges → length (closed (bodies e)) ≤ config.capacity) → HaveEnded rest)
    all_end v has =
        let flow = meant.means.flows v (gives_value v has) in (
          flow.0,
          flow.1,
          λ fits. subst (λ n. AllEnded P n at_rest) (sym same.network)
              (∥∥₁_elim started_sound (hlevel (props, ⊎_set)) (λ s. never_stalls flow.0 flow.1 config.capacity fits at_rest s started_rests)),
        )

    pub comes_to_rest : IsLawful config → ((e : ℕ) → length (rest.traffic.sent e) ≤ length (rest.traffic.received e) + rest.capacity)
        → (IsInSteps config.drive → EndsMaximalRun node_behaviour config.capacity states edges rest.states rest.traffic)
        → CameToRest text input config rest
    comes_to_rest lawful fits run =
        record {
          lawful = lawful;
          states = states;
          edges = edges;
          start = meant.start;
          few = meant.few;
          same = same;
          capacity_is = capacity_is;
          sound = sound;
          rests = rests;
          fits = fits;
          run = run;
          value = value_printed;
          fault = fault_meant;
          never_stalls = all_end;
        }
