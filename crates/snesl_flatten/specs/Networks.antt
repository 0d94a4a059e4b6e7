-- The network of a program, and what it means.
use Rattle.std.specs.Prelude.{◌≡◌, ℕ, List, length}
use Rattle.snesl_data.specs.declared.fault.FaultKind.{FaultKind}
use Rattle.snesl_values.specs.Inputs.{InputDeclaration, Environment}
use Rattle.snesl_data.specs.Values.{Value}
use Rattle.snesl_data.specs.Text.{text as text_of_value}
use Rattle.snesl_grammar.specs.tree.Tree.{ProgramTree}
use Rattle.snesl_evaluation.specs.Answer.{gives, faults}
use Rattle.snesl_evaluation.specs.Eval.{program_value}
use Rattle.kahn.specs.Configurations.{IsComplete}
use Rattle.flow_messages.specs.Cells.{Cell}
use Rattle.flow_messages.specs.Ends.{View}
use Rattle.flow_nodes.specs.StreamNodes.{NodeKind, member, node_behaviour, text_in}
use Rattle.flow_networks.specs.declared.edge.Edge.{Edge}
use Rattle.flow_networks.specs.Networks.{network_of, configuration_of}
use Rattle.flow_networks.specs.Flows.{IsLawfulFlow}
use Rattle.flow_nodes.specs.plans.Plans.{Step}
use Rattle.snesl_translation.specs.Programs.{program_plan}
use Rattle.flow_drives.specs.Texts.{last_text}

-- the state of a node of any kind
abbrev pub StreamNodeState : Type 0
StreamNodeState = (t : NodeKind) × (member t).State

-- the steps of a program of these inputs, whose sources write these cells
abbrev pub program_steps : List ℕ → ProgramTree → List InputDeclaration → (ℕ → List Cell) → List Step
program_steps text program inputs cells = (program_plan text program inputs cells).steps

-- The network has a lawful flow just where the program has a value for these inputs, and then the text that it has printed
-- once all its nodes have ended is that of the value.
pub record NetworkMeans (text : List ℕ) (program : ProgramTree) (environment : Environment) (states : List StreamNodeState) (edges : List Edge) : Type 0 where
  -- where the program has a value, the network has a lawful flow
  pub flows : (v : Value) → program_value text program environment ≡ gives v → (bodies : ℕ → List Cell) × IsLawfulFlow node_behaviour states edges bodies
  -- where it ends in a fault, it has none
  pub faults_then : (kind : FaultKind) (at : ℕ) → program_value text program environment ≡ faults kind at
      → (bodies : ℕ → List Cell) → IsLawfulFlow node_behaviour states edges bodies → ⊥
  -- where all nodes have ended, the program has a value, and its text was printed
  pub prints : (states' : List StreamNodeState) (view : View) → length states' ≡ length states
      → IsComplete node_behaviour.process (network_of node_behaviour states edges) (configuration_of node_behaviour states' view)
      → (v : Value) × (program_value text program environment ≡ gives v) × (last_text text_in states' ≡ text_of_value v)
