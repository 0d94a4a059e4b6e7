-- A program that was driven as a network.
use Rattle.std.specs.Prelude.{◌≡◌, ℕ, ◌+◌, ◌<◌, ◌≤◌, ◌⊎◌, List, length, Ok}
use Rattle.snesl_data.specs.declared.fault.Fault.{Fault}
use Rattle.snesl_data.specs.declared.fault.FaultKind.{FaultKind}
use Rattle.snesl_data.specs.declared.refusal.Refusal.{Refusal}
use Rattle.snesl_data.specs.declared.refusal.Refusal.TheVariants.{TooBig, BadConfig, NoMemory, NoThread, Output, Short}
use Rattle.snesl_values.specs.Inputs.{InputDeclaration, Environment, InputMeans, spells}
use Rattle.snesl_data.specs.Types.{Ty}
use Rattle.snesl_data.specs.Values.{Value}
use Rattle.snesl_data.specs.Text.{text as text_of_value}
use Rattle.snesl_grammar.specs.tree.Tree.{ProgramTree}
use Rattle.snesl_syntax.specs.Parse.{Parses}
use Rattle.snesl_types.specs.Programs.{Declared}
use Rattle.snesl_types.specs.Verdicts.{program_verdict}
use Rattle.snesl_meaning.specs.Meaning.{Means, is_refused, has_value, has_fault}
use Rattle.kahn.specs.Configurations.{AllEnded}
use Rattle.kahn.specs.Outcomes.{NamesFault}
use Rattle.flow_messages.specs.Cells.{Cell}
use Rattle.flow_base.specs.Transducers.{closed}
use Rattle.flow_nodes.specs.StreamNodes.{node_behaviour, text_in}
use Rattle.flow_networks.specs.Limits.{most_nodes, most_edges}
use Rattle.flow_networks.specs.declared.edge.Edge.{Edge}
use Rattle.flow_networks.specs.Networks.{AreOpened, network_of, configuration_of}
use Rattle.flow_networks.specs.Laws.{IsNetwork}
use Rattle.flow_networks.specs.Flows.{IsLawfulFlow}
use Rattle.flow_networks.specs.Shapes.{IsSameNetwork}
use Rattle.flow_nodes.specs.plans.Layouts.{layout, edges_needed, FollowsLayout}
use Rattle.flow_assembly.specs.Openings.{AllOpen}
use Rattle.snesl_translation.specs.Programs.{cells_of, unset_cells}
use Rattle.flow_drives.specs.declared.config.Config.{Config}
use Rattle.flow_drives.specs.Configs.{IsLawful, StartsThreads, IsInSteps}
use Rattle.flow_drives.specs.Drives.{EndsMaximalRun, IsSoundAt, RestsAt}
use Rattle.flow_drives.specs.Texts.{last_text}
use Rattle.snesl_flatten.specs.Networks.{StreamNodeState, program_steps}
use Rattle.snesl_flatten.specs.network.NodesAtRest.{FinalView}

-- all nodes that rest have ended
abbrev pub HaveEnded : FinalView StreamNodeState → Type 0
HaveEnded rest = AllEnded node_behaviour.process (network_of node_behaviour rest.states rest.edges) (configuration_of node_behaviour rest.states rest.traffic)

-- this fault is the one that is named of all to which nodes have come
abbrev pub IsNamed : FinalView StreamNodeState → Fault → Type 0
IsNamed rest f = NamesFault node_behaviour.process (network_of node_behaviour rest.states rest.edges) (configuration_of node_behaviour rest.states rest.traffic) f

-- the network of a program of these inputs has no more nodes and edges than a graph may have
abbrev pub FitsInGraph : List ℕ → ProgramTree → List InputDeclaration → Type 0
FitsInGraph text program inputs =
    let nodes = layout (program_steps text program inputs unset_cells) in
    (length nodes ≤ most_nodes) × (edges_needed nodes ≤ most_edges)

-- or it has more
abbrev pub ExceedsGraph : List ℕ → ProgramTree → List InputDeclaration → Type 0
ExceedsGraph text program inputs =
    let nodes = layout (program_steps text program inputs unset_cells) in
    (most_nodes < length nodes) ⊎ (most_edges < edges_needed nodes)

module _ (text input : List ℕ) where
  -- These nodes and edges are the network of the program with its input: that of its translation, with the values that the
  -- input text spells in its sources, before any step. Each node is in the state in which it opens, its faults at the offset of
  -- its form, and each port has its edge.
  pub record IsNetworkFor (states : List StreamNodeState) (edges : List Edge) : Type 0 where
    pub program : ProgramTree
    pub declared : Declared
    pub ty : Ty
    pub environment : Environment
    pub parses : Parses text (Ok program)
    pub types : program_verdict text program ≡ Ok (declared, ty)
    pub inputs : InputMeans program.dialect declared.inputs input (spells environment)
    pub network : FollowsLayout (program_steps text program declared.inputs (cells_of declared.inputs environment)) states edges
    pub opens : AllOpen (layout (program_steps text program declared.inputs (cells_of declared.inputs environment))) states
    pub opened : AreOpened node_behaviour states
    pub joined : IsNetwork node_behaviour states edges

  -- The text is a typed program, and the input text spells values for its inputs.
  pub record IsAccepted : Type 0 where
    pub program : ProgramTree
    pub declared : Declared
    pub ty : Ty
    pub environment : Environment
    pub parses : Parses text (Ok program)
    pub types : program_verdict text program ≡ Ok (declared, ty)
    pub inputs : InputMeans program.dialect declared.inputs input (spells environment)

  -- The program with its input is accepted, and a graph may have its network.
  pub record HasNetwork : Type 0 where
    pub accepted : IsAccepted
    pub few : FitsInGraph text accepted.program accepted.declared.inputs

  -- The program with its input is accepted, but its network has more nodes or edges than a graph may have.
  pub record IsTooGreat : Type 0 where
    pub accepted : IsAccepted
    pub greater : ExceedsGraph text accepted.program accepted.declared.inputs

  -- What rests is the network of the program with its input, driven as the configuration says until no node can step; and how
  -- it came out is the program's value, or a fault where the program has one.
  pub record CameToRest (config : Config) (rest : FinalView StreamNodeState) : Type 0 where
    pub lawful : IsLawful config
    -- the network at its start, which a graph may have
    pub states : List StreamNodeState
    pub edges : List Edge
    pub start : IsNetworkFor states edges
    pub few : FitsInGraph text start.program start.declared.inputs
    pub same : IsSameNetwork node_behaviour states edges rest.states rest.edges
    pub capacity_is : rest.capacity ≡ config.capacity
    -- it is sound, no node can step, and no edge holds more than its capacity
    pub sound : IsSoundAt node_behaviour rest.states rest.edges rest.traffic
    pub rests : RestsAt node_behaviour rest.states rest.edges rest.capacity rest.traffic
    pub fits : (e : ℕ) → length (rest.traffic.sent e) ≤ length (rest.traffic.received e) + rest.capacity
    -- by a drive in steps it is the end of a maximal run
    pub run : IsInSteps config.drive → EndsMaximalRun node_behaviour config.capacity states edges rest.states rest.traffic
    -- where all nodes have ended, the program has a value, and its text was printed
    pub value : HaveEnded rest → (v : Value) × Means text input (has_value v) × (last_text text_in rest.states ≡ text_of_value v)
    -- where a fault is named, the program ends in a fault, perhaps in another one
    pub fault : (f : Fault) → IsNamed rest f → (kind : FaultKind) × (at : ℕ) × Means text input (has_fault kind at)
    -- where the program has a value, the network has a lawful flow; and where no closed list of it is longer than the
    -- capacity, all nodes have ended
    pub never_stalls : (v : Value) → Means text input (has_value v)
        → (bodies : ℕ → List Cell) × IsLawfulFlow node_behaviour states edges bodies
        × (((e : ℕ) → e < length edges → length (closed (bodies e)) ≤ config.capacity) → HaveEnded rest)

  -- Why a program was not driven, in the order in which it is asked: the configuration is not lawful; or else what the program
  -- and its input text mean; or else its network is too great; or else a thread could not be started, by a drive that starts
  -- threads. Memory may be refused at any time. Never because an edge held less than its capacity.
  abbrev pub WasRefused : Config → Refusal → Type 0
  WasRefused config BadConfig = IsLawful config → ⊥
  WasRefused config NoMemory = Unit {0}
  WasRefused config NoThread = StartsThreads config.drive × HasNetwork
  WasRefused config TooBig = IsTooGreat ⊎ Means text input (is_refused TooBig)
  WasRefused config Output = ⊥
  WasRefused config Short = ⊥
  WasRefused config refusal = Means text input (is_refused refusal)
