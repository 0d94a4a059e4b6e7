-- Networks: processes joined by edges, each from one output port to one input port (Kahn 1974).
use Rattle.std.specs.Prelude.{◌≡◌, ℕ, ◌<◌, List, [], ◌∷◌}
use Rattle.kahn.specs.Processes.{Process, Event, Reads, Writes, IsLawfulProcess}

-- Processes with their opening states, and edges. Nodes and edges have the numbers below `nodes` and `edges`.
pub record Network (State : Type 0) : Type 0 where
  pub nodes : ℕ
  pub edges : ℕ
  pub opening : ℕ → State
  -- how many input and output ports the node has
  pub inputs : ℕ → ℕ
  pub outputs : ℕ → ℕ
  -- the node and the port that the edge comes from, and those that it goes to
  pub writer : ℕ → ℕ
  pub writer_port : ℕ → ℕ
  pub reader : ℕ → ℕ
  pub reader_port : ℕ → ℕ
  -- the edge at an input port, and at an output port, of a node
  pub in_edge : ℕ → ℕ → ℕ
  pub out_edge : ℕ → ℕ → ℕ

module _ {State : Type 0} (net : Network State) where
  -- each edge has one writer, of a smaller number than its one reader, and each port one edge
  pub record IsWired : Type 0 where
    pub forward : (e : ℕ) → e < net.edges → net.writer e < net.reader e
    pub inside : (e : ℕ) → e < net.edges → net.reader e < net.nodes
    pub one_in : (e f : ℕ) → e < net.edges → f < net.edges → net.reader e ≡ net.reader f → net.reader_port e ≡ net.reader_port f → e ≡ f
    pub one_out : (e f : ℕ) → e < net.edges → f < net.edges → net.writer e ≡ net.writer f → net.writer_port e ≡ net.writer_port f → e ≡ f
    pub reader_in : (e : ℕ) → e < net.edges → net.reader_port e < net.inputs (net.reader e)
    pub writer_out : (e : ℕ) → e < net.edges → net.writer_port e < net.outputs (net.writer e)
    pub in_edge : (k p : ℕ) → k < net.nodes → p < net.inputs k → (net.in_edge k p < net.edges) × (net.reader (net.in_edge k p) ≡ k) × (net.reader_port (net.in_edge k p) ≡ p)
    pub out_edge : (k p : ℕ) → k < net.nodes → p < net.outputs k → (net.out_edge k p < net.edges) × (net.writer (net.out_edge k p) ≡ k) × (net.writer_port (net.out_edge k p) ≡ p)

  -- the node that does the event
  abbrev pub actor : {Message : Type 0} → Event Message → ℕ
  actor (Reads e m) = net.reader e
  actor (Writes e m) = net.writer e

  -- each event is one of a node of mine
  abbrev pub AllBy : {Message : Type 0} → (ℕ → Type 0) → List (Event Message) → Type 0
  AllBy Mine [] = Unit {0}
  AllBy Mine (a ∷ more) = Mine (actor a) × AllBy Mine more

-- each node is a lawful process
abbrev pub AllLawful : {State Message : Type 0} → Process State Message → Network State → Type 0
AllLawful P net = (k : ℕ) → k < net.nodes → IsLawfulProcess P (net.opening k) (net.inputs k) (net.outputs k)

-- X holds of each network that is wired and whose nodes are lawful
abbrev pub OfLawfulNetworks : {State Message : Type 0} → Process State Message → (Network State → Type 0) → Type 0
OfLawfulNetworks {State} P X = (net : Network State) → IsWired net → AllLawful P net → X net
