-- The network of a program for an input text.
use Rattle.std.specs.Prelude.{ℕ, List, Ok, Vec}
use Rattle.std.specs.Global.{Global}
use Rattle.std.specs.List.{All, zip}
use Rattle.snesl_values.specs.Inputs.{InputDeclaration, Environment, InputMeans, spells}
use Rattle.snesl_values.specs.Types.{Ty}
use Rattle.snesl_syntax.specs.Parse.{Parses}
use Rattle.snesl_types.specs.Programs.{HasTyping}
use Rattle.snesl_types.specs.Tree.{ProgramTree}
use Rattle.snesl_types.specs.Typed.{typed_dialect, typed_inputs, typed_text, typed_tree}
use Rattle.snesl_types.specs.declared.typed.TypedProgram.{TypedProgram}
use Rattle.flow_drive.specs.Transducer.{Ghosts}
use Rattle.flow_graph.specs.Edge.{Edge}
use Rattle.flow_graph.specs.Graph.{Graph}
use Rattle.snesl_flatten.specs.GraphNetworks.{AreOpened}
use Rattle.snesl_flatten.specs.GraphsOfPlans.{HoldsOfGraph}
use Rattle.snesl_flatten.specs.Networks.{NetworkMeans, StreamNodeState}
use Rattle.snesl_flatten.specs.StreamNodes.{node_behaviour}

-- The text is a typed program, the input text spells values for its inputs, and the nodes stand before their first step. The
-- network completes exactly when the program has a value for these, and then prints that value.
pub record IsNetworkOf (text input : List ℕ) (states : List StreamNodeState) (edges : List Edge) : Type 0 where
  pub program : ProgramTree
  pub inputs : List InputDeclaration
  pub ty : Ty
  pub environment : Environment
  pub parses : Parses text (Ok program)
  pub types : HasTyping text program inputs ty
  pub reads : InputMeans program.dialect inputs input (spells environment)
  pub opened : AreOpened node_behaviour states
  pub means : NetworkMeans text program environment states edges

-- The same of a program that is typed: the input text spells values for its inputs, and the nodes stand before their first step.
pub record IsNetworkOfTyped (typed : TypedProgram) (input : List ℕ) (states : List StreamNodeState) (edges : List Edge) : Type 0 where
  pub environment : Environment
  pub reads : InputMeans (typed_dialect typed) (typed_inputs typed) input (spells environment)
  pub opened : AreOpened node_behaviour states
  pub means : NetworkMeans (typed_text typed) (typed_tree typed) environment states edges

-- this holds of each of these graphs, for the input text that stands where it does
abbrev pub HoldsOfEach : {X : Type 0} {t : Ghosts X} → (List ℕ → List t.State → List Edge → Type 0) → List (Vec ℕ Global) → Vec (Graph X t) Global → Type 0
HoldsOfEach holds inputs graphs = All (λ pair. HoldsOfGraph (holds pair.0.items) pair.1) (zip inputs graphs.items)
