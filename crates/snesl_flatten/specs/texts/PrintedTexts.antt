-- What the Print of a network has gathered once all nodes have ended.
use Rattle.std.specs.Prelude.{◌≡◌, ℕ, suc, ◌<◌, true, List, [], ◌∷◌, length}
use Rattle.snesl_data.specs.Types.{Ty}
use Rattle.snesl_data.specs.Values.{Value}
use Rattle.snesl_data.specs.Text.{text}
use Rattle.kahn.specs.Configurations.{IsComplete}
use Rattle.flow_messages.specs.Cells.{Cell}
use Rattle.flow_messages.specs.Ends.{View}
use Rattle.flow_values.specs.Shapes.{is_a}
use Rattle.flow_values.specs.Flats.{width, flat}
use Rattle.flow_values.specs.PrintMachine.{print_opening}
use Rattle.flow_nodes.specs.StreamNodes.{NodeKind, a_print, member, node_behaviour, text_in}
use Rattle.flow_networks.specs.declared.edge.Edge.{Edge}
use Rattle.flow_networks.specs.Edges.{in_edge}
use Rattle.flow_networks.specs.Networks.{AreOpened, network_of, configuration_of, state_at}
use Rattle.flow_networks.specs.Flows.{HasCarried}
use Rattle.flow_drives.specs.Texts.{last_text}

abbrev pub StreamNodeState : Type 0
StreamNodeState = (t : NodeKind) × (member t).State

-- the last node is a Print of values of the type
abbrev pub PrintsAtTheEnd : Ty → ℕ → List StreamNodeState → Type 0
PrintsAtTheEnd ty at states = (k : ℕ) × (suc k ≡ length states) × (state_at node_behaviour states k ≡ (a_print, print_opening ty at))

-- Of opened nodes, the last of which is a Print: once all have ended, the text is that of the value of the type whose items
-- came to it over its edges.
abbrev pub PrintTells : List StreamNodeState → List Edge → Type 0
PrintTells states edges =
    (ty : Ty) (at : ℕ) (print : PrintsAtTheEnd ty at states) → AreOpened node_behaviour states
    → (states' : List StreamNodeState) (view : View) → length states' ≡ length states
    → IsComplete node_behaviour.process (network_of node_behaviour states edges) (configuration_of node_behaviour states' view)
    → (bodies : ℕ → List Cell) → HasCarried edges bodies (configuration_of node_behaviour states' view)
    → (v : Value) → is_a ty v ≡ true → ((p : ℕ) → p < width ty → bodies (in_edge edges print.0 p) ≡ flat ty 0 (v ∷ []) p)
    → last_text text_in states' ≡ text v
