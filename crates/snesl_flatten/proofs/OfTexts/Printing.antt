-- What the Print at the end of a network has gathered.
use Rattle.std.proofs.Common.{◌≡◌, ℕ, ◌<◌, true, List, [], ◌∷◌, length, Some, refl, sym, ◌∙◌, ap, subst, arith}
use Rattle.std.proofs.lemmas.List.{get_or-map}
use Rattle.std.proofs.lemmas.List.Elements.{All-get_or}
use Rattle.snesl_data.specs.Types.{Ty}
use Rattle.snesl_data.specs.Values.{Value}
use Rattle.snesl_data.specs.Text.{text as text_of_value}
use Rattle.kahn.specs.declared.want.Want.TheVariants.{Ended}
use Rattle.kahn.specs.Processes.{Does, reads}
use Rattle.kahn.specs.Networks.{Network}
use Rattle.kahn.specs.Configurations.{Configuration, IsReached, IsComplete}
use Rattle.flow_messages.specs.Cells.{Cell}
use Rattle.flow_messages.specs.Signals.{Signal}
use Rattle.flow_messages.specs.Ends.{View}
use Rattle.flow_base.specs.Columns.{columns_same}
use Rattle.flow_base.specs.Transducers.{closed}
use Rattle.flow_base.specs.Sums.{sum_does}
use Rattle.flow_values.specs.Shapes.{is_a}
use Rattle.flow_values.specs.Flats.{width, flat}
use Rattle.flow_values.specs.PrintMachine.{print_opening, print_behaviour}
use Rattle.flow_values.specs.laws.Print.{PrintedValue, prints_text}
use Rattle.flow_nodes.proofs.OfFunctions.ValueDecoding.{all_cons, laid_injective}
use Rattle.flow_nodes.specs.StreamNodes.{a_source, a_print, member, node_behaviour, text_in}
use Rattle.flow_networks.specs.declared.edge.Edge.{Edge}
use Rattle.flow_networks.specs.Edges.{in_edge}
use Rattle.flow_networks.specs.Laws.{IsNetwork}
use Rattle.flow_networks.specs.Networks.{AreOpened, network_of, configuration_of, state_at, inputs_at}
use Rattle.flow_networks.specs.Flows.{HasCarried}
use Rattle.flow_networks.proofs.Flows.{same_bodies}
use Rattle.flow_drives.specs.Texts.{last_text}
use Rattle.snesl_flatten.specs.texts.PrintedTexts.{StreamNodeState, PrintsAtTheEnd, PrintTells}
use Rattle.snesl_flatten.proofs.OfTexts.LastTexts.{last_is}

-- values of a type that put the same on its edges are one value
same_value : (ty : Ty) (v w : Value) → is_a ty v ≡ true → is_a ty w ≡ true → ((p : ℕ) → p < width ty → flat ty 0 (v ∷ []) p ≡ flat ty 0 (w ∷ []) p) → v ≡ w
same_value ty v w is_v is_w same =
    let one : v ∷ [] ≡ w ∷ [] =
    laid_injective ty (v ∷ []) (w ∷ []) (all_cons ty v [] is_v refl) (all_cons ty w [] is_w refl)
    (columns_same (width ty) (flat ty 0 (v ∷ [])) (flat ty 0 (w ∷ [])) same) in
    cc

module _ (states : List StreamNodeState) (edges : List Edge) (is_net : IsNetwork node_behaviour states edges) (opened : AreOpened node_behaviour states) where
  abbrev net : Network StreamNodeState
  net = network_of node_behaviour states edges

  opening_is : (k : ℕ) → k < length states → net.opening k ≡ state_at node_behaviour states k
  opening_is k l =
      get_or-map node_behaviour.opening states k node_behaviour.sample node_behaviour.sample l
      ∙ All-get_or (λ s. node_behaviour.opening s ≡ s) states k node_behaviour.sample l opened

  module _ (states' : List StreamNodeState) (view : View) (all : IsComplete node_behaviour.process net (configuration_of node_behaviour states' view)) where
    abbrev c : Configuration StreamNodeState Signal
    c = configuration_of node_behaviour states' view

    -- A Print that has ended: what it read, and its text.
    record HasPrinted (ty : Ty) (k : ℕ) : Type 0 where
      value : Value
      is_one : is_a ty value ≡ true
      came : (p : ℕ) → p < width ty → c.received (in_edge edges k p) ≡ closed (flat ty 0 (value ∷ []) p)
      text_is : text_in (state_at node_behaviour states' k) ≡ Some (text_of_value value)

    has_printed : (ty : Ty) (at k : ℕ) → k < length states → state_at node_behaviour states k ≡ (a_print, print_opening ty at) → HasPrinted ty k
    has_printed ty at k l is =
        let r : IsReached node_behaviour.process net c k = all.sound.reached k l in
        let does : Does node_behaviour.process (a_print, print_opening ty at) r.history (c.state k) =
        subst (λ s. Does node_behaviour.process s r.history (c.state k)) (opening_is k l ∙ is) r.does in
        let d = sum_does a_source (λ t. (member t).behaviour) a_print r.history (print_opening ty at) (c.state k) does in
        let ended : print_behaviour.process.want d.0 ≡ Ended = subst (λ s. node_behaviour.process.want s ≡ Ended) d.1 (all.ended k l) in
        let printed : PrintedValue ty (λ p. reads p r.history) d.0.text = prints_text (print_opening ty at) refl r.history d.0 d.2 ended in
        let ports : inputs_at node_behaviour states k ≡ width ty = get_or-map node_behaviour.inputs states k node_behaviour.sample 0 l ∙ ap node_behaviour.inputs is in
        record {
          value = printed.value;
          is_one = printed.is_one;
          came = λ p lt.
              let there = is_net.wired.in_edge k p l (omega (arith, ports, lt)) in
              r.received (in_edge edges k p) there.0 there.1 ∙ ap (λ q. reads q r.history) there.2 ∙ printed.came p lt;
          text_is = ap text_in d.1 ∙ ap Some printed.text_is;
        }

    pub tells : (ty : Ty) (at : ℕ) (print : PrintsAtTheEnd ty at states) → length states' ≡ length states
        → (bodies : ℕ → List Cell) → HasCarried edges bodies c
        → (v : Value) → is_a ty v ≡ true → ((p : ℕ) → p < width ty → bodies (in_edge edges print.0 p) ≡ flat ty 0 (v ∷ []) p)
        → last_text text_in states' ≡ text_of_value v
    tells ty at print same bodies carried v is_v flows =
        let k = print.0 in
        let l : k < length states = omega (arith, print.1) in
        let has = has_printed ty at k l print.2 in
        let ports : inputs_at node_behaviour states k ≡ width ty = get_or-map node_behaviour.inputs states k node_behaviour.sample 0 l ∙ ap node_behaviour.inputs print.2 in
        let alike : v ≡ has.value = same_value ty v has.value is_v has.is_one (λ p lt.
        let there = is_net.wired.in_edge k p l (omega (arith, ports, lt)) in
        sym (flows p lt) ∙ same_bodies (bodies (in_edge edges k p)) (flat ty 0 (has.value ∷ []) p) (sym (carried (in_edge edges k p) there.0).1 ∙ has.came p lt)) in
        last_is text_in states' k node_behaviour.sample (text_of_value v) (print.1 ∙ sym same) (has.text_is ∙ ap (λ w. Some (text_of_value w)) (sym alike))

pub print_tells : (states : List StreamNodeState) (edges : List Edge) → IsNetwork node_behaviour states edges → PrintTells states edges
print_tells states edges is_net ty at print opened states' view same all bodies carried v is_v flows =
    tells states edges is_net opened states' view all ty at print same bodies carried v is_v flows
