-- A graph is a network of lawful processes.
use Rattle.std.proofs.Common.{◌≡◌, ℕ, suc, List, [], ◌∷◌, length, map, Option, Some, refl, sym, ◌∙◌, ap, subst, arith}
use Rattle.std.proofs.lemmas.List.{get_or-map}
use Rattle.kahn.specs.Processes.{IsLawfulProcess}
use Rattle.kahn.specs.Networks.{IsWired, AllLawful}
use Rattle.kahn.specs.Configurations.{start}
use Rattle.flow_messages.specs.Ends.{View}
use Rattle.flow_messages.specs.Tables.{IsFresh}
use Rattle.std.specs.List.{All}
use Rattle.flow_base.specs.Transducers.{Behaviour, BehaviourLaws}
use Rattle.flow_base.specs.declared.transducer.Transducer.{Ghosts}
use Rattle.flow_networks.specs.declared.edge.Edge.{Edge}
use Rattle.flow_networks.specs.declared.graph.Graph.{Graph}
use Rattle.flow_networks.specs.declared.wiring.Ports.{Ports}
use Rattle.flow_networks.specs.Edges.{edge_at, in_edge, out_edge}
use Rattle.flow_networks.specs.Tables.{ins, outs, entry_at, IsWiring}
use Rattle.flow_networks.specs.Networks.{state_at, inputs_at, outputs_at, IsJoined, network_of, configuration_of}
use Rattle.flow_networks.specs.Kept.{IsKept}
use Rattle.flow_networks.specs.Graphs.{states_of, edges_of}
use Rattle.flow_networks.specs.Laws.{IsNetwork}
use Rattle.flow_networks.proofs.Tables.{row_inside}
use Rattle.flow_networks.proofs.Wirings.{row_length, input_side, output_side, table_some}
use Rattle.flow_networks.proofs.Kept.{count_inputs, count_outputs, reader_there}

module _ {S : Type 0} (b : Behaviour S) (states : List S) (ports : List Ports) (edges : List Edge) (wired : IsWiring ports edges)
    (kept : IsKept b states ports edges) (joined : IsJoined b states edges) where
  same_some : (e f : ℕ) (o : Option ℕ) → o ≡ Some e → o ≡ Some f → e ≡ f
  same_some e f o a c = cc

  pub wired_net : IsWired (network_of b states edges)
  wired_net = record {
    forward = wired.forward;
    inside = reader_there b states ports edges kept wired;
    one_in = λ e f l m node port. same_some e f (entry_at (ins ports) (edge_at edges e).reader (edge_at edges e).reader_port) (wired.ins.stands e l)
        (ap (λ k. entry_at (ins ports) k (edge_at edges e).reader_port) node ∙ ap (λ p. entry_at (ins ports) (edge_at edges f).reader p) port ∙ wired.ins.stands f m);
    one_out = λ e f l m node port. same_some e f (entry_at (outs ports) (edge_at edges e).writer (edge_at edges e).writer_port) (wired.outs.stands e l)
        (ap (λ k. entry_at (outs ports) k (edge_at edges e).writer_port) node ∙ ap (λ p. entry_at (outs ports) (edge_at edges f).writer p) port ∙ wired.outs.stands f m);
    reader_in = λ e l. omega (
      arith,
      row_inside (ins ports) (edge_at edges e).reader (edge_at edges e).reader_port e (wired.ins.stands e l),
      row_length (ins ports) (edge_at edges e).reader,
      count_inputs b states ports edges kept (edge_at edges e).reader,
    );
    writer_out = λ e l. omega (
      arith,
      row_inside (outs ports) (edge_at edges e).writer (edge_at edges e).writer_port e (wired.outs.stands e l),
      row_length (outs ports) (edge_at edges e).writer,
      count_outputs b states ports edges kept (edge_at edges e).writer,
    );
    in_edge = λ k p l m.
        let some : entry_at (ins ports) k p ≡ Some (in_edge edges k p) = table_some input_side ports edges wired.ins k p (joined.inputs k p m) in
        (joined.inputs k p m, wired.ins.of_node k p (in_edge edges k p) some, wired.ins.of_port k p (in_edge edges k p) some);
    out_edge = λ k q l m.
        let some : entry_at (outs ports) k q ≡ Some (out_edge edges k q) = table_some output_side ports edges wired.outs k q (joined.outputs k q m) in
        (joined.outputs k q m, wired.outs.of_node k q (out_edge edges k q) some, wired.outs.of_port k q (out_edge edges k q) some);
  }

module _ {S : Type 0} (b : Behaviour S) (states : List S) (edges : List Edge) where
  pub lawful_net : BehaviourLaws b → AllLawful b.process (network_of b states edges)
  lawful_net laws k l =
      let s = state_at b states k in
      let i : b.inputs (b.opening s) ≡ inputs_at b states k = laws.same_inputs s ∙ sym (get_or-map b.inputs states k b.sample 0 l) in
      let o : b.outputs (b.opening s) ≡ outputs_at b states k = laws.same_outputs s ∙ sym (get_or-map b.outputs states k b.sample 0 l) in
      let lawful = (laws.opened (b.opening s) (laws.same_opening s)).lawful in
      let with_ports : IsLawfulProcess b.process (b.opening s) (inputs_at b states k) (outputs_at b states k) =
      subst (λ n. IsLawfulProcess b.process (b.opening s) n (outputs_at b states k)) i
      (subst (λ n. IsLawfulProcess b.process (b.opening s) (b.inputs (b.opening s)) n) o lawful) in
      subst (λ t. IsLawfulProcess b.process t (inputs_at b states k) (outputs_at b states k)) (sym (get_or-map b.opening states k b.sample b.sample l)) with_ports

-- the same of a graph
module _ {X : Type 0} {t : Ghosts X} (graph : Graph X t) where
  pub graph_wired : IsWired (network_of t.behaviour (states_of graph) (edges_of graph))
  graph_wired = graph.built.wired

  pub graph_lawful : BehaviourLaws t.behaviour → AllLawful t.behaviour.process (network_of t.behaviour (states_of graph) (edges_of graph))
  graph_lawful laws = lawful_net t.behaviour (states_of graph) (edges_of graph) laws

  pub graph_network : BehaviourLaws t.behaviour → IsNetwork t.behaviour (states_of graph) (edges_of graph)
  graph_network laws = record { wired = graph_wired; lawful = graph_lawful laws; settles = laws.settles; end = laws.end }

-- f leaves each element as it is
map_fixed : {X : Type 0} (f : X → X) (xs : List X) → All (λ x. f x ≡ x) xs → map f xs ≡ xs
map_fixed f [] all = refl
map_fixed f (x ∷ xs) all = ap (λ y. y ∷ map f xs) (all 0 x (omega arith)) ∙ ap (λ l. x ∷ l) (map_fixed f xs (λ k d l. all (suc k) d (omega arith)))

pub opens : {S : Type 0} (b : Behaviour S) (states : List S) (edges : List Edge) (view : View) → All (λ s. b.opening s ≡ s) states →
    IsFresh (length edges) view → configuration_of b states view ≡ start (network_of b states edges)
opens b states edges view opened fresh = λ i. record {
  state = state_at b (sym (map_fixed b.opening states opened) i);
  sent = λ e. fresh.sent e i;
  received = λ e. fresh.received e i;
}
