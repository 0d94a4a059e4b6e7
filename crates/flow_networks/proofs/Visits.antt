-- A visit of a node over both ends of each edge is a run of the network.
use Rattle.std.proofs.Common.{◌≡◌, ℕ, ◌-◌, ◌<◌, ◌≤◌, Bool, true, false, cond, eqb, ltb, List, [], ◌∷◌, ◌++◌, length, set, Some, ◌⊎◌, inl, inr}
use Rattle.std.proofs.Common.{refl, sym, ◌∙◌, ap, subst, arith, append-nil, eq-eqb, lt-ltb}
use Rattle.std.specs.List.{All, Contains}
use Rattle.std.proofs.lemmas.Bool.{cases_Bool, and_from, and_parts, ltb-true, eqb-true}
use Rattle.std.proofs.lemmas.List.Elements.{Contains-push_cases, All-nil, All-cons}
use Rattle.kahn.specs.declared.want.Want.{Want}
use Rattle.kahn.specs.declared.want.Want.TheVariants.{Read, Write, Ended, Faulted}
use Rattle.kahn.specs.Basics.{Begins}
use Rattle.kahn.specs.Processes.{Process, Event, Reads, Writes, Does, reads, writes}
use Rattle.kahn.specs.Networks.{Network, IsWired, AllLawful, AllBy, actor}
use Rattle.kahn.specs.Configurations.{Configuration, IsReached, IsSound, moved}
use Rattle.kahn.specs.Runs.{Can, Run}
use Rattle.kahn.specs.HistoryTheorems.{extended, goes_in, comes_out, on_edges, after_history, IsOwnRun}
use Rattle.kahn.proofs.Histories.{histories_are_runs}
use Rattle.kahn.proofs.Turns.{nothing_held, no_room}
use Rattle.kahn.proofs.Held.{updated_from, same_from}
use Rattle.flow_messages.specs.Signals.{Signal}
use Rattle.flow_messages.specs.Ends.{View, held, SameEnds}
use Rattle.flow_messages.specs.Whole.{IsWhole, waiting}
use Rattle.flow_messages.proofs.Waiting.{held-count, room-count, none-waits}
use Rattle.flow_base.specs.Transducers.{Behaviour, BehaviourLaws}
use Rattle.flow_base.specs.declared.transducer.Transducer.{Ghosts}
use Rattle.flow_base.specs.Visits.{Visited, BrokeOff, IsStuck, edge_of}
use Rattle.flow_networks.specs.declared.edge.Edge.{Edge}
use Rattle.flow_networks.specs.declared.graph.Graph.{Graph}
use Rattle.flow_networks.specs.declared.placed.Placed.{Placed}
use Rattle.flow_networks.specs.Edges.{in_edge, out_edge}
use Rattle.flow_networks.specs.Networks.{state_at, inputs_at, outputs_at, SameBut, network_of, configuration_of}
use Rattle.flow_networks.specs.Visits.{IsVisited, HasAllEnds, Visits, VisitBrokeOff}
use Rattle.flow_networks.specs.Graphs.{states_of, edges_of}
use Rattle.flow_networks.specs.Places.{placed_state, states_in, IsSamePlace}
use Rattle.flow_networks.specs.Standing.{stand_at}
use Rattle.flow_networks.proofs.Nets.{lawful_net}
use Rattle.flow_networks.proofs.GraphNodes.{IsNode, among_states, stands, input_count, output_count, input_is, output_is, later_state, later_others}
use Rattle.flow_networks.proofs.Carried.{read_own, read_other, sent_own, sent_other}

-- events of one node are events of the nodes of the list that has it alone
all_of_one : {State : Type 0} (net : Network State) (k : ℕ) (events : List (Event Signal)) → AllBy net (λ n. n ≡ k) events → All (λ a. Contains (k ∷ []) (actor net a)) events
all_of_one net k [] own = All-nil (λ a. Contains (k ∷ []) (actor net a))
all_of_one net k (a ∷ more) (same, own) =
    All-cons (λ a. Contains (k ∷ []) (actor net a)) a more (0, omega arith, sym same) (all_of_one net k more own)

-- the one element of a list of one
pub contains_one : (k j : ℕ) → Contains (k ∷ []) j → j ≡ k
contains_one k j has = go (Contains-push_cases [] k j has)
  where
    go : Contains [] j ⊎ (k ≡ j) → j ≡ k
    go (inl none) = absurd (omega (arith, none.1))
    go (inr same) = sym same

no_events : (h : List (Event Signal)) → (h ≡ [] → ⊥) → 0 < length h
no_events [] some = absurd (some refl)
no_events (a ∷ h) some = omega arith

module _ {S : Type 0} (b : Behaviour S) (laws : BehaviourLaws b) (states : List S) (edges : List Edge) (wired : IsWired (network_of b states edges))
    (lawful : AllLawful b.process (network_of b states edges)) (node : ℕ) (inside : node < length states)
    (states' : List S) (capacity : ℕ) (a v : View) (others : SameBut b node states states') (whole_v : IsWhole capacity v) (inputs outputs : List ℕ)
    (into_is : (p : ℕ) → p < inputs_at b states node → edge_of inputs p ≡ in_edge edges node p) (from_is : (q : ℕ) → q < outputs_at b states node → edge_of outputs q ≡ out_edge edges node q)
    (there : (q : ℕ) → q < outputs_at b states node → v.writes (out_edge edges node q) ≡ true)
    (any : Bool) (visited : Visited inputs outputs b (state_at b states node) a (state_at b states' node) v any)
    (sound : IsSound b.process (network_of b states edges) (configuration_of b states a)) where
  abbrev net : Network S
  net = network_of b states edges

  abbrev P : Process S Signal
  P = b.process

  abbrev c : Configuration S Signal
  c = configuration_of b states a

  abbrev d : Configuration S Signal
  d = configuration_of b states' v

  abbrev h : List (Event Signal)
  h = visited.history

  abbrev s : S
  s = state_at b states node

  abbrev s' : S
  s' = state_at b states' node

  before : IsReached P net c node
  before = sound.reached node inside

  -- an edge is one of the node's own, or not
  out_is : (e : ℕ) → comes_out net node e ≡ true → (e < net.edges) × (net.writer e ≡ node)
  out_is e own = let both : (ltb e net.edges ≡ true) × (eqb (net.writer e) node ≡ true) = and_parts _ _ own in (ltb-true e net.edges both.0, eqb-true (net.writer e) node both.1)

  out_not : (e : ℕ) → comes_out net node e ≡ false → e < net.edges → net.writer e ≡ node → ⊥
  out_not e away l at = absurd (let own : comes_out net node e ≡ true = and_from _ _ (lt-ltb e net.edges l) (eq-eqb (net.writer e) node at) in let wrong : true ≡ false = sym own ∙ away in cc)

  in_is : (e : ℕ) → goes_in net node e ≡ true → (e < net.edges) × (net.reader e ≡ node)
  in_is e own = let both : (ltb e net.edges ≡ true) × (eqb (net.reader e) node ≡ true) = and_parts _ _ own in (ltb-true e net.edges both.0, eqb-true (net.reader e) node both.1)

  in_not : (e : ℕ) → goes_in net node e ≡ false → e < net.edges → net.reader e ≡ node → ⊥
  in_not e away l at = absurd (let own : goes_in net node e ≡ true = and_from _ _ (lt-ltb e net.edges l) (eq-eqb (net.reader e) node at) in let wrong : true ≡ false = sym own ∙ away in cc)

  -- no edge goes from the node to itself
  not_both : (e : ℕ) → e < net.edges → net.writer e ≡ node → net.reader e ≡ node → ⊥
  not_both e l w r = absurd (omega (arith, wired.forward e l, w, r))

  abbrev into : ℕ → ℕ
  into = edge_of inputs

  abbrev from : ℕ → ℕ
  from = edge_of outputs

  received_own : (e : ℕ) → e < net.edges → net.reader e ≡ node → v.received e ≡ a.received e ++ reads (net.reader_port e) h
  received_own e l at =
      visited.carried.received e
      ∙ ap (λ ms. a.received e ++ ms)
      (read_own P laws.end net wired node inside (lawful node inside) into from into_is from_is e l at before.history h s s' before.does
      visited.does)

  received_other : (e : ℕ) → (e < net.edges → net.reader e ≡ node → ⊥) → v.received e ≡ a.received e
  received_other e away =
      visited.carried.received e
      ∙ ap (λ ms. a.received e ++ ms)
      (read_other P laws.end net wired node inside (lawful node inside) into from into_is from_is e away before.history h s s' before.does
      visited.does)
      ∙ append-nil (a.received e)

  sent_here : (e : ℕ) → e < net.edges → net.writer e ≡ node → v.sent e ≡ a.sent e ++ writes (net.writer_port e) h
  sent_here e l at =
      visited.carried.sent e
      ∙ sent_own P laws.end net wired node inside (lawful node inside) into from into_is from_is e l at before.history h s s' before.does
      visited.does (a.sent e) (before.sent e l at)

  sent_elsewhere : (e : ℕ) → (e < net.edges → net.writer e ≡ node → ⊥) → v.sent e ≡ a.sent e
  sent_elsewhere e away =
      visited.carried.sent e ∙ sent_other P laws.end net wired node inside (lawful node inside) into from into_is from_is e away before.history h s s' before.does visited.does (a.sent e)

  after : d ≡ after_history net c node h s'
  after = λ i. record { state = updated_from c.state d.state node others.others i; sent = λ e. sent_is e i; received = λ e. received_is e i }
    where
      sent_is : (e : ℕ) → v.sent e ≡ extended (comes_out net node) a.sent (λ f. writes (net.writer_port f) h) e
      sent_is e = elim (cases_Bool (comes_out net node e)) [
        | inl own ↦ (let is = out_is e own in sent_here e is.0 is.1 ∙ sym (ap (λ t. cond t (a.sent e ++ writes (net.writer_port e) h) (a.sent e)) own))
        | inr away ↦ sent_elsewhere e (out_not e away) ∙ sym (ap (λ t. cond t (a.sent e ++ writes (net.writer_port e) h) (a.sent e)) away)
      ]

      received_is : (e : ℕ) → v.received e ≡ extended (goes_in net node) a.received (λ f. reads (net.reader_port f) h) e
      received_is e = elim (cases_Bool (goes_in net node e)) [
        | inl own ↦ (let is = in_is e own in received_own e is.0 is.1 ∙ sym (ap (λ t. cond t (a.received e ++ reads (net.reader_port e) h) (a.received e)) own))
        | inr away ↦ received_other e (in_not e away) ∙ sym (ap (λ t. cond t (a.received e ++ reads (net.reader_port e) h) (a.received e)) away)
      ]

  -- what it read had been sent, and nobody else sends there
  had_come : (e : ℕ) → e < net.edges → net.reader e ≡ node → Begins (a.received e ++ reads (net.reader_port e) h) (a.sent e)
  had_come e l at = (waiting v e, ap (λ ms. ms ++ waiting v e) (sym (received_own e l at)) ∙ whole_v.in_order e ∙ sent_elsewhere e (λ _ w. not_both e l w at))

  -- an edge holds what it may
  within : (e : ℕ) → v.writes e ≡ true → length (v.sent e) - length (v.received e) ≤ capacity
  within e w = omega (arith, whole_v.room e w, held-count capacity v e whole_v)

  own_run : IsOwnRun P net (Some capacity) c node h s'
  own_run = histories_are_runs P net wired lawful (Some capacity) c node before.history h s' inside before.does visited.does had_come room
    where
      room : (e : ℕ) → e < net.edges → net.writer e ≡ node → Begins (a.received e) (a.sent e) × (length (a.sent e ++ writes (net.writer_port e) h) - length (a.received e) ≤ capacity)
      room e l at =
          let port = wired.writer_out e l in
          let place = wired.out_edge node (net.writer_port e) inside (subst (λ k. net.writer_port e < outputs_at b states k) at port) in
          let same : out_edge edges node (net.writer_port e) ≡ e = wired.one_out (out_edge edges node (net.writer_port e)) e place.0 l (place.1 ∙ sym at) place.2 in
          let w : v.writes e ≡ true = subst (λ f. v.writes f ≡ true) same (there (net.writer_port e) (subst (λ k. net.writer_port e < outputs_at b states k) at port)) in
          (sound.flows e l, omega (arith, within e w, ap length (sent_here e l at), ap length (received_other e (λ _ r. not_both e l at r))))

  input_there : (p : ℕ) → P.want s ≡ Read p → p < inputs_at b states node
  input_there p wants = (lawful node inside).in_port before.history s p before.does wants

  output_there : (q : ℕ) → P.want s ≡ Write q → q < outputs_at b states node
  output_there q wants = (lawful node inside).out_port before.history s q before.does wants

  -- where it made no step nothing changed
  unchanged : any ≡ false → d ≡ c
  unchanged none =
      let traffic = (visited.calm none).traffic in
      let same : s' ≡ s = sym (subst (λ g. Does P s g s') (visited.none none) visited.does) in
      λ i. record { state = same_from c.state d.state node same others.others i; sent = λ e. traffic.sent e i; received = λ e. traffic.received e i }

  -- a node that wants no port does nothing
  idle : ((p : ℕ) → P.want s ≡ Read p → ⊥) → ((q : ℕ) → P.want s ≡ Write q → ⊥) → (act : Event Signal) → actor net act ≡ node → Can P net (Some capacity) c act → ⊥
  idle no_read no_write (Reads e m) at (l, wants, some) = no_read (net.reader_port e) (ap (λ k. P.want (c.state k)) (sym at) ∙ wants)
  idle no_read no_write (Writes e m) at (l, wants, is, room) = no_write (net.writer_port e) (ap (λ k. P.want (c.state k)) (sym at) ∙ wants)

  -- and it cannot make one
  stuck : any ≡ false → (w : Want) → P.want s ≡ w → IsStuck inputs outputs v w → (act : Event Signal) → actor net act ≡ node → Can P net (Some capacity) c act → ⊥
  stuck none (Read p) wants empty =
      let e = in_edge edges node p in
      let port = input_there p wants in
      let place = wired.in_edge node p inside port in
      let traffic = (visited.calm none).traffic in
      let all : v.received e ≡ v.sent e = none-waits capacity v e whole_v (ap (held v) (sym (into_is p port)) ∙ empty) in
      nothing_held P net wired (Some capacity) c node e place.0 place.1 (wants ∙ ap Read (sym place.2)) (sym (traffic.received e) ∙ all ∙ traffic.sent e)
  stuck none (Write q) wants full =
      let e = out_edge edges node q in
      let port = output_there q wants in
      let place = wired.out_edge node q inside port in
      let traffic = (visited.calm none).traffic in
      let count = room-count capacity v e whole_v (there q port) in
      let none_left : v.room e ≡ 0 = ap v.room (sym (from_is q port)) ∙ full in
      no_room P net wired (Some capacity) c node e place.0 place.1 (wants ∙ ap Write (sym place.2))
      (λ room. absurd (omega (arith, none_left, count.1 (omega (arith, room, ap length (traffic.sent e), ap length (traffic.received e))))))
  stuck none Ended wants over = idle (λ p is. let wrong : Ended ≡ Read p = sym wants ∙ is in cc) (λ q is. let wrong : Ended ≡ Write q = sym wants ∙ is in cc)
  stuck none (Faulted fault) wants over = idle (λ p is. let wrong : Faulted fault ≡ Read p = sym wants ∙ is in cc) (λ q is. let wrong : Faulted fault ≡ Write q = sym wants ∙ is in cc)

  pub visited_run : IsVisited P net (Some capacity) (node ∷ []) c d any
  visited_run = record {
    reaches = (on_edges net node h, subst (λ x. Run P net (Some capacity) (on_edges net node h) c x) (sym after) own_run.run);
    own = all_of_one net node (on_edges net node h) own_run.own;
    calm = λ none. (
      unchanged none,
      λ act has can. stuck none (P.want s) refl (visited.stuck none) act (contains_one node (actor net act) has) (subst (λ x. Can P net (Some capacity) x act) (unchanged none) can),
    );
    busy = λ some. omega (arith, own_run.moved, ap (moved net) after, no_events h (visited.some some));
  }

-- the same of a placed node, over its own edges
module _ {X : Type 0} {t : Ghosts X} (laws : BehaviourLaws t.behaviour) {graph : Graph X t} {k : ℕ} {x : Placed X t} (at : IsNode graph k x)
    (y : Placed X t) (place : IsSamePlace x y) (a v : View) where
  pub node_visits : (capacity : ℕ) → IsWhole capacity v → SameEnds a v → HasAllEnds (length (edges_of graph)) a → (any : Bool) →
      Visited x.inputs.items x.outputs.items t.behaviour (placed_state x) a (placed_state y) v any →
      Visits t.behaviour capacity (k ∷ []) (edges_of graph) (states_of graph) a (states_in (set graph.nodes.items k y)) v any
  node_visits capacity whole ends all any visited sound =
      let b = t.behaviour in
      let edges = edges_of graph in
      visited_run b laws (states_of graph) edges graph.built.wired (lawful_net b (states_of graph) edges laws) k (among_states at)
      (states_in (set graph.nodes.items k y)) capacity a v (later_others at y place laws) whole x.inputs.items x.outputs.items (input_is at) (output_is at)
      (λ q port. ends.writes (out_edge edges k q) ∙ (all (out_edge edges k q) (graph.built.joined.outputs k q port)).0)
      any (subst (λ s. Visited x.inputs.items x.outputs.items b (stand_at graph k) a s v any) (sym (later_state at y))
      (subst (λ s. Visited x.inputs.items x.outputs.items b s a (placed_state y) v any) (stands at) visited)) sound

  -- a visit that broke off
  pub node_broke : BrokeOff x.inputs.items x.outputs.items t.behaviour (placed_state x) a (placed_state y) v →
      VisitBrokeOff t.behaviour k (edges_of graph) (states_of graph) a (states_in (set graph.nodes.items k y)) v
  node_broke broke = record {
    inputs = x.inputs.items;
    outputs = x.outputs.items;
    each_input = input_count at;
    each_output = output_count at;
    reads = input_is at;
    writes = output_is at;
    broke = subst (λ s. BrokeOff x.inputs.items x.outputs.items t.behaviour (stand_at graph k) a s v) (sym (later_state at y))
        (subst (λ s. BrokeOff x.inputs.items x.outputs.items t.behaviour s a (placed_state y) v) (stands at) broke);
    others = later_others at y place laws;
  }
