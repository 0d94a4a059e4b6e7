-- Lawful flows: a graph carries each one to its end, and carried one where all its nodes ended.
use Rattle.std.proofs.Common.{◌≡◌, ℕ, ◌<◌, List, [], ◌∷◌, length, Some, refl, sym, ◌∙◌, ap, subst, arith}
use Rattle.std.proofs.lemmas.List.{get_or-map}
use Rattle.std.proofs.lemmas.List.Elements.{All-get_or}
use Rattle.kahn.specs.Processes.{Does, RunsToEnd, reads, writes}
use Rattle.kahn.specs.Networks.{Network}
use Rattle.kahn.specs.Configurations.{Configuration, IsReached, IsSound, IsComplete}
use Rattle.kahn.specs.Traffic.{IsTraffic, Completes}
use Rattle.kahn.proofs.Conclusions.{carries_from_nodes, one_traffic, same_traffic, all_received, never_stalls, runs_are_sound}
use Rattle.flow_messages.specs.Cells.{Cell}
use Rattle.flow_messages.specs.Signals.{Signal, carry, stop}
use Rattle.flow_base.specs.Transducers.{Behaviour, BehaviourLaws, TransducerLaws, IsLawfulTraffic, closed, closed_at}
use Rattle.flow_base.specs.Histories.{closed_inside}
use Rattle.flow_networks.specs.declared.edge.Edge.{Edge}
use Rattle.flow_networks.specs.Edges.{in_edge, out_edge}
use Rattle.flow_networks.specs.Networks.{state_at, inputs_at, outputs_at, AreOpened, network_of}
use Rattle.flow_networks.specs.Laws.{IsNetwork}
use Rattle.flow_networks.specs.Flows.{bodies_in, bodies_out, HasRow, IsLawfulFlow}
use Rattle.flow_networks.specs.FlowTheorems.{RowsMakeAFlow, FlowHasRows, FlowIsCarried, FlowIsBegun, EndedHasFlow, FlowNeverStalls, FlowRunsToEnd, EndedIsLawful, EndedRunIsLawful, OneFlow}

-- the cells of a list up to its end
abbrev pub body_of : List Signal → List Cell
body_of [] = []
body_of (carry x ∷ xs) = x ∷ body_of xs
body_of (stop ∷ xs) = []

body_closed : (body : List Cell) → body_of (closed body) ≡ body
body_closed [] = refl
body_closed (x ∷ body) = ap (λ l. x ∷ l) (body_closed body)

-- a closed list has one body
pub closed_body : (xs : List Signal) (body : List Cell) → xs ≡ closed body → body ≡ body_of xs
closed_body xs body is = sym (ap body_of is ∙ body_closed body)

pub closed_again : (xs : List Signal) (body : List Cell) → xs ≡ closed body → xs ≡ closed (body_of xs)
closed_again xs body is = is ∙ ap closed (closed_body xs body is)

pub same_bodies : (one other : List Cell) → closed one ≡ closed other → one ≡ other
same_bodies one other is = sym (body_closed one) ∙ ap body_of is ∙ body_closed other

-- where a node is in its opening state
opens_at : {S : Type 0} (b : Behaviour S) (states : List S) → AreOpened b states → (k : ℕ) → k < length states → b.opening (state_at b states k) ≡ state_at b states k
opens_at b states opened k l = All-get_or (λ x. b.opening x ≡ x) states k b.sample l opened

pub rows_make_a_flow : {S : Type 0} (b : Behaviour S) (states : List S) (edges : List Edge) → RowsMakeAFlow b states edges
rows_make_a_flow b states edges opened bodies rows k l =
    let ins = bodies_in edges bodies k in
    let outs = bodies_out edges bodies k in
    record {
      row_ins = ins;
      row_outs = outs;
      row = subst (λ s. b.row s ins outs) (sym (opens_at b states opened k l)) (rows k l);
      same_ins = λ p port. refl;
      same_outs = λ q port. refl;
    }

pub flow_has_rows : {S : Type 0} (b : Behaviour S) (states : List S) (edges : List Edge) → FlowHasRows b states edges
flow_has_rows b states edges on_ports opened bodies flow k l =
    let ins = bodies_in edges bodies k in
    let outs = bodies_out edges bodies k in
    let has = flow k l in
    subst (λ s. b.row s ins outs) (opens_at b states opened k l) (on_ports (b.opening (state_at b states k)) has.row_ins has.row_outs ins outs has.same_ins has.same_outs has.row)

module _ {S : Type 0} (b : Behaviour S) (laws : BehaviourLaws b) (states : List S) (edges : List Edge) (is_net : IsNetwork b states edges) where
  abbrev net : Network S
  net = network_of b states edges

  -- the state in which node k opened
  abbrev opened_at : ℕ → S
  opened_at k = b.opening (state_at b states k)

  laws_at : (k : ℕ) → TransducerLaws b (opened_at k)
  laws_at k = laws.opened (opened_at k) (laws.same_opening (state_at b states k))

  opening_is : (k : ℕ) → k < length states → net.opening k ≡ opened_at k
  opening_is k l = get_or-map b.opening states k b.sample b.sample l

  inputs_are : (k : ℕ) → k < length states → inputs_at b states k ≡ b.inputs (opened_at k)
  inputs_are k l = get_or-map b.inputs states k b.sample 0 l ∙ sym (laws.same_inputs (state_at b states k))

  outputs_are : (k : ℕ) → k < length states → outputs_at b states k ≡ b.outputs (opened_at k)
  outputs_are k l = get_or-map b.outputs states k b.sample 0 l ∙ sym (laws.same_outputs (state_at b states k))

  writer_there : (e : ℕ) → e < length edges → net.writer e < length states
  writer_there e inside = omega (arith, is_net.wired.forward e inside, is_net.wired.inside e inside)

  -- the port that an edge goes to, and that it comes from, and the edge at that port
  port_in : (k e : ℕ) → k < length states → e < length edges → net.reader e ≡ k → net.reader_port e < b.inputs (opened_at k)
  port_in k e l inside is = omega (arith, is_net.wired.reader_in e inside, inputs_are k l, ap (inputs_at b states) is)

  port_out : (k e : ℕ) → k < length states → e < length edges → net.writer e ≡ k → net.writer_port e < b.outputs (opened_at k)
  port_out k e l inside is = omega (arith, is_net.wired.writer_out e inside, outputs_are k l, ap (outputs_at b states) is)

  edge_in : (k e : ℕ) → k < length states → e < length edges → net.reader e ≡ k → in_edge edges k (net.reader_port e) ≡ e
  edge_in k e l inside is =
      let at = is_net.wired.in_edge k (net.reader_port e) l (omega (arith, port_in k e l inside is, inputs_are k l)) in
      is_net.wired.one_in (in_edge edges k (net.reader_port e)) e at.0 inside (at.1 ∙ sym is) at.2

  edge_out : (k e : ℕ) → k < length states → e < length edges → net.writer e ≡ k → out_edge edges k (net.writer_port e) ≡ e
  edge_out k e l inside is =
      let at = is_net.wired.out_edge k (net.writer_port e) l (omega (arith, port_out k e l inside is, outputs_are k l)) in
      is_net.wired.one_out (out_edge edges k (net.writer_port e)) e at.0 inside (at.1 ∙ sym is) at.2

  -- each node has a run to its end over a lawful flow
  node_completes : (bodies : ℕ → List Cell) → IsLawfulFlow b states edges bodies → (k : ℕ) → k < length states → Completes b.process net (λ e. closed (bodies e)) k
  node_completes bodies flow k l =
      let row : HasRow b (opened_at k) (bodies_in edges bodies k) (bodies_out edges bodies k) = flow k l in
      let n = b.inputs (opened_at k) in
      let m = b.outputs (opened_at k) in
      let run : RunsToEnd b.process (opened_at k) n (closed_at n row.row_ins) (closed_at m row.row_outs) = (laws_at k).runs row.row_ins row.row_outs row.row in
      record {
        end = run.end;
        history = run.history;
        does = subst (λ s. Does b.process s run.history run.end) (sym (opening_is k l)) run.does;
        ended = run.ended;
        received = λ e inside is.
            let p = net.reader_port e in
            let port : p < n = port_in k e l inside is in
            ap (λ f. closed (bodies f)) (sym (edge_in k e l inside is)) ∙ ap closed (sym (row.same_ins p port)) ∙ sym (closed_inside n row.row_ins p port) ∙ sym (run.reads_all p port);
        sent = λ e inside is.
            let q = net.writer_port e in
            let port : q < m = port_out k e l inside is in
            ap (λ f. closed (bodies f)) (sym (edge_out k e l inside is)) ∙ ap closed (sym (row.same_outs q port)) ∙ sym (closed_inside m row.row_outs q port) ∙ sym (run.writes_all q);
      }

  pub flow_is_carried : FlowIsCarried b states edges
  flow_is_carried bodies flow = carries_from_nodes b.process net (λ e. closed (bodies e)) (node_completes bodies flow)

  pub flow_is_begun : FlowIsBegun b states edges
  flow_is_begun bodies flow c sound = one_traffic b.process net is_net.wired is_net.lawful (λ e. closed (bodies e)) (flow_is_carried bodies flow) c sound

  pub ended_has_flow : EndedHasFlow b states edges
  ended_has_flow bodies flow c all = same_traffic b.process net is_net.wired is_net.lawful (λ e. closed (bodies e)) (flow_is_carried bodies flow) c all

  pub flow_never_stalls : FlowNeverStalls b states edges
  flow_never_stalls bodies flow capacity room c sound rest =
      never_stalls b.process net is_net.wired is_net.lawful (λ e. closed (bodies e)) (flow_is_carried bodies flow) capacity room c sound rest

  pub flow_runs_to_end : FlowRunsToEnd b states edges
  flow_runs_to_end bodies flow capacity room events c maximal =
      let sound : IsSound b.process net c = runs_are_sound b.process net is_net.wired (Some capacity) events c maximal.run in
      let ended = flow_never_stalls bodies flow capacity room c sound maximal.rest in
      (ended, ended_has_flow bodies flow c (record { sound = sound; ended = ended }))

  pub one_flow : OneFlow b states edges
  one_flow one other flow flow' e inside =
      let carried : IsTraffic b.process net (λ f. closed (one f)) = flow_is_carried one flow in
      same_bodies (one e) (other e) ((ended_has_flow other flow' (record { state = carried.0; sent = λ f. closed (one f); received = λ f. closed (one f) }) carried.1 e inside).0)

  module _ (c : Configuration S Signal) (all : IsComplete b.process net c) where
    reached_at : (k : ℕ) → k < length states → IsReached b.process net c k
    reached_at k l = all.sound.reached k l

    -- where a node ended, it read and wrote closed lists, over whose bodies its row holds
    node_traffic : (k : ℕ) (l : k < length states) → IsLawfulTraffic b (opened_at k) (λ p. reads p (reached_at k l).history) (λ q. writes q (reached_at k l).history)
    node_traffic k l =
        let r = reached_at k l in
        (laws_at k).complete r.history (c.state k) (subst (λ s. Does b.process s r.history (c.state k)) (opening_is k l) r.does) (all.ended k l)

    same_ends : (e : ℕ) → e < length edges → c.received e ≡ c.sent e
    same_ends e inside = all_received b.process net is_net.wired is_net.lawful c all e inside

    sent_closed : (e : ℕ) → e < length edges → c.sent e ≡ closed (body_of (c.sent e))
    sent_closed e inside =
        let k = net.writer e in
        let l : k < length states = writer_there e inside in
        let traffic = node_traffic k l in
        let q = net.writer_port e in
        closed_again (c.sent e) (traffic.outs q) ((reached_at k l).sent e inside refl ∙ traffic.closed_outs q (port_out k e l inside refl))

    node_has_row : (k : ℕ) → k < length states → HasRow b (opened_at k) (λ p. body_of (c.sent (in_edge edges k p))) (λ q. body_of (c.sent (out_edge edges k q)))
    node_has_row k l =
        let r = reached_at k l in
        let traffic = node_traffic k l in
        record {
          row_ins = traffic.ins;
          row_outs = traffic.outs;
          row = traffic.row;
          same_ins = λ p port.
              let e = in_edge edges k p in
              let at = is_net.wired.in_edge k p l (omega (arith, port, inputs_are k l)) in
              closed_body (c.sent e) (traffic.ins p) (sym (same_ends e at.0) ∙ r.received e at.0 at.1 ∙ ap (λ i. reads i r.history) at.2 ∙ traffic.closed_ins p port);
          same_outs = λ q port.
              let e = out_edge edges k q in
              let at = is_net.wired.out_edge k q l (omega (arith, port, outputs_are k l)) in
              closed_body (c.sent e) (traffic.outs q) (r.sent e at.0 at.1 ∙ ap (λ i. writes i r.history) at.2 ∙ traffic.closed_outs q port);
        }

  pub ended_is_lawful : EndedIsLawful b states edges
  ended_is_lawful c all = (
    λ e. body_of (c.sent e),
    node_has_row c all,
    λ e inside. (sent_closed c all e inside, same_ends c all e inside ∙ sent_closed c all e inside),
  )

  pub ended_run_is_lawful : EndedRunIsLawful b states edges
  ended_run_is_lawful limit events c run ended = ended_is_lawful c (record { sound = runs_are_sound b.process net is_net.wired limit events c run; ended = ended })
