-- A turn of a node over both ends of each edge is a turn of the network.
use Rattle.std.proofs.Common.{◌≡◌, ℕ, ◌<◌, Bool, true, false, List, [], ◌∷◌, length, Some, Result, Ok, Err, IfOk, inl, inr, refl, sym, ◌∙◌, ap, subst, arith}
use Rattle.std.proofs.lemmas.Bool.{cases_Bool}
use Rattle.kahn.specs.declared.want.Want.{Want}
use Rattle.kahn.specs.declared.want.Want.TheVariants.{Read, Write, Ended, Faulted}
use Rattle.kahn.specs.Basics.{updated}
use Rattle.kahn.specs.Processes.{Process, Event, Reads, Writes, HasEnd, writes}
use Rattle.kahn.specs.Networks.{Network, IsWired, AllLawful, actor}
use Rattle.kahn.specs.Configurations.{Configuration, IsSound}
use Rattle.kahn.specs.Runs.{Can}
use Rattle.kahn.specs.Turns.{Turn}
use Rattle.kahn.proofs.Turns.{nothing_held, no_room, did_read, did_write}
use Rattle.kahn.proofs.Held.{updated_from, same_from}
use Rattle.kahn.proofs.Steps.{sound_next}
use Rattle.flow_messages.specs.Signals.{Signal, carry, stop, ended}
use Rattle.flow_messages.specs.Ends.{View, SameTraffic}
use Rattle.flow_messages.specs.Whole.{IsWhole, waiting}
use Rattle.flow_messages.proofs.Waiting.{taken-begins, put-room, room-count, none-waits}
use Rattle.flow_base.specs.Transducers.{Behaviour, BehaviourLaws}
use Rattle.flow_base.specs.declared.transducer.Transducer.{Ghosts}
use Rattle.std.specs.declared.alloc.AllocError.{AllocError}
use Rattle.flow_networks.specs.declared.edge.Edge.{Edge}
use Rattle.flow_networks.specs.declared.graph.Graph.{Graph}
use Rattle.flow_networks.specs.declared.step.Stepped.{Stepped}
use Rattle.flow_networks.specs.declared.step.Stepped.TheVariants.{One, Nothing}
use Rattle.flow_networks.specs.Edges.{in_edge, out_edge}
use Rattle.flow_networks.specs.Networks.{state_at, inputs_at, outputs_at, SameBut, HasEnds, network_of, configuration_of}
use Rattle.flow_networks.specs.Graphs.{states_of, edges_of}
use Rattle.flow_networks.proofs.Nets.{graph_wired, graph_lawful}
use Rattle.flow_networks.proofs.Looks.{put_looked}
use Rattle.flow_networks.specs.Steps.{Moves, Stays, TurnAnswers, is_one}
use Rattle.flow_networks.specs.Turns.{TakesTurn, TurnsNetwork}

-- a list with a stop has the end
pub ended_has : {S : Type 0} (P : Process S Signal) → P.end ≡ stop → (ms : List Signal) → ended ms ≡ true → HasEnd P ms
unfolding ended
ended_has P is [] h = absurd (cc)
ended_has P is (stop ∷ ms) h = ([], ms, ap (λ x. x ∷ ms) is)
ended_has P is (carry x ∷ ms) h = let rest = ended_has P is ms h in (carry x ∷ rest.0, rest.1, ap (λ l. carry x ∷ l) rest.2)

module _ {S : Type 0} (b : Behaviour S) (laws : BehaviourLaws b) (states : List S) (edges : List Edge) (wired : IsWired (network_of b states edges))
    (lawful : AllLawful b.process (network_of b states edges)) (node : ℕ) (inside : node < length states) where
  abbrev net : Network S
  net = network_of b states edges

  abbrev s : S
  s = state_at b states node

  -- in a sound configuration no node wants to write an edge to which End was sent
  pub sound_open : (c : Configuration S Signal) → IsSound b.process net c → (q : ℕ) → b.process.want (c.state node) ≡ Write q → ended (c.sent (out_edge edges node q)) ≡ false
  sound_open c sound q wants =
      let reached = sound.reached node inside in
      let port : q < outputs_at b states node = (lawful node inside).out_port reached.history (c.state node) q reached.does wants in
      let place = wired.out_edge node q inside port in
      let wrote : c.sent (out_edge edges node q) ≡ writes q reached.history = reached.sent (out_edge edges node q) place.0 place.1 ∙ ap (λ p. writes p reached.history) place.2 in
      elim (cases_Bool (ended (c.sent (out_edge edges node q)))) [
        | inl closed ↦ absurd
            ((lawful node inside).open_out reached.history (c.state node) q reached.does wants
            (subst (HasEnd b.process) wrote (ended_has b.process laws.end (c.sent (out_edge edges node q)) closed)))
        | inr free ↦ free
      ]

  module _ (states' : List S) (capacity : ℕ) (a v : View) (others : SameBut b node states states') (whole_a : IsWhole capacity a)
      (whole_v : IsWhole capacity v) (ends : HasEnds b states edges node a)
      (sound : IsSound b.process (network_of b states edges) (configuration_of b states a)) where
    abbrev c : Configuration S Signal
    c = configuration_of b states a

    abbrev d : Configuration S Signal
    d = configuration_of b states' v

    abbrev s' : S
    s' = state_at b states' node

    changed : (t : S) → s' ≡ t → d.state ≡ updated c.state node t
    changed t is = updated_from c.state d.state node others.others ∙ ap (updated c.state node) is

    unchanged : s' ≡ s → d.state ≡ c.state
    unchanged is = same_from c.state d.state node is others.others

    input_there : (p : ℕ) → b.process.want s ≡ Read p → p < inputs_at b states node
    input_there p wants = let reached = sound.reached node inside in (lawful node inside).in_port reached.history s p reached.does wants

    output_there : (q : ℕ) → b.process.want s ≡ Write q → q < outputs_at b states node
    output_there q wants = let reached = sound.reached node inside in (lawful node inside).out_port reached.history s q reached.does wants

    moves : (w : Want) → b.process.want s ≡ w → Moves b edges node s s' a v w → Turn b.process net (Some capacity) node c d true
    moves (Read p) wants (m, taken, is) =
        let e = in_edge edges node p in
        let place = wired.in_edge node p inside (input_there p wants) in
        did_read b.process net wired (Some capacity) c node e place.0 m d place.1 (wants ∙ ap Read (sym place.2)) (waiting v e, taken-begins capacity a v e m whole_v taken)
        (changed (b.process.read s m) is) (λ i k. taken.sent k i) (updated_from a.received v.received e taken.others ∙ ap (updated a.received e) taken.received)
    moves (Write q) wants (is, puts, lost) =
        let e = out_edge edges node q in
        let there = output_there q wants in
        let place = wired.out_edge node q inside there in
        let put = put_looked a e (b.process.written s) v (puts (sound_open c sound q wants)) in
        let room = (room-count capacity a e whole_a (ends.writes q there)).0 (put-room capacity a v e (b.process.written s) whole_a whole_v put (ends.writes q there)) in
        did_write b.process net wired (Some capacity) c node e place.0 (b.process.written s) d place.1 (wants ∙ ap Write (sym place.2)) refl room
        (changed (b.process.wrote s) is) (updated_from a.sent v.sent e put.others ∙ ap (updated a.sent e) put.sent) (λ i k. put.received k i)
    moves Ended wants h = absurd h
    moves (Faulted fault) wants h = absurd h

    same_as_before : s' ≡ s → SameTraffic a v → d ≡ c
    same_as_before is traffic = λ i. record { state = unchanged is i; sent = λ k. traffic.sent k i; received = λ k. traffic.received k i }

    -- a node that is done does nothing
    idles : ((p : ℕ) → b.process.want s ≡ Read p → ⊥) → ((q : ℕ) → b.process.want s ≡ Write q → ⊥) → (a : Event Signal) → actor net a ≡ node → Can b.process net (Some capacity) c a → ⊥
    idles no_read no_write (Reads f m) at (there, wants, some) = no_read (net.reader_port f) (ap (λ k. b.process.want (c.state k)) (sym at) ∙ wants)
    idles no_read no_write (Writes f m) at (there, wants, is, room) = no_write (net.writer_port f) (ap (λ k. b.process.want (c.state k)) (sym at) ∙ wants)

    stays : (w : Want) → b.process.want s ≡ w → Stays b edges node s s' a v w → Turn b.process net (Some capacity) node c d false
    stays (Read p) wants (is, looked, none) =
        let e = in_edge edges node p in
        let place = wired.in_edge node p inside (input_there p wants) in
        let all : a.received e ≡ a.sent e = sym (looked.traffic.received e) ∙ none-waits capacity v e whole_v none ∙ looked.traffic.sent e in
        (same_as_before is looked.traffic, nothing_held b.process net wired (Some capacity) c node e place.0 place.1 (wants ∙ ap Read (sym place.2)) all)
    stays (Write q) wants (is, looked, none) =
        let e = out_edge edges node q in
        let there = output_there q wants in
        let place = wired.out_edge node q inside there in
        let count = room-count capacity v e whole_v (looked.ends.writes e ∙ ends.writes q there) in (
          same_as_before is looked.traffic,
          no_room b.process net wired (Some capacity) c node e place.0 place.1 (wants ∙ ap Write (sym place.2))
              (λ room. absurd (omega (arith, none, count.1 (omega (arith, room, ap length (looked.traffic.sent e), ap length (looked.traffic.received e)))))),
        )
    stays Ended wants (is, same) = (
      same_as_before is (record { sent = λ k. ap (λ (x : View). x.sent k) same; received = λ k. ap (λ (x : View). x.received k) same }),
      idles (λ p h. let x : Ended ≡ Read p = sym wants ∙ h in cc) (λ q h. let x : Ended ≡ Write q = sym wants ∙ h in cc),
    )
    stays (Faulted fault) wants (is, same) = (
      same_as_before is (record { sent = λ k. ap (λ (x : View). x.sent k) same; received = λ k. ap (λ (x : View). x.received k) same }),
      idles (λ p h. let x : Faulted fault ≡ Read p = sym wants ∙ h in cc) (λ q h. let x : Faulted fault ≡ Write q = sym wants ∙ h in cc),
    )

    pub turn_of : (moved : Stepped) → TurnAnswers b edges node s s' a v (Ok moved) → Turn b.process net (Some capacity) node c d (is_one moved)
    turn_of One h = moves (b.process.want s) refl h
    turn_of Nothing h = stays (b.process.want s) refl h

    sound_turn : (any : Bool) → Turn b.process net (Some capacity) node c d any → IsSound b.process net d
    sound_turn true (event, at, can, is) = subst (IsSound b.process net) (sym is) (sound_next b.process net wired (Some capacity) c event sound can)
    sound_turn false (is, none) = subst (IsSound b.process net) (sym is) sound

    pub sound_after : (moved : Stepped) → TurnAnswers b edges node s s' a v (Ok moved) → IsSound b.process net d
    sound_after moved h = sound_turn (is_one moved) (turn_of moved h)

-- one turn over both ends of each edge, by its answer
module _ {X Y : Type 0} {t : Ghosts X} (laws : BehaviourLaws t.behaviour) (view : Y → View) (node : ℕ) (graph : Graph X t) (ends : Y)
    (graph' : Graph X t) (ends' : Y) (inside : node < length (states_of graph))
    (there : HasEnds t.behaviour (states_of graph) (edges_of graph) node (view ends))
    (capacity : ℕ) (whole : IsWhole capacity (view ends)) (whole' : IsWhole capacity (view ends')) where
  pub turns_network : (r : Result Stepped AllocError) → TakesTurn view node graph ends graph' ends' r → IfOk r (λ moved. TurnsNetwork view node graph ends graph' ends' capacity moved)
  turns_network (Err e) taken = tt
  turns_network (Ok moved) taken = record {
    turn = λ sound. turn_of t.behaviour laws (states_of graph) (edges_of graph) (graph_wired graph) (graph_lawful graph laws) node inside
        (states_of graph') capacity (view ends) (view ends') taken.others whole whole' there sound moved taken.step;
    sound = λ sound. sound_after t.behaviour laws (states_of graph) (edges_of graph) (graph_wired graph) (graph_lawful graph laws) node inside
        (states_of graph') capacity (view ends) (view ends') taken.others whole whole' there sound moved taken.step;
  }
