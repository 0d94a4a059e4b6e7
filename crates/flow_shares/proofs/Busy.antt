-- A node that made a step made some list longer.
use Rattle.std.proofs.Common.{◌≡◌, ℕ, ◌<◌, cond, List, [], ◌∷◌, ◌++◌, length, get_or, refl, sym, ◌∙◌, ap, arith, length-append, eq-eqb}
use Rattle.kahn.specs.Processes.{Event, Reads, Writes, Does, reads, writes}
use Rattle.flow_messages.specs.Signals.{Signal}
use Rattle.flow_messages.specs.Ends.{View, SameTraffic}
use Rattle.flow_base.specs.Transducers.{Behaviour, BehaviourLaws}
use Rattle.flow_base.specs.declared.transducer.Transducer.{Ghosts}
use Rattle.flow_base.specs.Visits.{edge_of}
use Rattle.flow_networks.specs.declared.placed.Placed.{Placed}
use Rattle.flow_networks.specs.Places.{placed_state}
use Rattle.flow_shares.specs.Shares.{inputs_of, outputs_of, HaveMoved}
use Rattle.flow_shares.proofs.Ports.{HasInputs, HasOutputs, input_port, output_port}

-- nothing was added to a list that is the same
nothing_more : {X : Type 0} (now before more : List X) → now ≡ before ++ more → now ≡ before → more ≡ []
nothing_more now before [] is same = refl
nothing_more now before (x ∷ more) is same = absurd (omega (arith, ap length is, ap length same, length-append before (x ∷ more)))

-- a node that read nothing at its ports, and wrote nothing, made no step
no_step : {S : Type 0} (b : Behaviour S) (laws : BehaviourLaws b) (ins outs : List ℕ) (h : List (Event Signal)) (s s' : S) → HasInputs b laws ins s → HasOutputs b laws outs s → Does b.process s h s'
    → ((p : ℕ) → p < length ins → reads p h ≡ []) → ((q : ℕ) → q < length outs → writes q h ≡ []) → h ≡ []
no_step b laws ins outs [] s s' has_in has_out does none_read none_wrote = refl
no_step b laws ins outs (Reads p m ∷ h) s s' has_in has_out (wants, rest) none_read none_wrote =
    absurd (let no : m ∷ reads p h ≡ [] = sym (ap (λ c. cond c (m ∷ reads p h) (reads p h)) (eq-eqb p p refl)) ∙ none_read p (input_port b laws ins s p wants has_in) in cc)
no_step b laws ins outs (Writes q m ∷ h) s s' has_in has_out (wants, is, rest) none_read none_wrote =
    absurd (let no : m ∷ writes q h ≡ [] = sym (ap (λ c. cond c (m ∷ writes q h) (writes q h)) (eq-eqb q q refl)) ∙ none_wrote q (output_port b laws outs s q wants has_out) in cc)

pub quiet : {X : Type 0} {t : Ghosts X} (laws : BehaviourLaws t.behaviour) (nodes later : List (Placed X t)) (a v : View)
    (moved : HaveMoved nodes later a v) → SameTraffic a v → (k : ℕ) (d : Placed X t) → k < length nodes → moved.history k ≡ []
quiet {X} {t} laws nodes later a v moved same k d l =
    let node : Placed X t = get_or nodes k d in
    no_step t.behaviour laws (inputs_of node) (outputs_of node) (moved.history k) (placed_state node) (placed_state (get_or later k d))
    (record { reached = node.reached; each = node.each_input }) (record { reached = node.reached; each = node.each_output }) (moved.does k d l)
    (λ p port. let e = edge_of (inputs_of node) p in nothing_more (v.received e) (a.received e) (reads p (moved.history k)) (moved.received k p d l port) (same.received e))
    (λ q port. let e = edge_of (outputs_of node) q in nothing_more (v.sent e) (a.sent e) (writes q (moved.history k)) (moved.sent k q d l port) (same.sent e))
