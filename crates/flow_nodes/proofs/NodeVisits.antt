-- A visit of a node is one of its kind.
use Rattle.std.proofs.Common.{◌≡◌, ℕ, Bool, List, sym, ◌∙◌, subst, Result, Ok, Err, IfOk, OnErr}
use mathlib.Core.Logic.{∥∥₁_map}
use Rattle.std.specs.declared.alloc.AllocError.{AllocError}
use Rattle.kahn.specs.Processes.{Event, Does}
use Rattle.flow_messages.specs.Signals.{Signal}
use Rattle.flow_messages.specs.Ends.{View}
use Rattle.flow_base.specs.Sums.{sum_does, does_sum}
use Rattle.flow_base.specs.Visits.{IsPlaced, Visited, BrokeOff}
use Rattle.flow_base.proofs.Reached.{opening_does}
use Rattle.flow_nodes.specs.StreamNodes.{NodeKind, a_source, member, node_behaviour}
use Rattle.flow_nodes.specs.KindLaws.{proofs_of_kind}

-- a history from the state in which that of this node opened, which its kind has
abbrev Comes : (t : NodeKind) × (member t).State → Type 0
Comes u = (h : List (Event Signal)) × Does (member u.0).behaviour.process ((member u.0).behaviour.opening u.1) h u.1

comes_kind : (t : NodeKind) (s : (member t).State) (h : List (Event Signal)) → Does node_behaviour.process (node_behaviour.opening (t, s)) h (t, s) → Comes (t, s)
comes_kind t s h does =
    let b = (member t).behaviour in
    let laws = (proofs_of_kind t).laws in
    let first = b.opening s in
    let d = sum_does a_source (λ k. (member k).behaviour) t h first (t, s) does in
    let alike : first ≡ b.opening d.0 = sym (opening_does b laws h first d.0 d.2 ∙ laws.same_opening s) in
    subst Comes (sym d.1) (h, subst (λ o. Does b.process o h d.0) alike d.2)

-- the edges are at the ports of the kind
placed_kind : (inputs outputs : List ℕ) (t : NodeKind) (s : (member t).State) (v : View) → IsPlaced node_behaviour inputs outputs (t, s) v → IsPlaced (member t).behaviour inputs outputs s v
placed_kind inputs outputs t s v placed = record {
  reached = ∥∥₁_map placed.reached (λ (h, does). comes_kind t s h does);
  each_input = placed.each_input;
  each_output = placed.each_output;
  reads = placed.reads;
  writes = placed.writes;
  kinds = placed.kinds;
}

module _ (inputs outputs : List ℕ) (t : NodeKind) (s s' : (member t).State) (a v : View) where
  visited_kind : (any : Bool) → Visited inputs outputs (member t).behaviour s a s' v any → Visited inputs outputs node_behaviour (t, s) a (t, s') v any
  visited_kind any d = record {
    history = d.history;
    does = does_sum a_source (λ k. (member k).behaviour) t d.history s s' d.does;
    carried = d.carried;
    spares = d.spares;
    some = d.some;
    none = d.none;
    calm = d.calm;
    stuck = d.stuck;
  }

  broke_kind : BrokeOff inputs outputs (member t).behaviour s a s' v → BrokeOff inputs outputs node_behaviour (t, s) a (t, s') v
  broke_kind d = record {
    history = d.history;
    does = does_sum a_source (λ k. (member k).behaviour) t d.history s s' d.does;
    starves = d.starves;
    received = d.received;
    lost = d.lost;
    lost_edge = d.lost_edge;
    kept = d.kept;
    others = d.others;
    sent = d.sent;
  }

  -- the answer of a visit, where u is the node's state before it
  pub visited_node : (u : (k : NodeKind) × (member k).State) (r : Result Bool AllocError) → u ≡ (t, s) →
      IfOk r (λ any. Visited inputs outputs (member t).behaviour s a s' v any) → IfOk r (λ any. Visited inputs outputs node_behaviour u a (t, s') v any)
  visited_node u (Ok any) is d = subst (λ k. Visited inputs outputs node_behaviour k a (t, s') v any) (sym is) (visited_kind any d)
  visited_node u (Err x) is d = tt

  pub broke_node : (u : (k : NodeKind) × (member k).State) (r : Result Bool AllocError) → u ≡ (t, s) →
      OnErr r (BrokeOff inputs outputs (member t).behaviour s a s' v) → OnErr r (BrokeOff inputs outputs node_behaviour u a (t, s') v)
  broke_node u (Ok any) is d = tt
  broke_node u (Err x) is d = subst (λ k. BrokeOff inputs outputs node_behaviour k a (t, s') v) (sym is) (broke_kind d)

pub placed_node : {inputs outputs : List ℕ} (t : NodeKind) (s : (member t).State) {v : View} (u : (k : NodeKind) × (member k).State) → u ≡ (t, s) →
    IsPlaced node_behaviour inputs outputs u v → IsPlaced (member t).behaviour inputs outputs s v
placed_node {inputs = inputs} {outputs = outputs} t s {v = v} u is placed = placed_kind inputs outputs t s v (subst (λ k. IsPlaced node_behaviour inputs outputs k v) is placed)
