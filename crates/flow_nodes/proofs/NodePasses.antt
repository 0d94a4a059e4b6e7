-- A node passes a block on as its kind does.
use Rattle.std.proofs.Common.{◌≡◌, Bool, false, IsTrue, List, sym, ◌∙◌, ap, subst}
use Rattle.flow_messages.specs.Signals.{Signal}
use Rattle.flow_base.specs.Sums.{does_sum}
use Rattle.flow_base.specs.Passing.{MayCome, PassedOn}
use Rattle.flow_nodes.specs.StreamNodes.{NodeKind, a_source, member, node_behaviour, passes_of_kind, passes_in}

module _ (t : NodeKind) (s : (member t).State) (u : (k : NodeKind) × (member k).State) (is : u ≡ (t, s)) where
  pub come_node : {ms : List Signal} → MayCome (node_behaviour.kind_in u 0) ms → MayCome ((member t).behaviour.kind_in s 0) ms
  come_node {ms = ms} come = subst (λ x. MayCome (node_behaviour.kind_in x 0) ms) is come

  passed_kind : (ms ws : List Signal) (s' : (member t).State) → PassedOn (member t).behaviour s ms s' ws → PassedOn node_behaviour (t, s) ms (t, s') ws
  passed_kind ms ws s' d = record {
    history = d.history;
    does = does_sum a_source (λ k. (member k).behaviour) t d.history s s' d.does;
    reads_are = d.reads_are;
    no_others = d.no_others;
    writes_are = d.writes_are;
    is_done = d.is_done;
    counts = d.counts;
    few = d.few;
    nothing = d.nothing;
  }

  pub passed_node : {ms ws : List Signal} (s' : (member t).State) (r : Bool) → (IsTrue r → PassedOn (member t).behaviour s ms s' ws) → IsTrue r → PassedOn node_behaviour u ms (t, s') ws
  passed_node {ms = ms} {ws = ws} s' r passed h = subst (λ x. PassedOn node_behaviour x ms (t, s') ws) (sym is) (passed_kind ms ws s' (passed h))

  pub stays_node : (s' : (member t).State) (r : Bool) → (r ≡ false → s' ≡ s) → r ≡ false → ◌≡◌ {A = (k : NodeKind) × (member k).State} (t, s') u
  stays_node s' r kept h = ap (λ x. (t, x)) (kept h) ∙ sym is

  pub exact_node : (r : Bool) → r ≡ passes_of_kind t s → r ≡ passes_in u
  exact_node r known = known ∙ sym (ap passes_in is)
