-- What a node does is what its kind does.
use Rattle.std.proofs.Common.{◌≡◌, ℕ, false, sym, ◌∙◌, ap, subst, Result, Ok, Err, IfOk, OnErr, IsOk}
use Rattle.std.specs.declared.alloc.AllocError.{AllocError}
use Rattle.kahn.specs.declared.want.Want.{Want}
use Rattle.flow_messages.specs.declared.message.Kind.{Kind}
use Rattle.flow_messages.specs.declared.message.Msg.{Msg}
use Rattle.flow_messages.specs.Signals.{signal_of}
use Rattle.flow_base.specs.Transducers.{IsWrite, ports_on, kind_on}
use Rattle.flow_base.specs.declared.transducer.Side.{Side}
use Rattle.flow_base.specs.declared.transducer.Side.TheVariants as sides
use Rattle.flow_nodes.specs.StreamNodes.{NodeKind, member, node_behaviour}

-- u is the node's state, and s that of its kind
module _ (t : NodeKind) (s : (member t).State) (u : (k : NodeKind) × (member k).State) (is : u ≡ (t, s)) where
  pub want_node : {want : Want} → want ≡ (member t).behaviour.process.want s → want ≡ node_behaviour.process.want u
  want_node known = known ∙ sym (ap node_behaviour.process.want is)

  pub ports_node : (side : Side) {n : ℕ} → n ≡ ports_on (member t).behaviour side s → n ≡ ports_on node_behaviour side u
  ports_node sides.In known = known ∙ sym (ap node_behaviour.inputs is)
  ports_node sides.Out known = known ∙ sym (ap node_behaviour.outputs is)

  pub kind_node : (side : Side) (p : ℕ) {kind : Kind} → kind ≡ kind_on (member t).behaviour side s p → kind ≡ kind_on node_behaviour side u p
  kind_node sides.In p known = known ∙ sym (ap (λ x. node_behaviour.kind_in x p) is)
  kind_node sides.Out p known = known ∙ sym (ap (λ x. node_behaviour.kind_out x p) is)

  pub writes_node : IsWrite (node_behaviour.process.want u) → IsWrite ((member t).behaviour.process.want s)
  writes_node writes = subst (λ x. IsWrite (node_behaviour.process.want x)) is writes

  -- the answer where it wrote, with s' the state of its kind after it
  pub sent_node : (s' : (member t).State) (r : Result Msg AllocError) → IfOk r (λ m. (signal_of m ≡ (member t).behaviour.process.written s) × (s' ≡ (member t).behaviour.process.wrote s)) →
      IfOk r (λ m. (signal_of m ≡ node_behaviour.process.written u) × (◌≡◌ {A = (k : NodeKind) × (member k).State} (t, s') (node_behaviour.process.wrote u)))
  sent_node s' (Ok m) (told, new) = (told ∙ sym (ap node_behaviour.process.written is), ap (λ x. (t, x)) new ∙ sym (ap node_behaviour.process.wrote is))
  sent_node s' (Err x) d = tt

  pub kept_node : {X : Type 0} (s' : (member t).State) (r : Result X AllocError) → OnErr r (s' ≡ s) → OnErr r (◌≡◌ {A = (k : NodeKind) × (member k).State} (t, s') u)
  kept_node s' (Ok m) d = tt
  kept_node s' (Err x) d = ap (λ x. (t, x)) d ∙ sym is

  pub sure_node : {X : Type 0} (r : Result X AllocError) → ((member t).behaviour.takes_memory s ≡ false → IsOk r) → node_behaviour.takes_memory u ≡ false → IsOk r
  sure_node r sure spares = sure (sym (ap node_behaviour.takes_memory is) ∙ spares)
