-- A worker as a transducer keeps the laws of transducers.
use Rattle.std.specs.Prelude.{◌≡◌, ℕ, nat_lt, refl, ◌↔◌}
use Rattle.std.proofs.Common.{sym, subst}
use Rattle.flow_messages.specs.Signals.{Signal}
use Rattle.flow_base.specs.Lists.{Lists}
use Rattle.flow_base.specs.Machines.{Move, begins, takes, gives, Machine, MachineLaws, ask_of, SoundAt}
use Rattle.flow_base.specs.Transducers.{BehaviourLaws, IsLawfulTraffic}
use Rattle.flow_base.specs.Promises.{Keeps, PromiseLaws}
use Rattle.flow_base.specs.Promised.{promised_laws}
use Rattle.flow_base.specs.Nodes.{NodeState, node_state, opened, want_in, want_for, behaviour_of}
use Rattle.flow_base.specs.NodePromises.{Remains, owes_in, promise_of}
use Rattle.flow_base.specs.NodeReads.{take_keeps, begin_keeps}
use Rattle.flow_base.specs.NodeWrites.{give_keeps}
use Rattle.flow_base.specs.NodeEnds.{closing_keeps, ending_keeps}
use Rattle.flow_base.specs.declared.node.Phase.{Phase}
use Rattle.flow_base.specs.declared.node.Phase.TheVariants.{Working, Closing, Ending, Faulted}

module _ {P S : Type 0} (m : Machine P S) (laws : MachineLaws m) where
  working : (p : P) (s : S) (at : ℕ) (v : Move S) → m.move p s ≡ v → SoundAt m p s v → Keeps (behaviour_of m) (promise_of m) (node_state (p, s) Working at) (want_for (ask_of v))
  working p s at (begins t) e law = begin_keeps m p s at t e law.1
  working p s at (takes q t) e law = take_keeps m p s at q t e law
  working p s at (gives q c next) e law = give_keeps m p s q c next at e law

  each : (s : P × S) (phase : Phase) (at : ℕ) → Keeps (behaviour_of m) (promise_of m) (node_state s phase at) (want_in m phase (node_state s phase at))
  each s Working at = working s.0 s.1 at (m.move s.0 s.1) refl (laws.sound s.0 s.1)
  each s (Closing p) at = closing_keeps m s p at (nat_lt p (m.inputs s.0)) refl
  each s (Ending q) at = ending_keeps m s q at (nat_lt q (m.outputs s.0)) refl
  each s (Faulted kind) at = record { place = refl; never = λ i o h. h }

  -- where it opened it owes lawful traffic
  opens : (n : NodeState (P × S)) → opened (n.worker.0, m.start) n.at ≡ n → (i o : Lists Signal) → owes_in m n.phase n.worker i o ↔ IsLawfulTraffic (behaviour_of m) n i o
  opens n e i o = (λ h. forth (subst (λ k. owes_in m k.phase k.worker i o) (sym e) h), λ h. subst (λ k. owes_in m k.phase k.worker i o) e (back h))
    where
      forth : Remains m n.worker.0 (m.move n.worker.0 m.start) i o → IsLawfulTraffic (behaviour_of m) n i o
      forth h = record { ins = h.ins; outs = h.outs; row = (laws.rows n.worker.0 h.ins h.outs).1 h.body; closed_ins = h.closed_ins; closed_outs = h.closed_outs }

      back : IsLawfulTraffic (behaviour_of m) n i o → Remains m n.worker.0 (m.move n.worker.0 m.start) i o
      back h = record { ins = h.ins; outs = h.outs; body = (laws.rows n.worker.0 h.ins h.outs).0 h.row; closed_ins = h.closed_ins; closed_outs = h.closed_outs }

  promise_laws : PromiseLaws (behaviour_of m) (promise_of m)
  promise_laws = record {
    end = refl;
    each = λ n. each n.worker n.phase n.at;
    opens = opens;
    same_opening = λ n. refl;
    same_inputs = λ n. refl;
    same_outputs = λ n. refl;
    same_kinds_in = λ n p. refl;
    same_kinds_out = λ n q. refl;
    starts_of_kind = λ n e. subst (λ k. m.of_kind k.worker.0 k.worker.1) e (laws.starts_of_kind n.worker.0);
  }

pub behaviour_laws : {P S : Type 0} (m : Machine P S) → MachineLaws m → BehaviourLaws (behaviour_of m)
behaviour_laws m laws = promised_laws (behaviour_of m) (promise_of m) (promise_laws m laws)
