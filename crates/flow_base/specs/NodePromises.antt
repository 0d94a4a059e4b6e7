-- What a worker as a transducer has still to read and write.
use Rattle.std.specs.Prelude.{◌≡◌, ℕ, ◌<◌, [], Bool, true, false, cond, nat_lt, ◌↔◌}
use Rattle.std.proofs.Common.{arith}
use Rattle.std.proofs.lemmas.Bool.Decides.{nat_tests}
use Rattle.flow_messages.specs.Cells.{Cell}
use Rattle.flow_messages.specs.Signals.{Signal}
use Rattle.flow_base.specs.Lists.{Lists}
use Rattle.flow_base.specs.Machines.{Move, Machine}
use Rattle.flow_base.specs.Bodies.{Body}
use Rattle.flow_base.specs.Promises.{Promise}
use Rattle.flow_base.specs.Nodes.{NodeState}
use Rattle.flow_base.specs.ClosedLists.{AreClosed, EndsFrom, none_due, due_none}
use Rattle.flow_base.specs.declared.node.Phase.{Phase}
use Rattle.flow_base.specs.declared.node.Phase.TheVariants.{Working, Closing, Ending, Faulted}

-- the end of this input has passed
abbrev pub over_in : Phase → ℕ → Bool
over_in Working p = false
over_in (Closing k) p = nat_lt p k
over_in _ p = true

-- the end of this output has passed
abbrev pub over_out : Phase → ℕ → Bool
over_out (Ending k) q = nat_lt q k
over_out _ q = false

module _ {P S : Type 0} (m : Machine P S) where
  -- What a run from this move reads and writes, and then the ends.
  pub record Remains (p : P) (v : Move S) (i o : Lists Signal) : Type 0 where
    pub ins : Lists Cell
    pub outs : Lists Cell
    pub body : Body m p v ins outs
    pub closed_ins : AreClosed (m.inputs p) i ins
    pub closed_outs : AreClosed (m.outputs p) o outs

  -- what is still to be read and written in this phase
  abbrev pub owes_in : Phase → P × S → Lists Signal → Lists Signal → Type 0
  owes_in Working s i o = Remains s.0 (m.move s.0 s.1) i o
  owes_in (Closing k) s i o = (k < m.inputs s.0) × EndsFrom k (m.inputs s.0) i × EndsFrom 0 (m.outputs s.0) o
  owes_in (Ending q) s i o = ((r : ℕ) → r < m.inputs s.0 → i r ≡ []) × EndsFrom q (m.outputs s.0) o
  owes_in (Faulted kind) s i o = ⊥

  abbrev pub promise_of : Promise (NodeState (P × S))
  promise_of = record {
    owes = λ n. owes_in n.phase n.worker;
    over_in = λ n. over_in n.phase;
    over_out = λ n. over_out n.phase;
  }

  -- where the next end that comes is that of input k, the ends from k on are owed, and those of all outputs
  pub closing_owes : (b : Bool) (s : P × S) (k : ℕ) (i o : Lists Signal) → nat_lt k (m.inputs s.0) ≡ b →
      (EndsFrom k (m.inputs s.0) i × EndsFrom 0 (m.outputs s.0) o) ↔ owes_in (cond b (Closing k) (Ending 0)) s i o
  closing_owes true s k i o e = (λ h. (grind (arith, nat_tests), h.0, h.1), λ h. (h.1, h.2))
  closing_owes false s k i o e = (λ h. (none_due k (m.inputs s.0) i e h.0, h.1), λ h. (due_none k (m.inputs s.0) i e h.0, h.1))
