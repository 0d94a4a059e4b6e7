-- A worker as a transducer: what it does where streams end.
use Rattle.std.specs.Prelude.{ℕ, ◌+◌, ◌-◌, Bool, false, cond, nat_lt, Result, Ok, Err}
use Rattle.snesl_data.specs.declared.fault.FaultKind.{FaultKind}
use Rattle.snesl_data.specs.declared.fault.FaultKind.TheVariants.{Shape}
use Rattle.kahn.specs.declared.want.Want.{Want}
use Rattle.kahn.specs.declared.want.Want.TheVariants.{Read, Write, Ended, Faulted as Stopped}
use Rattle.flow_messages.specs.Signals.{Signal, carry, stop}
use Rattle.flow_base.specs.Machines.{Machine, move_of, ask_of, state_after_read, written_cell, state_after_write}
use Rattle.flow_base.specs.Transducers.{Behaviour}
use Rattle.flow_base.specs.declared.worker.Ask.{Ask}
use Rattle.flow_base.specs.declared.worker.Ask.TheVariants.{Begin, Take, Give}
use Rattle.flow_base.specs.declared.node.Phase.{Phase}
use Rattle.flow_base.specs.declared.node.Phase.TheVariants.{Working, Closing, Ending, Faulted}

-- A worker's state, how far the node is, and the offset that its faults name.
pub record NodeState (S : Type 0) : Type 0 where
  pub worker : S
  pub phase : Phase
  pub at : ℕ

abbrev pub node_state : {S : Type 0} → S → Phase → ℕ → NodeState S
node_state worker phase at = record { worker = worker; phase = phase; at = at }

-- a node before its first instance
abbrev pub opened : {S : Type 0} → S → ℕ → NodeState S
opened worker at = node_state worker Working at

-- the phase where the end of this input comes next, if there is such an input
abbrev pub closing : ℕ → ℕ → Phase
closing port inputs = cond (nat_lt port inputs) (Closing port) (Ending 0)

abbrev pub want_for : Ask → Want
want_for Begin = Read 0
want_for (Take p) = Read p
want_for (Give q) = Write q

-- the worker is seen as its parameters and its state
module _ {P S : Type 0} (m : Machine P S) where
  abbrev pub want_in : Phase → NodeState (P × S) → Want
  want_in Working n = want_for (ask_of (move_of m n.worker))
  want_in (Closing p) n = cond (nat_lt p (m.inputs n.worker.0)) (Read p) (Stopped (record { kind = Shape; at = n.at }))
  want_in (Ending q) n = cond (nat_lt q (m.outputs n.worker.0)) (Write q) Ended
  want_in (Faulted kind) n = Stopped (record { kind = kind; at = n.at })

  -- the worker goes on, or the node has faulted
  abbrev pub went_on : NodeState (P × S) → Result S FaultKind → NodeState (P × S)
  went_on n (Ok next) = record n { worker = (n.worker.0, next) }
  went_on n (Err kind) = record n { phase = Faulted kind }

  -- the stream at the first port may end where an instance may begin, and at no other place
  abbrev pub at_end : Ask → NodeState (P × S) → NodeState (P × S)
  at_end Begin n = record n { phase = closing 1 (m.inputs n.worker.0) }
  at_end _ n = record n { phase = Faulted Shape }

  -- where an end is due, nothing else may come
  abbrev pub node_after_read : Phase → NodeState (P × S) → Signal → NodeState (P × S)
  node_after_read Working n (carry x) = went_on n (state_after_read (move_of m n.worker) x)
  node_after_read Working n stop = at_end (ask_of (move_of m n.worker)) n
  node_after_read (Closing p) n stop = record n { phase = closing (p + 1) (m.inputs n.worker.0) }
  node_after_read (Closing p) n (carry x) = record n { phase = Faulted Shape }
  node_after_read _ n _ = n

  abbrev pub written_signal : Phase → NodeState (P × S) → Signal
  written_signal Working n = carry (written_cell (move_of m n.worker))
  written_signal _ n = stop

  abbrev pub after_in : Phase → NodeState (P × S) → NodeState (P × S)
  after_in Working n = record n { worker = (n.worker.0, state_after_write n.worker.1 (move_of m n.worker)) }
  after_in (Ending q) n = record n { phase = Ending (q + 1) }
  after_in _ n = n

  abbrev pub debt_in : Phase → NodeState (P × S) → ℕ
  debt_in Working n = m.debt n.worker.0 n.worker.1
  debt_in (Ending q) n = m.outputs n.worker.0 - q
  debt_in _ n = 0

  abbrev pub memory_in : Phase → NodeState (P × S) → Bool
  memory_in Working n = m.takes_memory n.worker.1
  memory_in _ n = false

  abbrev pub behaviour_of : Behaviour (NodeState (P × S))
  behaviour_of = record {
    sample = opened (m.sample, m.start) 0;
    process = record {
      want = λ n. want_in n.phase n;
      read = λ n message. node_after_read n.phase n message;
      written = λ n. written_signal n.phase n;
      wrote = λ n. after_in n.phase n;
      debt = λ n. debt_in n.phase n;
      end = stop;
    };
    opening = λ n. opened (n.worker.0, m.start) n.at;
    inputs = λ n. m.inputs n.worker.0;
    outputs = λ n. m.outputs n.worker.0;
    kind_in = λ n. m.kind_in n.worker.0;
    kind_out = λ n. m.kind_out n.worker.0;
    at = λ n. n.at;
    row = λ n. m.row n.worker.0;
    of_kind = λ n. m.of_kind n.worker.0 n.worker.1;
    in_range = λ dialect n. m.in_range dialect n.worker.0 n.worker.1;
    takes_memory = λ n. memory_in n.phase n;
  }
