-- Promises: what a transducer has still to read and write in each state, and what such promises keep to.
use Rattle.std.specs.Prelude.{◌≡◌, ℕ, ◌<◌, Bool, true, false, [], ◌↔◌}
use Rattle.snesl_data.specs.declared.dialect.Dialect.{Dialect}
use Rattle.snesl_data.specs.declared.fault.Fault.{Fault}
use Rattle.snesl_data.specs.declared.fault.FaultKind.TheVariants.{Shape}
use Rattle.kahn.specs.declared.want.Want.{Want}
use Rattle.kahn.specs.declared.want.Want.TheVariants.{Read, Write, Ended, Faulted}
use Rattle.flow_messages.specs.Cells.{Cell, is_of}
use Rattle.flow_messages.specs.Signals.{Signal, carry, stop}
use Rattle.flow_base.specs.Lists.{Lists, push, with_port, First, HasFirst}
use Rattle.flow_base.specs.Ranges.{SignalInRange, SignalOfKind}
use Rattle.flow_base.specs.Transducers.{Behaviour, IsLawfulTraffic}

-- What is promised in each state.
pub record Promise (S : Type 0) : Type 1 where
  -- what is still to be read, and what is still to be written
  pub owes : S → Lists Signal → Lists Signal → Type 0
  -- whether the end of an input port has passed, and that of an output port
  pub over_in : S → ℕ → Bool
  pub over_out : S → ℕ → Bool

module _ {S : Type 0} (b : Behaviour S) (promise : Promise S) where
  -- What is kept to where the next is a read from port p.
  pub record KeepsRead (s : S) (p : ℕ) : Type 0 where
    pub port : p < b.inputs s
    -- a message is owed at the port
    pub full : (i o : Lists Signal) → promise.owes s i o → HasFirst (i p)
    -- a message comes first at the port exactly where the state that it leads to is owed the others
    pub steps : (m : Signal) (i o : Lists Signal) → promise.owes s (push p m i) o ↔ promise.owes (b.process.read s m) i o
    pub stays : (m : Signal) → b.opening (b.process.read s m) ≡ b.opening s
    pub open_yet : promise.over_in s p ≡ false
    pub ends : promise.over_in (b.process.read s stop) p ≡ true
    pub still_in : (m : Signal) (k : ℕ) → promise.over_in s k ≡ true → promise.over_in (b.process.read s m) k ≡ true
    pub still_out : (m : Signal) (k : ℕ) → promise.over_out s k ≡ true → promise.over_out (b.process.read s m) k ≡ true
    pub kinds : (x : Cell) → is_of (b.kind_in s p) x ≡ false → b.process.want (b.process.read s (carry x)) ≡ Faulted (record { kind = Shape; at = b.at s })
    -- whatever is read, what is held stays of its kind; and in the range of each dialect, where what is read is
    pub of_kind : (m : Signal) → b.of_kind s → b.of_kind (b.process.read s m)
    pub in_range : (dialect : Dialect) (m : Signal) → b.of_kind s → b.in_range dialect s → SignalInRange dialect m → b.in_range dialect (b.process.read s m)

  -- What is kept to where the next is a write to port q.
  pub record KeepsWrite (s : S) (q : ℕ) : Type 0 where
    pub port : q < b.outputs s
    -- what is written is owed first at the port, and the state after it owes the others
    pub steps : (i o : Lists Signal) → promise.owes s i o ↔ First (o q) (λ m r. (m ≡ b.process.written s) × promise.owes (b.process.wrote s) i (with_port q r o))
    pub falls : b.process.debt (b.process.wrote s) < b.process.debt s
    pub stays : b.opening (b.process.wrote s) ≡ b.opening s
    pub open_yet : promise.over_out s q ≡ false
    pub ends : b.process.written s ≡ stop → promise.over_out (b.process.wrote s) q ≡ true
    pub still_in : (k : ℕ) → promise.over_in s k ≡ true → promise.over_in (b.process.wrote s) k ≡ true
    pub still_out : (k : ℕ) → promise.over_out s k ≡ true → promise.over_out (b.process.wrote s) k ≡ true
    -- what is written is of the kind; and in the range of each dialect, where what is held is
    pub of_kind : b.of_kind s → SignalOfKind (b.kind_out s q) (b.process.written s) × b.of_kind (b.process.wrote s)
    pub in_range : (dialect : Dialect) → b.of_kind s → b.in_range dialect s → SignalInRange dialect (b.process.written s) × b.in_range dialect (b.process.wrote s)

  -- What is kept to where the process has ended: nothing is owed.
  pub record KeepsEnded (s : S) : Type 0 where
    pub nothing : promise.owes s (λ _. []) (λ _. [])
    pub ins : (i o : Lists Signal) → promise.owes s i o → (p : ℕ) → p < b.inputs s → i p ≡ []
    pub outs : (i o : Lists Signal) → promise.owes s i o → (q : ℕ) → q < b.outputs s → o q ≡ []

  -- What is kept to where the process has faulted: no lists are owed.
  pub record KeepsFaulted (s : S) (fault : Fault) : Type 0 where
    pub place : fault.at ≡ b.at s
    pub never : (i o : Lists Signal) → promise.owes s i o → ⊥

  abbrev pub Keeps : S → Want → Type 0
  Keeps s (Read p) = KeepsRead s p
  Keeps s (Write q) = KeepsWrite s q
  Keeps s Ended = KeepsEnded s
  Keeps s (Faulted fault) = KeepsFaulted s fault

  -- What is kept to in each state.
  pub record PromiseLaws : Type 0 where
    pub end : b.process.end ≡ stop
    pub each : (s : S) → Keeps s (b.process.want s)
    -- in the opening state lawful traffic is owed
    pub opens : (s : S) → b.opening s ≡ s → (i o : Lists Signal) → promise.owes s i o ↔ IsLawfulTraffic b s i o
    pub same_opening : (s : S) → b.opening (b.opening s) ≡ b.opening s
    pub same_inputs : (s : S) → b.inputs (b.opening s) ≡ b.inputs s
    pub same_outputs : (s : S) → b.outputs (b.opening s) ≡ b.outputs s
    pub same_kinds_in : (s : S) (p : ℕ) → b.kind_in (b.opening s) p ≡ b.kind_in s p
    pub same_kinds_out : (s : S) (q : ℕ) → b.kind_out (b.opening s) q ≡ b.kind_out s q
    -- what is held in an opening state is of its kind
    pub starts_of_kind : (s : S) → b.opening s ≡ s → b.of_kind s
