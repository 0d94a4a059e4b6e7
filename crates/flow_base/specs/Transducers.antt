-- Transducers: sequential processes over signals (Kahn 1974), their ports, and the law that ties what goes
-- out to what came in.
use Rattle.std.specs.Prelude.{◌≡◌, ℕ, ◌<◌, Bool, false, List, [], ◌∷◌, cond, nat_lt}
use Rattle.snesl_data.specs.declared.dialect.Dialect.{Dialect}
use Rattle.snesl_data.specs.declared.fault.Fault.{Fault}
use Rattle.snesl_data.specs.declared.fault.FaultKind.TheVariants.{Shape}
use Rattle.kahn.specs.declared.want.Want.{Want}
use Rattle.kahn.specs.declared.want.Want.TheVariants.{Read, Write, Ended, Faulted}
use Rattle.kahn.specs.Basics.{Begins}
use Rattle.kahn.specs.Processes.{Process, Event, Does, reads, writes, IsLawfulProcess, Settles, RunsToEnd}
use Rattle.flow_messages.specs.Cells.{Cell, is_of}
use Rattle.flow_messages.specs.Signals.{Signal, carry, stop}
use Rattle.flow_messages.specs.declared.message.Kind.{Kind}
use Rattle.flow_base.specs.declared.transducer.Side.{Side}
use Rattle.flow_base.specs.declared.transducer.Side.TheVariants as sides
use Rattle.flow_base.specs.Lists.{Lists}
use Rattle.flow_base.specs.Ranges.{SignalsInRange, SignalsOfKind}

-- a message is to be written
abbrev pub IsWrite : Want → Type 0
IsWrite (Write q) = Unit {0}
IsWrite _ = ⊥

-- the closed list of a body: its cells in order, then the end
abbrev pub closed : List Cell → List Signal
closed [] = stop ∷ []
closed (x ∷ xs) = carry x ∷ closed xs

-- the closed lists of the bodies at the first n ports, and nothing at others
abbrev pub closed_at : ℕ → Lists Cell → Lists Signal
closed_at n bodies p = cond (nat_lt p n) (closed (bodies p)) []

-- What a transducer does.
pub record Behaviour (S : Type 0) : Type 1 where
  -- some state: what stands for a node that is not there
  pub sample : S
  -- the process that it is
  pub process : Process S Signal
  -- the state in which it opened
  pub opening : S → S
  pub inputs : S → ℕ
  pub outputs : S → ℕ
  -- the kind of the items at each input port, and at each output port
  pub kind_in : S → ℕ → Kind
  pub kind_out : S → ℕ → Kind
  -- the offset that its faults name
  pub at : S → ℕ
  -- the row: which bodies go out for which bodies in
  pub row : S → Lists Cell → Lists Cell → Type 0
  -- what the state holds is of the kinds that it names
  pub of_kind : S → Type 0
  -- the integers that it holds lie in the range of the dialect, and what it computes with is of it
  pub in_range : Dialect → S → Type 0
  -- whether the next step from this state may take memory
  pub takes_memory : S → Bool

-- how many ports it has on this side
abbrev pub ports_on : {S : Type 0} → Behaviour S → Side → S → ℕ
ports_on b sides.In s = b.inputs s
ports_on b sides.Out s = b.outputs s

-- the kind of the items at each port of this side
abbrev pub kind_on : {S : Type 0} → Behaviour S → Side → S → ℕ → Kind
kind_on b sides.In s p = b.kind_in s p
kind_on b sides.Out s p = b.kind_out s p

module _ {S : Type 0} (b : Behaviour S) where
  -- The lists are closed, and their bodies satisfy the row.
  pub record IsLawfulTraffic (start : S) (received sent : ℕ → List Signal) : Type 0 where
    pub ins : Lists Cell
    pub outs : Lists Cell
    pub row : b.row start ins outs
    pub closed_ins : (p : ℕ) → p < b.inputs start → received p ≡ closed (ins p)
    pub closed_outs : (q : ℕ) → q < b.outputs start → sent q ≡ closed (outs q)

  -- What a transducer keeps to that opened in `start`, whatever it reads and writes.
  pub record TransducerLaws (start : S) : Type 0 where
    -- it wants no port after that port's end, and is ended only after the end on all ports
    pub lawful : IsLawfulProcess b.process start (b.inputs start) (b.outputs start)
    -- over bodies that satisfy the row it has a run to its end
    pub runs : (ins outs : Lists Cell) → b.row start ins outs → RunsToEnd b.process start (b.inputs start) (closed_at (b.inputs start) ins) (closed_at (b.outputs start) outs)
    -- on prefixes of closed lists whose bodies satisfy the row it has not faulted, and wrote prefixes of those that go out
    pub beginnings : (ins outs : Lists Cell) → b.row start ins outs → (h : List (Event Signal)) (s : S) → Does b.process start h s →
        ((p : ℕ) → p < b.inputs start → Begins (reads p h) (closed (ins p))) →
        ((fault : Fault) → b.process.want s ≡ Faulted fault → ⊥) × ((q : ℕ) → q < b.outputs start → Begins (writes q h) (closed (outs q)))
    -- where it has ended, the lists are closed, and their bodies satisfy the row
    pub complete : (h : List (Event Signal)) (s : S) → Does b.process start h s → b.process.want s ≡ Ended → IsLawfulTraffic start (λ p. reads p h) (λ q. writes q h)
    -- for given bodies in there are no two bodies out
    pub one : (ins outs same others : Lists Cell) → b.row start ins outs → b.row start same others → ((p : ℕ) → p < b.inputs start → ins p ≡ same p) →
        (q : ℕ) → q < b.outputs start → outs q ≡ others q
    -- whatever came in, each item that goes out is of the kind of its port
    pub of_kind : (h : List (Event Signal)) (s : S) → Does b.process start h s → (q : ℕ) → q < b.outputs start → SignalsOfKind (b.kind_out start q) (writes q h)
    -- for each dialect: where its own integers and those that came in lie in the range, so do those that go out
    pub in_range : (dialect : Dialect) → b.in_range dialect start → (h : List (Event Signal)) (s : S) → Does b.process start h s →
        ((p : ℕ) → p < b.inputs start → SignalsInRange dialect (reads p h)) → (q : ℕ) → q < b.outputs start → SignalsInRange dialect (writes q h)

  -- What a transducer keeps to in each state.
  pub record BehaviourLaws : Type 0 where
    pub end : b.process.end ≡ stop
    pub settles : Settles b.process
    pub read_opening : (s : S) (p : ℕ) (m : Signal) → b.process.want s ≡ Read p → b.opening (b.process.read s m) ≡ b.opening s
    pub wrote_opening : (s : S) (q : ℕ) → b.process.want s ≡ Write q → b.opening (b.process.wrote s) ≡ b.opening s
    pub same_opening : (s : S) → b.opening (b.opening s) ≡ b.opening s
    pub same_inputs : (s : S) → b.inputs (b.opening s) ≡ b.inputs s
    pub same_outputs : (s : S) → b.outputs (b.opening s) ≡ b.outputs s
    pub same_kinds_in : (s : S) (p : ℕ) → b.kind_in (b.opening s) p ≡ b.kind_in s p
    pub same_kinds_out : (s : S) (q : ℕ) → b.kind_out (b.opening s) q ≡ b.kind_out s q
    pub starts_of_kind : (s : S) → b.opening s ≡ s → b.of_kind s
    -- an item of another kind than its port's is a fault, and each fault is at the transducer's offset
    pub kinds : (s : S) (p : ℕ) (x : Cell) → b.process.want s ≡ Read p → is_of (b.kind_in s p) x ≡ false → b.process.want (b.process.read s (carry x)) ≡ Faulted (record { kind = Shape; at = b.at s })
    pub faults_at : (s : S) (fault : Fault) → b.process.want s ≡ Faulted fault → fault.at ≡ b.at s
    pub opened : (start : S) → b.opening start ≡ start → TransducerLaws start
