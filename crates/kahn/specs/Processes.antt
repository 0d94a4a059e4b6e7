-- Sequential processes: what one is, what it does, and the laws that it keeps to.
-- (G. Kahn, "The semantics of a simple language for parallel programming", 1974.)
use Rattle.std.specs.Prelude.{◌≡◌, ℕ, ◌<◌, eqb, cond, List, [], ◌∷◌, ◌++◌}
use Rattle.kahn.specs.declared.want.Want.{Want}
use Rattle.kahn.specs.declared.want.Want.TheVariants.{Read, Write, Ended}

-- A sequential process: what it wants in each state, and what a read or a write makes of the state.
pub record Process (State Message : Type 0) : Type 0 where
  pub want : State → Want
  -- the state after this message came at the port that was wanted
  pub read : State → Message → State
  -- the message that goes out at the port that was wanted
  pub written : State → Message
  -- the state after it went out
  pub wrote : State → State
  -- how many writes may still come before the next read
  pub debt : State → ℕ
  -- the message after which a port carries no other
  pub end : Message

-- One event: a message read from, or written to, the port or the edge of this number.
pub data Event (Message : Type 0) : Type 0 where
  Reads : ℕ → Message → Event Message
  Writes : ℕ → Message → Event Message

-- what the events read from port p, in order
abbrev pub reads : {Message : Type 0} → ℕ → List (Event Message) → List Message
reads p [] = []
reads p (Reads q m ∷ h) = cond (eqb p q) (m ∷ reads p h) (reads p h)
reads p (Writes q m ∷ h) = reads p h

-- what the events wrote to port p, in order
abbrev pub writes : {Message : Type 0} → ℕ → List (Event Message) → List Message
writes p [] = []
writes p (Writes q m ∷ h) = cond (eqb p q) (m ∷ writes p h) (writes p h)
writes p (Reads q m ∷ h) = writes p h

module _ {State Message : Type 0} (P : Process State Message) where
  -- the process goes from s by just these events to t
  abbrev pub Does : State → List (Event Message) → State → Type 0
  Does s [] t = s ≡ t
  Does s (Reads p m ∷ h) t = (P.want s ≡ Read p) × Does (P.read s m) h t
  Does s (Writes p m ∷ h) t = (P.want s ≡ Write p) × (P.written s ≡ m) × Does (P.wrote s) h t

  -- the end is among these messages
  abbrev pub HasEnd : List Message → Type 0
  HasEnd ms = (before after : List Message) × (before ++ P.end ∷ after ≡ ms)

  -- What each process keeps to that begins in `opening` and has so many input and output ports: it wants
  -- no other port, none whose end has passed, and is ended only after the end has passed on all of them.
  pub record IsLawfulProcess (opening : State) (inputs outputs : ℕ) : Type 0 where
    pub in_port : (h : List (Event Message)) (s : State) (p : ℕ) → Does opening h s → P.want s ≡ Read p → p < inputs
    pub out_port : (h : List (Event Message)) (s : State) (p : ℕ) → Does opening h s → P.want s ≡ Write p → p < outputs
    pub open_in : (h : List (Event Message)) (s : State) (p : ℕ) → Does opening h s → P.want s ≡ Read p → HasEnd (reads p h) → ⊥
    pub open_out : (h : List (Event Message)) (s : State) (p : ℕ) → Does opening h s → P.want s ≡ Write p → HasEnd (writes p h) → ⊥
    pub all_in : (h : List (Event Message)) (s : State) (p : ℕ) → Does opening h s → P.want s ≡ Ended → p < inputs → HasEnd (reads p h)
    pub all_out : (h : List (Event Message)) (s : State) (p : ℕ) → Does opening h s → P.want s ≡ Ended → p < outputs → HasEnd (writes p h)

  -- each write lowers the debt, so that a process that is given nothing stops writing
  abbrev pub Settles : Type 0
  Settles = (s : State) (p : ℕ) → P.want s ≡ Write p → P.debt (P.wrote s) < P.debt s

  -- The process has a run to its end which reads just these lists at its input ports, and writes just
  -- those at its output ports.
  pub record RunsToEnd (opening : State) (inputs : ℕ) (read written : ℕ → List Message) : Type 0 where
    pub end : State
    pub history : List (Event Message)
    pub does : Does opening history end
    pub ended : P.want end ≡ Ended
    pub reads_all : (p : ℕ) → p < inputs → reads p history ≡ read p
    pub writes_all : (p : ℕ) → writes p history ≡ written p
