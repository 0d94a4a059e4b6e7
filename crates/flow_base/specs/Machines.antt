-- Machines: a worker as one table over its states, and what its runs read and write.
use Rattle.std.specs.Prelude.{◌≡◌, ℕ, zero, suc, ◌<◌, ℤ, Bool, true, false, cond, Result, Ok, Err, ◌↔◌}
use Rattle.snesl_data.specs.declared.fault.FaultKind.{FaultKind}
use Rattle.snesl_data.specs.declared.fault.FaultKind.TheVariants.{Shape}
use Rattle.snesl_data.specs.declared.dialect.Dialect.{Dialect}
use Rattle.snesl_data.specs.Integers.{IsInteger}
use Rattle.flow_messages.specs.Cells.{Cell, unit, flag, int, is_of}
use Rattle.flow_messages.specs.declared.message.Kind.{Kind}
use Rattle.flow_messages.specs.declared.message.Kind.TheVariants.{Bool as BoolKind, Int as IntKind}
use Rattle.flow_messages.specs.Signals.{Signal, carry, stop}
use Rattle.flow_base.specs.Lists.{Lists}
use Rattle.flow_base.specs.Ranges.{CellInRange}
use Rattle.flow_base.specs.Columns.{Columns, columns, nothing, At}
use Rattle.flow_base.specs.declared.worker.Ask.{Ask}
use Rattle.flow_base.specs.declared.worker.Ask.TheVariants.{Begin, Take, Give}

-- where an item leads that is read: F and T, an integer, or any item of a kind
pub data Taking (S : Type 0) : Type 0 where
  on_flag : Result S FaultKind → Result S FaultKind → Taking S
  on_int : (ℤ → Result S FaultKind) → Taking S
  on_kind : Kind → (Cell → Result S FaultKind) → Taking S

-- what a state does: it begins an instance or stops, reads an item of a port, or writes this item to a port and goes on
pub data Move (S : Type 0) : Type 0 where
  begins : Taking S → Move S
  takes : ℕ → Taking S → Move S
  gives : ℕ → Cell → S → Move S

-- where the item leads; one of another kind is a fault
abbrev pub state_after_item : {S : Type 0} → Taking S → Cell → Result S FaultKind
state_after_item (on_flag at_f at_t) (flag false) = at_f
state_after_item (on_flag at_f at_t) (flag true) = at_t
state_after_item (on_int next) (int n) = next n
state_after_item (on_kind kind next) x = cond (is_of kind x) (next x) (Err Shape)
state_after_item _ _ = Err Shape

-- the message is an item, and leads to this state
abbrev pub Leads : {S : Type 0} → Taking S → Signal → S → Type 0
Leads t (carry x) s = state_after_item t x ≡ Ok s
Leads t stop s = ⊥

abbrev pub kind_of_taking : {S : Type 0} → Taking S → Kind
kind_of_taking (on_flag at_f at_t) = BoolKind
kind_of_taking (on_int next) = IntKind
kind_of_taking (on_kind kind next) = kind

-- A worker: P are its parameters, which stay as they are, and S are its states.
pub record Machine (P S : Type 0) : Type 1 where
  -- some parameters: those that stand for a worker that is not there
  pub sample : P
  pub move : P → S → Move S
  -- the state between two instances
  pub start : S
  -- the row: what whole instances read and write
  pub row : P → Lists Cell → Lists Cell → Type 0
  pub inputs : P → ℕ
  pub outputs : P → ℕ
  -- the kind of the items at each input port, and at each output port
  pub kind_in : P → ℕ → Kind
  pub kind_out : P → ℕ → Kind
  -- a bound on the writes before the next read
  pub debt : P → S → ℕ
  -- what the state and its parameters hold is of the kinds that they name
  pub of_kind : P → S → Type 0
  -- their integers lie in the range of the dialect, and what the worker computes with is of it
  pub in_range : Dialect → P → S → Type 0
  -- whether the next step from this state may take memory
  pub takes_memory : S → Bool

-- what a state with its parameters does
abbrev pub move_of : {P S : Type 0} → Machine P S → P × S → Move S
move_of m s = m.move s.0 s.1

-- the debt where no write follows another
abbrev pub one_write : {S : Type 0} → Move S → ℕ
one_write (gives q x s) = 1
one_write _ = 0

abbrev pub ask_of : {S : Type 0} → Move S → Ask
ask_of (begins t) = Begin
ask_of (takes p t) = Take p
ask_of (gives q x s) = Give q

abbrev pub state_after_read : {S : Type 0} → Move S → Cell → Result S FaultKind
state_after_read (begins t) x = state_after_item t x
state_after_read (takes p t) x = state_after_item t x
state_after_read (gives q y s) x = Err Shape

abbrev pub written_cell : {S : Type 0} → Move S → Cell
written_cell (gives q x s) = x
written_cell _ = unit

abbrev pub state_after_write : {S : Type 0} → S → Move S → S
state_after_write old (gives q x s) = s
state_after_write old _ = old

-- a state with its parameters
abbrev pub with_parameters : {P S : Type 0} → P → Result S FaultKind → Result (P × S) FaultKind
with_parameters p (Ok s) = Ok (p, s)
with_parameters p (Err kind) = Err kind

-- there is a next state, and P holds of it
abbrev pub OnNext : {S : Type 0} → Result S FaultKind → (S → Type 0) → Type 0
OnNext (Ok s) P = P s
OnNext (Err kind) P = ⊥

-- if there is a next state, P holds of it
abbrev pub OfNext : {S : Type 0} → Result S FaultKind → (S → Type 0) → Type 0
OfNext (Ok s) P = P s
OfNext (Err kind) P = Unit {0}

-- wherever an item of the taken kind leads, P holds
abbrev pub OfKind : {S : Type 0} → (S → Type 0) → Taking S → Type 0
OfKind P (on_flag at_f at_t) = OfNext at_f P × OfNext at_t P
OfKind P (on_int next) = (n : ℤ) → OfNext (next n) P
OfKind P (on_kind kind next) = (x : Cell) → is_of kind x ≡ true → OfNext (next x) P

-- wherever an item of the taken kind leads whose integers lie in the range of the dialect, P holds
abbrev pub OfRange : {S : Type 0} → Dialect → (S → Type 0) → Taking S → Type 0
OfRange dialect P (on_flag at_f at_t) = OfNext at_f P × OfNext at_t P
OfRange dialect P (on_int next) = (n : ℤ) → IsInteger dialect n → OfNext (next n) P
OfRange dialect P (on_kind kind next) = (x : Cell) → is_of kind x ≡ true → CellInRange dialect x → OfNext (next x) P

module _ {P S : Type 0} (m : Machine P S) (p : P) where
  -- a run of n steps, at whose end the next instance may begin, reads and writes these columns
  abbrev pub RunOf : ℕ → Move S → Columns → Columns → Type 0
  RunOf zero (begins t) i o = (i ≡ nothing (m.inputs p)) × (o ≡ nothing (m.outputs p))
  RunOf zero _ i o = ⊥
  RunOf (suc n) (begins t) i o = At 0 i (λ x r. OnNext (state_after_item t x) (λ s. RunOf n (m.move p s) r o))
  RunOf (suc n) (takes q t) i o = At q i (λ x r. OnNext (state_after_item t x) (λ s. RunOf n (m.move p s) r o))
  RunOf (suc n) (gives q c s) i o = At q o (λ x r. (x ≡ c) × RunOf n (m.move p s) i r)

  abbrev pub Run : ℕ → S → Columns → Columns → Type 0
  Run n s i o = RunOf n (m.move p s) i o

  abbrev pub Runs : S → Columns → Columns → Type 0
  Runs s i o = (n : ℕ) × Run n s i o

  -- Where an item is read from port q: the port is there, its kind is that which is taken, and where the item leads,
  -- what is held is of its kind, and in the range of each dialect where what was held and read is.
  abbrev pub SoundRead : S → ℕ → Taking S → Type 0
  SoundRead s q t = (q < m.inputs p) × (m.kind_in p q ≡ kind_of_taking t) × (m.of_kind p s → OfKind (m.of_kind p) t)
      × ((dialect : Dialect) → m.of_kind p s → m.in_range dialect p s → OfRange dialect (m.in_range dialect p) t)

  -- What the table keeps to at a state.
  abbrev pub SoundAt : S → Move S → Type 0
  SoundAt s (begins t) = (s ≡ m.start) × SoundRead s 0 t
  SoundAt s (takes q t) = SoundRead s q t
  SoundAt s (gives q c next) =
      (q < m.outputs p) × (m.debt p next < m.debt p s) × (m.of_kind p s → (is_of (m.kind_out p q) c ≡ true) × m.of_kind p next)
      × ((dialect : Dialect) → m.of_kind p s → m.in_range dialect p s → CellInRange dialect c × m.in_range dialect p next)

-- What a machine keeps to.
pub record MachineLaws {P S : Type 0} (m : Machine P S) : Type 0 where
  pub sound : (p : P) (s : S) → SoundAt m p s (m.move p s)
  pub begins_at_start : (p : P) → ask_of (m.move p m.start) ≡ Begin
  pub starts_of_kind : (p : P) → m.of_kind p m.start
  -- the row says what the runs of whole instances read and write
  pub rows : (p : P) (i o : Lists Cell) → m.row p i o ↔ Runs m p m.start (columns (m.inputs p) i) (columns (m.outputs p) o)
