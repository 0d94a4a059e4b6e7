-- Printing of a value that comes item by item: the machine.
use Rattle.std.specs.Prelude.{ℕ, zero, suc, ◌+◌, Bool, true, false, List, [], ◌∷◌, ◌++◌, Option, Some, None, cond, nat_lt, codes}
use Rattle.std.specs.Fmt.{signed_decimal}
use Rattle.snesl_data.specs.Types.{Ty, int, bool, pair, vec, seq}
use Rattle.snesl_data.specs.Text.{text}
use Rattle.snesl_data.specs.declared.fault.FaultKind.TheVariants.{Shape}
use Rattle.kahn.specs.declared.want.Want.{Want}
use Rattle.kahn.specs.declared.want.Want.TheVariants.{Read, Ended, Faulted}
use Rattle.flow_messages.specs.Cells.{Cell, flag, int as int_cell, datum, is_of}
use Rattle.flow_messages.specs.Signals.{Signal, carry, stop}
use Rattle.flow_messages.specs.declared.message.Kind.TheVariants.{Unit as UnitKind}
use Rattle.flow_base.specs.Transducers.{Behaviour}
use Rattle.flow_values.specs.Shapes.{is_a, kinds_of, kind_at}
use Rattle.flow_values.specs.Flats.{width}
use Rattle.flow_values.specs.Rows.{PrintRow}

-- c closing brackets
abbrev pub closing_brackets : ℕ → List ℕ
closing_brackets zero = []
closing_brackets (suc c) = codes ")" ++ closing_brackets c

-- a comma, or none
abbrev pub comma_if : Bool → List ℕ
comma_if true = codes ","
comma_if false = []

-- What is still to be read of a value.
pub data Pending : Type 0 where
  -- a value of the type, on edges from this port on, printed after a comma or not, and so many brackets closed after it
  whole : (after_comma : Bool) → Ty → (port : ℕ) → (brackets : ℕ) → Pending
  -- further elements of a sequence of such items, whose flags are at this port, and so many brackets closed after it
  further : Ty → (port : ℕ) → (brackets : ℕ) → Pending

-- the port at which the next item comes
abbrev pub port_of : Pending → ℕ
port_of (whole behind ty p c) = p
port_of (further ty p c) = p

-- What is still to be read, and the text so far.
pub record PrintReading : Type 0 where
  pub pending : List Pending
  pub text : List ℕ

abbrev pub print_reading : List Pending → List ℕ → PrintReading
print_reading pending text = record { pending = pending; text = text }

-- where the first item of a value leads, if it is one: what comes after the value, and the text before it
abbrev pub entered_value : Ty → ℕ → ℕ → Cell → List Pending → List ℕ → Option PrintReading
entered_value int p c (int_cell n) after before = Some (print_reading after (before ++ (signed_decimal n ++ closing_brackets c)))
entered_value bool p c (flag true) after before = Some (print_reading after (before ++ (codes "true" ++ closing_brackets c)))
entered_value bool p c (flag false) after before = Some (print_reading after (before ++ (codes "false" ++ closing_brackets c)))
entered_value (vec item) p c (datum v) after before = cond (is_a (vec item) v) (Some (print_reading after (before ++ (text v ++ closing_brackets c)))) None
entered_value (pair first second) p c x after before = entered_value first p 0 x (whole true second (p + width first) (suc c) ∷ after) (before ++ codes "(")
entered_value (seq item) p c (flag false) after before = Some (print_reading (whole false item (p + 1) 0 ∷ further item p c ∷ after) (before ++ codes "{"))
entered_value (seq item) p c (flag true) after before = Some (print_reading after (before ++ (codes "{}" ++ closing_brackets c)))
entered_value _ p c x after before = None

-- where a flag between two elements leads
abbrev pub continued : Ty → ℕ → ℕ → Cell → List Pending → List ℕ → Option PrintReading
continued item p c (flag false) after before = Some (print_reading (whole false item (p + 1) 0 ∷ further item p c ∷ after) (before ++ codes ","))
continued item p c (flag true) after before = Some (print_reading after (before ++ (codes "}" ++ closing_brackets c)))
continued item p c x after before = None

-- where an item leads
abbrev pub next : Pending → Cell → List Pending → List ℕ → Option PrintReading
next (whole behind ty p c) x after before = entered_value ty p c x after (before ++ comma_if behind)
next (further item p c) x after before = continued item p c x after before

-- how far it is: some of the value is to be read, or the end of this input comes next, if there is such an input, or it
-- met what it cannot go on from
pub data PrintStage : Type 0 where
  within : Pending → List Pending → PrintStage
  closing : ℕ → PrintStage
  stuck : PrintStage

-- The type of the value, how far it is, the text so far, and the offset that its faults name.
pub record PrintState : Type 0 where
  pub ty : Ty
  pub step : PrintStage
  pub text : List ℕ
  pub at : ℕ

abbrev pub print_state : Ty → PrintStage → List ℕ → ℕ → PrintState
print_state ty step text at = record { ty = ty; step = step; text = text; at = at }

-- before the value
abbrev pub print_opening : Ty → ℕ → PrintState
print_opening ty at = print_state ty (within (whole false ty 0 0) []) [] at

-- where nothing is left to be read, the ends are due
abbrev pub print_stage : List Pending → PrintStage
print_stage [] = closing 0
print_stage (first ∷ others) = within first others

abbrev pub print_fault : PrintState → Want
print_fault s = Faulted (record { kind = Shape; at = s.at })

abbrev pub want_at : PrintStage → PrintState → Want
want_at (within first others) s = cond (nat_lt (port_of first) (width s.ty)) (Read (port_of first)) (print_fault s)
want_at (closing p) s = cond (nat_lt p (width s.ty)) (Read p) Ended
want_at stuck s = print_fault s

abbrev pub went_on : PrintState → Option PrintReading → PrintState
went_on s (Some r) = record s { step = print_stage r.pending; text = r.text }
went_on s None = record s { step = stuck }

-- an item of another kind than the port's leads nowhere
abbrev pub checked : Bool → Option PrintReading → Option PrintReading
checked true r = r
checked false r = None

abbrev pub read_at : PrintStage → PrintState → Signal → PrintState
read_at (within first others) s (carry x) = went_on s (checked (is_of (kind_at (kinds_of s.ty) (port_of first)) x) (next first x others s.text))
read_at (closing p) s stop = record s { step = closing (p + 1) }
read_at _ s _ = record s { step = stuck }

abbrev pub memory_at : PrintStage → Bool
memory_at (within first others) = true
memory_at _ = false

abbrev pub print_behaviour : Behaviour PrintState
print_behaviour = record {
  sample = print_opening bool 0;
  process = record {
    want = λ s. want_at s.step s;
    read = λ s message. read_at s.step s message;
    written = λ _. stop;
    wrote = λ s. s;
    debt = λ _. 0;
    end = stop;
  };
  opening = λ s. print_opening s.ty s.at;
  inputs = λ s. width s.ty;
  outputs = λ _. 0;
  kind_in = λ s p. kind_at (kinds_of s.ty) p;
  kind_out = λ _ _. UnitKind;
  at = λ s. s.at;
  row = λ s ins outs. PrintRow s.ty ins;
  of_kind = λ _. Unit {0};
  in_range = λ _ _. Unit {0};
  takes_memory = λ s. memory_at s.step;
}
