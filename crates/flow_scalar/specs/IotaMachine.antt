-- The machine of Iota: a flag and a number for each number below the one that is read.
use Rattle.std.specs.Prelude.{◌==◌, if◌then◌else◌, ℕ, zero, suc, ◌+◌, ◌*◌, ℤ, pos, negsuc, ◌+ℤ◌, ◌-ℤ◌, int_lt, Bool, false, cond, not, List, [], ◌∷◌, Result, Ok, Err}
use Rattle.snesl_data.specs.declared.dialect.Dialect.{Dialect}
use Rattle.snesl_data.specs.declared.fault.FaultKind.{FaultKind}
use Rattle.snesl_data.specs.declared.fault.FaultKind.TheVariants.{NegativeCount}
use Rattle.snesl_data.specs.Integers.{IsInteger}
use Rattle.flow_messages.specs.Cells.{flag, int}
use Rattle.flow_messages.specs.declared.message.Kind.{Kind}
use Rattle.flow_messages.specs.declared.message.Kind.TheVariants.{Bool as BoolKind, Int as IntKind}
use Rattle.flow_base.specs.Machines.{Move, begins, gives, on_int, Machine}
use Rattle.flow_base.specs.Members.{NodeOf, node_of}
use Rattle.flow_base.specs.declared.node.Node.{Node}
use Rattle.flow_scalar.specs.Rows.{IotaRow}
use Rattle.flow_scalar.specs.declared.iota.Iota.{Iota}
use Rattle.flow_scalar.specs.declared.iota.Iota.TheVariants.{Between, Flag, Number}

-- the number after this one, or the end where this one is not below it
abbrev pub number_after : ℤ → ℤ → ℤ
number_after number end = if int_lt number end then number +ℤ pos 1 else end

-- the number itself, and 0 for a negative one
abbrev pub natural_of : ℤ → ℕ
natural_of (pos n) = n
natural_of (negsuc n) = 0

-- how many numbers there are from this one on below the end
abbrev pub count_left : ℤ → ℤ → ℕ
count_left number end = natural_of (end -ℤ number)

-- so many numbers from this one on
abbrev pub numbers_from : ℤ → ℕ → List ℤ
numbers_from next zero = []
numbers_from next (suc n) = next ∷ numbers_from (next +ℤ pos 1) n

-- a number starts a segment at 0; a negative one starts none
abbrev pub first_flag : ℤ → Result Iota FaultKind
first_flag (pos n) = Ok (Flag (pos 0) (pos n))
first_flag (negsuc n) = Err NegativeCount

-- F and the number where it is below the end, and T where it is not
abbrev pub flag_move : ℤ → ℤ → Bool → Move Iota
flag_move next end below = gives 0 (flag (not below)) (cond below (Number next end) Between)

abbrev pub iota_move : Iota → Move Iota
iota_move Between = begins (on_int first_flag)
iota_move (Flag next end) = flag_move next end (int_lt next end)
iota_move (Number next end) = gives 1 (int next) (Flag (number_after next end) end)

-- a flag and a number for each that is left, and the last flag
abbrev pub iota_debt : Iota → ℕ
iota_debt Between = 0
iota_debt (Flag next end) = 1 + 2 * count_left next end
iota_debt (Number next end) = 2 + 2 * count_left (number_after next end) end

-- the integers in the state lie in the range of the dialect
abbrev pub iota_in_range : Dialect → Iota → Type 0
iota_in_range dialect Between = Unit {0}
iota_in_range dialect (Flag next end) = IsInteger dialect next × IsInteger dialect end
iota_in_range dialect (Number next end) = IsInteger dialect next × IsInteger dialect end

-- flags at the first output, numbers at the second
abbrev pub iota_kind_out : ℕ → Kind
iota_kind_out q = if q == 0 then BoolKind else IntKind

abbrev pub iota_machine : Machine (Unit {0}) Iota
iota_machine = record {
  sample = tt;
  move = λ _. iota_move;
  start = Between;
  row = λ _. IotaRow;
  inputs = λ _. 1;
  outputs = λ _. 2;
  kind_in = λ _ _. IntKind;
  kind_out = λ _. iota_kind_out;
  debt = λ _. iota_debt;
  of_kind = λ _ _. Unit {0};
  in_range = λ dialect _. iota_in_range dialect;
  takes_memory = λ _. false;
}

-- what the machine sees of a worker
abbrev pub iota_view : Iota → Unit {0} × Iota
iota_view s = (tt, s)

-- the transducer that a node makes of it
abbrev pub iota_node : NodeOf (Node Iota)
iota_node = node_of iota_view iota_machine
