-- The machine of ScanAdd: an element is added to the sum when the next one of its segment comes.
use Rattle.std.specs.Prelude.{ℕ, zero, ℤ, pos, ◌+ℤ◌, false, Result, Ok}
use Rattle.snesl_data.specs.declared.dialect.Dialect.{Dialect}
use Rattle.snesl_data.specs.declared.dialect.Dialect.TheVariants.{One}
use Rattle.snesl_data.specs.declared.fault.FaultKind.{FaultKind}
use Rattle.snesl_data.specs.Integers.{IsInteger}
use Rattle.snesl_data.specs.operators.Operators.{ranged}
use Rattle.snesl_data.specs.operators.Reductions.{and_then}
use Rattle.flow_messages.specs.Cells.{int}
use Rattle.flow_messages.specs.declared.message.Kind.{Kind}
use Rattle.flow_messages.specs.declared.message.Kind.TheVariants.{Bool as BoolKind, Int as IntKind}
use Rattle.flow_base.specs.Machines.{Move, begins, takes, gives, on_flag, on_int, one_write, Machine}
use Rattle.flow_base.specs.Members.{NodeOf, node_of}
use Rattle.flow_base.specs.declared.node.Node.{Node}
use Rattle.flow_folds.specs.OwnDialect.{InOwn}
use Rattle.flow_folds.specs.Rows.{ScanAddRow}
use Rattle.flow_folds.specs.declared.scan_add.Stage.{Stage}
use Rattle.flow_folds.specs.declared.scan_add.Stage.TheVariants.{Start, Flag, Element, Write}
use Rattle.flow_folds.specs.declared.scan_add.ScanAdd.{ScanAdd}

-- where an element leads after this sum, where it is no fault
abbrev pub after_sum : Result ℤ FaultKind → ℤ → Result Stage FaultKind
after_sum before element = and_then before (λ sum. Ok (Write sum element))

-- flags come at port 0 and elements at port 1; an element adds the one before it to the sum, and T forgets both
abbrev pub scan_add_move : Dialect → Stage → Move Stage
scan_add_move dialect Start = begins (on_flag (Ok (Element (pos 0) (pos 0))) (Ok Start))
scan_add_move dialect (Flag before last) = takes 0 (on_flag (Ok (Element before last)) (Ok Start))
scan_add_move dialect (Element before last) = takes 1 (on_int (after_sum (ranged dialect (before +ℤ last))))
scan_add_move dialect (Write before last) = gives 0 (int before) (Flag before last)

abbrev pub scan_add_kind_in : ℕ → Kind
scan_add_kind_in zero = BoolKind
scan_add_kind_in _ = IntKind

-- the integers that it holds lie in the range of the dialect
abbrev pub scan_add_in_range : Dialect → Stage → Type 0
scan_add_in_range dialect Start = Unit {0}
scan_add_in_range dialect (Flag before last) = IsInteger dialect before × IsInteger dialect last
scan_add_in_range dialect (Element before last) = IsInteger dialect before × IsInteger dialect last
scan_add_in_range dialect (Write before last) = IsInteger dialect before × IsInteger dialect last

-- the machine, with the dialect that it computes in as its parameter
abbrev pub scan_add_machine : Machine Dialect Stage
scan_add_machine = record {
  sample = One;
  move = scan_add_move;
  start = Start;
  row = ScanAddRow;
  inputs = λ _. 2;
  outputs = λ _. 1;
  kind_in = λ _. scan_add_kind_in;
  kind_out = λ _ _. IntKind;
  debt = λ dialect s. one_write (scan_add_move dialect s);
  of_kind = λ _ _. Unit {0};
  in_range = λ dialect own. InOwn scan_add_in_range own dialect;
  takes_memory = λ _. false;
}

-- what the machine sees of a worker
abbrev pub scan_add_view : ScanAdd → Dialect × Stage
scan_add_view s = (s.dialect, s.stage)

-- the transducer that a node makes of it
abbrev pub scan_add_node : NodeOf (Node ScanAdd)
scan_add_node = node_of scan_add_view scan_add_machine
