-- How many elements each segment has, as a machine.
use Rattle.std.specs.Prelude.{ℕ, zero, suc, min, pos, false, cond, Result, Ok, Err}
use Rattle.snesl_data.specs.declared.dialect.Dialect.{Dialect}
use Rattle.snesl_data.specs.declared.dialect.Dialect.TheVariants.{One}
use Rattle.snesl_data.specs.declared.fault.FaultKind.{FaultKind}
use Rattle.snesl_data.specs.declared.fault.FaultKind.TheVariants.{Overflow}
use Rattle.snesl_data.specs.Integers.{greatest_integer, is_integer, IsInteger}
use Rattle.flow_messages.specs.Cells.{int}
use Rattle.flow_messages.specs.declared.message.Kind.TheVariants.{Bool as BoolKind, Int as IntKind}
use Rattle.flow_base.specs.Machines.{Taking, on_flag, Move, begins, takes, gives, Machine, one_write}
use Rattle.flow_base.specs.Members.{NodeOf, node_of}
use Rattle.flow_base.specs.declared.node.Node.{Node}
use Rattle.flow_folds.specs.OwnDialect.{InOwn}
use Rattle.flow_folds.specs.Rows.{LengthRow}
use Rattle.flow_folds.specs.declared.length.Count.{Count}
use Rattle.flow_folds.specs.declared.length.Count.TheVariants.{Counting, Due}
use Rattle.flow_folds.specs.declared.length.Length.{Length}

-- one element more; a count over the range of the dialect stays the least one over it
abbrev pub one_element_more : Dialect → ℕ → ℕ
one_element_more dialect n = suc (min n (greatest_integer dialect))

-- at the end of a segment of n elements the number n is due, if it lies in the range
abbrev pub length_at_end : Dialect → ℕ → Result Count FaultKind
length_at_end dialect n = cond (is_integer dialect (pos n)) (Ok (Due (pos n))) (Err Overflow)

-- after n elements, F counts, and T ends the segment
abbrev pub length_counts : Dialect → ℕ → Taking Count
length_counts dialect n = on_flag (Ok (Counting (one_element_more dialect n))) (length_at_end dialect n)

-- the stream may end where no element of a segment came
abbrev pub length_move : Dialect → Count → Move Count
length_move dialect (Counting zero) = begins (length_counts dialect zero)
length_move dialect (Counting (suc n)) = takes 0 (length_counts dialect (suc n))
length_move dialect (Due number) = gives 0 (int number) (Counting zero)

-- the number that is due lies in the range of the dialect
abbrev pub length_in_range : Dialect → Count → Type 0
length_in_range dialect (Counting n) = Unit {0}
length_in_range dialect (Due number) = IsInteger dialect number

-- the worker that counts, with its dialect as its parameter
abbrev pub length_machine : Machine Dialect Count
length_machine = record {
  sample = One;
  move = length_move;
  start = Counting zero;
  row = λ dialect i o. LengthRow dialect (i 0) (o 0);
  inputs = λ _. 1;
  outputs = λ _. 1;
  kind_in = λ _ _. BoolKind;
  kind_out = λ _ _. IntKind;
  debt = λ dialect s. one_write (length_move dialect s);
  of_kind = λ _ _. Unit {0};
  in_range = λ dialect own. InOwn length_in_range own dialect;
  takes_memory = λ _. false;
}

-- what the machine sees of a worker
abbrev pub length_view : Length → Dialect × Count
length_view n = (n.dialect, n.count)

-- the transducer that a node makes of it
abbrev pub length_node : NodeOf (Node Length)
length_node = node_of length_view length_machine
