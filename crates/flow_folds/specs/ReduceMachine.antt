-- The machine of Reduce: the elements of a segment are reduced as they come, and the value is written at its end.
use Rattle.std.specs.Prelude.{◌≡◌, ℕ, zero, false, Option, Some, None, IfSome, Result, Ok, Err}
use Rattle.snesl_data.specs.declared.dialect.Dialect.{Dialect}
use Rattle.snesl_data.specs.declared.dialect.Dialect.TheVariants.{One}
use Rattle.snesl_data.specs.declared.fault.FaultKind.{FaultKind}
use Rattle.snesl_data.specs.declared.fault.FaultKind.TheVariants.{Shape}
use Rattle.snesl_data.specs.operators.Operators.{type_of, ScalarInRange}
use Rattle.snesl_data.specs.operators.Reductions.{and_then, reduction_type, reduced_nothing, reduced_more, reduced_all}
use Rattle.snesl_data.specs.declared.operators.scalar.Scalar.{Scalar}
use Rattle.snesl_data.specs.declared.operators.operator.Reduction.{Reduction}
use Rattle.snesl_data.specs.declared.operators.operator.Reduction.TheVariants.{Sum}
use Rattle.flow_messages.specs.declared.message.Kind.{Kind}
use Rattle.flow_messages.specs.declared.message.Kind.TheVariants.{Bool as BoolKind}
use Rattle.flow_base.specs.Machines.{Taking, on_flag, on_kind, Move, begins, takes, gives, one_write, Machine}
use Rattle.flow_base.specs.Members.{NodeOf, node_of}
use Rattle.flow_base.specs.declared.node.Node.{Node}
use Rattle.flow_folds.specs.Scalars.{kind_of_type, cell_of_scalar, scalar_in}
use Rattle.flow_folds.specs.OwnDialect.{InOwn}
use Rattle.flow_folds.specs.Rows.{ReduceRow}
use Rattle.flow_folds.specs.declared.reduce.Stage.{Stage}
use Rattle.flow_folds.specs.declared.reduce.Stage.TheVariants.{Start, Flag, Element, Value}
use Rattle.flow_folds.specs.declared.reduce.Reduce.{Reduce}

-- where a flag leads after elements that reduce to what is so far: at F an element comes, and at T their value is due
abbrev pub at_flag : Option Scalar → Taking Stage
at_flag so_far = on_flag (Ok (Element so_far)) (and_then (reduced_all so_far) (λ value. Ok (Value value)))

-- where an element leads that is this scalar, if any: it is added to what is so far
abbrev pub at_element : Dialect → Reduction → Option Scalar → Option Scalar → Result Stage FaultKind
at_element dialect reduction so_far (Some x) = and_then (reduced_more dialect reduction so_far x) (λ more. Ok (Flag more))
at_element dialect reduction so_far None = Err Shape

-- the kind of the elements, and of their value
abbrev pub reduced_kind : Reduction → Kind
reduced_kind reduction = kind_of_type (reduction_type reduction)

-- flags come at port 0 and elements at port 1
abbrev pub reduce_move : Dialect → Reduction → Stage → Move Stage
reduce_move dialect reduction Start = begins (at_flag (reduced_nothing reduction))
reduce_move dialect reduction (Flag so_far) = takes 0 (at_flag so_far)
reduce_move dialect reduction (Element so_far) = takes 1 (on_kind (reduced_kind reduction) (λ x. at_element dialect reduction so_far (scalar_in x)))
reduce_move dialect reduction (Value value) = gives 0 (cell_of_scalar value) Start

abbrev pub reduce_kind_in : Reduction → ℕ → Kind
reduce_kind_in reduction zero = BoolKind
reduce_kind_in reduction _ = reduced_kind reduction

-- P holds of the scalar that the stage holds, if any
abbrev pub OfStage : (Scalar → Type 0) → Stage → Type 0
OfStage P Start = Unit {0}
OfStage P (Flag so_far) = IfSome so_far P
OfStage P (Element so_far) = IfSome so_far P
OfStage P (Value value) = P value

-- the scalar that the stage holds, if any, lies in the range of the dialect
abbrev pub reduce_in_range : Dialect → Stage → Type 0
reduce_in_range dialect = OfStage (ScalarInRange dialect)

-- the machine, with the dialect that it computes in and the reduction as its parameters
abbrev pub reduce_machine : Machine (Dialect × Reduction) Stage
reduce_machine = record {
  sample = (One, Sum);
  move = λ p. reduce_move p.0 p.1;
  start = Start;
  row = λ p. ReduceRow p.0 p.1;
  inputs = λ _. 2;
  outputs = λ _. 1;
  kind_in = λ p. reduce_kind_in p.1;
  kind_out = λ p _. reduced_kind p.1;
  debt = λ p s. one_write (reduce_move p.0 p.1 s);
  of_kind = λ p. OfStage (λ x. type_of x ≡ reduction_type p.1);
  in_range = λ dialect p. InOwn reduce_in_range p.0 dialect;
  takes_memory = λ _. false;
}

-- what the machine sees of a worker
abbrev pub reduce_view : Reduce → (Dialect × Reduction) × Stage
reduce_view s = ((s.dialect, s.reduction), s.stage)

-- the transducer that a node makes of it
abbrev pub reduce_node : NodeOf (Node Reduce)
reduce_node = node_of reduce_view reduce_machine
