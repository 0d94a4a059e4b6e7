-- Machines over flags alone.
use Rattle.std.specs.Prelude.{ℕ, false}
use Rattle.flow_messages.specs.Cells.{Cell, flag}
use Rattle.flow_messages.specs.declared.message.Kind.TheVariants.{Bool as BoolKind}
use Rattle.flow_base.specs.Lists.{Lists}
use Rattle.flow_base.specs.Machines.{on_flag, Move, begins, takes, gives, Machine}
use Rattle.flow_base.specs.Members.{NodeOf, node_of}
use Rattle.flow_base.specs.declared.node.Node.{Node}
use Rattle.flow_segment.specs.declared.over_flags.OverFlags.{OverFlags}
use Rattle.flow_segment.specs.declared.over_flags.StageMove.{StageMove}
use Rattle.flow_segment.specs.declared.over_flags.StageMove.TheVariants.{Begin, Take, Give}

-- what a worker over flags does, with its row and the number of its ports
pub record FlagTable (S : Type 0) : Type 1 where
  pub move : S → Move S
  -- the state between two instances
  pub start : S
  pub row : Lists Cell → Lists Cell → Type 0
  pub inputs : ℕ
  pub outputs : ℕ
  -- a bound on the writes before the next read
  pub debt : S → ℕ

-- the machine of a table: each item is a flag, and nothing is held
abbrev pub over_flags : {S : Type 0} → FlagTable S → Machine (Unit {0}) S
over_flags t = record {
  sample = tt;
  move = λ _. t.move;
  start = t.start;
  row = λ _. t.row;
  inputs = λ _. t.inputs;
  outputs = λ _. t.outputs;
  kind_in = λ _ _. BoolKind;
  kind_out = λ _ _. BoolKind;
  debt = λ _. t.debt;
  of_kind = λ _ _. Unit {0};
  in_range = λ _ _ _. Unit {0};
  takes_memory = λ _. false;
}

-- what the machine sees of a worker
abbrev pub stage_view : {S : Type 0} → OverFlags S → Unit {0} × S
stage_view w = (tt, w.stage)

-- a step as a move
abbrev pub move_of_stage : {S : Type 0} → StageMove S → Move S
move_of_stage (Begin at_f at_t) = begins (on_flag at_f at_t)
move_of_stage (Take port at_f at_t) = takes port (on_flag at_f at_t)
move_of_stage (Give port b next) = gives port (flag b) next

-- the transducer that a node makes of a worker over flags
abbrev pub FlagNode : Type 0 → Type 1
FlagNode S = NodeOf (Node (OverFlags S))

abbrev pub flag_node : {S : Type 0} → FlagTable S → FlagNode S
flag_node t = node_of stage_view (over_flags t)
