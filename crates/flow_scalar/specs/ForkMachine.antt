-- The machine of Fork: an item that comes goes to each output, one after another.
use Rattle.std.specs.Prelude.{◌≡◌, ℕ, zero, suc, ◌+◌, ◌-◌, Bool, true, false, Option, Some, None, Ok}
use Rattle.snesl_data.specs.declared.dialect.Dialect.{Dialect}
use Rattle.flow_messages.specs.Cells.{Cell, cell_of, is_of}
use Rattle.flow_messages.specs.declared.message.Item.{Item}
use Rattle.flow_messages.specs.declared.message.Kind.{Kind}
use Rattle.flow_messages.specs.declared.message.Kind.TheVariants.{Vec as VecKind, Unit as UnitKind, Bool as BoolKind, Int as IntKind}
use Rattle.flow_base.specs.Ranges.{CellInRange}
use Rattle.flow_base.specs.Machines.{Move, begins, gives, on_kind, Machine}
use Rattle.flow_scalar.specs.Rows.{ForkRow}

-- the kind of the items, and how many outputs there are beside one
pub record ForkPorts : Type 0 where
  pub kind : Kind
  pub others : ℕ

-- the ports of a fork with so many outputs
abbrev pub fork_ports : Kind → ℕ → ForkPorts
fork_ports kind outputs = record { kind = kind; others = outputs - 1 }

-- it holds no item, or an item that so many outputs are to get after the next one
pub data ForkState : Type 0 where
  idle : ForkState
  holding : Cell → ℕ → ForkState

-- how far a fork is with so many outputs, of which the next one is this
abbrev pub fork_state : ℕ → ℕ → Option Item → ForkState
fork_state outputs next None = idle
fork_state outputs next (Some item) = holding (cell_of item) (outputs - (next + 1))

-- an item of the kind is held for all outputs, and written to one after another
abbrev pub fork_move : ForkPorts → ForkState → Move ForkState
fork_move p idle = begins (on_kind p.kind (λ x. Ok (holding x p.others)))
fork_move p (holding x zero) = gives (p.others - 0) x idle
fork_move p (holding x (suc left)) = gives (p.others - suc left) x (holding x left)

-- a write to each output that is left
abbrev pub fork_debt : ForkState → ℕ
fork_debt idle = 0
fork_debt (holding x left) = left + 1

-- the item that it holds is of the kind
abbrev pub fork_of_kind : ForkPorts → ForkState → Type 0
fork_of_kind p idle = Unit {0}
fork_of_kind p (holding x left) = is_of p.kind x ≡ true

-- and its integers lie in the range of the dialect
abbrev pub fork_in_range : Dialect → ForkState → Type 0
fork_in_range dialect idle = Unit {0}
fork_in_range dialect (holding x left) = CellInRange dialect x

-- the copy of a vector may take memory; the last output gets the item itself
abbrev pub fork_takes_memory : ForkState → Bool
fork_takes_memory (holding x (suc left)) = is_of VecKind x
fork_takes_memory _ = false

-- the machine, with its ports as parameters
abbrev pub fork_machine : Machine ForkPorts ForkState
fork_machine = record {
  sample = fork_ports UnitKind 1;
  move = fork_move;
  start = idle;
  row = λ p. ForkRow p.kind (suc p.others);
  inputs = λ _. 1;
  outputs = λ p. suc p.others;
  kind_in = λ p _. p.kind;
  kind_out = λ p _. p.kind;
  debt = λ _. fork_debt;
  of_kind = fork_of_kind;
  in_range = λ dialect _. fork_in_range dialect;
  takes_memory = fork_takes_memory;
}

-- whether items of the kind are no vectors
abbrev pub is_scalar_kind : Kind → Bool
is_scalar_kind UnitKind = true
is_scalar_kind BoolKind = true
is_scalar_kind IntKind = true
is_scalar_kind VecKind = false
