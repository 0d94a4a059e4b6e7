-- The items that are to be kept: the machine.
use Rattle.std.specs.Prelude.{◌≡◌, ℕ, zero, suc, true, false, Bool, Ok, List, [], ◌∷◌}
use Rattle.snesl_data.specs.declared.dialect.Dialect.{Dialect}
use Rattle.flow_messages.specs.Cells.{Cell, cell_of, is_of}
use Rattle.flow_messages.specs.declared.message.Kind.{Kind}
use Rattle.flow_messages.specs.declared.message.Kind.TheVariants.{Bool as BoolKind, Unit as UnitKind}
use Rattle.flow_base.specs.Ranges.{CellInRange}
use Rattle.flow_base.specs.Machines.{Move, begins, takes, gives, on_flag, on_kind, Machine, one_write}
use Rattle.flow_base.specs.Members.{NodeOf, node_of}
use Rattle.flow_base.specs.declared.node.Node.{Node}
use Rattle.flow_segment.specs.Rows.{PackRow}
use Rattle.flow_segment.specs.declared.pack.Pair.{Pair}
use Rattle.flow_segment.specs.declared.pack.Pair.TheVariants.{Start, Item as AtItem, Copy}
use Rattle.flow_segment.specs.declared.pack.Pack.{Pack}

-- how far a truth value and its item are, and what the item carries that is to be written
pub data PackState : Type 0 where
  at_start : PackState
  at_item : Bool → PackState
  at_copy : Cell → PackState

-- how far this pair is
abbrev pub pack_state : Pair → PackState
pack_state Start = at_start
pack_state (AtItem keep) = at_item keep
pack_state (Copy item) = at_copy (cell_of item)

-- a truth value begins an instance, then an item is due, and then its copy where it is to be kept
abbrev pub pack_move : Kind → PackState → Move PackState
pack_move kind at_start = begins (on_flag (Ok (at_item false)) (Ok (at_item true)))
pack_move kind (at_item true) = takes 1 (on_kind kind (λ x. Ok (at_copy x)))
pack_move kind (at_item false) = takes 1 (on_kind kind (λ _. Ok at_start))
pack_move kind (at_copy x) = gives 0 x at_start

-- truth values, then items of the kind
abbrev pub pack_kind_in : Kind → ℕ → Kind
pack_kind_in kind zero = BoolKind
pack_kind_in kind _ = kind

-- what is to be written is of the kind
abbrev pub pack_of_kind : Kind → PackState → Type 0
pack_of_kind kind (at_copy x) = is_of kind x ≡ true
pack_of_kind kind _ = Unit {0}

-- what is to be written is in the range of the dialect
abbrev pub pack_in_range : Dialect → Kind → PackState → Type 0
pack_in_range dialect kind (at_copy x) = CellInRange dialect x
pack_in_range dialect kind _ = Unit {0}

-- what the worker does
abbrev pub pack_machine : Machine Kind PackState
pack_machine = record {
  sample = UnitKind;
  move = pack_move;
  start = at_start;
  row = PackRow;
  inputs = λ _. 2;
  outputs = λ _. 1;
  kind_in = pack_kind_in;
  kind_out = λ kind _. kind;
  debt = λ kind s. one_write (pack_move kind s);
  of_kind = pack_of_kind;
  in_range = pack_in_range;
  takes_memory = λ _. false;
}

-- what the machine sees of a worker
abbrev pub pack_view : Pack → Kind × PackState
pack_view n = (n.kind, pack_state n.pair)

-- the items whose truth values are true
abbrev pub kept : {A : Type 0} → List Bool → List A → List A
kept (true ∷ bs) (x ∷ xs) = x ∷ kept bs xs
kept (false ∷ bs) (x ∷ xs) = kept bs xs
kept _ _ = []

-- how many truth values are true
abbrev pub trues : List Bool → ℕ
trues [] = 0
trues (true ∷ bs) = suc (trues bs)
trues (false ∷ bs) = trues bs

-- the transducer that a node makes of it
abbrev pub pack_node : NodeOf (Node Pack)
pack_node = node_of pack_view pack_machine
