-- What a column holds, and what it has room for.
use Rattle.std.specs.Prelude.{◌≡◌, ℕ, ◌+◌, ◌-◌, ◌≤◌, ◌^◌, Bool, true, false, List, [], ◌∷◌, ◌++◌, length}
use Rattle.std.specs.VecDeque.{deque_capacity}
use Rattle.flow_messages.specs.declared.column.Column.{Column}
use Rattle.flow_messages.specs.declared.column.Column.TheVariants.{Units as UnitColumn, Flags as FlagColumn, Ints as IntColumn, Vectors as VectorColumn}
use Rattle.flow_messages.specs.declared.message.Kind.{Kind}
use Rattle.flow_messages.specs.declared.message.Kind.TheVariants.{Unit as UnitKind, Bool as BoolKind, Int as IntKind, Vec as VecKind}
use Rattle.flow_messages.specs.declared.message.Msg.{Msg}
use Rattle.flow_messages.specs.declared.message.Msg.TheVariants.{Item as ItemMsg, End as EndMsg}
use Rattle.flow_messages.specs.Cells.{cell_of, is_of}
use Rattle.flow_messages.specs.Contents.{unit_messages, flag_messages, int_messages}
use Rattle.flow_messages.specs.IntRuns.{integers_in}
use Rattle.flow_messages.specs.Runs.{run_items}

-- the messages of its items, the oldest first
abbrev pub column_messages : Column → List Msg
column_messages (UnitColumn n) = unit_messages n
column_messages (FlagColumn r) = flag_messages (run_items r)
column_messages (IntColumn r) = int_messages (integers_in r)
column_messages (VectorColumn q) = q.items

-- the kind of its items
abbrev pub column_kind : Column → Kind
column_kind (UnitColumn n) = UnitKind
column_kind (FlagColumn r) = BoolKind
column_kind (IntColumn r) = IntKind
column_kind (VectorColumn q) = VecKind

-- how many items it has memory for; a unit takes none
abbrev pub reserved : Column → ℕ
reserved (UnitColumn n) = 2 ^ 64 - 1
reserved (FlagColumn r) = r.most
reserved (IntColumn r) = r.most
reserved (VectorColumn q) = deque_capacity q

-- memory for so many items more is reserved
abbrev pub HasMemoryFor : ℕ → Column → Type 0
HasMemoryFor n c = length (column_messages c) + n ≤ reserved c

-- the column has these messages now, of the same kind, and as much memory as before
pub record ColumnBecomes (ms : List Msg) (a b : Column) : Type 0 where
  pub messages : column_messages b ≡ ms
  pub kind : column_kind b ≡ column_kind a
  pub reserved : reserved b ≡ reserved a

-- a column has the items of another after its own now
abbrev pub GetsItems : (a other b : Column) → Type 0
GetsItems a other b = ColumnBecomes (column_messages a ++ column_messages other) a b

-- m, the oldest message, was taken from the column
pub record ColumnTook (m : Msg) (a b : Column) : Type 0 where
  pub first : column_messages a ≡ m ∷ column_messages b
  pub kind : column_kind b ≡ column_kind a
  pub reserved : reserved b ≡ reserved a

-- the column holds nothing, as before
pub record ColumnFoundNone (a b : Column) : Type 0 where
  pub before : column_messages a ≡ []
  pub after : column_messages b ≡ []
  pub kind : column_kind b ≡ column_kind a
  pub reserved : reserved b ≡ reserved a

-- the message carries an item of this kind
abbrev pub IsItemOf : Kind → Msg → Type 0
IsItemOf k (ItemMsg x) = is_of k (cell_of x) ≡ true
IsItemOf k EndMsg = ⊥

-- the end of the stream, where it comes last
abbrev pub ending : Bool → List Msg
ending true = EndMsg ∷ []
ending false = []

-- the messages of these items, and then the end of the stream, where it comes last
unfoldable pub content : Column → Bool → List Msg
content c ends = column_messages c ++ ending ends
