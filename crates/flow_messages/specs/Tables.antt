-- A table as the ends of all its edges.
use Rattle.std.specs.Prelude.{◌≡◌, ℕ, ◌-◌, List, [], length, map, slice_index_or, nat_lt, slice_get, Some, None}
use Rattle.flow_messages.specs.declared.message.Kind.{Kind}
use Rattle.flow_messages.specs.declared.line.Line.{Line}
use Rattle.flow_messages.specs.declared.table.Table.{Table}
use Rattle.flow_messages.specs.Signals.{signals}
use Rattle.flow_messages.specs.Stores.{content_of}
use Rattle.flow_messages.specs.Lines.{gone}
use Rattle.flow_messages.specs.Ends.{View}

-- f at the line of edge e, and d where there is none
abbrev pub at_line : {L X : Type 0} → (L → X) → List L → ℕ → X → X
at_line f lines e d = slice_index_or (map f lines) e d

-- what is seen of the edges that these lines are
abbrev pub view_of_lines : List Line → View
view_of_lines lines = record {
  sent = λ e. at_line (λ l. signals l.sent.items) lines e [];
  received = λ e. at_line (λ l. signals (gone l.sent.items (content_of l.store))) lines e [];
  coming = λ e. at_line (λ l. signals (content_of l.store)) lines e [];
  room = λ e. at_line (λ l. l.store.capacity - length (content_of l.store)) lines e 0;
  kind = λ e. at_line (λ l. Some l.store.kind) lines e None;
  writes = λ e. nat_lt e (length lines);
  reads = λ e. nat_lt e (length lines);
}

-- what is seen of the table
abbrev pub ends_of : Table → View
ends_of t = view_of_lines t.lines.items

-- how many messages each edge of the table holds at most
abbrev pub capacity_of : Table → ℕ
capacity_of t = t.capacity

-- both ends of the edges below `edges`, on which nothing was sent or received
pub record IsFresh (edges : ℕ) (v : View) : Type 0 where
  pub writes : (e : ℕ) → v.writes e ≡ nat_lt e edges
  pub reads : (e : ℕ) → v.reads e ≡ nat_lt e edges
  pub sent : (e : ℕ) → v.sent e ≡ []
  pub received : (e : ℕ) → v.received e ≡ []

-- each edge takes items of the kind that stands at its number, and no others
abbrev pub HasKinds : List Kind → View → Type 0
HasKinds kinds v = (e : ℕ) → v.kind e ≡ slice_get kinds e
