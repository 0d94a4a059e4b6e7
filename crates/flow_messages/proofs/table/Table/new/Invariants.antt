use Rattle.std.proofs.Common.{◌≡◌, ℕ, [], length, map, take}
use Rattle.std.specs.List.{All}
use Rattle.flow_messages.specs.Tables.{view_of_lines}
use Rattle.flow_messages.proofs.table.Table.new.Given as goal

abbrev pub invariant-loop-kind : goal.invariant-loop-kind
invariant-loop-kind l = record {
  count : length l.lines.items ≡ l.kind-index;
  kinds : map (λ line. line.store.kind) l.lines.items ≡ take l.kind-index l.kinds;
  sent : (e : ℕ) → (view_of_lines l.lines.items).sent e ≡ [];
  received : (e : ℕ) → (view_of_lines l.lines.items).received e ≡ [];
  even : All (λ line. line.store.capacity ≡ l.capacity) l.lines.items;
}
