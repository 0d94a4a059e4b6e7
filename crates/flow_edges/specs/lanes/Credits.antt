-- What the reader of a lane tells its writer: how many messages it took.
use Rattle.std.specs.Prelude.{◌≡◌, ℕ, ◌+◌, ◌-◌, ◌^◌, ◌<◌, ◌≤◌, pos, false, List, [], ◌∷◌, Some}
use Rattle.std.specs.Io.Iter.{u64_saturate}
use Rattle.flow_messages.specs.declared.message.Kind.TheVariants.{Int as IntKind}
use Rattle.flow_messages.specs.declared.message.Msg.{Msg}
use Rattle.flow_messages.specs.declared.message.Msg.TheVariants.{Item as ItemMsg}
use Rattle.flow_messages.specs.declared.message.Item.TheVariants.{Int as IntItem}
use Rattle.flow_messages.specs.Signals.{signals, ended}
use Rattle.flow_rings.specs.declared.ring.EdgeWriter.{EdgeWriter}
use Rattle.flow_rings.specs.declared.ring.EdgeReader.{EdgeReader}
use Rattle.flow_rings.specs.Edge.{sent, received, certain_room, edge_capacity, kind_of}

-- the number that a message says, where it says one
abbrev pub number_in : Msg → ℕ
number_in (ItemMsg (IntItem (pos n))) = n
number_in _ = 0

-- the sum of what these say
abbrev pub credit : List Msg → ℕ
credit [] = 0
credit (m ∷ ms) = number_in m + credit ms

-- Of so many messages that were taken, all but `owed` were told over this edge.
pub record Owes (taken owed : ℕ) (back : EdgeWriter) : Type 0 where
  pub told : credit (sent back) ≤ taken
  pub rest : owed ≡ u64_saturate (taken - credit (sent back))
  pub unclosed : ended (signals (sent back)) ≡ false
  pub kind : kind_of back ≡ Some IntKind
  pub places : 0 < edge_capacity back

-- nothing is left to tell, unless this edge had no room or the count that was owed stands still
abbrev pub LeavesNone : EdgeWriter → ℕ → ℕ → Type 0
LeavesNone back owed left = 0 < certain_room back → owed < 2 ^ 64 - 1 → left ≡ 0

-- where not 2 ^ 64 more were taken than it had heard of, the writer has heard of all
abbrev pub HearsAll : ℕ → EdgeReader → EdgeReader → Type 0
HearsAll taken before after = taken < credit (received before) + (2 ^ 64 - 1) → credit (received after) ≡ taken
