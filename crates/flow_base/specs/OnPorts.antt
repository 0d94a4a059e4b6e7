-- What is seen and done at the ports of a worker, along slices.
use Rattle.std.specs.Prelude.{ℕ, ◌<◌, List, take}
use Rattle.flow_messages.specs.Ends.{View, TakenAll, PutAll}
use Rattle.flow_messages.specs.Signals.{Signal}
use Rattle.flow_messages.specs.declared.message.Kind.{Kind}
use Rattle.flow_base.specs.Along.{HasRoom, written_signals}
use Rattle.flow_base.specs.Machines.{Machine}
use Rattle.flow_base.specs.Visits.{TakeKinds, edge_of}
use Rattle.flow_base.specs.declared.slices.Moved.{Moved}
use Rattle.flow_base.specs.declared.slices.Written.{Written}

-- what comes to this port, of what is certain
abbrev pub coming_at : View → List ℕ → ℕ → List Signal
coming_at v edges p = v.coming (edge_of edges p)

-- how much room is certain at this port
abbrev pub room_at : View → List ℕ → ℕ → ℕ
room_at v edges q = v.room (edge_of edges q)

-- the first so many of the messages that come to this port were taken
abbrev pub SkippedAt : List ℕ → ℕ → ℕ → View → View → Type 0
SkippedAt edges p count v w = TakenAll v (edge_of edges p) (take count (coming_at v edges p)) w

-- what lies in the block for outputs of the kind was put on the edge
abbrev pub PutFrom : Written → Moved → Kind → ℕ → View → View → Type 0
PutFrom block moved kind edge v w = PutAll v edge (written_signals block moved kind) w

-- there is room for what was written at this port
abbrev pub FitsAt : View → List ℕ → ℕ → Moved → Type 0
FitsAt v edges q moved = HasRoom moved (room_at v edges q)

-- the edge at port p has a lower number than the one at port q
abbrev pub IsLower : List ℕ → ℕ → ℕ → Type 0
IsLower edges p q = edge_of edges p < edge_of edges q

-- each output of a worker in this state has an edge that takes items of the output's kind
abbrev pub TakeKindsOf : {P S : Type 0} → Machine P S → P × S → List ℕ → View → Type 0
TakeKindsOf m s outputs v = TakeKinds outputs (m.kind_out s.0) v
