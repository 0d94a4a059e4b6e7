-- Scalars of one kind that lie side by side.
use Rattle.std.specs.Prelude.{ℕ, List}
use Rattle.std.specs.Vec.{vec_capacity}
use Rattle.flow_messages.specs.declared.message.Kind.{Kind}
use Rattle.flow_messages.specs.declared.message.Kind.TheVariants.{Unit as UnitKind, Bool as BoolKind, Int as IntKind}
use Rattle.flow_messages.specs.declared.message.Msg.{Msg}
use Rattle.flow_messages.specs.Contents.{unit_messages, flag_messages, int_messages}
use Rattle.flow_edges.specs.declared.lanes.gathered.Many.{Many}
use Rattle.flow_edges.specs.declared.lanes.gathered.Many.TheVariants.{Units, Flags, Ints}

-- the messages that they stand for, the oldest first
abbrev pub many_messages : Many → List Msg
many_messages (Units n) = unit_messages n
many_messages (Flags v) = flag_messages v.items
many_messages (Ints v) = int_messages v.items

-- their kind
abbrev pub many_kind : Many → Kind
many_kind (Units n) = UnitKind
many_kind (Flags v) = BoolKind
many_kind (Ints v) = IntKind

-- for how many of so many of them places are reserved, or for more: units need none
abbrev pub places_for : ℕ → Many → ℕ
places_for n (Units k) = n
places_for n (Flags v) = vec_capacity v
places_for n (Ints v) = vec_capacity v
