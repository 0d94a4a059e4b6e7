-- Ends of which the writers take items of one kind.
use Rattle.std.specs.Prelude.{◌≡◌, ℕ, true}
use Rattle.flow_messages.specs.declared.message.Kind.{Kind}
use Rattle.flow_messages.specs.Ends.{View}
use Rattle.flow_messages.specs.Kinds.{TakesKind}

-- each writer that is there takes all items of the kind
abbrev pub AllTake : View → Kind → Type 0
AllTake v kind = (e : ℕ) → v.writes e ≡ true → TakesKind (v.kind e) kind
