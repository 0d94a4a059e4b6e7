-- Edges that take integers.
use Rattle.std.specs.Prelude.{◌≡◌, true, Option}
use Rattle.flow_messages.specs.declared.message.Kind.{Kind}
use Rattle.flow_messages.specs.declared.message.Kind.TheVariants.{Int as IntKind}
use Rattle.flow_messages.specs.Signals.{Signal}
use Rattle.flow_messages.specs.Kinds.{fits, FitsEdge}

-- an edge of this kind takes integers and `End`
abbrev pub TakesInts : Option Kind → Type 0
TakesInts k = (s : Signal) → fits IntKind s ≡ true → FitsEdge k s
