-- Which messages an edge of one kind takes.
use Rattle.std.specs.Prelude.{◌≡◌, Bool, true, Option, Some, None, ⊤}
use Rattle.flow_messages.specs.declared.message.Kind.{Kind}
use Rattle.flow_messages.specs.declared.message.Kind.TheVariants.{Unit as UnitKind, Bool as BoolKind, Int as IntKind}
use Rattle.flow_messages.specs.declared.items.Items.{Items}
use Rattle.flow_messages.specs.declared.items.Items.TheVariants.{Nothing, Units, Flags, Ints}
use Rattle.flow_messages.specs.Cells.{is_of}
use Rattle.flow_messages.specs.Signals.{Signal, carry, stop}

-- whether it is an item of the kind, or the end of the stream
abbrev pub fits : Kind → Signal → Bool
fits k (carry c) = is_of k c
fits k stop = true

-- an edge of this kind takes it, and an edge of no kind takes everything
abbrev pub FitsEdge : Option Kind → Signal → Type 0
FitsEdge None s = ⊤
FitsEdge (Some k) s = fits k s ≡ true

-- whether an edge of this kind takes it
abbrev pub fits_edge : Option Kind → Signal → Bool
fits_edge None s = true
fits_edge (Some k) s = fits k s

-- an edge of this kind takes all that is of kind k
abbrev pub TakesKind : Option Kind → Kind → Type 0
TakesKind of k = (s : Signal) → fits k s ≡ true → fits_edge of s ≡ true

-- an edge of this kind takes each of these items
abbrev pub TakesItems : Option Kind → Items → Type 0
TakesItems of Nothing = ⊤
TakesItems of (Units n) = TakesKind of UnitKind
TakesItems of (Flags bs) = TakesKind of BoolKind
TakesItems of (Ints ns) = TakesKind of IntKind
