-- Scalar messages, and which messages an edge of one kind takes.
use Rattle.std.specs.Prelude.{◌≡◌, ◌<◌, Bool, true, false, List, [], ◌∷◌, map, drop, Option}
use Rattle.std.specs.List.{All}
use Rattle.arrayvec.specs.ArrayVec.{ArrayVec, array_vec_len}
use Rattle.flow_messages.specs.declared.message.Kind.{Kind}
use Rattle.flow_messages.specs.declared.message.Msg.{Msg}
use Rattle.flow_messages.specs.declared.message.Msg.TheVariants.{Item as ItemMsg, End as EndMsg}
use Rattle.flow_messages.specs.declared.message.Item.TheVariants.{Unit as UnitItem, Bool as BoolItem, Int as IntItem}
use Rattle.flow_messages.specs.Cells.{unit, flag, int, datum}
use Rattle.flow_messages.specs.Signals.{Signal, carry, stop, signal_of, signals, ended}
use Rattle.flow_messages.specs.Kinds.{fits, FitsEdge}
use Rattle.flow_messages.specs.declared.flat.Flat.{Flat}
use Rattle.flow_messages.specs.declared.flat.Flat.TheVariants.{Unit as UnitFlat, Bool as BoolFlat, Int as IntFlat, End as EndFlat}

-- the message that it stands for
abbrev pub message_of : Flat → Msg
message_of UnitFlat = ItemMsg UnitItem
message_of (BoolFlat b) = ItemMsg (BoolItem b)
message_of (IntFlat n) = ItemMsg (IntItem n)
message_of EndFlat = EndMsg

-- the messages that these stand for, in order
abbrev pub messages_of : List Flat → List Msg
messages_of xs = map message_of xs

-- whether it is no vector
abbrev pub is_scalar : Signal → Bool
is_scalar (carry (datum v)) = false
is_scalar (carry unit) = true
is_scalar (carry (flag b)) = true
is_scalar (carry (int n)) = true
is_scalar stop = true

-- what these scalar messages say, in order
abbrev pub flat_signals : List Flat → List Signal
flat_signals xs = signals (messages_of xs)

-- whether a message comes first that is no vector
abbrev pub scalar_first : List Signal → Bool
scalar_first [] = false
scalar_first (m ∷ ms) = is_scalar m

-- on an edge of the kind x may follow these: none of them is an end, and x fits
abbrev pub MayBePut : Kind → List Flat → Flat → Type 0
MayBePut k before x =
    (ended (signals (messages_of before)) ≡ false) × (fits k (signal_of (message_of x)) ≡ true)

-- an edge of this kind takes each message of the block
abbrev pub BlockFitsEdge : Option Kind → List Flat → Type 0
BlockFitsEdge k block = All (λ x. FitsEdge k (signal_of (message_of x))) block

-- one message more may be appended to the block
abbrev pub HasPlace : ArrayVec Flat → Type 0
HasPlace block = array_vec_len block < 64

-- what was appended to a block
abbrev pub flats_appended : ArrayVec Flat → ArrayVec Flat → List Flat
flats_appended before after = drop (array_vec_len before) after.items
