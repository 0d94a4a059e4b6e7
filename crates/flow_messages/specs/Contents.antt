-- The messages of items of one kind.
use Rattle.std.specs.Prelude.{ℕ, ℤ, Bool, List, [], map, replicate}
use Rattle.flow_messages.specs.declared.message.Msg.{Msg}
use Rattle.flow_messages.specs.declared.message.Msg.TheVariants.{Item as ItemMsg}
use Rattle.flow_messages.specs.declared.message.Item.TheVariants.{Unit as UnitItem, Bool as BoolItem, Int as IntItem}
use Rattle.flow_messages.specs.declared.items.Items.{Items}
use Rattle.flow_messages.specs.declared.items.Items.TheVariants.{Nothing, Units, Flags, Ints}

-- so many unit items
abbrev pub unit_messages : ℕ → List Msg
unit_messages n = replicate n (ItemMsg UnitItem)

-- these truth values, as items
abbrev pub flag_messages : List Bool → List Msg
flag_messages flags = map (λ b. ItemMsg (BoolItem b)) flags

-- these integers, as items
abbrev pub int_messages : List ℤ → List Msg
int_messages ints = map (λ n. ItemMsg (IntItem n)) ints

-- the messages of these items, in order
abbrev pub item_messages : Items → List Msg
item_messages Nothing = []
item_messages (Units n) = unit_messages n
item_messages (Flags bs) = flag_messages bs.now
item_messages (Ints ns) = int_messages ns.now
