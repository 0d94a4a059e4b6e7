-- What the words of a ring say: the words of each kind of scalar are of their own type.
use Rattle.std.specs.Prelude.{◌≡◌, ℕ, ◌<◌, ℤ, pos, neg_ℤ, ◌^◌, ◌-◌, int_lt, Bool, true, false, cond, List, [], ◌∷◌, length, take, map}
use Rattle.std.specs.Int.{w128, int_wrapping_add, int_wrapping_mul}
use Rattle.std.specs.List.{All}
use Rattle.flow_messages.specs.declared.message.Msg.{Msg}
use Rattle.flow_messages.specs.declared.message.Msg.TheVariants.{Item as ItemMsg, End as EndMsg}
use Rattle.flow_messages.specs.declared.message.Item.TheVariants.{Unit as UnitItem, Bool as BoolItem, Int as IntItem}
use Rattle.flow_messages.specs.Contents.{flag_messages}
use Rattle.flow_words.specs.declared.words.UnitWord.{UnitWord}
use Rattle.flow_words.specs.declared.words.UnitWord.TheVariants.{Unit as AUnit, End as UnitsEnd}
use Rattle.flow_words.specs.declared.words.FlagWord.{FlagWord}
use Rattle.flow_words.specs.declared.words.FlagWord.TheVariants.{False as AFalse, True as ATrue, End as FlagsEnd}
use Rattle.flow_words.specs.declared.words.Group.{Group}
use Rattle.flow_words.specs.declared.words.Group.TheVariants.{None as NoGroup, Begun, Top, Half}

-- a unit, or the end
abbrev pub unit_word : UnitWord → Msg
unit_word AUnit = ItemMsg UnitItem
unit_word UnitsEnd = EndMsg

-- a truth value, or the end
abbrev pub flag_word : FlagWord → Msg
flag_word AFalse = ItemMsg (BoolItem false)
flag_word ATrue = ItemMsg (BoolItem true)
flag_word FlagsEnd = EndMsg

-- what words say of which each says a message, the oldest first
abbrev pub each_said : {W : Type 0} → (W → Msg) → List W → List Msg
each_said word ws = map word ws

-- these words say these truth values
abbrev pub SayFlags : List FlagWord → List Bool → Type 0
SayFlags ws flags = each_said flag_word ws ≡ flag_messages flags

-- whether a word of an edge of integers stands for none, but begins a group: it is the least one of 64 bits
abbrev pub is_escape : ℤ → Bool
is_escape w = int_lt w (neg_ℤ (pos (2 ^ 63 - 1)))

-- what the digits of a group are multiplied by
abbrev pub base : ℤ
base = pos (2 ^ 62)

-- the integer of the group with these three digits
abbrev pub group_number : (top middle low : ℤ) → ℤ
group_number top middle low =
    int_wrapping_add w128 (int_wrapping_mul w128 (int_wrapping_add w128 (int_wrapping_mul w128 top base) middle) base) low

-- What these words of an edge of integers say, the oldest first, where so much of a group came before them: a word that is no
-- escape says itself; an escape and another are the end; and an escape and three digits are an integer of 128 bits.
unfoldable pub ints_said : Group → List ℤ → List Msg
ints_said group [] = []
ints_said NoGroup (w ∷ ws) = cond (is_escape w) (ints_said Begun ws) (ItemMsg (IntItem w) ∷ ints_said NoGroup ws)
ints_said Begun (w ∷ ws) = cond (is_escape w) (EndMsg ∷ ints_said NoGroup ws) (ints_said (Top w) ws)
ints_said (Top top) (w ∷ ws) = ints_said (Half top w) ws
ints_said (Half top middle) (w ∷ ws) = ItemMsg (IntItem (group_number top middle w)) ∷ ints_said NoGroup ws

-- how much of a group has come after these words
unfoldable pub group_after : Group → List ℤ → Group
group_after group [] = group
group_after NoGroup (w ∷ ws) = cond (is_escape w) (group_after Begun ws) (group_after NoGroup ws)
group_after Begun (w ∷ ws) = cond (is_escape w) (group_after NoGroup ws) (group_after (Top w) ws)
group_after (Top top) (w ∷ ws) = group_after (Half top w) ws
group_after (Half top middle) (w ∷ ws) = group_after NoGroup ws

-- all that these words of an edge of integers say
abbrev pub ints_sent : List ℤ → List Msg
ints_sent ws = ints_said NoGroup ws

-- these words say this message, and none of them does before the last has come
abbrev pub Spells : List ℤ → Msg → Type 0
Spells ws m = (ints_sent ws ≡ m ∷ []) × (group_after NoGroup ws ≡ NoGroup) × ((i : ℕ) → i < length ws → ints_sent (take i ws) ≡ [])

-- none of these begins a group
abbrev pub ArePlain : List ℤ → Type 0
ArePlain ws = All (λ w. is_escape w ≡ false) ws
