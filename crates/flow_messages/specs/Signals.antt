-- What a message says, without the places in memory where it lies. All laws above speak of signals.
use Rattle.std.specs.Prelude.{◌||◌, Bool, true, false, List, [], ◌∷◌}
use Rattle.flow_messages.specs.Cells.{Cell, cell_of}
use Rattle.flow_messages.specs.declared.message.Msg.{Msg}
use Rattle.flow_messages.specs.declared.message.Msg.TheVariants.{Item as ItemMsg, End as EndMsg}

-- a cell, or the end of the stream
pub data Signal : Type 0 where
  carry : Cell → Signal
  stop : Signal

-- what this message says
abbrev pub signal_of : Msg → Signal
signal_of (ItemMsg x) = carry (cell_of x)
signal_of EndMsg = stop

-- what these messages say, in order
unfoldable pub signals : List Msg → List Signal
signals [] = []
signals (m ∷ ms) = signal_of m ∷ signals ms

-- whether the signal is the end of the stream
abbrev pub is_stop : Signal → Bool
is_stop (carry x) = false
is_stop stop = true

-- whether a stop stands in the list
unfoldable pub ended : List Signal → Bool
ended [] = false
ended (m ∷ ms) = is_stop m || ended ms

-- whether the end of the stream is among these messages
abbrev pub has_end : List Msg → Bool
has_end ms = ended (signals ms)

-- whether nothing follows a stop
unfoldable pub orderly : List Signal → Bool
orderly [] = true
orderly (carry x ∷ ms) = orderly ms
orderly (stop ∷ []) = true
orderly (stop ∷ m ∷ ms) = false
