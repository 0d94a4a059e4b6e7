-- What follows the end of the stream.
use Rattle.std.proofs.Common.{◌≡◌, true, List, [], ◌∷◌, ◌++◌, refl}
use Rattle.flow_messages.specs.declared.message.Msg.{Msg}
use Rattle.flow_messages.specs.Signals.{Signal, carry, stop, signals, ended, orderly}

-- in an orderly list nothing stands after a part that has a stop
pub nothing-left : (before after : List Signal) → orderly (before ++ after) ≡ true → ended before ≡ true → after ≡ []
unfolding ended orderly
nothing-left [] after h closed = cc
nothing-left (carry x ∷ before) after h closed = nothing-left before after h closed
nothing-left (stop ∷ []) [] h closed = refl
nothing-left (stop ∷ []) (m ∷ after) h closed = cc
nothing-left (stop ∷ m ∷ before) after h closed = cc

-- a stop stays where others stand before it
pub ended-behind : (before after : List Signal) → ended after ≡ true → ended (before ++ after) ≡ true
unfolding ended
ended-behind [] after h = h
ended-behind (carry x ∷ before) after h = ended-behind before after h
ended-behind (stop ∷ before) after h = refl

-- messages that say nothing are none
pub nothing-said : (ms : List Msg) → signals ms ≡ [] → ms ≡ []
unfolding signals
nothing-said [] h = refl
nothing-said (m ∷ ms) h = absurd (cc)
