-- Lists of messages that go over an edge.
use Rattle.std.proofs.Common.{◌≡◌, true, false, List, [], ◌∷◌, ◌++◌, refl}
use Rattle.flow_messages.specs.declared.message.Msg.{Msg}
use Rattle.flow_messages.specs.declared.message.Msg.TheVariants.{Item, End}
use Rattle.flow_messages.specs.Signals.{signals, ended, orderly}
use Rattle.flow_messages.proofs.Signals.{ended-snoc, orderly-snoc, ended-nil}

-- in an orderly list no End stands before a message
pub open-before : (before : List Msg) (m : Msg) (after : List Msg) → orderly (signals (before ++ m ∷ after)) ≡ true → ended (signals before) ≡ false
unfolding signals ended orderly
open-before [] m after h = refl
open-before (Item x ∷ before) m after h = open-before before m after h
open-before (End ∷ []) m after h = cc
open-before (End ∷ n ∷ before) m after h = cc

-- what a fresh list and a list with one message more are
pub ruleset list_steps = (ended-snoc, orderly-snoc, ended-nil)
