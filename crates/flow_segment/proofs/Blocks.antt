-- Blocks of nothing, at the edges of ports.
use Rattle.std.proofs.Common.{◌≡◌, Bool, true, false, cond, List, [], ◌++◌, refl}
use Rattle.flow_messages.specs.Signals.{Signal}

-- no message on any edge
abbrev pub no_messages : List Signal
no_messages = []

pub no_block : (b : Bool) → no_messages ≡ cond b no_messages no_messages
no_block true = refl
no_block false = refl

pub no_blocks : (b c : Bool) → no_messages ≡ cond b no_messages no_messages ++ cond c no_messages no_messages
no_blocks true true = refl
no_blocks true false = refl
no_blocks false true = refl
no_blocks false false = refl
