-- What it copies to a block.
use Rattle.std.specs.Prelude.{◌≡◌, ℕ, ◌≤◌, List, length, take}
use Rattle.flow_messages.specs.Signals.{Signal}
use Rattle.flow_messages.specs.declared.message.Kind.{Kind}
use Rattle.flow_base.specs.Along.{written_signals}
use Rattle.flow_base.specs.declared.slices.Moved.{Moved}
use Rattle.flow_base.specs.declared.slices.Written.{Written}
use Rattle.flow_scalar.specs.SinkShown.{EachFits}

-- so many items are read, and so many written to each output, in so many steps
abbrev pub copies_of : ℕ → ℕ → Moved
copies_of n steps = record { first = n; second = 0; units = n; flags = n; ints = n; steps = steps }

-- so many items of the kind are shown first, and lie in the block
pub record Copied (kind : Kind) (n : ℕ) (shown : List Signal) (block : Written) : Type 0 where
  pub within : n ≤ length shown
  pub fits : EachFits kind (take n shown)
  pub lie : (steps : ℕ) → take n shown ≡ written_signals block (copies_of n steps) kind
