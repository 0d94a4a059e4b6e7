-- What items of one kind say, side by side.
use Rattle.std.specs.Prelude.{ℕ, ℤ, Bool, List, [], map, replicate}
use Rattle.flow_messages.specs.Cells.{unit, flag, int}
use Rattle.flow_messages.specs.Signals.{Signal, carry}
use Rattle.flow_messages.specs.declared.items.Items.{Items}
use Rattle.flow_messages.specs.declared.items.Items.TheVariants.{Nothing, Units, Flags, Ints}

-- so many units
abbrev pub unit_signals : ℕ → List Signal
unit_signals n = replicate n (carry unit)

-- these truth values
abbrev pub flag_signals : List Bool → List Signal
flag_signals bs = map (λ b. carry (flag b)) bs

-- these integers
abbrev pub int_signals : List ℤ → List Signal
int_signals ns = map (λ n. carry (int n)) ns

-- what these items say, in order
abbrev pub item_signals : Items → List Signal
item_signals Nothing = []
item_signals (Units n) = unit_signals n
item_signals (Flags bs) = flag_signals bs.now
item_signals (Ints ns) = int_signals ns.now
