-- Where the edges of a type are.
use Rattle.std.specs.Prelude.{ℕ, ◌+◌, ◌<◌, ◌^◌}
use Rattle.snesl_data.specs.Types.{Ty}
use Rattle.flow_values.specs.Flats.{width}

-- the ports of the type from this port on are numbers that a word holds, and so are the brackets around its parts
abbrev pub PortsFit : Ty → ℕ → ℕ → Type 0
PortsFit ty port brackets = (port + width ty < 2 ^ 64) × (brackets + width ty < 2 ^ 64)
