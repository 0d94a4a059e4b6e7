-- What a source writes next.
use Rattle.std.specs.Prelude.{◌≡◌, List, [], ◌∷◌}
use Rattle.kahn.specs.declared.want.Want.TheVariants.{Write}
use Rattle.flow_messages.specs.Signals.{Signal}
use Rattle.flow_scalar.specs.SourceBehaviour.{SourceState, source_want, source_signal, source_after_write}

-- from one state a source writes just these messages, one after another, and is then in the other
abbrev pub Sends : SourceState → List Signal → SourceState → Type 0
Sends s [] t = s ≡ t
Sends s (m ∷ ms) t = (source_want s ≡ Write 0) × (source_signal s ≡ m) × Sends (source_after_write s) ms t
