-- What is said of networks that have stalled.
use Rattle.std.specs.Prelude.{ℕ, List, codes}
use Rattle.snesl_look.specs.declared.stalls.Enough.{Enough}
use Rattle.snesl_look.specs.declared.stalls.Enough.TheVariants.{Fault, Nothing}

-- what went wrong
abbrev pub stalled_sentence : List ℕ
stalled_sentence = codes "the program has stalled: its edges hold too few messages"

-- what may help
abbrev pub stalled_hint : Enough → List ℕ
stalled_hint Fault = codes "where they hold more, the program ends in a fault"
stalled_hint Nothing = codes "an edge may hold 65536, and these are too few: let fewer elements wait for others"
stalled_hint _ = codes "let them hold more, as by `--capacity 4096`, at most 65536"
