-- A share that was pumped as a configuration says.
use Rattle.std.specs.Prelude.{ℕ}
use Rattle.flow_messages.specs.declared.ends.Ends.{Ghosts as EndsGhosts}
use Rattle.flow_base.specs.declared.transducer.Transducer.{Ghosts}
use Rattle.flow_shares.specs.declared.share.Share.{Share}
use Rattle.flow_shares.specs.Shares.{most_turns, HaveMovedForTurns}

-- it moved at least one message for each `idle` of all the turns that a pump may make
abbrev pub HasMovedOften : {X Y : Type 0} {t : Ghosts X} {u : EndsGhosts Y} → ℕ → Share X Y t u → Share X Y t u → Type 0
HasMovedOften {u} idle share pumped = HaveMovedForTurns most_turns idle share.nodes.items pumped.nodes.items (u.view share.ends) (u.view pumped.ends)
