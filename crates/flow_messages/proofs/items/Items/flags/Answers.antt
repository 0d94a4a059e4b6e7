use Rattle.std.proofs.Common.{[], refl, sym, append-nil, subst}
use mathlib.Core.List.{IsPrefix}
use Rattle.flow_messages.specs.Blocks.{flag_signals, item_signals}
use Rattle.flow_messages.proofs.items.Items.flags.Goals as goal

-- all of them
pub returns-in-Flags : goal.returns-in-Flags
returns-in-Flags c = subst (λ s. IsPrefix (flag_signals c.in-Flags.flags.now) (item_signals s)) (sym c.in-Flags.is) ([], append-nil (flag_signals c.in-Flags.flags.now))

-- items of another kind
pub returns-in_default : goal.returns-in_default
returns-in_default c = (item_signals c.args.self, refl)
