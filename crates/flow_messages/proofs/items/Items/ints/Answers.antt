use Rattle.std.proofs.Common.{[], refl, sym, append-nil, subst}
use mathlib.Core.List.{IsPrefix}
use Rattle.flow_messages.specs.Blocks.{int_signals, item_signals}
use Rattle.flow_messages.proofs.items.Items.ints.Goals as goal

-- all of them
pub returns-in-Ints : goal.returns-in-Ints
returns-in-Ints c = subst (λ s. IsPrefix (int_signals c.in-Ints.ints.now) (item_signals s)) (sym c.in-Ints.is) ([], append-nil (int_signals c.in-Ints.ints.now))

-- items of another kind
pub returns-in_default : goal.returns-in_default
returns-in_default c = (item_signals c.args.self, refl)
