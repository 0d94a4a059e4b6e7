use Rattle.std.proofs.Common.{[], refl, sym, append-nil, subst}
use mathlib.Core.List.{IsPrefix}
use Rattle.flow_messages.specs.Blocks.{unit_signals, item_signals}
use Rattle.flow_messages.proofs.items.Items.units.Goals as goal

-- all of them
pub returns-in-Units : goal.returns-in-Units
returns-in-Units c = subst (λ s. IsPrefix (unit_signals c.in-Units.count) (item_signals s)) (sym c.in-Units.is) ([], append-nil (unit_signals c.in-Units.count))

-- items of another kind
pub returns-in_default : goal.returns-in_default
returns-in_default c = (item_signals c.args.self, refl)
