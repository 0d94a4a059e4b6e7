-- Items that are shown to a fork.
use Rattle.std.specs.Prelude.{ℕ, [], ◌∷◌, Ok}
use mathlib.Core.List.{IsPrefix}
use Rattle.flow_messages.specs.Cells.{cell_of}
use Rattle.flow_messages.specs.Ends.{View}
use Rattle.flow_messages.specs.Signals.{carry}
use Rattle.flow_messages.specs.declared.message.Item.{Item}
use Rattle.flow_messages.specs.declared.message.Kind.{Kind}
use Rattle.flow_base.specs.Machines.{Leads, on_kind}
use Rattle.flow_scalar.specs.ForkMachine.{holding}

-- the item comes next on the edge
abbrev pub ItemComes : View → ℕ → Item → Type 0
ItemComes v edge x = IsPrefix (carry (cell_of x) ∷ []) (v.coming edge)

-- an item of this kind is then held, of which so many copies are due after the first
abbrev pub ItemIsHeld : Kind → Item → ℕ → Type 0
ItemIsHeld kind x others = Leads (on_kind kind (λ y. Ok (holding y others))) (carry (cell_of x)) (holding (cell_of x) others)
