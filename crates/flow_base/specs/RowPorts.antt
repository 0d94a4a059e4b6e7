-- Rows as laws between the bodies at ports: what lies at other numbers does not matter to them.
use Rattle.std.specs.Prelude.{◌≡◌, ℕ, ◌<◌}
use Rattle.flow_messages.specs.Cells.{Cell}
use Rattle.flow_base.specs.Lists.{Lists}
use Rattle.flow_base.specs.Transducers.{Behaviour}

-- a row speaks of the bodies at the ports of its transducer alone
abbrev pub RowsOnPorts : {S : Type 0} → Behaviour S → Type 0
RowsOnPorts {S = S} b =
    (s : S) (ins outs same others : Lists Cell)
    → ((p : ℕ) → p < b.inputs s → ins p ≡ same p) → ((q : ℕ) → q < b.outputs s → outs q ≡ others q)
    → b.row s ins outs → b.row s same others
