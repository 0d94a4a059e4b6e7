-- Where items of a kind lead.
use Rattle.std.proofs.Common.{◌≡◌, true, cond, Result, Ok, Err, ◌∙◌, ap}
use Rattle.snesl_data.specs.declared.fault.FaultKind.{FaultKind}
use Rattle.snesl_data.specs.declared.fault.FaultKind.TheVariants.{Shape}
use Rattle.flow_messages.specs.Cells.{Cell, is_of}
use Rattle.flow_messages.specs.declared.message.Kind.{Kind}
use Rattle.flow_messages.specs.Signals.{carry}
use Rattle.flow_base.specs.Machines.{on_kind, Leads}

-- an item of the kind leads where it is said to
pub item_leads : {S : Type 0} (kind : Kind) (next : Cell → Result S FaultKind) (s : S) (x : Cell) → is_of kind x ≡ true → next x ≡ Ok s → Leads (on_kind kind next) (carry x) s
item_leads kind next s x fits leads = ap (λ b. cond b (next x) (Err Shape)) fits ∙ leads
