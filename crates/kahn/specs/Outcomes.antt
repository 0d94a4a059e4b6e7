-- How a network came out that is at rest.
use Rattle.std.specs.Prelude.{◌≡◌, ◌↔◌, ℕ, ◌<◌, List}
use Rattle.std.specs.List.{Contains}
use Rattle.snesl_data.specs.declared.fault.Fault.{Fault}
use Rattle.kahn.specs.declared.want.Want.TheVariants.{Faulted}
use Rattle.kahn.specs.declared.outcome.Outcome.{Outcome}
use Rattle.kahn.specs.declared.outcome.Outcome.TheVariants.{Value, Fault as Failed, Stalled}
use Rattle.kahn.specs.Processes.{Process}
use Rattle.kahn.specs.Networks.{Network}
use Rattle.kahn.specs.Configurations.{Configuration, AllEnded, NoneFaulted, IsLeastBlocked}
use Rattle.kahn.specs.Faults.{IsNamedBefore}

module _ {State Message : Type 0} (P : Process State Message) (net : Network State) where
  -- some node has come to this fault
  abbrev pub HasFault : Configuration State Message → Fault → Type 0
  HasFault c f = (k : ℕ) × (k < net.nodes) × (P.want (c.state k) ≡ Faulted f)

  -- f is the fault that is named of all to which nodes have come
  pub record NamesFault (c : Configuration State Message) (f : Fault) : Type 0 where
    pub stands : HasFault c f
    pub first : (g : Fault) → HasFault c g → IsNamedBefore f g

  -- these are the faults to which nodes have come
  abbrev pub AreItsFaults : Configuration State Message → List Fault → Type 0
  AreItsFaults c faults = (f : Fault) → Contains faults f ↔ HasFault c f

  -- Value where each node has ended; a fault where some node has faulted; and else the least edge that is
  -- full while its writer waits.
  abbrev pub HasOutcome : ℕ → Configuration State Message → Outcome → Type 0
  HasOutcome capacity c Value = AllEnded P net c
  HasOutcome capacity c (Failed f) = NamesFault c f
  HasOutcome capacity c (Stalled e) = NoneFaulted P net c × IsLeastBlocked P net capacity c e
