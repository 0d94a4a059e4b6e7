-- Nodes keep their histories where nothing is sent or received.
use Rattle.std.proofs.Common.{List, ◌∙◌}
use mathlib.Core.Logic.{∥∥₁_map}
use Rattle.std.specs.List.{All}
use Rattle.flow_messages.specs.Ends.{View, SameTraffic}
use Rattle.flow_base.specs.declared.transducer.Transducer.{Ghosts}
use Rattle.flow_networks.specs.declared.placed.Placed.{Placed}
use Rattle.flow_shares.specs.Shares.{IsOwn}

pub own_stay : {X : Type 0} {t : Ghosts X} (nodes : List (Placed X t)) (a v : View) → SameTraffic a v → All (IsOwn a) nodes → All (IsOwn v) nodes
own_stay nodes a v same own k d l = ∥∥₁_map (own k d l) (λ h. record {
  history = h.history;
  does = h.does;
  received = λ p inside. same.received _ ∙ h.received p inside;
  sent = λ q inside. same.sent _ ∙ h.sent q inside;
})
