-- Nodes keep their ends and their histories where nothing is sent or received.
use Rattle.std.proofs.Common.{List, ◌∙◌, get_or}
use mathlib.Core.Logic.{∥∥₁_map}
use Rattle.std.specs.List.{All}
use Rattle.flow_messages.specs.Ends.{View, SameEnds, SameTraffic}
use Rattle.flow_messages.proofs.Fitting.{takes_still}
use Rattle.flow_base.specs.Visits.{edge_of, TakeKinds}
use Rattle.flow_base.specs.declared.transducer.Transducer.{Ghosts}
use Rattle.flow_networks.specs.declared.placed.Placed.{Placed}
use Rattle.flow_networks.specs.Places.{placed_state}
use Rattle.flow_shares.specs.Shares.{outputs_of, HasItsEnds, IsOwn}

module _ {X : Type 0} {t : Ghosts X} (nodes : List (Placed X t)) (a v : View) where
  kinds_stay : (x : Placed X t) → SameEnds a v → TakeKinds (outputs_of x) (t.behaviour.kind_out (t.behaviour.opening (placed_state x))) a →
      TakeKinds (outputs_of x) (t.behaviour.kind_out (t.behaviour.opening (placed_state x))) v
  kinds_stay x same takes q l = takes_still a v (edge_of (outputs_of x) q) (t.behaviour.kind_out (t.behaviour.opening (placed_state x)) q) same (takes q l)

  pub ends_stay : SameEnds a v → All (HasItsEnds a) nodes → All (HasItsEnds v) nodes
  ends_stay same there k d l =
      let has = there k d l in
      record { reads = λ p e inside. same.reads _ ∙ has.reads p e inside; writes = λ q e inside. same.writes _ ∙ has.writes q e inside; kinds = kinds_stay (get_or nodes k d) same has.kinds }

  pub own_stay : SameTraffic a v → All (IsOwn a) nodes → All (IsOwn v) nodes
  own_stay same own k d l = ∥∥₁_map (own k d l) (λ h. record {
    history = h.history;
    does = h.does;
    received = λ p inside. same.received _ ∙ h.received p inside;
    sent = λ q inside. same.sent _ ∙ h.sent q inside;
  })
