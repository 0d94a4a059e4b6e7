-- Epochs that follow each other are few.
use Rattle.std.proofs.Common.{ℕ, ◌+◌, ◌≤◌, List, [], ◌∷◌, length, arith}
use native.Mathlib.Bridge.{le_prop}
use mathlib.Core.Logic.{∥∥₁_elim}
use Rattle.kahn.specs.Configurations.{moved}
use Rattle.kahn.specs.Traffic.{WholeTraffic}
use Rattle.flow_messages.specs.declared.ends.Ends.{Ghosts as EndsGhosts}
use Rattle.flow_base.specs.declared.transducer.Transducer.{Ghosts}
use Rattle.flow_edges.specs.declared.lanes.rings.Rings.{Rings}
use Rattle.flow_shares.specs.declared.share.Share.{Share}
use Rattle.flow_shares.specs.meetings.RoundTheorems.{net_of}
use Rattle.flow_shares.specs.meetings.SharedNetworks.{SharedNetwork, AreFed}
use Rattle.flow_drives.specs.loops.Epochs.{moved_in, shares_configuration, IsEpoch}
use Rattle.flow_drives.specs.loops.Few.{IsFedEpoch, EpochsAreFew}
use Rattle.flow_drives.specs.loops.Follow.{Follow}

module _ {X : Type 0} (t : Ghosts X) (u : EndsGhosts Rings) (network : SharedNetwork t) (whole : WholeTraffic t.behaviour.process (net_of network.nodes network.edges)) where
  abbrev most : ℕ
  most = moved (net_of network.nodes network.edges) whole.end

  within : (shares back : List (Share X Rings t u)) → IsEpoch network shares back → AreFed back → moved_in network back ≤ most
  within shares back epoch fed = ∥∥₁_elim (epoch.sound fed epoch.graph) (λ x y. le_prop x y) (λ s. whole.most (shares_configuration network back epoch.graph) s)

  few : (shares : List (Share X Rings t u)) (backs : List (List (Share X Rings t u))) → moved_in network shares ≤ most → Follow (IsFedEpoch network) shares backs
      → length backs + moved_in network shares ≤ most
  few shares [] low follow = omega (arith, low)
  few shares (back ∷ more) low (steps, (epoch, fed), follow) = omega (arith, epoch.moves fed steps, few back more (within shares back epoch fed) follow)

  pub at_most : (shares : List (Share X Rings t u)) (backs : List (List (Share X Rings t u))) → Follow (IsFedEpoch network) shares backs → length backs ≤ most
  at_most shares [] follow = omega arith
  at_most shares (back ∷ more) (steps, (epoch, fed), follow) = omega (arith, epoch.moves fed steps, few back more (within shares back epoch fed) follow)

pub epochs_are_few : {X : Type 0} (t : Ghosts X) (u : EndsGhosts Rings) → EpochsAreFew t u
epochs_are_few t u network shares backs whole follow = omega (arith, at_most t u network whole shares backs follow, whole.twice)
