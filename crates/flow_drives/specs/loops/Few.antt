-- Epochs that follow each other.
use Rattle.std.specs.Prelude.{ℕ, ◌*◌, ◌≤◌, List, length}
use Rattle.kahn.specs.Basics.{total}
use Rattle.kahn.specs.Traffic.{WholeTraffic}
use Rattle.flow_messages.specs.declared.ends.Ends.{Ghosts as EndsGhosts}
use Rattle.flow_base.specs.declared.transducer.Transducer.{Ghosts}
use Rattle.flow_edges.specs.declared.lanes.rings.Rings.{Rings}
use Rattle.flow_shares.specs.declared.share.Share.{Share}
use Rattle.flow_shares.specs.meetings.RoundTheorems.{net_of}
use Rattle.flow_shares.specs.meetings.SharedNetworks.{SharedNetwork, AreFed}
use Rattle.flow_drives.specs.loops.Epochs.{moved_in, AreLater, AreOfOneGraph, SharesHaveMet, IsEpoch, HaveMetSince}
use Rattle.flow_drives.specs.loops.Follow.{Follow, Lead, MovedAtEach}

module _ {X : Type 0} {t : Ghosts X} {u : EndsGhosts Rings} (network : SharedNetwork t) where
  -- an epoch, and memory was refused to no share
  abbrev pub IsFedEpoch : List (Share X Rings t u) → List (Share X Rings t u) → Type 0
  IsFedEpoch shares back = IsEpoch network shares back × AreFed back

  -- So many epochs led from these shares to those.
  abbrev pub EpochsLead : List (Share X Rings t u) → List (Share X Rings t u) → ℕ → Type 0
  EpochsLead shares last count = Lead IsFedEpoch (HaveMetSince network) shares last count

  -- They are the same shares later, whose ends have met. So many epochs led there, each of which moved a message, and memory
  -- was refused to none.
  pub record EpochsWent (shares last : List (Share X Rings t u)) (epochs : ℕ) : Type 0 where
    pub later : AreLater shares last
    pub graph : AreOfOneGraph network last
    pub met : SharesHaveMet network last
    pub fed : AreFed last
    pub lead : EpochsLead shares last epochs
    pub moves : MovedAtEach (moved_in network) shares last epochs

-- The statement on their number is the contract of a function in src/theorems.rt: there are at most twice as many as messages that
-- are sent in the whole traffic of the network
abbrev pub EpochsAreFew : {X : Type 0} → Ghosts X → EndsGhosts Rings → Type 0
EpochsAreFew {X} t u =
    (network : SharedNetwork t) (shares : List (Share X Rings t u)) (backs : List (List (Share X Rings t u))) (whole : WholeTraffic t.behaviour.process (net_of network.nodes network.edges))
    → Follow (IsFedEpoch network) shares backs
    → length backs ≤ 2 * total (λ e. length (whole.end.sent e)) (length network.edges)
