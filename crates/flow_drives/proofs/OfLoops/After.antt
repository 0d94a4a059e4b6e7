-- What a round leads to, from what is known of its pumps and its carrying.
use Rattle.std.proofs.Common.{◌≡◌, ℕ, ◌<◌, List, length, get_or}
use Rattle.flow_messages.specs.declared.ends.Ends.{Ghosts as EndsGhosts}
use Rattle.flow_base.specs.Transducers.{BehaviourLaws}
use Rattle.flow_base.specs.declared.transducer.Transducer.{Ghosts}
use Rattle.flow_boxes.specs.declared.boxes.Boxes.{Boxes}
use Rattle.flow_boxes.specs.Contents.{contents, view_of}
use Rattle.flow_boxes.specs.Rounds.{KeepsRound}
use Rattle.flow_shares.specs.declared.share.Share.{Share}
use Rattle.flow_shares.specs.Pumps.{IsPumped}
use Rattle.flow_shares.specs.meetings.RoundTheorems.{HaveGoneOn}
use Rattle.flow_shares.specs.meetings.Deals.{nodes_in}
use Rattle.flow_shares.specs.meetings.SharedNetworks.{SharedNetwork, AreFed, NoneCanStep}
use Rattle.flow_drives.specs.loops.Standing.{boxes_of, moved_in, HaveMetSince, StandBetweenRounds}
use Rattle.flow_drives.proofs.OfLoops.Shares.{gone_on, none_could_step}
use Rattle.flow_drives.proofs.OfLoops.Rounds.{stands, moves}

module _ {X : Type 0} {t : Ghosts X} {u : EndsGhosts Boxes} (laws : BehaviourLaws t.behaviour) (network : SharedNetwork t) (sees : u.view ≡ view_of)
    (keeps : (a b : Boxes) → u.same a b → KeepsRound (contents a) (contents b))
    (shares back new : List (Share X Boxes t u)) (stand : StandBetweenRounds network shares) (count : length back ≡ length shares)
    (each : (k : ℕ) (d : Share X Boxes t u) → k < length shares → IsPumped (get_or shares k d) (get_or back k d)) (fed : AreFed back) (met : HaveMetSince network back new) where
  went : HaveGoneOn (nodes_in shares) (nodes_in back) (boxes_of shares) (boxes_of back)
  went = gone_on sees keeps shares back count each fed

  pub stands_after : StandBetweenRounds network new
  stands_after = stands laws network shares back new stand went met

  -- where a node could step, a message moved
  pub moves_after : (NoneCanStep shares → ⊥) → moved_in network (boxes_of shares) < moved_in network (boxes_of new)
  moves_after some = moves laws network shares back new stand went met (λ nothing. some (none_could_step sees keeps shares back count each fed nothing))
