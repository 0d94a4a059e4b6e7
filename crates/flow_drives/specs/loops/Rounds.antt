-- Rounds that follow each other.
use Rattle.std.specs.Prelude.{◌≡◌, ℕ, ◌<◌, List, length, slice_index_or}
use Rattle.flow_messages.specs.declared.ends.Ends.{Ghosts as EndsGhosts}
use Rattle.flow_base.specs.declared.transducer.Transducer.{Ghosts}
use Rattle.flow_boxes.specs.declared.boxes.Boxes.{Boxes}
use Rattle.flow_shares.specs.declared.share.Share.{Share}
use Rattle.flow_shares.specs.Pumps.{IsPumped}
use Rattle.flow_shares.specs.meetings.SharedNetworks.{SharedNetwork, NoneCanStep}
use Rattle.flow_drives.specs.loops.Follow.{Lead, MovedAtEach}
use Rattle.flow_drives.specs.loops.Standing.{boxes_of, moved_in, HaveMetSince, StandBetweenRounds}

module _ {X : Type 0} {t : Ghosts X} {u : EndsGhosts Boxes} (network : SharedNetwork t) where
  -- A round: each share was pumped, memory was refused to none, and then the ends of all edges met.
  pub record IsRound (shares back : List (Share X Boxes t u)) : Type 0 where
    pub pumped : List (Share X Boxes t u)
    pub count : length pumped ≡ length shares
    pub each : (s : ℕ) (d : Share X Boxes t u) → s < length shares → IsPumped (slice_index_or shares s d) (slice_index_or pumped s d)
    pub met : HaveMetSince network pumped back
    -- they stand where a run of the network led, and a message was sent or received where a node could step
    pub stand : StandBetweenRounds network back
    pub moves : (NoneCanStep shares → ⊥) → moved_in network (boxes_of shares) < moved_in network (boxes_of back)

  -- So many rounds led from these shares to those.
  abbrev pub RoundsLead : List (Share X Boxes t u) → List (Share X Boxes t u) → ℕ → Type 0
  RoundsLead shares last count = Lead IsRound (HaveMetSince network) shares last count

  -- They are as many shares, and so many rounds led there, each of which moved a message.
  pub record RoundsWent (shares last : List (Share X Boxes t u)) (rounds : ℕ) : Type 0 where
    pub count : length last ≡ length shares
    pub lead : RoundsLead shares last rounds
    pub moves : MovedAtEach (λ now. moved_in network (boxes_of now)) shares last rounds
