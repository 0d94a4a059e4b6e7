-- Rounds that follow each other, one by one.
use Rattle.std.proofs.Common.{◌≡◌, ℕ, ◌+◌, ◌<◌, List, ◌++◌, length, take, drop, refl, sym, ◌∙◌, subst, arith}
use Rattle.std.specs.Io.Iter.{u64_saturate}
use Rattle.flow_messages.specs.declared.ends.Ends.{Ghosts as EndsGhosts}
use Rattle.flow_base.specs.Transducers.{BehaviourLaws}
use Rattle.flow_base.specs.declared.transducer.Transducer.{Ghosts}
use Rattle.flow_boxes.specs.declared.boxes.Boxes.{Boxes}
use Rattle.flow_boxes.specs.Contents.{contents, view_of}
use Rattle.flow_boxes.specs.Rounds.{KeepsRound}
use Rattle.flow_shares.specs.declared.share.Share.{Share}
use Rattle.flow_shares.specs.meetings.SharedNetworks.{SharedNetwork, NoneCanStep, AreLookedAt}
use Rattle.flow_shares.proofs.OfMeetings.Lists.{written_back}
use Rattle.flow_drives.specs.loops.Standing.{boxes_of, moved_in, HaveMetSince, StandBetweenRounds}
use Rattle.flow_drives.specs.loops.Rounds.{IsRound, RoundsWent}
use Rattle.flow_drives.proofs.OfLoops.Shares.{even_boxes}
use Rattle.flow_drives.proofs.OfLoops.RoundLooked.{looked_met, stands_looked, moved_looked}
use Rattle.flow_drives.proofs.OfLoops.Following.{lead_since, lead_on, none_lead, moved_since, moved_on, none_moved_yet}

module _ {X : Type 0} {t : Ghosts X} {u : EndsGhosts Boxes} (network : SharedNetwork t) where
  -- edges that met twice have met
  met_then : (shares mid after : List (Share X Boxes t u)) → HaveMetSince network shares mid → HaveMetSince network mid after → HaveMetSince network shares after
  met_then shares mid after p q = record {
    numbers = q.numbers ∙ p.numbers;
    nodes = q.nodes ∙ p.nodes;
    fed = q.fed;
    traffic = λ s l. (
        let h : s < length (boxes_of mid) = omega (arith, l, even_boxes shares mid p.numbers) in
        let before = p.traffic s l in
        let after = q.traffic s h in
        record { sent = λ e. after.sent e ∙ before.sent e; received = λ e. after.received e ∙ before.received e }
        );
    met = q.met;
  }

  met_refl : (shares : List (Share X Boxes t u)) → StandBetweenRounds network shares → HaveMetSince network shares shares
  met_refl shares stand = record { numbers = refl; nodes = refl; fed = stand.fed; traffic = λ s l. record { sent = λ e. refl; received = λ e. refl }; met = stand.met }

  module _ (last after : List (Share X Boxes t u)) (since : HaveMetSince network last after) (stand : StandBetweenRounds network after)
      (same : moved_in network (boxes_of after) ≡ moved_in network (boxes_of last)) where
    -- a round whose edges have met once more is a round
    round_since : (shares : List (Share X Boxes t u)) → IsRound network shares last → IsRound network shares after
    round_since shares round = record {
      pumped = round.pumped;
      count = round.count;
      each = round.each;
      met = met_then round.pumped last after round.met since;
      stand = stand;
      moves = λ some. subst (λ n. moved_in network (boxes_of shares) < n) (sym same) (round.moves some);
    }

    -- and so many rounds went there
    went_since : (given : List (Share X Boxes t u)) (count : ℕ) → length after ≡ length last → RoundsWent network given last count → RoundsWent network given after count
    went_since given count even was = record {
      count = even ∙ was.count;
      lead = lead_since (IsRound network) (HaveMetSince network) last after round_since (λ shares met. met_then shares last after met since) given count was.lead;
      moves = moved_since (λ now. moved_in network (boxes_of now)) given last after count same was.moves;
    }

  -- one more round went further
  pub went_on : (given last back : List (Share X Boxes t u)) (count more : ℕ) → RoundsWent network given last count → (NoneCanStep last → ⊥) → IsRound network last back
      → length back ≡ length last → more ≡ u64_saturate (count + 1) → RoundsWent network given back more
  went_on given last back count more was steps round even counted = record {
    count = even ∙ was.count;
    lead = lead_on (IsRound network) (HaveMetSince network) given last back count more was.lead steps round counted;
    moves = moved_on (λ now. moved_in network (boxes_of now)) given last back count more (round.moves steps) counted was.moves;
  }

  -- where none was made, none went
  pub none_went : (shares : List (Share X Boxes t u)) → StandBetweenRounds network shares → RoundsWent network shares shares 0
  none_went shares stand = record {
    count = refl;
    lead = none_lead (IsRound network) (HaveMetSince network) shares shares (met_refl shares stand);
    moves = none_moved_yet (λ now. moved_in network (boxes_of now)) shares shares refl;
  }

  -- as many went to shares that were looked at, and written back
  pub record LookedBack (given shares now back : List (Share X Boxes t u)) (count : ℕ) : Type 0 where
    pub is : back ≡ now
    pub stand : StandBetweenRounds network back
    pub went : RoundsWent network given back count
    pub same : moved_in network (boxes_of back) ≡ moved_in network (boxes_of shares)

  pub looked_back : (sees : u.view ≡ view_of) (keeps : (a b : Boxes) → u.same a b → KeepsRound (contents a) (contents b)) → BehaviourLaws t.behaviour
      → (given shares at now : List (Share X Boxes t u)) (count len : ℕ) → len ≡ length shares → at ≡ shares → AreLookedAt at now
      → StandBetweenRounds network shares → RoundsWent network given shares count → LookedBack given shares now (take len (now ++ drop (length now) shares)) count
  looked_back sees keeps laws given shares at now count len long held look stand was =
      let looked = subst (λ l. AreLookedAt l now) held look in
      let stood = stands_looked network sees keeps shares now stand looked laws in
      let same = moved_looked network sees keeps shares now stand looked in
      let went = went_since shares now (looked_met network sees keeps shares now stand looked) stood same given count looked.count was in
      subst (λ back. LookedBack given shares now back count) (sym (written_back now shares len looked.count long)) (record { is = refl; stand = stood; went = went; same = same })
