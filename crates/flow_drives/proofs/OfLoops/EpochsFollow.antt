-- Epochs that follow each other, one by one.
use Rattle.std.proofs.Common.{◌≡◌, ℕ, ◌+◌, ◌<◌, List, ◌++◌, length, take, drop, get_or, Some, refl, sym, ◌∙◌, ap, subst, arith}
use Rattle.std.specs.Io.Iter.{u64_saturate}
use Rattle.kahn.specs.Runs.{AtRest}
use Rattle.flow_messages.specs.Ends.{View, SameTraffic}
use Rattle.flow_messages.specs.declared.ends.Ends.{Ghosts as EndsGhosts}
use Rattle.flow_base.specs.declared.transducer.Transducer.{Ghosts}
use Rattle.flow_edges.specs.declared.lanes.rings.Rings.{Rings}
use Rattle.flow_edges.specs.lanes.Rings.{SameRings}
use Rattle.flow_edges.specs.lanes.SameEnds.{same_rings_trans}
use Rattle.flow_shares.specs.declared.share.Share.{Share}
use Rattle.flow_shares.specs.Lending.{ShareNodes, share_nodes}
use Rattle.flow_shares.specs.Shares.{HaveMoved, HaveMovedAndLost}
use Rattle.flow_shares.specs.meetings.Met.{kept_trans}
use Rattle.flow_shares.specs.meetings.RoundTheorems.{net_of}
use Rattle.flow_shares.specs.meetings.SharedNetworks.{SharedNetwork, view_at, AreFed, AreCalm, NoneCanStep, AreLookedAt}
use Rattle.flow_shares.proofs.OfMeetings.Lists.{written_back}
use Rattle.flow_drives.specs.loops.Epochs.{moved_in, AreOfOneGraph, HaveMetSince, IsEpoch}
use Rattle.flow_drives.specs.loops.Few.{IsFedEpoch, EpochsWent}
use Rattle.flow_drives.proofs.OfLoops.EpochLooked.{looked_met}
use Rattle.flow_drives.proofs.OfLoops.Following.{lead_since, lead_on, none_lead, moved_since, moved_on, none_moved_yet}
use Rattle.flow_drives.proofs.OfLoops.ShareLists.{same_count, same_body, fed_stay}
use Rattle.flow_drives.proofs.OfLoops.Whole.{stands_sound, moved_same, met_traffic, met_later, met_stood, later_then, grows_between, moved_between, lost_between}

same_refl : (a : View) → SameTraffic a a
same_refl a = record { sent = λ e. refl; received = λ e. refl }

module _ {X : Type 0} {t : Ghosts X} {u : EndsGhosts Rings} (network : SharedNetwork t) where
  -- ends that met twice have met
  met_then : (shares mid after : List (Share X Rings t u)) → HaveMetSince network shares mid → HaveMetSince network mid after → HaveMetSince network shares after
  met_then shares mid after p q = record {
    bodies = q.bodies ∙ p.bodies;
    ends = λ s d l. same_rings_trans _ _ _ (p.ends s d l) (q.ends s d (omega (arith, l, same_count shares mid p.bodies)));
    kept = λ s l. kept_trans _ _ _ (p.kept s l) (q.kept s (omega (arith, l, same_count shares mid p.bodies)));
    graph = q.graph;
    met = q.met;
  }

  -- an epoch whose ends have met once more is an epoch
  module _ (shares back after : List (Share X Rings t u)) (epoch : IsEpoch network shares back) (since : HaveMetSince network back after) where
    body : (s : ℕ) (d : Share X Rings t u) → s < length shares → share_nodes (get_or after s d) ≡ share_nodes (get_or back s d)
    body s d l = same_body back after since.bodies s d (omega (arith, l, epoch.later.count))

    traffic : (s : ℕ) → s < length shares → SameTraffic (view_at back s) (view_at after s)
    traffic s l = met_traffic network back after since s (omega (arith, l, epoch.later.count))

    fed_before : AreFed after → AreFed back
    fed_before fed s d l = sym (ap (λ (x : ShareNodes t). x.starved) (same_body back after since.bodies s d l)) ∙ fed s d (omega (arith, l, same_count back after since.bodies))

    calm_before : AreCalm after → AreCalm back
    calm_before calm s d l = sym (ap (λ (x : ShareNodes t). x.moved) (same_body back after since.bodies s d l)) ∙ calm s d (omega (arith, l, same_count back after since.bodies))

    calm_after : AreCalm back → AreCalm after
    calm_after calm s d l =
        let h : s < length back = omega (arith, l, same_count back after since.bodies) in
        ap (λ (x : ShareNodes t). x.moved) (same_body back after since.bodies s d h) ∙ calm s d h

    same_moved : moved_in network after ≡ moved_in network back
    same_moved = moved_same network back after epoch.graph (met_traffic network back after since)

    epoch_since : IsEpoch network shares after
    epoch_since = record {
      later = later_then shares back after epoch.later (met_later network back after since);
      graph = since.graph;
      met = since.met;
      grown = λ s l. grows_between (view_at shares s) (view_at shares s) (view_at back s) (view_at after s) (same_refl (view_at shares s)) (epoch.grown s l) (traffic s l);
      went = λ s d l fed. (
          subst (λ n. HaveMoved (get_or shares s d).nodes.items n (view_at shares s) (view_at after s)) (sym (ap (λ (x : ShareNodes t). x.nodes) (body s d l)))
          (moved_between (get_or shares s d).nodes.items (get_or back s d).nodes.items (view_at shares s) (view_at shares s) (view_at back s)
          (view_at after s) (same_refl (view_at shares s)) (traffic s l)
          (epoch.went s d l (sym (ap (λ (x : ShareNodes t). x.starved) (body s d l)) ∙ fed)))
          );
      lost = λ s d l starved. (
          subst (λ n. HaveMovedAndLost (get_or shares s d).nodes.items n (view_at shares s) (view_at after s)) (sym (ap (λ (x : ShareNodes t). x.nodes) (body s d l)))
          (lost_between (get_or shares s d).nodes.items (get_or back s d).nodes.items (view_at shares s) (view_at shares s) (view_at back s)
          (view_at after s) (same_refl (view_at shares s)) (traffic s l)
          (epoch.lost s d l (sym (ap (λ (x : ShareNodes t). x.starved) (body s d l)) ∙ starved)))
          );
      sound = stands_sound network after since.met;
      calm = λ fed still. same_moved ∙ epoch.calm (fed_before fed) (calm_before still);
      busy = λ fed some. subst (λ n. moved_in network shares < n) (sym same_moved) (epoch.busy (fed_before fed) (λ still. some (calm_after still)));
      moves = λ fed some. subst (λ n. moved_in network shares < n) (sym same_moved) (epoch.moves (fed_before fed) some);
      stood = λ fed same before graph. met_stood network back after since epoch.graph graph ∙ epoch.stood (fed_before fed) (sym same_moved ∙ same) before epoch.graph;
      rest = λ fed same graph. subst (AtRest t.behaviour.process (net_of network.nodes network.edges) (Some network.capacity))
          (sym (met_stood network back after since epoch.graph graph)) (epoch.rest (fed_before fed) (sym same_moved ∙ same) epoch.graph);
    }

  -- so many epochs went to where the ends have met once more
  module _ (given shares after : List (Share X Rings t u)) (count : ℕ) (since : HaveMetSince network shares after) where
    went_since : EpochsWent network given shares count → EpochsWent network given after count
    went_since was =
        let fed = fed_stay shares after since.bodies was.fed in
        record {
          later = later_then given shares after was.later (met_later network shares after since);
          graph = since.graph;
          met = since.met;
          fed = fed;
          lead = lead_since (IsFedEpoch network) (HaveMetSince network) shares after (λ before is. (epoch_since before shares after is.0 since, fed))
              (λ before met. met_then before shares after met since) given count was.lead;
          moves = moved_since (moved_in network) given shares after count (moved_same network shares after was.graph (met_traffic network shares after since)) was.moves;
        }

  -- one more epoch went further
  pub went_on : (given last back : List (Share X Rings t u)) (count more : ℕ) → EpochsWent network given last count → (NoneCanStep last → ⊥) → IsEpoch network last back → AreFed back
      → more ≡ u64_saturate (count + 1) → EpochsWent network given back more
  went_on given last back count more was steps epoch fed counted = record {
    later = later_then given last back was.later epoch.later;
    graph = epoch.graph;
    met = epoch.met;
    fed = fed;
    lead = lead_on (IsFedEpoch network) (HaveMetSince network) given last back count more was.lead steps (epoch, fed) counted;
    moves = moved_on (moved_in network) given last back count more (epoch.moves fed steps) counted was.moves;
  }

  -- where the ends have met, no epoch went
  pub none_went : (given met : List (Share X Rings t u)) → AreOfOneGraph network given → AreFed given → HaveMetSince network given met → EpochsWent network given met 0
  none_went given met graph fed since = record {
    later = met_later network given met since;
    graph = since.graph;
    met = since.met;
    fed = fed_stay given met since.bodies fed;
    lead = none_lead (IsFedEpoch network) (HaveMetSince network) given met since;
    moves = none_moved_yet (moved_in network) given met (moved_same network given met graph (met_traffic network given met since));
  }

  -- as many went to shares that were looked at, and written back
  pub record LookedBack (given shares now back : List (Share X Rings t u)) (count : ℕ) : Type 0 where
    pub is : back ≡ now
    pub went : EpochsWent network given back count
    pub same : moved_in network back ≡ moved_in network shares

  pub looked_back : (same_is : (a b : Rings) → u.same a b → SameRings a b) (given shares at now : List (Share X Rings t u)) (count len : ℕ) → len ≡ length shares
      → at ≡ shares → AreLookedAt at now → EpochsWent network given shares count → LookedBack given shares now (take len (now ++ drop (length now) shares)) count
  looked_back same_is given shares at now count len long held look was =
      let looked = subst (λ l. AreLookedAt l now) held look in
      let since : HaveMetSince network shares now = looked_met same_is network shares now was.graph was.met looked in
      let same = moved_same network shares now was.graph (met_traffic network shares now since) in
      subst (λ back. LookedBack given shares now back count) (sym (written_back now shares len looked.count long))
      (record { is = refl; went = went_since given shares now count since was; same = same })
