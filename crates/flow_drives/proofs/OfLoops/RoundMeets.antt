-- All edges meet: what is known of the shares before and after.
use Rattle.std.proofs.Common.{◌≡◌, ℕ, ◌<◌, List, length, map, get_or, sym, ◌∙◌, ap, subst}
use Rattle.flow_messages.specs.declared.ends.Ends.{Ghosts as EndsGhosts}
use Rattle.flow_base.specs.declared.transducer.Transducer.{Ghosts}
use Rattle.flow_edges.specs.lanes.Rings.{Kept}
use Rattle.flow_boxes.specs.declared.boxes.Boxes.{Boxes}
use Rattle.flow_boxes.specs.Contents.{contents, view_of}
use Rattle.flow_shares.specs.declared.meetings.owners.EdgeOwners.{EdgeOwners}
use Rattle.flow_shares.specs.meetings.Met.{Met}
use Rattle.flow_shares.specs.meetings.BoxMeetings.{BoxesJoin}
use Rattle.flow_shares.specs.declared.share.Share.{Share}
use Rattle.flow_shares.specs.meetings.Joints.{BoxesHaveMet}
use Rattle.flow_shares.specs.meetings.RoundTheorems.{NothingMoved}
use Rattle.flow_shares.specs.meetings.Open.{AreOwners}
use Rattle.flow_shares.specs.meetings.Deals.{nodes_in}
use Rattle.flow_shares.specs.meetings.SharedNetworks.{SharedNetwork, numbers_of, AreFed}
use Rattle.flow_shares.proofs.OfMeetings.Lists.{mapped_twice}
use Rattle.flow_drives.specs.loops.Standing.{boxes_seen, AreLinked, boxes_of, HaveMetSince}
use Rattle.flow_drives.proofs.OfLoops.Levels.{have_met, nothing_moved}

module _ {X : Type 0} {t : Ghosts X} {u : EndsGhosts Boxes} where
  pub seen_is : (shares : List (Share X Boxes t u)) (boxes : List Boxes) → boxes ≡ map (λ share. share.ends) shares → boxes_seen boxes ≡ boxes_of shares
  seen_is shares boxes is = ap boxes_seen is ∙ mapped_twice contents (λ (share : Share X Boxes t u). share.ends) shares

  module _ (network : SharedNetwork t) (owners : List EdgeOwners) (are : AreOwners network.share network.edges owners)
      (shares : List (Share X Boxes t u)) (linked : AreLinked network.share network.edges (boxes_of shares) network.capacity)
      (boxes : List Boxes) (taken : boxes ≡ map (λ share. share.ends) shares) where
    pub their_links : AreLinked network.share network.edges (boxes_seen boxes) network.capacity
    their_links = subst (λ b. AreLinked network.share network.edges b network.capacity) (sym (seen_is shares boxes taken)) linked

    pub are_met : (now : List Boxes) (same : length now ≡ length boxes)
        → ((k : ℕ) (d : Boxes) → k < length boxes → Kept (view_of (get_or boxes k d)) (view_of (get_or now k d)))
        → ((k e : ℕ) (d : Boxes) → k < length boxes → (contents (get_or now k d)).capacity ≡ (contents (get_or boxes k d)).capacity)
        → ((e : ℕ) (w : EdgeOwners) (d : Boxes) → e < length owners → BoxesJoin (get_or now (get_or owners e w).writer d) (get_or now (get_or owners e w).reader d) e)
        → ((e : ℕ) (w : EdgeOwners) (d : Boxes) → e < length owners →
        Met (view_of (get_or now (get_or owners e w).writer d)) (view_of (get_or now (get_or owners e w).reader d))
        (contents (get_or now (get_or owners e w).writer d)).capacity e)
        → (after : List (Share X Boxes t u)) → numbers_of after ≡ numbers_of shares → nodes_in after ≡ nodes_in shares →
        map (λ share. share.ends) after ≡ now → AreFed after → HaveMetSince network shares after
    are_met now same kept places joined met after numbers nodes ends fed =
        let is : boxes_seen now ≡ boxes_of after = seen_is after now (sym ends) in
        record {
          numbers = numbers;
          nodes = nodes;
          fed = fed;
          traffic = subst (λ b. NothingMoved (length b) b (boxes_of after)) (seen_is shares boxes taken)
              (subst (λ b. NothingMoved (length (boxes_seen boxes)) (boxes_seen boxes) b) is
              (nothing_moved network.share network.edges owners are boxes network.capacity their_links now same kept places joined met));
          met = subst (λ b. BoxesHaveMet network.share network.edges b network.capacity) is
              (have_met network.share network.edges owners are boxes network.capacity their_links now same kept places joined met);
        }
