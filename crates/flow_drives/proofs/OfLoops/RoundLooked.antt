-- Shares between two rounds, after a look at their boxes.
use Rattle.std.proofs.Common.{◌≡◌, ℕ, ◌<◌, List, [], length, map, get_or, refl, sym, ◌∙◌, ap, subst, arith}
use Rattle.std.proofs.lemmas.List.{length-map}
use Rattle.kahn.specs.Configurations.{moved}
use Rattle.flow_messages.specs.declared.ends.Ends.{Ghosts as EndsGhosts}
use Rattle.flow_base.specs.Transducers.{BehaviourLaws}
use Rattle.flow_base.specs.declared.transducer.Transducer.{Ghosts}
use Rattle.flow_networks.specs.Edges.{edge_at}
use Rattle.flow_edges.specs.lanes.Rings.{Kept}
use Rattle.flow_boxes.specs.declared.boxes.Boxes.{Boxes}
use Rattle.flow_boxes.specs.Contents.{contents, view_of}
use Rattle.flow_boxes.specs.Rounds.{IsLinked, KeepsRound}
use Rattle.flow_boxes.specs.RoundLaws.{keeps_refl}
use Rattle.flow_boxes.proofs.Linking.{writer-linked, reader-linked}
use Rattle.flow_shares.specs.meetings.Met.{Met, met_kept}
use Rattle.flow_shares.specs.Deals.{share_of}
use Rattle.flow_shares.specs.declared.share.Share.{Share}
use Rattle.flow_shares.specs.Lending.{ShareNodes, share_nodes}
use Rattle.flow_shares.proofs.Later.{same_places_refl}
use Rattle.flow_shares.proofs.Moves.{moved_none}
use Rattle.flow_shares.specs.meetings.Joints.{nodes_at, boxes_at, writer_boxes, reader_boxes, BoxesHaveMet}
use Rattle.flow_shares.specs.meetings.RoundTheorems.{HaveGoneOn, net_of}
use Rattle.flow_shares.proofs.OfMeetings.Calm.{all_met}
use Rattle.flow_shares.proofs.OfMeetings.Carried.{carrying_keeps_the_configuration}
use Rattle.flow_shares.proofs.OfMeetings.Parts.{any_of}
use Rattle.flow_shares.proofs.OfMeetings.Seats.{reader_inside, writer_inside}
use Rattle.flow_shares.specs.meetings.Deals.{nodes_in}
use Rattle.flow_shares.specs.meetings.SharedNetworks.{SharedNetwork, view_at, AreLookedAt}
use Rattle.flow_drives.specs.loops.Standing.{boxes_of, moved_in, HaveMetSince, StandBetweenRounds}
use Rattle.flow_drives.proofs.OfLoops.Levels.{are_carried}
use Rattle.flow_drives.proofs.OfLoops.Rounds.{stands}
use Rattle.flow_drives.proofs.OfLoops.ShareLists.{count_dealt, same_of_bodies, same_nodes, fed_stay, still_there, looked_bodies, looked_kept}
use Rattle.flow_drives.proofs.OfLoops.Shares.{boxes_are, views_are, even_boxes}

module _ {X : Type 0} {t : Ghosts X} {u : EndsGhosts Boxes} (network : SharedNetwork t) (sees : u.view ≡ view_of) (keeps : (a b : Boxes) → u.same a b → KeepsRound (contents a) (contents b))
    (shares after : List (Share X Boxes t u)) (stand : StandBetweenRounds network shares) (looked : AreLookedAt shares after) where
  there : (s : ℕ) → s < length shares → s < length after
  there = still_there shares after looked

  bodies : map share_nodes after ≡ map share_nodes shares
  bodies = looked_bodies shares after looked

  keeps_at : (s : ℕ) → s < length shares → KeepsRound (boxes_at (boxes_of shares) s) (boxes_at (boxes_of after) s)
  keeps_at s l =
      let d = any_of shares s l in
      subst (λ a. KeepsRound a (boxes_at (boxes_of after) s)) (sym (boxes_are shares s d l))
      (subst (λ b. KeepsRound (contents (get_or shares s d).ends) b) (sym (boxes_are after s d (there s l))) (keeps _ _ (looked.each s d l).same))

  kept_at : (s : ℕ) → s < length shares → Kept (boxes_at (boxes_of shares) s).ends (boxes_at (boxes_of after) s).ends
  kept_at s l =
      subst (λ a. Kept a (boxes_at (boxes_of after) s).ends) (views_are sees shares s l)
      (subst (λ b. Kept (view_at shares s) b) (views_are sees after s (there s l)) (looked_kept shares after looked s l))

  writes : (e : ℕ) → e < length network.edges → share_of network.share (edge_at network.edges e).writer < length shares
  writes e l = omega (arith, (stand.deals.inside (edge_at network.edges e).writer (writer_inside network.edges network.nodes network.fit e l)).0, count_dealt shares)

  reads : (e : ℕ) → e < length network.edges → share_of network.share (edge_at network.edges e).reader < length shares
  reads e l = omega (arith, (stand.deals.inside (edge_at network.edges e).reader (reader_inside network.edges network.nodes network.fit e l)).0, count_dealt shares)

  linked : (e : ℕ) → e < length network.edges → IsLinked (writer_boxes network.share network.edges (boxes_of after) e) (reader_boxes network.share network.edges (boxes_of after) e) e
  linked e l =
      reader-linked (writer_boxes network.share network.edges (boxes_of after) e) (reader_boxes network.share network.edges (boxes_of shares) e)
      (reader_boxes network.share network.edges (boxes_of after) e) e
      (writer-linked (writer_boxes network.share network.edges (boxes_of shares) e) (writer_boxes network.share network.edges (boxes_of after) e)
      (reader_boxes network.share network.edges (boxes_of shares) e) e (stand.met.linked e l) (keeps_at _ (writes e l)))
      (keeps_at _ (reads e l))

  capacity : (e : ℕ) → e < length network.edges → (writer_boxes network.share network.edges (boxes_of after) e).capacity ≡ network.capacity
  capacity e l = (keeps_at _ (writes e l)).boxes.capacity ∙ stand.met.capacity e l

  met : BoxesHaveMet network.share network.edges (boxes_of after) network.capacity
  met = record {
    linked = linked;
    carried = λ e l.
        are_carried _ _ e (linked e l)
        (subst (λ n. Met (writer_boxes network.share network.edges (boxes_of after) e).ends (reader_boxes network.share network.edges (boxes_of after) e).ends n e) (sym (capacity e l))
        (met_kept _ _ _ _ network.capacity e (all_met network.capacity network.share network.edges (boxes_of shares) stand.met e l) (kept_at _ (writes e l)) (kept_at _ (reads e l))));
    capacity = capacity;
  }

  -- that is as after a meeting
  pub looked_met : HaveMetSince network shares after
  looked_met = record {
    numbers = same_of_bodies shares after bodies (λ (b : ShareNodes t). b.number);
    nodes = same_nodes shares after bodies;
    fed = fed_stay shares after bodies stand.fed;
    traffic = λ s l. (kept_at s (omega (arith, l, length-map shares (λ (share : Share X Boxes t u). contents share.ends)))).traffic;
    met = met;
  }

  gone_nowhere : HaveGoneOn (nodes_in shares) (nodes_in shares) (boxes_of shares) (boxes_of shares)
  gone_nowhere = record {
    count = refl;
    places = λ s l. same_places_refl (nodes_at (nodes_in shares) s);
    moved = λ s l. moved_none (nodes_at (nodes_in shares) s) (boxes_at (boxes_of shares) s).ends;
    kept = λ s l. keeps_refl (boxes_at (boxes_of shares) s);
  }

  pub stands_looked : BehaviourLaws t.behaviour → StandBetweenRounds network after
  stands_looked laws = stands laws network shares shares after stand gone_nowhere looked_met

  pub moved_looked : moved_in network (boxes_of after) ≡ moved_in network (boxes_of shares)
  moved_looked =
      ap (moved (net_of network.nodes network.edges))
      (carrying_keeps_the_configuration t network.share network.edges [] (boxes_of shares) (boxes_of after) (even_boxes shares after looked_met.numbers) looked_met.traffic)
