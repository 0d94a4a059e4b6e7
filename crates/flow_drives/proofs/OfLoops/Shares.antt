-- What a round makes of the lists of all shares: of their nodes, and of what is seen of their boxes.
use Rattle.std.proofs.Common.{◌≡◌, ℕ, ◌<◌, false, List, length, get_or, sym, ◌∙◌, ap, subst, arith}
use Rattle.std.proofs.lemmas.List.{get_or-map, length-map}
use Rattle.flow_messages.specs.Ends.{View, SameTraffic}
use Rattle.flow_messages.specs.declared.ends.Ends.{Ghosts as EndsGhosts}
use Rattle.flow_base.specs.declared.transducer.Transducer.{Ghosts}
use Rattle.flow_networks.specs.declared.edge.Edge.{Edge}
use Rattle.flow_networks.specs.declared.placed.Placed.{Placed}
use Rattle.flow_networks.specs.Edges.{edge_at}
use Rattle.flow_networks.specs.Skeletons.{FitTogether, AreSamePlaces}
use Rattle.flow_boxes.specs.declared.boxes.Boxes.{Boxes}
use Rattle.flow_boxes.specs.Contents.{Contents, contents, view_of}
use Rattle.flow_boxes.specs.Rounds.{KeepsRound}
use Rattle.flow_boxes.proofs.Linking.{writer-linked, reader-linked}
use Rattle.flow_shares.specs.declared.share.Share.{Share}
use Rattle.flow_shares.specs.Shares.{HaveMoved, AreStuck}
use Rattle.flow_shares.specs.Pumps.{IsPumped}
use Rattle.flow_shares.specs.Deals.{share_of, AreDealt}
use Rattle.flow_shares.specs.meetings.Joints.{no_contents, nodes_at, boxes_at, writer_boxes, reader_boxes, BoxesHaveMet}
use Rattle.flow_shares.specs.meetings.RoundTheorems.{NothingMoved, HaveGoneOn, AllStuck}
use Rattle.flow_shares.proofs.OfMeetings.Parts.{any_of}
use Rattle.flow_shares.proofs.OfMeetings.Seats.{reader_inside, writer_inside}
use Rattle.flow_shares.specs.meetings.Deals.{nodes_in}
use Rattle.flow_shares.specs.meetings.SharedNetworks.{view_at, numbers_of, AreFed, NoneCanStep}
use Rattle.flow_drives.specs.loops.Standing.{AreLinked, boxes_of}
use Rattle.flow_drives.proofs.OfLoops.ShareLists.{count_dealt, nodes_are, view_is, all_are_stuck}

module _ {X : Type 0} {t : Ghosts X} {u : EndsGhosts Boxes} where
  pub boxes_are : (shares : List (Share X Boxes t u)) (s : ℕ) (d : Share X Boxes t u) → s < length shares → boxes_at (boxes_of shares) s ≡ contents (get_or shares s d).ends
  boxes_are shares s d l = get_or-map (λ (share : Share X Boxes t u). contents share.ends) shares s d no_contents l

  -- what share s sees is what is seen of its boxes
  pub views_are : u.view ≡ view_of → (shares : List (Share X Boxes t u)) (s : ℕ) → s < length shares → view_at shares s ≡ (boxes_at (boxes_of shares) s).ends
  views_are sees shares s l =
      let d = any_of shares s l in
      view_is shares s d l ∙ ap (λ (v : Boxes → View). v (get_or shares s d).ends) sees ∙ ap (λ (b : Contents). b.ends) (sym (boxes_are shares s d l))

  -- shares with the same numbers have as many boxes
  pub even_boxes : (shares after : List (Share X Boxes t u)) → numbers_of after ≡ numbers_of shares → length (boxes_of after) ≡ length (boxes_of shares)
  even_boxes shares after same =
      length-map after (λ (share : Share X Boxes t u). contents share.ends) ∙ sym (length-map after (λ (share : Share X Boxes t u). share.number))
      ∙ ap length same ∙ length-map shares (λ (share : Share X Boxes t u). share.number) ∙ sym (length-map shares (λ (share : Share X Boxes t u). contents share.ends))

  -- where no node can step by the ends of its share, none can by its boxes
  pub all_stuck : u.view ≡ view_of → (shares : List (Share X Boxes t u)) → NoneCanStep shares → AllStuck (nodes_in shares) (boxes_of shares)
  all_stuck sees shares none s l = subst (λ v. AreStuck v (nodes_at (nodes_in shares) s)) (views_are sees shares s (omega (arith, l, count_dealt shares))) (all_are_stuck shares none s l)

  module _ (sees : u.view ≡ view_of) (keeps : (a b : Boxes) → u.same a b → KeepsRound (contents a) (contents b)) (shares back : List (Share X Boxes t u)) (count : length back ≡ length shares)
      (each : (k : ℕ) (d : Share X Boxes t u) → k < length shares → IsPumped (get_or shares k d) (get_or back k d)) (fed : AreFed back) where
    there : (s : ℕ) → s < length (nodes_in shares) → s < length shares
    there s l = omega (arith, l, count_dealt shares)

    module _ (s : ℕ) (l : s < length shares) where
      low : s < length back
      low = omega (arith, l, count)

      -- some share
      abbrev any : Share X Boxes t u
      any = any_of shares s l

      -- the share before and after
      abbrev old : Share X Boxes t u
      old = get_or shares s any

      abbrev new : Share X Boxes t u
      new = get_or back s any

      pumped : IsPumped old new
      pumped = each s any l

      is_fed : new.starved ≡ false
      is_fed = fed s any low

      -- what holds of the share holds of what the lists have of it
      of_lists : (Q : List (Placed X t) → List (Placed X t) → Contents → Contents → Type 0) → Q old.nodes.items new.nodes.items (contents old.ends) (contents new.ends)
          → Q (nodes_at (nodes_in shares) s) (nodes_at (nodes_in back) s) (boxes_at (boxes_of shares) s) (boxes_at (boxes_of back) s)
      of_lists Q q =
          subst (λ n. Q n (nodes_at (nodes_in back) s) (boxes_at (boxes_of shares) s) (boxes_at (boxes_of back) s)) (sym (nodes_are shares s any l))
          (subst (λ m. Q old.nodes.items m (boxes_at (boxes_of shares) s) (boxes_at (boxes_of back) s)) (sym (nodes_are back s any low))
          (subst (λ a. Q old.nodes.items new.nodes.items a (boxes_at (boxes_of back) s)) (sym (boxes_are shares s any l))
          (subst (λ b. Q old.nodes.items new.nodes.items (contents old.ends) b) (sym (boxes_are back s any low)) q)))

      kept : KeepsRound (boxes_at (boxes_of shares) s) (boxes_at (boxes_of back) s)
      kept = of_lists (λ n m a b. KeepsRound a b) (keeps old.ends new.ends pumped.same)

    pub gone_on : HaveGoneOn (nodes_in shares) (nodes_in back) (boxes_of shares) (boxes_of back)
    gone_on = record {
      count = count_dealt back ∙ count ∙ sym (count_dealt shares);
      places = λ s l. of_lists s (there s l) (λ n m a b. AreSamePlaces n m) (pumped s (there s l)).places;
      moved = λ s l.
          let h = there s l in
          of_lists s h (λ n m a b. HaveMoved n m a.ends b.ends)
          (subst (λ (v : Boxes → View). HaveMoved (old s h).nodes.items (new s h).nodes.items (v (old s h).ends) (v (new s h).ends)) sees ((pumped s h).moved (is_fed s h)));
      kept = λ s l. kept s (there s l);
    }

    -- where nothing moved, no node could step
    pub none_could_step : NothingMoved (length (nodes_in shares)) (boxes_of shares) (boxes_of back) → NoneCanStep shares
    none_could_step nothing s d l = (each s d l).progress (fed s d (low s l)) (same d)
      where
        same : (d : Share X Boxes t u) → SameTraffic (u.view (get_or shares s d).ends) (u.view (get_or back s d).ends)
        same d =
            subst (λ (v : Boxes → View). SameTraffic (v (get_or shares s d).ends) (v (get_or back s d).ends)) (sym sees)
            (subst (λ (b : Contents). SameTraffic (view_of (get_or shares s d).ends) b.ends) (boxes_are back s d (low s l))
            (subst (λ (a : Contents). SameTraffic a.ends (boxes_at (boxes_of back) s).ends) (boxes_are shares s d l)
            (nothing s (omega (arith, l, count_dealt shares)))))

    -- boxes that were linked still are
    pub still_linked : (share : List ℕ) (edges : List Edge) (nodes : List (Placed X t)) (capacity : ℕ) → FitTogether nodes edges →
        AreDealt share nodes (nodes_in shares) → BoxesHaveMet share edges (boxes_of shares) capacity → AreLinked share edges (boxes_of back) capacity
    still_linked share edges nodes capacity fit deals met = record {
      writers = λ e l. omega (arith, writes e l, long);
      readers = λ e l. omega (arith, reads e l, long);
      linked = λ e l.
          reader-linked (writer_boxes share edges (boxes_of back) e) (reader_boxes share edges (boxes_of shares) e) (reader_boxes share edges (boxes_of back) e) e
          (writer-linked (writer_boxes share edges (boxes_of shares) e) (writer_boxes share edges (boxes_of back) e)
          (reader_boxes share edges (boxes_of shares) e) e (met.linked e l) (kept (share_of share (edge_at edges e).writer) (there _ (writes e l))))
          (kept (share_of share (edge_at edges e).reader) (there _ (reads e l)));
      capacity = λ e l. (kept (share_of share (edge_at edges e).writer) (there _ (writes e l))).boxes.capacity ∙ met.capacity e l;
    }
      where
        long : length (boxes_of back) ≡ length (nodes_in shares)
        long = length-map back (λ (share : Share X Boxes t u). contents share.ends) ∙ count ∙ sym (count_dealt shares)

        writes : (e : ℕ) → e < length edges → share_of share (edge_at edges e).writer < length (nodes_in shares)
        writes e l = (deals.inside (edge_at edges e).writer (writer_inside edges nodes fit e l)).0

        reads : (e : ℕ) → e < length edges → share_of share (edge_at edges e).reader < length (nodes_in shares)
        reads e l = (deals.inside (edge_at edges e).reader (reader_inside edges nodes fit e l)).0
