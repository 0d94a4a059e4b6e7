-- Shares whose ends have met, and were looked at since.
use Rattle.std.proofs.Common.{ℕ, ◌<◌, List, length, get_or, sym, subst}
use Rattle.flow_messages.specs.declared.ends.Ends.{Ghosts as EndsGhosts}
use Rattle.flow_base.specs.declared.transducer.Transducer.{Ghosts}
use Rattle.flow_edges.specs.declared.lanes.rings.Rings.{Rings}
use Rattle.flow_edges.specs.lanes.Rings.{SameRings, Kept}
use Rattle.flow_shares.specs.meetings.Met.{met_kept}
use Rattle.flow_shares.specs.declared.share.Share.{Share}
use Rattle.flow_shares.proofs.OfMeetings.Parts.{any_of}
use Rattle.flow_shares.specs.Deals.{AreDealt}
use Rattle.flow_shares.specs.meetings.Deals.{ends_in}
use Rattle.flow_shares.specs.meetings.SharedNetworks.{SharedNetwork, view_at, AreLookedAt}
use Rattle.flow_drives.specs.loops.Epochs.{AreOfOneGraph, SharesHaveMet, HaveMetSince}
use Rattle.flow_drives.proofs.OfLoops.ShareLists.{ends_are, same_nodes, still_there, looked_bodies, looked_kept}
use Rattle.flow_drives.proofs.OfLoops.EpochMeets.{writer, reader, writer_is_share, reader_is_share, graph_stays}

module _ {X : Type 0} {t : Ghosts X} {u : EndsGhosts Rings} (same_is : (a b : Rings) → u.same a b → SameRings a b) (network : SharedNetwork t)
    (shares after : List (Share X Rings t u)) (graph : AreOfOneGraph network shares) (met : SharesHaveMet network shares)
    (looked : AreLookedAt shares after) where
  ends : (s : ℕ) (b : Rings) → s < length shares → SameRings (get_or (ends_in shares) s b) (get_or (ends_in after) s b)
  ends s b l =
      let d = any_of shares s l in
      subst (λ a. SameRings a (get_or (ends_in after) s b)) (sym (ends_are shares s d l b))
      (subst (λ c. SameRings (get_or shares s d).ends c) (sym (ends_are after s d (still_there shares after looked s l) b)) (same_is _ _ (looked.each s d l).same))

  kept : (s : ℕ) → s < length shares → Kept (view_at shares s) (view_at after s)
  kept = looked_kept shares after looked

  -- that is as after a meeting
  pub looked_met : HaveMetSince network shares after
  looked_met = record {
    bodies = looked_bodies shares after looked;
    ends = ends;
    kept = kept;
    graph = graph_stays network shares graph after looked.count
        (subst (AreDealt network.share network.nodes) (sym (same_nodes shares after (looked_bodies shares after looked))) graph.deals) ends (λ s l. (kept s l).ends);
    met = λ e l.
        met_kept _ _ _ _ network.capacity e (met e l) (kept (writer network shares graph e) (writer_is_share network shares graph e l))
        (kept (reader network shares graph e) (reader_is_share network shares graph e l));
  }
