use Rattle.std.proofs.Common.{length, ap, ◌∙◌, arith}
use Rattle.std.proofs.lemmas.List.{get_or_default, length_push}
use Rattle.flow_networks.specs.Edges.{edge_at}
use Rattle.flow_shares.specs.declared.meetings.owners.EdgeOwners.{EdgeOwners}
use Rattle.flow_shares.specs.Deals.{share_of}
use Rattle.flow_shares.proofs.OfMeetings.More.{owner_more}
use Rattle.flow_shares.proofs.meetings.owners.owners_of.Goals as goal

pub loop-edge-preserved : goal.loop-edge-preserved
loop-edge-preserved c =
    let inv = c.loop-edge.invariant in
    let n = c.loop-edge.edge-index in
    let share = c.args.share.now in
    let edges = c.args.edges.now in
    let items = c.in_ok-push.ensures.items in
    let old = c.loop-edge.owners.items in
    let owner : EdgeOwners = record { writer = c.share_of.result; reader = c.share_of-in-loop-edge.result } in
    record {
      count = omega (arith, ap length items, length_push old owner, inv.count);
      writers = owner_more (λ w. w.writer) (λ e. share_of share (edge_at edges e).writer) old c.push.new.self.items owner n items inv.count
          inv.writers (c.share_of.ensures ∙ ap (λ e. share_of share e.writer) (get_or_default edges n _ _ c.loop-edge-test.true));
      readers = owner_more (λ w. w.reader) (λ e. share_of share (edge_at edges e).reader) old c.push.new.self.items owner n items inv.count
          inv.readers (c.share_of-in-loop-edge.ensures ∙ ap (λ e. share_of share e.reader) (get_or_default edges n _ _ c.loop-edge-test.true));
    }
