use Rattle.std.proofs.Common.{arith}
use Rattle.flow_shares.proofs.OfMeetings.Parted.{on_all, on_three, opened_own, opened_before, opened_after}
use Rattle.flow_shares.proofs.meetings.opening_everywhere.open_edge.Goals as goal

pub returns-then-owner : goal.returns-then-owner
returns-then-owner g c =
    let done = c.open_own.ensures in
    on_three c.open_own.result (λ both joined room. (
    opened_own g.E.Ends.view g.E.Meeting.joins g.E.Meeting.slots g.E.Opening.opens g.met.E.Opening.opens_refl c.args.owner c.args.edge c.args.kind c.args.capacity
    c.args.ends.now c.index-ends-owner.result c.open_own.new.self c.if-owner.true c.requires.writer both joined room
    )) done.both done.joined done.places

pub returns-then-owner-2 : goal.returns-then-owner-2
returns-then-owner-2 g c =
    let parts = c.split_at_mut-front in
    let new = c.open_with.new in
    let done = c.open_with.ensures in
    on_all c.open_with.result (λ at_w at_r joined room. (
    opened_before g.E.Ends.view g.E.Meeting.joins g.E.Meeting.slots g.E.Opening.opens g.met.E.Opening.opens_refl c.args.owner c.args.edge c.args.kind c.args.capacity
    c.args.ends.now parts.result.0.now parts.result.1.now parts.ensures.value c.index-front-owner.result c.index-back-0.result new.self new.other
    parts.ensures.front_len c.if-owner-2.true c.requires.reader c.index-front-owner.is c.index-back-0.is at_w at_r joined room
    )) done.writer done.reader done.joined done.places

pub returns-else-owner-2 : goal.returns-else-owner-2
returns-else-owner-2 g c =
    let parts = c.split_at_mut-front-else-owner-2 in
    let new = c.open_with-else-owner-2.new in
    let done = c.open_with-else-owner-2.ensures in
    on_all c.open_with-else-owner-2.result (λ at_w at_r joined room. (
    opened_after g.E.Ends.view g.E.Meeting.joins g.E.Meeting.slots g.E.Opening.opens g.met.E.Opening.opens_refl c.args.owner c.args.edge c.args.kind c.args.capacity
    c.args.ends.now parts.result.0.now parts.result.1.now parts.ensures.value c.index-front-owner-else-owner-2.result c.index-back-0-else-owner-2.result new.other new.self
    parts.ensures.front_len (omega (arith, c.if-owner.false, c.if-owner-2.false)) c.requires.writer c.index-front-owner-else-owner-2.is c.index-back-0-else-owner-2.is at_r at_w joined room
    )) done.writer done.reader done.joined done.places
