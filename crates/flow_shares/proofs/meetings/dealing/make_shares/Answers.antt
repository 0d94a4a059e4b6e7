use Rattle.std.proofs.Common.{rules, ◌≡◌, ◌∷◌, ap, arith}
use Rattle.flow_shares.specs.Deals.{lists_in}
use Rattle.flow_shares.proofs.OfMeetings.Shares.{one_more, new_more}
use Rattle.flow_shares.proofs.OfMeetings.Refused.{none_given}
use Rattle.flow_shares.proofs.meetings.dealing.make_shares.Goals as goal

pub loop-nodes-preserved : goal.loop-nodes-preserved
loop-nodes-preserved g c =
    let inv = c.loop-nodes.invariant in
    let made = c.new.ensures in
    let shares = c.loop-nodes.shares.items in
    let later = c.push.new.self.items in
    let share = c.new.result in
    let pushed = c.in_ok-push-in-Some-next.ensures.items in
    let nodes : c.loop-nodes.nodes-iterator.rest.items ≡ c.in-Some.nodes ∷ c.next.new.self.rest.items = search rules in
    let ends : c.loop-nodes.ends.rest.items ≡ c.in-Some-next.ends ∷ c.next-in-loop-nodes.new.self.rest.items = search rules in
    record {
      fit = search rules;
      nodes = one_more (λ share. share.nodes.items) shares later share (lists_in c.loop-nodes.nodes-iterator.rest.items)
          (lists_in c.next.new.self.rest.items) c.in-Some.nodes.items (lists_in c.args.nodes.items)
          pushed (ap lists_in nodes) (ap (λ nodes. nodes.items) made.nodes) inv.nodes;
      ends = one_more (λ share. share.ends) shares later share c.loop-nodes.ends.rest.items c.next-in-loop-nodes.new.self.rest.items
          c.in-Some-next.ends c.args.ends.items pushed ends made.ends inv.ends;
      new = new_more shares later share pushed (omega (arith, made.number, c.len-number.ensures, c.loop-nodes.shares.ok.0))
          (record { spent = made.spent; starved = made.starved; moved = made.moved }) inv.new;
    }

pub returns-in_err-shares : goal.returns-in_err-shares
returns-in_err-shares g c =
    record {
      nodes = none_given _ c.from_residual.result c.from_residual.ensures.0;
      ends =
          none_given _ c.from_residual.result c.from_residual.ensures.0;
      new = none_given _ c.from_residual.result c.from_residual.ensures.0;
    }

pub returns-in_err-push-in-Some-next : goal.returns-in_err-push-in-Some-next
returns-in_err-push-in-Some-next g c =
    record {
      nodes = none_given _ c.from_residual-in_err-push-in-Some-next.result c.from_residual-in_err-push-in-Some-next.ensures.0;
      ends =
          none_given _ c.from_residual-in_err-push-in-Some-next.result c.from_residual-in_err-push-in-Some-next.ensures.0;
      new =
          none_given _ c.from_residual-in_err-push-in-Some-next.result c.from_residual-in_err-push-in-Some-next.ensures.0;
    }
