use Rattle.std.proofs.Common.{sym, subst, arith}
use Rattle.flow_shares.specs.Deals.{lists_in}
use Rattle.flow_shares.proofs.Gathered.{IsGathering, starts, list_there, list_some, one_gathered, all_gathered, same_as_dealt, just_as_dealt}
use Rattle.flow_shares.proofs.gathering.gather.Goals as goal

pub loop-k-init : goal.loop-k-init
loop-k-init g c =
    let dealt = lists_in c.args.dealt.items in
    subst (IsGathering c.args.share.now c.args.count dealt c.args.count dealt) (sym c.in_ok-nodes.ensures.items) (starts c.requires.dealt)

pub index_mut-requires : goal.index_mut-requires
index_mut-requires g c =
    let there = list_there c.loop-k.dealt.items c.loop-k.invariant c.loop-k-test.true c.loop-k.auto.k c.share_of-s.ensures in
    omega (arith, there, c.loop-k.dealt.ok.0)

pub unwrap-node-requires : goal.unwrap-node-requires
unwrap-node-requires g c =
    c.pop.ensures.variant.1 (list_some c.loop-k.dealt.items c.loop-k.invariant c.loop-k-test.true c.loop-k.auto.k c.share_of-s.ensures c.index_mut.ensures.value)

pub loop-k-preserved : goal.loop-k-preserved
loop-k-preserved g c =
    let some = list_some c.loop-k.dealt.items c.loop-k.invariant c.loop-k-test.true c.loop-k.auto.k c.share_of-s.ensures c.index_mut.ensures.value in
    let value = c.pop.ensures.value c.unwrap-node.result some in
    one_gathered c.loop-k.dealt.items c.loop-k.invariant c.loop-k-test.true c.loop-k.auto.k c.share_of-s.ensures c.index_mut.ensures.value
    c.pop.new.self c.unwrap-node.result c.push.new.self.items (cc (value, c.unwrap-node.ensures)) c.pop.ensures.rest c.in_ok-push.ensures.items

pub returns-clause-nodes : goal.returns-clause-nodes
returns-clause-nodes g c = (all_gathered c.loop-k.invariant c.reverse.new.self.items (omega (arith, c.loop-k-test.false)) c.reverse.ensures.items).1

pub returns-clause-places : goal.returns-clause-places
returns-clause-places g c = same_as_dealt (all_gathered c.loop-k.invariant c.reverse.new.self.items (omega (arith, c.loop-k-test.false)) c.reverse.ensures.items).1

pub returns-clause-same : goal.returns-clause-same
returns-clause-same g c = just_as_dealt (all_gathered c.loop-k.invariant c.reverse.new.self.items (omega (arith, c.loop-k-test.false)) c.reverse.ensures.items).1
