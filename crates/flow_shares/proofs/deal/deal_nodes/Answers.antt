use Rattle.std.proofs.Common.{◌≡◌, List, [], length, sym, ◌∙◌, ap, subst, arith}
use Rattle.std.proofs.lemmas.Iterator.Adapters.{YieldsList-from_vec}
use Rattle.std.proofs.lemmas.Iterator.Consumers.{YieldsList-turn}
use Rattle.std.proofs.lemmas.List.{length-map, length-replicate, length-set}
use Rattle.flow_networks.specs.declared.placed.Placed.{Placed}
use Rattle.flow_shares.specs.Deals.{lists_in, AreJustDealt}
use Rattle.flow_shares.proofs.Dealing.{none_dealt, one_turn, share_below}
use Rattle.flow_shares.proofs.deal.deal_nodes.Goals as goal

pub loop-node-init : goal.loop-node-init
loop-node-init g c =
    let lists = c.in_ok-dealt.dealt.items in
    let P = Placed g.row.T.Denot g.T.Transducer in
    let count : length (lists_in lists) ≡ c.args.threads = ap length c.in_ok-dealt.ensures ∙ length-replicate {A = List P} c.args.threads [] in
    record {
      can = tt;
      finite = tt;
      count = sym (length-map lists (λ v. v.items)) ∙ count;
      dealt = subst (AreJustDealt c.args.share.now []) (sym c.in_ok-dealt.ensures) (none_dealt c.args.share.now c.args.threads);
    }

pub index_mut-requires : goal.index_mut-requires
index_mut-requires g c =
    let below = share_below c.args.share.now c.args.threads _ c.requires.some c.requires.shares c.share_of-s.ensures in
    omega (arith, below, c.loop-node.dealt.ok.0)

pub loop-node-preserved : goal.loop-node-preserved
loop-node-preserved g c =
    let turn = YieldsList-turn (YieldsList-from_vec c.args.nodes.items (cc) (cc)) c.loop-node.yielded c.loop-node.node-iterator c.loop-node.yielded_by
    c.next.result c.next.new.self c.in-Some.node c.in-Some.is c.next.ensures.steps in
    let below = share_below c.args.share.now c.args.threads _ c.requires.some c.requires.shares c.share_of-s.ensures in
    record {
      can = tt;
      finite = tt;
      count = length-set c.loop-node.dealt.items c.share_of-s.result c.push.new.self ∙ c.loop-node.invariant.count;
      dealt = one_turn c.args.share.now c.args.nodes.items c.loop-node.yielded c.in-Some.node c.loop-node.dealt.items c.index_mut.result.now
          c.push.new.self c.share_of-s.result c.requires.numbered turn.0 turn.1 (cc) (omega (arith, below)) c.index_mut.ensures.value
          c.in_ok-push.ensures.items c.loop-node.invariant.dealt;
    }
