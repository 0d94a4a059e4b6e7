use Rattle.std.proofs.Common.{◌≡◌, length}
use Rattle.flow_shares.specs.Deals.{lists_in, AreJustDealt}
use Rattle.flow_shares.proofs.deal.deal_nodes.Given as goal

-- the nodes so far are dealt out
abbrev pub invariant-loop-node : goal.invariant-loop-node
invariant-loop-node g l = record {
  can : (goal.iterator-loop-node g).can_next l.node-iterator;
  finite : (goal.iterator-loop-node g).is_finite l.node-iterator;
  count : length l.dealt.items ≡ l.threads;
  dealt : AreJustDealt l.share l.yielded (lists_in l.dealt.items);
}
