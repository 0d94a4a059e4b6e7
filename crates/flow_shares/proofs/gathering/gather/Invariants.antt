use Rattle.flow_shares.specs.Deals.{lists_in}
use Rattle.flow_shares.proofs.Gathered.{IsGathering}
use Rattle.flow_shares.proofs.gathering.gather.Given as goal

abbrev pub invariant-loop-k : goal.invariant-loop-k
invariant-loop-k g l = IsGathering l.share l.count (lists_in l.initial.dealt.items) l.k (lists_in l.dealt.items) l.nodes.items
