use Rattle.std.proofs.Common.{get_or, sym, subst, ◌∙◌, ℕ}
use borrow.Author.Count.{below_more}
use Rattle.std.proofs.lemmas.List.{get_or_default}
use Rattle.flow_networks.specs.declared.wiring.Ports.{Ports}
use Rattle.flow_networks.specs.Tables.{HasAllEdges}
use Rattle.flow_networks.proofs.wiring.all_complete.Goals as goal

pub returns-then-not-is_complete : goal.returns-then-not-is_complete
returns-then-not-is_complete c = (
  λ t. absurd (cc),
  λ all. absurd (let t = c.is_complete.ensures.1 (subst HasAllEdges (sym c.node-item.is) (all c.loop-node.node-index c.node-item.result c.loop-node-test.true)) in cc),
)

pub loop-node-preserved : goal.loop-node-preserved
loop-node-preserved c k d before =
    let nodes = c.args.nodes.now in
    let i = c.loop-node.node-index in
    let here : HasAllEdges c.node-item.result = c.is_complete.ensures.0 (cc) in
    below_more (λ (j : ℕ). (x : Ports) → HasAllEdges (get_or nodes j x)) i (λ j l x. c.loop-node.invariant j x l)
    (λ x. subst HasAllEdges (c.node-item.is ∙ get_or_default nodes i c.node-item.result x c.loop-node-test.true) here) k before d
