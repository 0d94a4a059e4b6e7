use Rattle.std.proofs.Common.{◌≡◌, sym, subst, arith}
use Rattle.flow_networks.specs.MaximalRuns.{RunReaches}
use Rattle.flow_networks.specs.Shapes.{KeepsShape}
use Rattle.flow_networks.proofs.EdgeKinds.{edges_take_still}
use Rattle.flow_networks.proofs.Settling.{turn_reached}
use Rattle.flow_networks.proofs.Shapes.{shape_then}
use Rattle.flow_networks.proofs.schedule.step_named.Goals as goal
use Rattle.flow_networks.proofs.schedule.step_named.Goals.{then-number-nodes+in_ok-step_whole, else-number-nodes}

-- what holds of two values holds of those that are the same
of_both : {A B : Type 0} (P : A → B → Type 0) (x y : A) (u v : B) → x ≡ y → u ≡ v → P y v → P x u
of_both P x y u v is are p = subst (λ z. P z u) (sym is) (subst (P y) (sym are) p)

pub step_whole-requires-clause-kinds : goal.step_whole-requires-clause-kinds
step_whole-requires-clause-kinds g c =
    edges_take_still g.met.T.Transducer.laws c.loop-number.invariant.shape c.requires.kinds _ (omega (arith, c.if-number-nodes.true, c.nodes.ensures))

pub loop-number-preserved : goal.loop-number-preserved
loop-number-preserved g c =
    let now = c.if-number-nodes in
    let graph = c.args.graph.now in
    let ends = c.args.ends.now in
    let inv = c.loop-number.invariant in
    elim c.if-number-nodes.branch [
      | then-number-nodes+in_ok-step_whole w ↦ record {
        shape = of_both (KeepsShape g.E.Ends.same g.E.Ends.view graph ends) now.graph w.step_whole.new.graph now.ends w.step_whole.new.ends w.graph-is w.ends-is
            (shape_then g.E.Ends.same g.E.Ends.view g.met.E.Ends.same_trans graph ends c.loop-number.graph c.loop-number.ends w.step_whole.new.graph
            w.step_whole.new.ends inv.shape w.step_whole.ensures.shape);
        reached = of_both (λ later after. RunReaches (g.E.WholeEnds.capacity ends) graph later (g.E.Ends.view after)) now.graph w.step_whole.new.graph
            now.ends w.step_whole.new.ends w.graph-is w.ends-is
            (turn_reached g.E.Ends.same g.E.Ends.view g.E.WholeEnds.capacity g.met.E.WholeEnds.same_capacity graph ends c.loop-number.graph
            c.loop-number.ends w.step_whole.new.graph w.step_whole.new.ends
            inv.shape inv.reached _ _ w.in_ok-step_whole.ensures.network);
      }
      | else-number-nodes w ↦ record {
        shape = of_both (KeepsShape g.E.Ends.same g.E.Ends.view graph ends) now.graph c.loop-number.graph now.ends c.loop-number.ends w.graph-is w.ends-is inv.shape;
        reached = of_both (λ later after. RunReaches (g.E.WholeEnds.capacity ends) graph later (g.E.Ends.view after)) now.graph c.loop-number.graph
            now.ends c.loop-number.ends w.graph-is w.ends-is inv.reached;
      }
    ]
