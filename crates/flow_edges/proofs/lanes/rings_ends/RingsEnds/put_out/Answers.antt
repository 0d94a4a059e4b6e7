use Rattle.std.proofs.Common.{◌∙◌, sym, subst, arith}
use Rattle.std.specs.Prelude.{None, slice_index_or}
use Rattle.flow_edges.specs.lanes.Rings.{OutOf}
use Rattle.flow_edges.specs.lanes.SameEnds.{same_rings_trans}
use Rattle.flow_edges.proofs.OfLanes.Told.{told_more, told_all}
use Rattle.flow_edges.proofs.lanes.rings_ends.RingsEnds.put_out.Goals as goal

pub loop-edge-2-preserved : goal.loop-edge-2-preserved
loop-edge-2-preserved c =
    let inv = c.loop-edge-2.invariant in
    let now = c.tell_at.ensures in
    record {
      same = same_rings_trans _ _ _ inv.same now.same;
      view = now.view ∙ inv.view;
      out = λ k. subst (λ ws. OutOf (slice_index_or ws k None)) (sym now.writers) (inv.out k);
      told = told_more c.loop-edge-2.self c.tell_at.new.self c.loop-edge-2.edge inv.told now.others now.told;
    }

pub returns-clause-out : goal.returns-clause-out
returns-clause-out c = (c.loop-edge-2.invariant.out, told_all c.loop-edge-2.self c.loop-edge-2.edge (omega arith) c.loop-edge-2.invariant.told)
