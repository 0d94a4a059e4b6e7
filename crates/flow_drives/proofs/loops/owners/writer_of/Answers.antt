use Rattle.std.proofs.Common.{sym, ◌∙◌, ap, below_more}
use Rattle.flow_messages.specs.Ends.{View}
use Rattle.flow_edges.specs.lanes.Rings.{ends_of}
use Rattle.flow_drives.proofs.OfLoops.FirstOwners.{seen_here}
use Rattle.flow_drives.proofs.loops.owners.writer_of.Goals as goal

pub loop-number-preserved : goal.loop-number-preserved
loop-number-preserved g c =
    let x = c.index-shares-number.result in
    let seen = seen_here c.args.shares.now c.loop-number.number x c.loop-number-test.true c.index-shares-number.is in
    below_more _ _ c.loop-number.invariant (ap (λ (v : View). v.writes c.args.edge) (seen ∙ ap ends_of (sym c.ends.ensures)) ∙ sym c.has_writer.ensures ∙ c.if-has_writer.false)
