use Rattle.std.proofs.Common.{arith}
use Rattle.flow_messages.specs.Blocks.{flag_signals, item_signals}
use Rattle.flow_messages.proofs.Blocks.{prefix_then}
use Rattle.flow_segment.proofs.DistBlocks.{flag_next}
use Rattle.flow_segment.proofs.dist.flag_shown.Goals as goal

pub returns : goal.returns
returns g c =
    let xs = c.flags.result.now in
    let coming = (g.E.Ends.view c.args.ends.now).coming c.args.edge in
    let seen = prefix_then (flag_signals xs) (item_signals c.shown.result) coming c.flags.ensures c.shown.ensures in
    flag_next xs coming (omega (arith, c.in-len1-up.len_at_least)) seen
