use Rattle.std.proofs.Common.{length, ap, ◌∙◌}
use Rattle.flow_edges.proofs.lanes.gathered.Gathered.len.Goals as goal

pub returns : goal.returns
returns c = c.len.ensures ∙ ap length c.shown.ensures.messages
