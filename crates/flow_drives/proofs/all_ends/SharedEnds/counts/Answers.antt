use Rattle.std.proofs.Common.{length, ◌∙◌, ap}
use Rattle.std.specs.Io.Iter.{u64_saturate}
use Rattle.flow_drives.proofs.all_ends.SharedEnds.counts.Goals as goal

pub sent_count-requires : goal.sent_count-requires
sent_count-requires g c = let d = c.of_node.result.now in ap (λ own. (g.E.Ends.view own).writes c.args.number) (c.of_node.ensures d) ∙ c.requires.writes d

pub received_count-requires : goal.received_count-requires
received_count-requires g c = let d = c.of_node-2.result.now in ap (λ own. (g.E.Ends.view own).reads c.args.number) (c.of_node-2.ensures d) ∙ c.requires.reads d

pub returns-clause-sent : goal.returns-clause-sent
returns-clause-sent g c d = c.sent_count.ensures ∙ ap (λ own. u64_saturate (length ((g.E.Ends.view own).sent c.args.number))) (c.of_node.ensures d)

pub returns-clause-received : goal.returns-clause-received
returns-clause-received g c d = c.received_count.ensures ∙ ap (λ own. u64_saturate (length ((g.E.Ends.view own).received c.args.number))) (c.of_node-2.ensures d)
