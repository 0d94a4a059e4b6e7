use Rattle.flow_networks.proofs.shown.messages_ahead.Goals as goal

pub returns-then-is_empty-clause-next : goal.returns-then-is_empty-clause-next
returns-then-is_empty-clause-next g c = c.end_ahead.ensures.next c.args.kind
