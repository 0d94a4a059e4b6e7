use Rattle.std.proofs.Common.{◌∙◌, Some, ap}
use Rattle.flow_scalar.proofs.ForkBlocks.{first_shown}
use Rattle.flow_scalar.proofs.fork.item_shown.Goals as goal

pub returns-in-Item-clause-first : goal.returns-in-Item-clause-first
returns-in-Item-clause-first g c =
    let coming = (g.E.Ends.view c.args.ends.now).coming c.args.edge in
    first_shown c.shown-items.result _ coming (c.message.ensures ∙ ap Some c.in-Item.is) c.shown-items.ensures
