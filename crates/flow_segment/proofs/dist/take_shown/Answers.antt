use Rattle.std.proofs.Common.{Some, ◌∙◌, ap, subst}
use Rattle.flow_messages.specs.Ends.{TakenAll}
use Rattle.flow_segment.proofs.DistBlocks.{first_shown, some_comes}
use Rattle.flow_segment.proofs.dist.take_shown.Goals as goal

pub skip-requires-clause-certain : goal.skip-requires-clause-certain
skip-requires-clause-certain g c = some_comes c.shown-items.result _ (λ none. c.if-len-eq0.false (c.len.ensures ∙ none)) c.shown-items.ensures

pub returns-clause-taken : goal.returns-clause-taken
returns-clause-taken g c =
    let a = g.E.Ends.view c.args.ends.now in
    let w = g.E.Ends.view c.skip.new.self in
    let is = c.message.ensures ∙ ap Some c.in-Item.is in
    let first = first_shown c.shown-items.result _ (a.coming c.args.from) (λ none. c.if-len-eq0.false (c.len.ensures ∙ none)) is c.shown-items.ensures in
    subst (λ ms. TakenAll a c.args.from ms w) first c.skip.ensures.taken
