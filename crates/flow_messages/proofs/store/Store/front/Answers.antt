use Rattle.std.proofs.Common.{[], ◌∷◌, ap, ◌∙◌, arith}
use Rattle.flow_messages.proofs.Contents.{begins, end_alone}
use Rattle.flow_messages.proofs.Tables.{if_some}
use Rattle.flow_messages.proofs.store.Store.front.Goals as goal

pub returns-in-End : goal.returns-in-End
returns-in-End c =
    let s = c.args.self.now in
    ([], ap (λ m. m ∷ []) c.in-End.is ∙ end_alone s.column s.ends c.if-self.true (omega (arith, s.counts, c.if-self-eq1.true)))

pub returns-in_default : goal.returns-in_default
returns-in_default c =
    let s = c.args.self.now in
    if_some _ _ c.front.result (λ m first. begins s.column s.ends (m.now ∷ []) first) c.front.ensures
