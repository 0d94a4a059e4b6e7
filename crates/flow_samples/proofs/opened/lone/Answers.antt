use Rattle.std.proofs.Common.{get_or, refl, sym, ◌∙◌, subst, arith}
use Rattle.flow_shares.specs.declared.meetings.owners.EdgeOwners.{EdgeOwners}
use Rattle.flow_shares.proofs.OfMeetings.More.{fresh_as}
use Rattle.flow_samples.specs.Taking.{AllTake}
use Rattle.flow_samples.proofs.Taking.{fresh_take}
use Rattle.flow_samples.proofs.opened.lone.Goals as goal

pub returns-clause-joined : goal.returns-clause-joined
returns-clause-joined g c =
    let joins = g.E.Meeting.joins in
    let none : EdgeOwners = record { writer = 0; reader = 0 } in
    let all = fresh_as g.E.Ends.view joins g.E.Meeting.slots 1 c.own_owner.ensures refl refl c.in_ok-ends.ensures.opened in
    subst (λ x. joins x x 0) (sym c.swap_remove.ensures.value) (all.joined 0 none c.swap_remove.result (omega arith))

pub returns-clause-takes : goal.returns-clause-takes
returns-clause-takes g c =
    let view = g.E.Ends.view in
    let all = fresh_as view g.E.Meeting.joins g.E.Meeting.slots 1 c.own_owner.ensures (c.deref.ensures.value ∙ c.in_ok-kinds.ensures) refl c.in_ok-ends.ensures.opened in
    let x = c.swap_remove.result in
    subst (λ x. AllTake (view x) c.args.kind) (sym c.swap_remove.ensures.value)
    (fresh_take _ _ c.args.kind 1 0 (view (get_or c.in_ok-ends.ends.items 0 x)) refl (all.fresh 0 x (omega (arith, c.in_ok-ends.ensures.count))))
