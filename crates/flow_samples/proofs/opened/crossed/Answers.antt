use Rattle.std.proofs.Common.{◌≡◌, get_or, refl, sym, subst, ◌∙◌, arith}
use Rattle.std.proofs.lemmas.List.{get_or_default}
use Rattle.flow_shares.specs.declared.meetings.owners.EdgeOwners.{EdgeOwners}
use Rattle.flow_shares.proofs.OfMeetings.More.{fresh_as}
use Rattle.flow_samples.specs.Taking.{AllTake}
use Rattle.flow_samples.proofs.Taking.{fresh_take}
use Rattle.flow_samples.proofs.opened.crossed.Goals as goal

pub returns-clause-left : goal.returns-clause-left
returns-clause-left g c =
    let items = c.in_ok-ends.ends.items in
    let left = c.swap_remove-left.result in
    let view = g.E.Ends.view in
    let all = fresh_as view g.E.Meeting.joins g.E.Meeting.slots 2 c.owners.ensures (c.deref.ensures.value ∙ c.in_ok-kinds.ensures) refl c.in_ok-ends.ensures.opened in
    let first : left ≡ get_or items 0 left = c.swap_remove-left.ensures.value ∙ c.swap_remove-right.ensures.by_index.1 0 left (λ h. omega (arith, h)) (omega (arith, c.in_ok-ends.ensures.count)) in
    subst (λ x. AllTake (view x) c.args.kind) (sym first) (fresh_take _ _ c.args.kind 2 0 (view (get_or items 0 left)) refl (all.fresh 0 left (omega (arith, c.in_ok-ends.ensures.count))))

pub returns-clause-right : goal.returns-clause-right
returns-clause-right g c =
    let items = c.in_ok-ends.ends.items in
    let left = c.swap_remove-left.result in
    let right = c.swap_remove-right.result in
    let view = g.E.Ends.view in
    let all = fresh_as view g.E.Meeting.joins g.E.Meeting.slots 2 c.owners.ensures (c.deref.ensures.value ∙ c.in_ok-kinds.ensures) refl c.in_ok-ends.ensures.opened in
    let second : right ≡ get_or items 1 left = c.swap_remove-right.ensures.value ∙ get_or_default items 1 right left (omega (arith, c.in_ok-ends.ensures.count)) in
    subst (λ x. AllTake (view x) c.args.kind) (sym second) (fresh_take _ _ c.args.kind 2 1 (view (get_or items 1 left)) refl (all.fresh 1 left (omega (arith, c.in_ok-ends.ensures.count))))

pub returns-clause-there : goal.returns-clause-there
returns-clause-there g c =
    let items = c.in_ok-ends.ends.items in
    let left = c.swap_remove-left.result in
    let right = c.swap_remove-right.result in
    let joins = g.E.Meeting.joins in
    let none : EdgeOwners = record { writer = 0; reader = 0 } in
    let all = fresh_as g.E.Ends.view joins g.E.Meeting.slots 2 c.owners.ensures refl refl c.in_ok-ends.ensures.opened in
    let first : left ≡ get_or items 0 left = c.swap_remove-left.ensures.value ∙ c.swap_remove-right.ensures.by_index.1 0 left (λ h. omega (arith, h)) (omega (arith, c.in_ok-ends.ensures.count)) in
    let second : right ≡ get_or items 1 left = c.swap_remove-right.ensures.value ∙ get_or_default items 1 right left (omega (arith, c.in_ok-ends.ensures.count)) in
    subst (λ x. joins x right 0) (sym first) (subst (λ y. joins (get_or items 0 left) y 0) (sym second) (all.joined 0 none left (omega arith)))

pub returns-clause-back : goal.returns-clause-back
returns-clause-back g c =
    let items = c.in_ok-ends.ends.items in
    let left = c.swap_remove-left.result in
    let right = c.swap_remove-right.result in
    let joins = g.E.Meeting.joins in
    let none : EdgeOwners = record { writer = 0; reader = 0 } in
    let all = fresh_as g.E.Ends.view joins g.E.Meeting.slots 2 c.owners.ensures refl refl c.in_ok-ends.ensures.opened in
    let first : left ≡ get_or items 0 left = c.swap_remove-left.ensures.value ∙ c.swap_remove-right.ensures.by_index.1 0 left (λ h. omega (arith, h)) (omega (arith, c.in_ok-ends.ensures.count)) in
    let second : right ≡ get_or items 1 left = c.swap_remove-right.ensures.value ∙ get_or_default items 1 right left (omega (arith, c.in_ok-ends.ensures.count)) in
    subst (λ x. joins right x 1) (sym first) (subst (λ y. joins y (get_or items 0 left) 1) (sym second) (all.joined 1 none left (omega arith)))
