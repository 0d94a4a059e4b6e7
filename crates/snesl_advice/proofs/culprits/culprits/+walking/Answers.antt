use Rattle.std.proofs.Common.{◌≡◌, true, false, Some, None, sym, ap, subst, ◌∙◌, arith}
use Rattle.std.specs.Option.{is_some}
use Rattle.snesl_grammar.specs.tree.Tree.{both, none, prefix, call, apply, group, choice, literal, each}
use Rattle.snesl_grammar.specs.tree.View.{tree_of, trees_of, binders_of}
use Rattle.snesl_grammar.proofs.OfTree.Arguments.{tree_of-Call, tree_of-Apply, tree_of-Literal}
use Rattle.snesl_types.specs.Clashes.{clash_of}
use Rattle.snesl_types.specs.Names.{condition_in}
use Rattle.snesl_types.proofs.Scopes.{tree_of-Each}
use Rattle.snesl_advice.specs.culprits.Culprits.{BeginsOne, IsAmong, IsCulprit, IsInside, condition_parts}
use Rattle.snesl_advice.proofs.OfCulprits.Found.{among_both, among_one, inside_each, in_tree, among_next, among_here, among_end, bound_next, bound_here, bound_by_name, bound_end}
use Rattle.snesl_advice.proofs.culprits.culprits.+walking.Goals as goal

pub culprit_among-returns-then-is_some : goal.culprit_among-returns-then-is_some
culprit_among-returns-then-is_some t c =
    let some : is_some c.culprit_in-found.result ≡ true = cc in
    c.loop-one.invariant c.culprit_in-found.result
    (among_here c.args.at (clash_of c.args.clash.now) c.args.all.now c.loop-one.one-index c.one-item.result c.culprit_in-found.result c.loop-one-test.true c.one-item.is
    c.culprit_in-found.ensures some)

pub culprit_among-loop-one-preserved : goal.culprit_among-loop-one-preserved
culprit_among-loop-one-preserved t c =
    let no : is_some c.culprit_in-found.result ≡ false = cc in
    λ r h. c.loop-one.invariant r
    (among_next c.args.at (clash_of c.args.clash.now) c.args.all.now c.loop-one.one-index c.one-item.result c.culprit_in-found.result r c.loop-one-test.true c.one-item.is
    c.culprit_in-found.ensures no h)

pub culprit_among-returns : goal.culprit_among-returns
culprit_among-returns t c =
    c.loop-one.invariant None (among_end c.args.at (clash_of c.args.clash.now) c.args.all.now c.loop-one.one-index c.loop-one-test.false)

pub culprit_bound-returns-then-binder-at : goal.culprit_bound-returns-then-binder-at
culprit_bound-returns-then-binder-at t c =
    c.loop-binder.invariant (Some c.first_offset.result)
    (bound_by_name c.args.at (clash_of c.args.clash.now) c.args.binders.now c.loop-binder.binder-index c.binder-item.result c.first_offset.result
    c.loop-binder-test.true c.binder-item.is c.if-binder-at.true c.first_offset.ensures)

pub culprit_bound-returns-then-is_some : goal.culprit_bound-returns-then-is_some
culprit_bound-returns-then-is_some t c =
    let some : is_some c.culprit_in-found.result ≡ true = cc in
    c.loop-binder.invariant c.culprit_in-found.result
    (bound_here c.args.at (clash_of c.args.clash.now) c.args.binders.now c.loop-binder.binder-index c.binder-item.result c.culprit_in-found.result
    c.loop-binder-test.true c.binder-item.is c.culprit_in-found.ensures some)

pub culprit_bound-loop-binder-preserved : goal.culprit_bound-loop-binder-preserved
culprit_bound-loop-binder-preserved t c =
    let no : is_some c.culprit_in-found.result ≡ false = cc in
    λ r h. c.loop-binder.invariant r
    (bound_next c.args.at (clash_of c.args.clash.now) c.args.binders.now c.loop-binder.binder-index c.binder-item.result c.culprit_in-found.result r
    c.loop-binder-test.true c.binder-item.is c.if-binder-at.false c.culprit_in-found.ensures no h)

pub culprit_bound-returns : goal.culprit_bound-returns
culprit_bound-returns t c =
    c.loop-binder.invariant None (bound_end c.args.at (clash_of c.args.clash.now) c.args.binders.now c.loop-binder.binder-index c.loop-binder-test.false)

pub culprit_in-returns : goal.culprit_in-returns
culprit_in-returns t c =
    let clash = clash_of c.args.clash.now in
    let tree = tree_of c.args.expr.now in
    subst (BeginsOne (λ part. IsCulprit c.args.at clash part tree)) (sym c.or.ensures)
    (in_tree c.args.at clash tree c.own_culprit.result c.culprit_inside.result c.own_culprit.ensures c.culprit_inside.ensures)

pub culprit_in_two-returns : goal.culprit_in_two-returns
culprit_in_two-returns t c =
    let clash = clash_of c.args.clash.now in
    let first = tree_of c.args.first.now in
    let second = tree_of c.args.second.now in
    subst (BeginsOne (λ part. IsAmong c.args.at clash part (both first (both second none)))) (sym c.or.ensures)
    (among_both c.args.at clash first (both second none) c.culprit_in.result c.culprit_in-2.result c.culprit_in.ensures
    (among_one c.args.at clash second c.culprit_in-2.result c.culprit_in-2.ensures))

pub culprit_inside-returns-in-Prefix : goal.culprit_inside-returns-in-Prefix
culprit_inside-returns-in-Prefix t c =
    let tree = ap tree_of c.in-Prefix.is ∙ ap (λ x. prefix c.in-Prefix.at c.in-Prefix.operator (tree_of x)) (sym c.deref.ensures) in
    subst (λ x. BeginsOne (IsInside c.args.at (clash_of c.args.clash.now) x) c.culprit_in.result) (sym tree)
    (among_one c.args.at (clash_of c.args.clash.now) (tree_of c.deref.result.now) c.culprit_in.result c.culprit_in.ensures)

pub culprit_inside-returns-in-Group : goal.culprit_inside-returns-in-Group
culprit_inside-returns-in-Group t c =
    let tree = ap tree_of c.in-Group.is ∙ ap (λ x. group c.in-Group.at (tree_of x)) (sym c.deref-in-Group.ensures) in
    subst (λ x. BeginsOne (IsInside c.args.at (clash_of c.args.clash.now) x) c.culprit_in-in-Group.result) (sym tree)
    (among_one c.args.at (clash_of c.args.clash.now) (tree_of c.deref-in-Group.result.now) c.culprit_in-in-Group.result c.culprit_in-in-Group.ensures)

pub culprit_inside-returns-in-If : goal.culprit_inside-returns-in-If
culprit_inside-returns-in-If t c =
    let clash = clash_of c.args.clash.now in
    let cond = c.deref-in-If.result.now in
    let positive = c.deref-in-If-2.result.now in
    let negative = c.deref-in-If-3.result.now in
    let tree = ap tree_of c.in-If.is
    ∙ ap (λ x. choice c.in-If.at (tree_of x) (tree_of c.in-If.positive.value) (tree_of c.in-If.negative.value)) (sym c.deref-in-If.ensures)
    ∙ ap (λ x. choice c.in-If.at (tree_of cond) (tree_of x) (tree_of c.in-If.negative.value)) (sym c.deref-in-If-2.ensures)
    ∙ ap (λ x. choice c.in-If.at (tree_of cond) (tree_of positive) (tree_of x)) (sym c.deref-in-If-3.ensures) in
    let all = both (tree_of positive) (both (tree_of negative) none) in
    subst (λ x. BeginsOne (IsInside c.args.at clash x) c.or.result) (sym tree)
    (subst (BeginsOne (λ part. IsAmong c.args.at clash part (both (tree_of cond) all))) (sym c.or.ensures)
    (among_both c.args.at clash (tree_of cond) all c.culprit_in-in-If.result c.culprit_in_two-in-If.result c.culprit_in-in-If.ensures c.culprit_in_two-in-If.ensures))

pub culprit_inside-returns-in-Call : goal.culprit_inside-returns-in-Call
culprit_inside-returns-in-Call t c =
    let tree = ap tree_of c.in-Call.is ∙ tree_of-Call c.in-Call.at c.in-Call.function c.in-Call.arguments
    ∙ ap (λ l. call c.in-Call.at c.in-Call.function (trees_of l)) (sym c.deref-in-Call.ensures.value) in
    subst (λ x. BeginsOne (IsInside c.args.at (clash_of c.args.clash.now) x) c.culprit_among.result) (sym tree) c.culprit_among.ensures

pub culprit_inside-returns-in-Apply : goal.culprit_inside-returns-in-Apply
culprit_inside-returns-in-Apply t c =
    let tree = ap tree_of c.in-Apply.is ∙ tree_of-Apply c.in-Apply.function c.in-Apply.arguments
    ∙ ap (λ l. apply c.in-Apply.function (trees_of l)) (sym c.deref-in-Apply.ensures.value) in
    subst (λ x. BeginsOne (IsInside c.args.at (clash_of c.args.clash.now) x) c.culprit_among-in-Apply.result) (sym tree) c.culprit_among-in-Apply.ensures

pub culprit_inside-returns-in-Literal : goal.culprit_inside-returns-in-Literal
culprit_inside-returns-in-Literal t c =
    let tree = ap tree_of c.in-Literal.is ∙ tree_of-Literal c.in-Literal.at c.in-Literal.items
    ∙ ap (λ l. literal c.in-Literal.at (trees_of l)) (sym c.deref-in-Literal.ensures.value) in
    subst (λ x. BeginsOne (IsInside c.args.at (clash_of c.args.clash.now) x) c.culprit_among-in-Literal.result) (sym tree) c.culprit_among-in-Literal.ensures

pub culprit_inside-returns-in-Each : goal.culprit_inside-returns-in-Each
culprit_inside-returns-in-Each t c =
    let at = c.args.at in
    let clash = clash_of c.args.clash.now in
    let within = c.deref-in-Each.result.now in
    let binders = c.deref-in-Each-2.result.now in
    let cond = condition_in c.in-Each.condition in
    let tree = ap tree_of c.in-Each.is ∙ tree_of-Each c.in-Each.at c.in-Each.body c.in-Each.binders c.in-Each.condition
    ∙ ap (λ x. each c.in-Each.at (tree_of x) (binders_of c.in-Each.binders.items) cond) (sym c.deref-in-Each.ensures)
    ∙ ap (λ l. each c.in-Each.at (tree_of within) (binders_of l) cond) (sym c.deref-in-Each-2.ensures.value) in
    let all = both (tree_of within) (condition_parts cond) in
    subst (λ x. BeginsOne (IsInside at clash x) c.or-in-Each.result) (sym tree)
    (subst (BeginsOne (IsInside at clash (each c.in-Each.at (tree_of within) (binders_of binders) cond))) (sym c.or-in-Each.ensures)
    (inside_each at clash c.in-Each.at (tree_of within) (binders_of binders) cond c.or-within.result c.culprit_bound.result
    (subst (BeginsOne (λ part. IsAmong at clash part all)) (sym c.or-within.ensures)
    (among_both at clash (tree_of within) (condition_parts cond) c.culprit_in-in-Each.result c.culprit_tested.result c.culprit_in-in-Each.ensures c.culprit_tested.ensures))
    c.culprit_bound.ensures))

pub culprit_tested-returns-in-Some : goal.culprit_tested-returns-in-Some
culprit_tested-returns-in-Some t c =
    let all = ap (λ x. condition_parts (condition_in x)) c.in-Some.is ∙ ap (λ x. both (tree_of x) none) (sym c.deref.ensures) in
    subst (λ x. BeginsOne (λ part. IsAmong c.args.at (clash_of c.args.clash.now) part x) c.culprit_in.result) (sym all)
    (among_one c.args.at (clash_of c.args.clash.now) (tree_of c.deref.result.now) c.culprit_in.result c.culprit_in.ensures)
