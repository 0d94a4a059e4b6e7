use Rattle.std.proofs.Common.{false, refl, ◌||◌}
use Rattle.snesl_grammar.specs.tree.View.{tree_of, binders_of}
use Rattle.snesl_translator.specs.scopes.Scopes.{condition_in}
use Rattle.snesl_translator.proofs.OfScopes.Among.{part_named, at_first, at_hidden, at_inner, at_second}
use Rattle.snesl_translator.proofs.scopes.part.names.Goals as goal

pub returns-then-of_condition : goal.returns-then-of_condition
returns-then-of_condition c =
    let part = c.args.part.now in
    let name = c.args.name.now in
    let h = c.binds-hidden.result in
    let d = c.condition_names-of_condition.result in
    let b = c.is_free-of_body.result in
    let named = part_named part.text.now name (binders_of part.binders.now) (condition_in part.condition) (tree_of part.body.now) h d b
    c.binds-hidden.ensures c.condition_names-of_condition.ensures c.is_free-of_body.ensures in
    at_first d b c.if-of_condition.true (at_inner false h (d || b) refl c.if-not-hidden.true named)

pub returns-else-of_condition : goal.returns-else-of_condition
returns-else-of_condition c =
    let part = c.args.part.now in
    let name = c.args.name.now in
    let h = c.binds-hidden.result in
    let d = c.condition_names-of_condition.result in
    let b = c.is_free-of_body.result in
    let named = part_named part.text.now name (binders_of part.binders.now) (condition_in part.condition) (tree_of part.body.now) h d b
    c.binds-hidden.ensures c.condition_names-of_condition.ensures c.is_free-of_body.ensures in
    at_second d b c.if-of_condition.false (at_inner false h (d || b) refl c.if-not-hidden.true named)

pub returns-else-not-hidden : goal.returns-else-not-hidden
returns-else-not-hidden c =
    let part = c.args.part.now in
    let name = c.args.name.now in
    let h = c.binds-hidden.result in
    let d = c.condition_names-of_condition.result in
    let b = c.is_free-of_body.result in
    let named = part_named part.text.now name (binders_of part.binders.now) (condition_in part.condition) (tree_of part.body.now) h d b
    c.binds-hidden.ensures c.condition_names-of_condition.ensures c.is_free-of_body.ensures in
    at_hidden false h (d || b) refl c.if-not-hidden.false named
