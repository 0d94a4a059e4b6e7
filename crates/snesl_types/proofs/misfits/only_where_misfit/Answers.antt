use Rattle.std.proofs.Common.{◌≡◌, ◌++◌, [], Ok, refl, ap, sym, ◌∙◌}
use Rattle.snesl_data.specs.Types.{ty_of}
use Rattle.snesl_values.specs.Inputs.{declared}
use Rattle.snesl_grammar.specs.tree.View.{tree_of, binders_of}
use Rattle.snesl_types.specs.Contexts.{names_context, inside}
use Rattle.snesl_types.specs.Names.{context_of, binders_typed_in}
use Rattle.snesl_types.proofs.Scopes.{within_names, bound_items}
use Rattle.snesl_types.proofs.Misfitting.{condition_in_scope}
use Rattle.snesl_types.proofs.misfits.only_where_misfit.Goals as goal

pub returns : goal.returns
returns c =
    let scope = c.args.scope.now in
    let inner = c.with_names-inner.result in
    let items = declared c.deref.result.now in
    let bound_by = bound_items scope {binders = c.args.binders.now} refl c.in_ok-items.ensures c.deref.ensures.value in
    let made = c.with_names-inner.ensures in
    let within =
    within_names inner scope (λ text. names_context items ++ inside (context_of text scope.names.now)) made.dialect made.text made.functions
    (ap (context_of inner.text.now) made.names) in
    condition_in_scope inner scope (binders_of c.args.binders.now) items (tree_of c.args.condition.now) (ty_of c.in_ok-ty.ty) c.is_truth.result
    within bound_by c.in_ok-ty.ensures c.is_truth.ensures c.if-is_truth.false
