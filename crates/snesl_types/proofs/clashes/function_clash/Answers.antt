use Rattle.std.proofs.Common.{◌≡◌, [], map, Ok, sym, ap, ◌∙◌}
use Rattle.snesl_values.specs.Inputs.{declared}
use Rattle.snesl_grammar.specs.tree.View.{tree_of, type_tree, typed_of}
use Rattle.snesl_types.specs.Names.{signatures_in}
use Rattle.snesl_types.specs.Verdicts.{names_verdict}
use Rattle.snesl_types.proofs.Misfitting.{function_found, body_found}
use Rattle.snesl_types.proofs.clashes.function_clash.Goals as goal

pub returns-then-written-at : goal.returns-then-written-at
returns-then-written-at c =
    let text = c.args.text.now in
    let written = c.args.written.now in
    let names = declared c.deref-in-Ok.result.now in
    let names_are : names_verdict text [] (map typed_of written.parameters.items) ≡ Ok names =
    ap (λ l. names_verdict text [] (map typed_of l)) (sym c.deref.ensures.value) ∙ c.in-Ok.ensures ∙ ap (λ l. Ok (declared l)) (sym c.deref-in-Ok.ensures.value) in
    body_found c.args.dialect text (signatures_in text c.args.functions.now) c.args.at written.name (map typed_of written.parameters.items) (type_tree written.result) (tree_of written.body) names
    c.body_misfit.result c.found_or_none.result c.if-written-at.true names_are c.found_or_none.ensures c.body_misfit.ensures

pub returns-else-is_nothing : goal.returns-else-is_nothing
returns-else-is_nothing c =
    let text = c.args.text.now in
    let written = c.args.written.now in
    let names = declared c.deref-in-Ok.result.now in
    let names_are : names_verdict text [] (map typed_of written.parameters.items) ≡ Ok names =
    ap (λ l. names_verdict text [] (map typed_of l)) (sym c.deref.ensures.value) ∙ c.in-Ok.ensures ∙ ap (λ l. Ok (declared l)) (sym c.deref-in-Ok.ensures.value) in
    function_found c.args.dialect text (signatures_in text c.args.functions.now) c.args.at written.name (map typed_of written.parameters.items) (type_tree written.result) (tree_of written.body) names
    c.clash_in-found.result names_are c.clash_in-found.ensures
