use Rattle.std.proofs.Common.{◌++◌, ◌∷◌, suc, map, take, drop, ap, subst, ◌∙◌}
use Rattle.snesl_grammar.specs.tree.View.{tree_of, type_tree, typed_of, declaration_of}
use Rattle.snesl_types.specs.Clashes.{IsFound, FunctionClashes}
use Rattle.snesl_types.specs.Names.{signatures_in}
use Rattle.snesl_types.specs.Views.{declared_in}
use Rattle.snesl_types.proofs.Misfitting.{function_in, parted_at}
use Rattle.snesl_types.proofs.clashes.declaration_clash.Goals as goal

pub returns-in-Ok : goal.returns-in-Ok
returns-in-Ok c =
    let text = c.args.text.now in
    let dialect = c.args.dialect in
    let all = c.args.declarations.now in
    let number = c.args.number in
    let f = c.in-Function.written in
    let before = map declaration_of (take number all) in
    let after = map declaration_of (drop (suc number) all) in
    function_in dialect text before after (map declaration_of all) (declared_in text c.in-Ok.declared) f.name (map typed_of f.parameters.items) (type_tree f.result) (tree_of f.body)
    c.args.at c.function_clash.result
    (parted_at all number c.index-declarations-number.result c.requires c.index-declarations-number.is ∙ ap (λ x. before ++ (declaration_of x ∷ after)) c.in-Function.is)
    c.in-Ok.ensures
    (subst (λ l. IsFound (FunctionClashes dialect text (signatures_in text l) c.args.at f.name (map typed_of f.parameters.items) (type_tree f.result) (tree_of f.body)) c.function_clash.result)
    c.deref.ensures.value c.function_clash.ensures)
