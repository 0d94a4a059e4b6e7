use Rattle.std.proofs.Common.{◌++◌, ◌∷◌, [], map, Ok, sym, ap, ◌∙◌}
use Rattle.snesl_values.specs.Inputs.{declared}
use Rattle.snesl_grammar.specs.tree.View.{tree_of, type_tree, typed_of, declaration_of}
use Rattle.snesl_types.specs.Names.{signatures_in, sizes_in}
use Rattle.snesl_types.specs.Programs.{Declared, and_then, nothing_declared, with_inputs}
use Rattle.snesl_types.specs.Verdicts.{name_verdict, function_verdict, declaration_verdict, declarations_verdict, with_capped_function}
use Rattle.snesl_types.specs.Views.{declared_in}
use Rattle.snesl_types.proofs.Declaring.{declaration_refused}
use Rattle.snesl_types.proofs.InOrder.{refusal_passes}
use Rattle.snesl_types.proofs.Passing.{refused_by}
use Rattle.snesl_types.proofs.declarations.declarations_of.Goals as goal

pub returns-in_err-input-in-Input : goal.returns-in_err-input-in-Input
returns-in_err-input-in-Input c =
    let text = c.args.text.now in
    let written = c.args.declarations.now in
    let inputs = c.loop-declaration.inputs.items in
    let functions = c.loop-declaration.functions.items in
    let earlier : Declared = record { inputs = declared inputs; functions = signatures_in text functions; sizes = sizes_in text functions } in
    let first = typed_of c.in-Input.typing in
    let whole = declarations_verdict c.args.dialect text nothing_declared (map declaration_of written) in
    let e = c.in_err-input-in-Input.field-0.0 in
    refused_by (declared_in text) whole e c.from_residual.result c.from_residual.ensures
    (refusal_passes (name_verdict text (declared c.deref.result.now) first) whole e c.in_err-input-in-Input.ensures (λ is.
    c.loop-declaration.invariant
    ∙ declaration_refused text c.args.dialect earlier written c.loop-declaration.declaration-index c.declaration-item.result e c.loop-declaration-test.true c.declaration-item.is
    (ap (λ d. declaration_verdict c.args.dialect text earlier (declaration_of d)) c.in-Input.is
    ∙ ap (λ r. and_then r (λ input. Ok (with_inputs earlier (earlier.inputs ++ input ∷ [])))) (ap (λ l. name_verdict text (declared l) first) (sym c.deref.ensures.value) ∙ is))))

pub returns-in_err-function-in-Function : goal.returns-in_err-function-in-Function
returns-in_err-function-in-Function c =
    let text = c.args.text.now in
    let dialect = c.args.dialect in
    let written = c.args.declarations.now in
    let inputs = c.loop-declaration.inputs.items in
    let functions = c.loop-declaration.functions.items in
    let earlier : Declared = record { inputs = declared inputs; functions = signatures_in text functions; sizes = sizes_in text functions } in
    let f = c.in-Function.written in
    let whole = declarations_verdict dialect text nothing_declared (map declaration_of written) in
    let e = c.in_err-function-in-Function.field-0.0 in
    refused_by (declared_in text) whole e c.from_residual-in_err-function-in-Function.result c.from_residual-in_err-function-in-Function.ensures
    (refusal_passes (function_verdict dialect text (signatures_in text c.deref-in-Function.result.now) f.name (map typed_of f.parameters.items)
    (type_tree f.result) (tree_of f.body)) whole e c.in_err-function-in-Function.ensures.signature (λ is.
    c.loop-declaration.invariant
    ∙ declaration_refused text dialect earlier written c.loop-declaration.declaration-index c.declaration-item.result e c.loop-declaration-test.true c.declaration-item.is
    (ap (λ d. declaration_verdict dialect text earlier (declaration_of d)) c.in-Function.is
    ∙ ap (λ r. and_then r (λ signature. Ok (with_capped_function text earlier signature (tree_of f.body))))
    (ap (λ l. function_verdict dialect text (signatures_in text l) f.name (map typed_of f.parameters.items) (type_tree f.result) (tree_of f.body)) (sym c.deref-in-Function.ensures.value) ∙ is))))
