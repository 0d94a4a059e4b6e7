use Rattle.std.proofs.Common.{ℕ, ◌+◌, [], map, drop, Vec, Global, sym, ap, ◌∙◌}
use Rattle.snesl_data.specs.declared.ty.Ty.{Ty as TyTree}
use Rattle.snesl_values.specs.Inputs.{declared, declaration_of}
use Rattle.snesl_grammar.specs.tree.View.{typed_of}
use Rattle.snesl_types.specs.Verdicts.{name_verdict, names_verdict}
use Rattle.snesl_types.proofs.Declaring.{names_given, names_refused}
use Rattle.snesl_types.proofs.InOrder.{refusal_passes, map_push}
use Rattle.snesl_types.proofs.Passing.{refused_by}
use Rattle.snesl_types.proofs.declarations.parameters_of.Goals as goal

pub returns-in_err-name : goal.returns-in_err-name
returns-in_err-name c =
    let text = c.args.text.now in
    let written = c.args.written.now in
    let names = c.loop-typing.names.items in
    let one = c.typing-item.result in
    let whole = names_verdict text [] (map typed_of written) in
    let e = c.in_err-name.field-0.0 in
    refused_by (λ (names : Vec (Vec ℕ Global × TyTree) Global). declared names.items) whole e c.from_residual.result c.from_residual.ensures
    (refusal_passes (name_verdict text (declared c.deref.result.now) (typed_of one)) whole e c.in_err-name.ensures (λ is.
    c.loop-typing.invariant ∙ names_refused text (declared names) written c.loop-typing.typing-index one e c.loop-typing-test.true c.typing-item.is
    (ap (λ l. name_verdict text (declared l) (typed_of one)) (sym c.deref.ensures.value) ∙ is)))

pub loop-typing-preserved : goal.loop-typing-preserved
loop-typing-preserved c =
    let text = c.args.text.now in
    let written = c.args.written.now in
    let i = c.loop-typing.typing-index in
    let names = c.loop-typing.names.items in
    let one = c.typing-item.result in
    let name = c.in_ok-name.name in
    c.loop-typing.invariant
    ∙ names_given text (declared names) written i one (declaration_of name) c.loop-typing-test.true c.typing-item.is
    (ap (λ l. name_verdict text (declared l) (typed_of one)) (sym c.deref.ensures.value) ∙ c.in_ok-name.ensures)
    ∙ ap (λ earlier. names_verdict text earlier (map typed_of (drop (i + 1) written))) (sym (ap declared c.in_ok-push.ensures.items ∙ map_push declaration_of names name))
