use Rattle.std.proofs.Common.{◌≡◌, ◌+◌, ◌∷◌, ◌++◌, [], true, false, sym, ap, ◌∙◌, subst, arith}
use Rattle.std.specs.Str.{bytes_eq}
use Rattle.snesl_grammar.specs.declared.tree.declaration.Function.{Function}
use Rattle.snesl_grammar.specs.tree.Spelling.{spelling}
use Rattle.snesl_evaluation.specs.Scopes.{weight}
use Rattle.snesl_translator.specs.Called.{IsLast, IsNoHeavier, IsUnknown}
use Rattle.snesl_evaluation.proofs.Declared.{IsOther, found_before, none_before, weight-less, weight-function}
use Rattle.snesl_translator.proofs.Declared.{bodies_pass, bodies_reach}
use Rattle.snesl_translator.proofs.functions.+find_function.Goals as goal

pub returns-in-Input-clause-found : goal.returns-in-Input-clause-found
returns-in-Input-clause-found t c =
    let text = c.args.text.now in
    let name = c.args.name.now in
    let all = c.args.declarations.now in
    let earlier = c.in_ok-last.earlier.now in
    let other = subst (IsOther text name) (sym c.in-Input.is) tt in
    found_before (IsLast text earlier name) (IsLast text all name) c.find_function.result
    (λ found h dialect at us control next. bodies_pass dialect text name all earlier c.in_ok-last.last.now c.in_ok-last.ensures.cases.0 other at us control next ∙ h dialect at us control next)
    c.find_function.ensures.found

pub returns-in-Input-clause-unknown : goal.returns-in-Input-clause-unknown
returns-in-Input-clause-unknown t c =
    let text = c.args.text.now in
    let name = c.args.name.now in
    let all = c.args.declarations.now in
    let earlier = c.in_ok-last.earlier.now in
    let other = subst (IsOther text name) (sym c.in-Input.is) tt in
    none_before (IsUnknown text earlier name) (IsUnknown text all name) c.find_function.result
    (λ h dialect at us control next. bodies_pass dialect text name all earlier c.in_ok-last.last.now c.in_ok-last.ensures.cases.0 other at us control next ∙ h dialect at us control next)
    c.find_function.ensures.unknown

pub returns-in-Input-clause-weighed : goal.returns-in-Input-clause-weighed
returns-in-Input-clause-weighed t c =
    let all = c.args.declarations.now in
    let earlier = c.in_ok-last.earlier.now in
    found_before (IsNoHeavier earlier) (IsNoHeavier all) c.find_function.result
    (λ found h. weight-less all earlier c.in_ok-last.last.now _ c.in_ok-last.ensures.cases.0 h)
    c.find_function.ensures.weighed

pub returns-then-eq-clause-found : goal.returns-then-eq-clause-found
returns-then-eq-clause-found t c = λ dialect at us control next.
    let text = c.args.text.now in
    let name = c.args.name.now in
    let earlier = c.in_ok-last.earlier.now in
    let here : bytes_eq name (spelling text c.in-Function.function.name) ≡ true = ap (bytes_eq name) (sym c.spelled.ensures) ∙ sym c.eq.ensures ∙ c.if-eq.true in
    bodies_reach dialect text name c.args.declarations.now earlier c.in-Function.function (c.in_ok-last.ensures.cases.0 ∙ ap (λ d. earlier ++ d ∷ []) c.in-Function.is) here at us control next

pub returns-then-eq-clause-weighed : goal.returns-then-eq-clause-weighed
returns-then-eq-clause-weighed t c =
    let earlier = c.in_ok-last.earlier.now in
    let w = weight-function c.args.declarations.now earlier c.in-Function.function (c.in_ok-last.ensures.cases.0 ∙ ap (λ d. earlier ++ d ∷ []) c.in-Function.is) in
    omega arith

pub returns-else-eq-clause-found : goal.returns-else-eq-clause-found
returns-else-eq-clause-found t c =
    let text = c.args.text.now in
    let name = c.args.name.now in
    let all = c.args.declarations.now in
    let earlier = c.in_ok-last.earlier.now in
    let away : bytes_eq name (spelling text c.in-Function.function.name) ≡ false = ap (bytes_eq name) (sym c.spelled.ensures) ∙ sym c.eq.ensures ∙ c.if-eq.false in
    let other = subst (IsOther text name) (sym c.in-Function.is) away in
    found_before (IsLast text earlier name) (IsLast text all name) c.find_function-else-eq.result
    (λ found h dialect at us control next. bodies_pass dialect text name all earlier c.in_ok-last.last.now c.in_ok-last.ensures.cases.0 other at us control next ∙ h dialect at us control next)
    c.find_function-else-eq.ensures.found

pub returns-else-eq-clause-unknown : goal.returns-else-eq-clause-unknown
returns-else-eq-clause-unknown t c =
    let text = c.args.text.now in
    let name = c.args.name.now in
    let all = c.args.declarations.now in
    let earlier = c.in_ok-last.earlier.now in
    let away : bytes_eq name (spelling text c.in-Function.function.name) ≡ false = ap (bytes_eq name) (sym c.spelled.ensures) ∙ sym c.eq.ensures ∙ c.if-eq.false in
    let other = subst (IsOther text name) (sym c.in-Function.is) away in
    none_before (IsUnknown text earlier name) (IsUnknown text all name) c.find_function-else-eq.result
    (λ h dialect at us control next. bodies_pass dialect text name all earlier c.in_ok-last.last.now c.in_ok-last.ensures.cases.0 other at us control next ∙ h dialect at us control next)
    c.find_function-else-eq.ensures.unknown

pub returns-else-eq-clause-weighed : goal.returns-else-eq-clause-weighed
returns-else-eq-clause-weighed t c =
    let all = c.args.declarations.now in
    let earlier = c.in_ok-last.earlier.now in
    found_before (IsNoHeavier earlier)
    (IsNoHeavier all) c.find_function-else-eq.result
    (λ found h. weight-less all earlier c.in_ok-last.last.now _ c.in_ok-last.ensures.cases.0 h)
    c.find_function-else-eq.ensures.weighed
