use Rattle.std.proofs.Common.{◌≡◌, ℕ, ◌+◌, ◌≤◌, ◌∷◌, ◌++◌, [], true, false, Bor, List, Option, IfSome, IfNone, sym, ap, ◌∙◌, subst, arith}
use Rattle.std.specs.Str.{bytes_eq}
use Rattle.snesl_grammar.specs.declared.tree.declaration.Declaration.{Declaration}
use Rattle.snesl_grammar.specs.declared.tree.declaration.Function.{Function}
use Rattle.snesl_grammar.specs.tree.Spelling.{spelling}
use Rattle.snesl_evaluation.specs.Scopes.{IsCalled, IsUnknown, weight, weight_of}
use Rattle.snesl_evaluation.proofs.Declared.{IsOther, calls_pass, calls_reach, found_before, none_before, weight-less, weight-function}
use Rattle.snesl_evaluation.proofs.calls.+find_function.Goals as goal

abbrev Found : Type 0
Found = Bor Function × Bor (List Declaration)

-- what is found before the last declaration is found in all, where that is no function of the name
module _ (text name : List ℕ) (all earlier : List Declaration) (last : Declaration) (is : all ≡ earlier ++ last ∷ []) (found : Option Found) where
  abbrev Called : List Declaration → Found → Type 0
  Called declarations one = IsCalled text declarations name one.0.now one.1.now

  abbrev Weighs : List Declaration → Found → Type 0
  Weighs declarations one = weight_of one.0.now + weight one.1.now ≤ weight declarations

  found_pass : IsOther text name last → IfSome found (Called earlier) → IfSome found (Called all)
  found_pass other h =
      found_before (Called earlier) (Called all) found (λ one k dialect at values. calls_pass dialect text name all earlier last is other at values ∙ k dialect at values) h

  unknown_pass : IsOther text name last → IfNone found (IsUnknown text earlier name) → IfNone found (IsUnknown text all name)
  unknown_pass other h =
      none_before (IsUnknown text earlier name) (IsUnknown text all name) found
      (λ k dialect at values. calls_pass dialect text name all earlier last is other at values ∙ k dialect at values) h

  weighed_pass : IfSome found (Weighs earlier) → IfSome found (Weighs all)
  weighed_pass h = found_before (Weighs earlier) (Weighs all) found (λ one k. weight-less all earlier last _ is k) h

pub returns-in-Input-clause-found : goal.returns-in-Input-clause-found
returns-in-Input-clause-found t c =
    let last = c.in_ok-last.last.now in
    let other = subst (IsOther c.args.text.now c.args.name.now) (sym c.in-Input.is) tt in
    found_pass c.args.text.now c.args.name.now c.args.declarations.now c.in_ok-last.earlier.now last c.in_ok-last.ensures.cases.0 c.find_function.result other c.find_function.ensures.found

pub returns-in-Input-clause-unknown : goal.returns-in-Input-clause-unknown
returns-in-Input-clause-unknown t c =
    let last = c.in_ok-last.last.now in
    let other = subst (IsOther c.args.text.now c.args.name.now) (sym c.in-Input.is) tt in
    unknown_pass c.args.text.now c.args.name.now c.args.declarations.now c.in_ok-last.earlier.now last c.in_ok-last.ensures.cases.0 c.find_function.result other c.find_function.ensures.unknown

pub returns-in-Input-clause-weighed : goal.returns-in-Input-clause-weighed
returns-in-Input-clause-weighed t c =
    weighed_pass c.args.text.now c.args.name.now c.args.declarations.now c.in_ok-last.earlier.now c.in_ok-last.last.now c.in_ok-last.ensures.cases.0 c.find_function.result
    c.find_function.ensures.weighed

pub returns-then-eq-clause-found : goal.returns-then-eq-clause-found
returns-then-eq-clause-found t c = λ dialect at values.
    let text = c.args.text.now in
    let name = c.args.name.now in
    let earlier = c.in_ok-last.earlier.now in
    let here : bytes_eq name (spelling text c.in-Function.function.name) ≡ true = ap (bytes_eq name) (sym c.spelled.ensures) ∙ sym c.eq.ensures ∙ c.if-eq.true in
    calls_reach dialect text name c.args.declarations.now earlier c.in-Function.function (c.in_ok-last.ensures.cases.0 ∙ ap (λ d. earlier ++ d ∷ []) c.in-Function.is) here at values

pub returns-then-eq-clause-weighed : goal.returns-then-eq-clause-weighed
returns-then-eq-clause-weighed t c =
    let earlier = c.in_ok-last.earlier.now in
    let w = weight-function c.args.declarations.now earlier c.in-Function.function (c.in_ok-last.ensures.cases.0 ∙ ap (λ d. earlier ++ d ∷ []) c.in-Function.is) in
    omega arith

pub returns-else-eq-clause-found : goal.returns-else-eq-clause-found
returns-else-eq-clause-found t c =
    let text = c.args.text.now in
    let name = c.args.name.now in
    let away : bytes_eq name (spelling text c.in-Function.function.name) ≡ false = ap (bytes_eq name) (sym c.spelled.ensures) ∙ sym c.eq.ensures ∙ c.if-eq.false in
    let last = c.in_ok-last.last.now in
    found_pass text name c.args.declarations.now c.in_ok-last.earlier.now last c.in_ok-last.ensures.cases.0 c.find_function-else-eq.result
    (subst (IsOther text name) (sym c.in-Function.is) away) c.find_function-else-eq.ensures.found

pub returns-else-eq-clause-unknown : goal.returns-else-eq-clause-unknown
returns-else-eq-clause-unknown t c =
    let text = c.args.text.now in
    let name = c.args.name.now in
    let away : bytes_eq name (spelling text c.in-Function.function.name) ≡ false = ap (bytes_eq name) (sym c.spelled.ensures) ∙ sym c.eq.ensures ∙ c.if-eq.false in
    let last = c.in_ok-last.last.now in
    unknown_pass text name c.args.declarations.now c.in_ok-last.earlier.now last c.in_ok-last.ensures.cases.0 c.find_function-else-eq.result
    (subst (IsOther text name) (sym c.in-Function.is) away) c.find_function-else-eq.ensures.unknown

pub returns-else-eq-clause-weighed : goal.returns-else-eq-clause-weighed
returns-else-eq-clause-weighed t c =
    weighed_pass c.args.text.now c.args.name.now c.args.declarations.now c.in_ok-last.earlier.now c.in_ok-last.last.now c.in_ok-last.ensures.cases.0 c.find_function-else-eq.result
    c.find_function-else-eq.ensures.weighed
