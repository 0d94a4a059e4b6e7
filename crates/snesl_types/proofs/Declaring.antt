-- One step over declarations, and over the names of parameters.
use Rattle.std.proofs.Common.{◌≡◌, ℕ, zero, suc, ◌+◌, ◌<◌, List, [], ◌∷◌, ◌++◌, map, drop, length, get_or, Result, Ok, Err, sym, ap, ◌∙◌, arith}
use Rattle.snesl_data.specs.declared.dialect.Dialect.{Dialect}
use Rattle.snesl_data.specs.declared.refusal.Refusal.{Refusal}
use Rattle.snesl_values.specs.Inputs.{InputDeclaration}
use Rattle.snesl_grammar.specs.declared.tree.declaration.Declaration.{Declaration as Written}
use Rattle.snesl_grammar.specs.declared.tree.declaration.Typing.{Typing}
use Rattle.snesl_grammar.specs.tree.View.{typed_of, declaration_of}
use Rattle.snesl_types.specs.Programs.{Declared, and_then}
use Rattle.snesl_types.specs.Verdicts.{name_verdict, names_verdict, declaration_verdict, declarations_verdict}

module _ (text : List ℕ) where
  -- with a name, those after it
  abbrev with_others : List InputDeclaration → List Typing → Result InputDeclaration Refusal → Result (List InputDeclaration) Refusal
  with_others earlier others r = and_then r (λ declaration. names_verdict text (earlier ++ declaration ∷ []) (map typed_of others))

  names_next : (earlier : List InputDeclaration) (written : List Typing) (i : ℕ) (one : Typing) (declaration : InputDeclaration) → i < length written → one ≡ get_or written i one
      → name_verdict text earlier (typed_of one) ≡ Ok declaration
      → names_verdict text earlier (map typed_of (drop i written)) ≡ names_verdict text (earlier ++ declaration ∷ []) (map typed_of (drop (suc i) written))
  names_next earlier [] i one declaration l is e = absurd (omega arith)
  names_next earlier (x ∷ written) zero one declaration l is e = ap (with_others earlier written) (ap (λ y. name_verdict text earlier (typed_of y)) (sym is) ∙ e)
  names_next earlier (x ∷ written) (suc i) one declaration l is e = names_next earlier written i one declaration (omega arith) is e

  pub names_given : (earlier : List InputDeclaration) (written : List Typing) (i : ℕ) (one : Typing) (declaration : InputDeclaration) → i < length written → one ≡ get_or written i one
      → name_verdict text earlier (typed_of one) ≡ Ok declaration
      → names_verdict text earlier (map typed_of (drop i written)) ≡ names_verdict text (earlier ++ declaration ∷ []) (map typed_of (drop (i + 1) written))
  names_given earlier written i one declaration l is e =
      let same : suc i ≡ i + 1 = omega arith in
      names_next earlier written i one declaration l is e ∙ ap (λ j. names_verdict text (earlier ++ declaration ∷ []) (map typed_of (drop j written))) same

  pub names_refused : (earlier : List InputDeclaration) (written : List Typing) (i : ℕ) (one : Typing) (refusal : Refusal) → i < length written → one ≡ get_or written i one
      → name_verdict text earlier (typed_of one) ≡ Err refusal → names_verdict text earlier (map typed_of (drop i written)) ≡ Err refusal
  names_refused earlier [] i one refusal l is e = absurd (omega arith)
  names_refused earlier (x ∷ written) zero one refusal l is e = ap (with_others earlier written) (ap (λ y. name_verdict text earlier (typed_of y)) (sym is) ∙ e)
  names_refused earlier (x ∷ written) (suc i) one refusal l is e = names_refused earlier written i one refusal (omega arith) is e

  pub declaration_refused : (dialect : Dialect) (earlier : Declared) (written : List Written) (i : ℕ) (one : Written) (refusal : Refusal) → i < length written → one ≡ get_or written i one
      → declaration_verdict dialect text earlier (declaration_of one) ≡ Err refusal → declarations_verdict dialect text earlier (map declaration_of (drop i written)) ≡ Err refusal
  declaration_refused dialect earlier [] i one refusal l is e = absurd (omega arith)
  declaration_refused dialect earlier (x ∷ written) zero one refusal l is e =
      ap (λ r. and_then r (λ declared. declarations_verdict dialect text declared (map declaration_of written))) (ap (λ y. declaration_verdict dialect text earlier (declaration_of y)) (sym is) ∙ e)
  declaration_refused dialect earlier (x ∷ written) (suc i) one refusal l is e = declaration_refused dialect earlier written i one refusal (omega arith) is e
