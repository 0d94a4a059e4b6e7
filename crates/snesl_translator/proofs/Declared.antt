-- The bodies of declared functions, seen from the last declaration.
use Rattle.std.proofs.Common.{◌≡◌, ℕ, List, [], ◌∷◌, ◌++◌, map, true, if◌then◌else◌, refl, ap, ◌∙◌}
use Rattle.std.proofs.lemmas.List.{map-append}
use Rattle.std.specs.Str.{bytes_eq}
use Rattle.snesl_data.specs.declared.dialect.Dialect.{Dialect}
use Rattle.snesl_grammar.specs.declared.tree.declaration.Declaration.{Declaration}
use Rattle.snesl_grammar.specs.declared.tree.declaration.Declaration.TheVariants.{Input, Function as FunctionDeclaration}
use Rattle.snesl_grammar.specs.declared.tree.declaration.Function.{Function}
use Rattle.snesl_grammar.specs.tree.Spelling.{spelling}
use Rattle.snesl_grammar.specs.tree.Tree.{DeclarationTree}
use Rattle.snesl_grammar.specs.tree.View.{declaration_of}
use Rattle.snesl_evaluation.proofs.Declared.{IsOther}
use Rattle.snesl_translation.specs.Wires.{Wires}
use Rattle.snesl_translation.specs.Translation.{Bodies}
use Rattle.snesl_translation.specs.Functions.{bodies_after, bodies_of, no_bodies, with_body}
use Rattle.snesl_translator.specs.Called.{entered}

bodies_after-last : (dialect : Dialect) (text : List ℕ) (bodies : Bodies) (declarations : List DeclarationTree) (last : DeclarationTree)
    → bodies_after dialect text bodies (declarations ++ last ∷ []) ≡ with_body dialect text (bodies_after dialect text bodies declarations) last
bodies_after-last dialect text bodies [] last = refl
bodies_after-last dialect text bodies (declaration ∷ declarations) last = bodies_after-last dialect text (with_body dialect text bodies declaration) declarations last

bodies_of-last : (dialect : Dialect) (text : List ℕ) (all earlier : List Declaration) (last : Declaration) → all ≡ earlier ++ last ∷ []
    → bodies_of dialect text (map declaration_of all) ≡ with_body dialect text (bodies_of dialect text (map declaration_of earlier)) (declaration_of last)
bodies_of-last dialect text all earlier last e =
    ap (λ l. bodies_of dialect text (map declaration_of l)) e
    ∙ ap (bodies_of dialect text) (map-append declaration_of earlier (last ∷ []))
    ∙ bodies_after-last dialect text no_bodies (map declaration_of earlier) (declaration_of last)

-- a declaration that is no function of the name is passed over
pub bodies_pass : (dialect : Dialect) (text name : List ℕ) (all earlier : List Declaration) (last : Declaration) → all ≡ earlier ++ last ∷ [] → IsOther text name last
    → (at : ℕ) (us : List Wires) (control next : ℕ)
    → bodies_of dialect text (map declaration_of all) at name us control next ≡ bodies_of dialect text (map declaration_of earlier) at name us control next
bodies_pass dialect text name all earlier (Input typing) e other at us control next =
    ap (λ (bodies : Bodies). bodies at name us control next) (bodies_of-last dialect text all earlier (Input typing) e)
bodies_pass dialect text name all earlier (FunctionDeclaration function) e other at us control next =
    ap (λ (bodies : Bodies). bodies at name us control next) (bodies_of-last dialect text all earlier (FunctionDeclaration function) e)
    ∙ ap (λ b. if b then entered dialect text function earlier us control next else bodies_of dialect text (map declaration_of earlier) at name us control next) other

-- a function of the name is called
pub bodies_reach : (dialect : Dialect) (text name : List ℕ) (all earlier : List Declaration) (function : Function) → all ≡ earlier ++ FunctionDeclaration function ∷ []
    → bytes_eq name (spelling text function.name) ≡ true → (at : ℕ) (us : List Wires) (control next : ℕ)
    → bodies_of dialect text (map declaration_of all) at name us control next ≡ entered dialect text function earlier us control next
bodies_reach dialect text name all earlier function e here at us control next =
    ap (λ (bodies : Bodies). bodies at name us control next) (bodies_of-last dialect text all earlier (FunctionDeclaration function) e)
    ∙ ap (λ b. if b then entered dialect text function earlier us control next else bodies_of dialect text (map declaration_of earlier) at name us control next) here
