-- The calls of declarations, seen from the last one.
use Rattle.std.proofs.Common.{◌≡◌, ℕ, ◌+◌, ◌≤◌, List, [], ◌∷◌, ◌++◌, map, true, false, if◌then◌else◌, Option, Some, None, IfSome, IfNone, refl, ap, ◌∙◌, arith}
use Rattle.std.specs.Str.{bytes_eq}
use Rattle.snesl_data.specs.declared.dialect.Dialect.{Dialect}
use Rattle.snesl_data.specs.Values.{Value}
use Rattle.snesl_grammar.specs.declared.tree.declaration.Function.{Function}
use Rattle.snesl_grammar.specs.tree.Spelling.{spelling}
use Rattle.std.proofs.lemmas.List.{map-append}
use Rattle.snesl_grammar.specs.declared.tree.declaration.Declaration.{Declaration}
use Rattle.snesl_grammar.specs.declared.tree.declaration.Declaration.TheVariants.{Input, Function as FunctionDeclaration}
use Rattle.snesl_grammar.specs.tree.Tree.{DeclarationTree}
use Rattle.snesl_grammar.specs.tree.View.{declaration_of}
use Rattle.snesl_evaluation.specs.Eval.{Calls, calls_after, calls_of, no_calls, with_declaration}
use Rattle.snesl_evaluation.specs.Scopes.{entered, weight, weight_of}

calls_after-last : (dialect : Dialect) (text : List ℕ) (calls : Calls) (declarations : List DeclarationTree) (last : DeclarationTree)
    → calls_after dialect text calls (declarations ++ last ∷ []) ≡ with_declaration dialect text (calls_after dialect text calls declarations) last
calls_after-last dialect text calls [] last = refl
calls_after-last dialect text calls (declaration ∷ declarations) last = calls_after-last dialect text (with_declaration dialect text calls declaration) declarations last

pub calls_of-last : (dialect : Dialect) (text : List ℕ) (all earlier : List Declaration) (last : Declaration) → all ≡ earlier ++ last ∷ []
    → calls_of dialect text (map declaration_of all) ≡ with_declaration dialect text (calls_of dialect text (map declaration_of earlier)) (declaration_of last)
calls_of-last dialect text all earlier last e =
    ap (λ l. calls_of dialect text (map declaration_of l)) e
    ∙ ap (calls_of dialect text) (map-append declaration_of earlier (last ∷ []))
    ∙ calls_after-last dialect text no_calls (map declaration_of earlier) (declaration_of last)

-- a declaration that is no function of this name
abbrev pub IsOther : List ℕ → List ℕ → Declaration → Type 0
IsOther text name (Input typing) = Unit {0}
IsOther text name (FunctionDeclaration function) = bytes_eq name (spelling text function.name) ≡ false

pub calls_pass : (dialect : Dialect) (text name : List ℕ) (all earlier : List Declaration) (last : Declaration) → all ≡ earlier ++ last ∷ [] → IsOther text name last
    → (at : ℕ) (values : List Value) → calls_of dialect text (map declaration_of all) at name values ≡ calls_of dialect text (map declaration_of earlier) at name values
calls_pass dialect text name all earlier (Input typing) e other at values = ap (λ calls. calls at name values) (calls_of-last dialect text all earlier (Input typing) e)
calls_pass dialect text name all earlier (FunctionDeclaration function) e other at values =
    ap (λ calls. calls at name values) (calls_of-last dialect text all earlier (FunctionDeclaration function) e)
    ∙ ap (λ b. if b then entered dialect text at function earlier values else calls_of dialect text (map declaration_of earlier) at name values) other

pub calls_reach : (dialect : Dialect) (text name : List ℕ) (all earlier : List Declaration) (function : Function) → all ≡ earlier
    ++ FunctionDeclaration function ∷ [] → bytes_eq name (spelling text function.name) ≡ true
    → (at : ℕ) (values : List Value) → calls_of dialect text (map declaration_of all) at name values ≡ entered dialect text at function earlier values
calls_reach dialect text name all earlier function e here at values =
    ap (λ calls. calls at name values) (calls_of-last dialect text all earlier (FunctionDeclaration function) e)
    ∙ ap (λ b. if b then entered dialect text at function earlier values else calls_of dialect text (map declaration_of earlier) at name values) here

-- what holds of what is found before the last declaration holds of all
pub found_before : {A : Type 0} (P Q : A → Type 0) (o : Option A) → ((x : A) → P x → Q x) → IfSome o P → IfSome o Q
found_before P Q (Some x) f h = f x h
found_before P Q None f h = tt

pub none_before : {A : Type 0} (P Q : Type 0) (o : Option A) → (P → Q) → IfNone o P → IfNone o Q
none_before P Q (Some x) f h = tt
none_before P Q None f h = f h

pub weight-last : (earlier : List Declaration) (last : Declaration) → weight (earlier ++ last ∷ []) ≡ weight (last ∷ []) + weight earlier
weight-last [] last = omega arith
weight-last (Input typing ∷ earlier) last = weight-last earlier last
weight-last (FunctionDeclaration function ∷ earlier) last = let h = weight-last earlier last in omega arith

pub weight-less : (all earlier : List Declaration) (last : Declaration) (n : ℕ) → all ≡ earlier ++ last ∷ [] → n ≤ weight earlier → n ≤ weight all
weight-less all earlier last n e l =
    let w : weight all ≡ weight (last ∷ []) + weight earlier = ap weight e ∙ weight-last earlier last in
    omega arith

pub weight-function : (all earlier : List Declaration) (function : Function) → all ≡ earlier ++ FunctionDeclaration function ∷ [] → weight all ≡ weight_of function + weight earlier
weight-function all earlier function e =
    let w : weight all ≡ (weight_of function + 0) + weight earlier = ap weight e ∙ weight-last earlier (FunctionDeclaration function) in
    omega arith
