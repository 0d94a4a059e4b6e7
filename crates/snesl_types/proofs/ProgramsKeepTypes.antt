-- Programs keep types: each function's calls do, under the functions before it.
use Rattle.std.proofs.Common.{◌≡◌, ℕ, Bool, true, false, List, [], ◌∷◌, ◌++◌, map, Some, None, refl, sym, ap, subst, ◌∙◌, append_assoc}
use Rattle.std.proofs.lemmas.List.{append-nil}
use Rattle.std.proofs.lemmas.Slice.Eq.{bytes_eq-Decides}
use Rattle.std.specs.Prelude.{if◌then◌else◌}
use Rattle.std.specs.Str.{bytes_eq}
use Rattle.snesl_data.specs.declared.dialect.Dialect.{Dialect}
use Rattle.snesl_values.specs.Inputs.{InputDeclaration, Environment, FitDeclarations}
use Rattle.snesl_data.specs.Values.{Value, HasType}
use Rattle.snesl_grammar.specs.declared.tree.span.Span.{Span}
use Rattle.snesl_grammar.specs.tree.Spelling.{spelling}
use Rattle.snesl_grammar.specs.tree.Tree.{Tree, TypeTree, TypedName, DeclarationTree, declares_input, declares_function}
use Rattle.snesl_evaluation.specs.Answer.{gives}
use Rattle.snesl_evaluation.specs.Eval.{Calls, eval, no_calls, parameters_with, function_answer, with_declaration, calls_after}
use Rattle.snesl_types.specs.Contexts.{names_context, Signature, Signatures, function_named}
use Rattle.snesl_types.specs.Programs.{Declared, typed_name, NamesType, no_names, more_names, FunctionTypes, function_type, DeclarationsType, no_declarations, input_declared, function_declared}
use Rattle.snesl_types.specs.Soundness.{HaveTypes, Safe, Holds, CallsHold, TypedProgramsAreSound}
use Rattle.snesl_types.proofs.BuiltinsKeepTypes.{go_safe}
use Rattle.snesl_types.proofs.KeepsTypes.{sound, opened_holds}

-- where the last function is found, it is the new one or an earlier one
found_last : (bytes : List ℕ) (functions : Signatures) (new signature : Signature) → function_named bytes (functions ++ (new ∷ [])) ≡ Some signature
    → bytes_eq bytes new.bytes ≡ false → function_named bytes functions ≡ Some signature
found_last bytes [] new signature e other = absurd (let never : ⊥ = cc in never)
found_last bytes (first ∷ functions) new signature e other = by_test (λ e'. found_last bytes functions new signature e' other) (bytes_eq bytes first.bytes) e
  where
    by_test : (function_named bytes (functions ++ (new ∷ [])) ≡ Some signature → function_named bytes functions ≡ Some signature)
        → (b : Bool) → (if b then Some first else function_named bytes (functions ++ (new ∷ []))) ≡ Some signature
        → (if b then Some first else function_named bytes functions) ≡ Some signature
    by_test further true e' = e'
    by_test further false e' = further e'

found_new : (bytes : List ℕ) (functions : Signatures) (new : Signature) → function_named bytes functions ≡ None → bytes_eq bytes new.bytes ≡ true
    → function_named bytes (functions ++ (new ∷ [])) ≡ Some new
found_new bytes [] new e same = rw same refl
found_new bytes (first ∷ functions) new e same = by_test (λ e'. found_new bytes functions new e' same) (bytes_eq bytes first.bytes) e
  where
    by_test : (function_named bytes functions ≡ None → function_named bytes (functions ++ (new ∷ [])) ≡ Some new)
        → (b : Bool) → (if b then Some first else function_named bytes functions) ≡ None
        → (if b then Some first else function_named bytes (functions ++ (new ∷ []))) ≡ Some new
    by_test further true e' = cc
    by_test further false e' = further e'

module _ (dialect : Dialect) where
  -- the parameters of a function with values of their types: what the body sees
  record ParametersSafe (text : List ℕ) (earlier : List InputDeclaration) (written : List TypedName) (all : List InputDeclaration) : Type 0 where
    new : List InputDeclaration
    same : all ≡ earlier ++ new
    safe : (at : ℕ) (vs : List Value) → HaveTypes dialect vs (map (λ parameter. parameter.1) new) → Safe (FitDeclarations dialect new) (parameters_with at text written vs)

  parameters_safe : {text : List ℕ} {earlier all : List InputDeclaration} {written : List TypedName} → NamesType text earlier written all → ParametersSafe text earlier written all
  parameters_safe {text = text} {earlier = earlier} no_names = record { new = []; same = sym (append-nil earlier); safe = none }
    where
      none : (at : ℕ) (vs : List Value) → HaveTypes dialect vs [] → Safe (FitDeclarations dialect []) (parameters_with at text [] vs)
      none at [] h = tt
      none at (v ∷ vs) h = absurd h
  parameters_safe {text = text} {earlier = earlier} {all = all} (more_names {first = first} {others = others} {t = t} e w ds) =
      let later = parameters_safe ds in
      record { new = typed_name text first t ∷ later.new; same = later.same ∙ append_assoc earlier (typed_name text first t ∷ []) later.new; safe = more later }
    where
      more : (later : ParametersSafe text (earlier ++ (typed_name text first t ∷ [])) others all) (at : ℕ) (vs : List Value)
          → HaveTypes dialect vs (t ∷ map (λ parameter. parameter.1) later.new)
          → Safe (FitDeclarations dialect (typed_name text first t ∷ later.new)) (parameters_with at text (first ∷ others) vs)
      more later at (v ∷ vs) h =
          go_safe (FitDeclarations dialect later.new) (FitDeclarations dialect (typed_name text first t ∷ later.new))
          (parameters_with at text others vs) (λ environment. gives ((spelling text first.place, v) ∷ environment)) (later.safe at vs h.1)
          (λ environment he. (refl, h.0, he))
      more later at [] h = absurd h

  -- a function's calls give values of its declared type
  function_safe : {text : List ℕ} {functions : Signatures} {place : Span} {written : List TypedName} {result : TypeTree} {body : Tree} {signature : Signature}
      → FunctionTypes dialect text functions place written result body signature → (calls : Calls) → CallsHold dialect functions calls
      → (at : ℕ) (vs : List Value) → HaveTypes dialect vs signature.parameters
      → Safe (λ v. HasType dialect v signature.result) (function_answer dialect at text calls written body vs)
  function_safe {text = text} (function_type {written = written} {body = body} {parameters = parameters} {t = t} e names w d) calls hold at vs h =
      let all = parameters_safe names in
      let fits : Safe (FitDeclarations dialect parameters) (parameters_with at text written vs) =
      subst (λ p. Safe (FitDeclarations dialect p) (parameters_with at text written vs)) (sym all.same)
      (all.safe at vs (subst (λ p. HaveTypes dialect vs (map (λ (parameter : InputDeclaration). parameter.1) p)) all.same h)) in
      go_safe (FitDeclarations dialect parameters) (λ v. HasType dialect v t) (parameters_with at text written vs) (λ environment. eval dialect body text calls environment) fits (λ environment he.
      sound dialect calls hold d environment (alone environment he))
    where
      alone : (environment : Environment) → FitDeclarations dialect parameters environment → Holds dialect (names_context parameters) environment
      alone environment he =
          subst (λ c. Holds dialect c environment) (append-nil (names_context parameters))
          (subst (λ r. Holds dialect (names_context parameters ++ []) r) (append-nil environment) (opened_holds dialect parameters environment [] [] he tt))

  -- the name of a function is new, and its signature has it
  fresh_of : {text : List ℕ} {functions : Signatures} {place : Span} {written : List TypedName} {result : TypeTree} {body : Tree} {signature : Signature}
      → FunctionTypes dialect text functions place written result body signature
      → (function_named (spelling text place) functions ≡ None) × (signature.bytes ≡ spelling text place)
  fresh_of (function_type fresh names w d) = (fresh, refl)

  one_more : {text : List ℕ} {functions : Signatures} {place : Span} {written : List TypedName} {result : TypeTree} {body : Tree} {signature : Signature}
      → FunctionTypes dialect text functions place written result body signature → (calls : Calls) → CallsHold dialect functions calls
      → function_named (spelling text place) functions ≡ None → signature.bytes ≡ spelling text place
      → (at : ℕ) (bytes : List ℕ) (called : Signature) (vs : List Value) → function_named bytes (functions ++ (signature ∷ [])) ≡ Some called → HaveTypes dialect vs called.parameters
      → (b : Bool) → bytes_eq bytes (spelling text place) ≡ b
      → Safe (λ v. HasType dialect v called.result) (if b then function_answer dialect at text calls written body vs else calls at bytes vs)
  one_more {text = text} {functions = functions} {place = place} {written = written} {body = body} {signature = signature} d calls hold fresh spelled at bytes called vs e h true same =
      let is : bytes ≡ spelling text place = (bytes_eq-Decides bytes (spelling text place)).0 same in
      let none : function_named bytes functions ≡ None = ap (λ name. function_named name functions) is ∙ fresh in
      let there : function_named bytes (functions ++ (signature ∷ [])) ≡ Some signature = found_new bytes functions signature none (ap (bytes_eq bytes) spelled ∙ same) in
      let one : signature ≡ called = cc (there, e) in
      subst (λ s. HaveTypes dialect vs s.parameters → Safe (λ v. HasType dialect v s.result) (function_answer dialect at text calls written body vs)) one (function_safe d calls hold at vs) h
  one_more {text = text} {functions = functions} {place = place} {signature = signature} d calls hold fresh spelled at bytes called vs e h false other =
      hold at bytes called vs (found_last bytes functions signature called e (ap (bytes_eq bytes) spelled ∙ other)) h

  declarations_hold : {text : List ℕ} {earlier all : Declared} {declarations : List DeclarationTree} → DeclarationsType dialect text earlier declarations all → (calls : Calls)
      → CallsHold dialect earlier.functions calls → CallsHold dialect all.functions (calls_after dialect text calls declarations)
  declarations_hold no_declarations calls hold = hold
  declarations_hold {text = text} (input_declared {declared = declared} names ds) calls hold = declarations_hold ds (with_declaration dialect text calls (declares_input declared)) hold
  declarations_hold {text = text} (function_declared {place = place} {written = written} {result = result} {body = body} d ds) calls hold =
      declarations_hold ds (with_declaration dialect text calls (declares_function place written result body)) (λ at bytes called vs e h.
      one_more d calls hold (fresh_of d).0 (fresh_of d).1 at bytes called vs e h (bytes_eq bytes (spelling text place)) refl)

pub programs_are_sound : TypedProgramsAreSound
programs_are_sound text program declared t environment types fits =
    sound program.dialect (calls_after program.dialect text no_calls program.declarations)
    (declarations_hold program.dialect types.declarations no_calls (λ at bytes signature vs e h. absurd (let never : ⊥ = cc in never)))
    types.expression environment
    (subst (λ c. Holds program.dialect c environment) (append-nil (names_context declared.inputs))
    (subst (λ r. Holds program.dialect (names_context declared.inputs ++ []) r) (append-nil environment) (opened_holds program.dialect declared.inputs environment [] [] fits tt)))
