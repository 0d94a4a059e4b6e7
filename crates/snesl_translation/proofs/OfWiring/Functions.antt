-- Typed functions make streams of their results' types.
use Rattle.std.specs.Prelude.{◌≡◌, ℕ, Bool, true, false, List, [], ◌∷◌, ◌++◌, map, length, Some, None, if◌then◌else◌, refl}
use Rattle.std.specs.Str.{bytes_eq}
use Rattle.std.proofs.Common.{sym, ap, ◌∙◌, subst, append_assoc, append-nil}
use Rattle.std.proofs.lemmas.Slice.Eq.{bytes_eq-Decides}
use Rattle.snesl_data.specs.declared.dialect.Dialect.{Dialect}
use Rattle.snesl_data.specs.Types.{Ty}
use Rattle.snesl_values.specs.Inputs.{InputDeclaration}
use Rattle.snesl_grammar.specs.declared.tree.span.Span.{Span}
use Rattle.snesl_grammar.specs.tree.Spelling.{spelling}
use Rattle.snesl_grammar.specs.tree.Tree.{Tree, TypedName, TypeTree, DeclarationTree, declares_input, declares_function}
use Rattle.snesl_types.specs.Contexts.{names_context, Signature, Signatures, function_named}
use Rattle.snesl_types.specs.Programs.{Declared, with_inputs, with_function, typed_name, signature_of, NamesType, no_names, more_names, FunctionTypes}
use Rattle.snesl_types.specs.Programs.{function_type, DeclarationsType, no_declarations, input_declared, function_declared}
use Rattle.flow_messages.specs.declared.message.Kind.{Kind}
use Rattle.snesl_translation.specs.Wires.{Wires}
use Rattle.snesl_translation.specs.FreeNames.{Names, without, free}
use Rattle.snesl_translation.specs.Translation.{Bodies, tr}
use Rattle.snesl_translation.specs.Functions.{parameters_bound, with_body, bodies_after}
use Rattle.snesl_translation.proofs.OfWiring.Making.{Makes}
use Rattle.snesl_translation.proofs.OfWiring.Bearing.{Bears, bears_with}
use Rattle.snesl_translation.proofs.OfWiring.Builtins.{AllFit, more_fit}
use Rattle.snesl_translation.proofs.OfWiring.Expressions.{CallsMake, typed_made}

-- parameters

-- streams of arguments that fit the types of these parameters are borne by their names
abbrev ParametersBear : List Kind → List ℕ → List TypedName → List InputDeclaration → Type 0
ParametersBear kinds text written given =
    (us : List Wires) → AllFit kinds (map (λ declaration. declaration.1) given) us → (names : Names) → Bears kinds (parameters_bound text written us) names (names_context given)

none_bear : (kinds : List Kind) (text : List ℕ) → ParametersBear kinds text [] []
none_bear kinds text us fits names = record { fits = λ bytes t among is. absurd (cc) }

more_bear : (kinds : List Kind) (text : List ℕ) (first : TypedName) (others : List TypedName) (t : Ty) (given : List InputDeclaration) → ParametersBear kinds text others given
    → ParametersBear kinds text (first ∷ others) (typed_name text first t ∷ given)
more_bear kinds text first others t given rest [] fits names = elim fits [ ]
more_bear kinds text first others t given rest (u ∷ us) (more_fit fit fits) names =
    bears_with names (spelling text first.place) u t fit (rest us fits (without (spelling text first.place) names))

parameters_bear : (kinds : List Kind) (text : List ℕ) {earlier all : List InputDeclaration} {written : List TypedName} → NamesType text earlier written all
    → (given : List InputDeclaration) × (all ≡ earlier ++ given) × ParametersBear kinds text written given
parameters_bear kinds text (no_names {earlier = earlier}) = ([], sym (append-nil earlier), none_bear kinds text)
parameters_bear kinds text (more_names {earlier = earlier} {first = first} {others = others} {t = t} new is h) =
    let rest = parameters_bear kinds text h in (
      typed_name text first t ∷ rest.0,
      rest.1 ∙ append_assoc earlier (typed_name text first t ∷ []) rest.0,
      more_bear kinds text first others t rest.0 rest.2,
    )

-- the last of functions, and those before it

last_named : (bytes : List ℕ) (functions : Signatures) (signature called : Signature) → function_named bytes functions ≡ None → bytes_eq bytes signature.bytes ≡ true
    → function_named bytes (functions ++ (signature ∷ [])) ≡ Some called → signature ≡ called
last_named bytes [] signature called none same is = let found : Some signature ≡ Some called = sym (ap (λ b. if b then Some signature else None) same) ∙ is in cc
last_named bytes (first ∷ functions) signature called none same is = by_case (bytes_eq bytes first.bytes) none is (λ h g. last_named bytes functions signature called h same g)
  where
    by_case : (b : Bool) → (if b then Some first else function_named bytes functions) ≡ None → (if b then Some first else function_named bytes (functions ++ (signature ∷ []))) ≡ Some called
        → (function_named bytes functions ≡ None → function_named bytes (functions ++ (signature ∷ [])) ≡ Some called → signature ≡ called) → signature ≡ called
    by_case true none is rest = absurd (cc)
    by_case false none is rest = rest none is

earlier_named : (bytes : List ℕ) (functions : Signatures) (signature : Signature) → bytes_eq bytes signature.bytes ≡ false →
    function_named bytes (functions ++ (signature ∷ [])) ≡ function_named bytes functions
earlier_named bytes [] signature other = ap (λ b. if b then Some signature else None) other
earlier_named bytes (first ∷ functions) signature other = ap (λ o. if bytes_eq bytes first.bytes then Some first else o) (earlier_named bytes functions signature other)

module _ (dialect : Dialect) (text : List ℕ) where
  -- one function more
  one_more : (functions : Signatures) (bodies : Bodies) (place : Span) (written : List TypedName) (result : TypeTree) (body : Tree) (signature : Signature) → CallsMake functions bodies
      → FunctionTypes dialect text functions place written result body signature
      → CallsMake (functions ++ (signature ∷ [])) (with_body dialect text bodies (declares_function place written result body))
  one_more functions bodies place written result body signature calls (function_type {parameters = parameters} {t = t} new names typed_result typed) kinds at bytes called us control is fits units =
      by_case (bytes_eq bytes (spelling text place)) refl
    where
      by_case : (b : Bool) → bytes_eq bytes (spelling text place) ≡ b
          → Makes kinds called.result (if b then tr dialect text bodies body (parameters_bound text written us) control (length kinds) else bodies at bytes us control (length kinds))
      by_case false e = calls kinds at bytes called us control (sym (earlier_named bytes functions (signature_of text place parameters t) e) ∙ is) fits units
      by_case true e =
          let same : spelling text place ≡ bytes = sym ((bytes_eq-Decides bytes (spelling text place)).0 e) in
          let this : signature_of text place parameters t ≡ called =
          last_named bytes functions (signature_of text place parameters t) called (subst (λ n. function_named n functions ≡ None) same new) e is in
          let given = parameters_bear kinds text names in
          let arguments : AllFit kinds (map (λ declaration. declaration.1) given.0) us =
          subst (λ l. AllFit kinds (map (λ declaration. declaration.1) l) us) given.1 (subst (λ s. AllFit kinds s.parameters us) (sym this) fits) in
          let bears : Bears kinds (parameters_bound text written us) (free text body) (names_context parameters) =
          subst (λ l. Bears kinds (parameters_bound text written us) (free text body) (names_context l)) (sym given.1) (given.2 us arguments (free text body)) in
          subst (λ s. Makes kinds s.result (tr dialect text bodies body (parameters_bound text written us) control (length kinds))) this
          (typed_made dialect text functions bodies calls typed kinds (parameters_bound text written us) control bears units)

  pub functions_made : (earlier all : Declared) (bodies : Bodies) (declarations : List DeclarationTree) → CallsMake earlier.functions bodies
      → DeclarationsType dialect text earlier declarations all → CallsMake all.functions (bodies_after dialect text bodies declarations)
  functions_made earlier all bodies declarations calls no_declarations = calls
  functions_made earlier all bodies declarations calls (input_declared {inputs = inputs} {declared = declared} {others = others} names h) =
      functions_made (with_inputs earlier inputs) all (with_body dialect text bodies (declares_input declared)) others calls h
  functions_made earlier all bodies declarations calls (function_declared {place = place} {written = written} {result = result} {body = body} {signature = signature} {others = others} typed h) =
      functions_made (with_function text earlier signature body) all (with_body dialect text bodies (declares_function place written result body)) others
      (one_more earlier.functions bodies place written result body signature calls typed) h
