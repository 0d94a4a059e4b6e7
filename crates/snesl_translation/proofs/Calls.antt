-- Functions mean what their calls do.
use Rattle.std.specs.Prelude.{◌≡◌, ℕ, suc, Bool, true, false, List, [], ◌∷◌, ◌++◌, map, length, replicate, zip, Option, Some, None, option_map, if◌then◌else◌, refl}
use Rattle.std.specs.Str.{bytes_eq}
use Rattle.std.proofs.Common.{arith, sym, ap, ◌∙◌, subst, append_assoc, append-nil}
use Rattle.std.proofs.lemmas.Slice.Eq.{bytes_eq-Decides}
use Rattle.snesl_data.specs.declared.dialect.Dialect.{Dialect}
use Rattle.snesl_data.specs.Types.{Ty}
use Rattle.snesl_data.specs.Values.{Value}
use Rattle.snesl_values.specs.Inputs.{InputDeclaration, Environment}
use Rattle.snesl_grammar.specs.declared.tree.span.Span.{Span}
use Rattle.snesl_grammar.specs.tree.Spelling.{spelling}
use Rattle.snesl_grammar.specs.tree.Tree.{Tree, TypedName, TypeTree, DeclarationTree, declares_input, declares_function}
use Rattle.snesl_evaluation.specs.Answer.{gives}
use Rattle.snesl_evaluation.specs.Eval.{Calls, eval, parameters_with, function_answer, with_declaration, calls_after}
use Rattle.snesl_types.specs.Contexts.{names_context, Signature, Signatures, function_named}
use Rattle.snesl_types.specs.Typing.{Types}
use Rattle.snesl_types.specs.Programs.{Declared, with_inputs, with_function, typed_name, signature_of, NamesType, no_names, more_names, FunctionTypes}
use Rattle.snesl_types.specs.Programs.{function_type, DeclarationsType, no_declarations, input_declared, function_declared}
use Rattle.flow_base.specs.Columns.{Columns}
use Rattle.flow_nodes.specs.functions.Lists.{bind, each}
use Rattle.snesl_translation.specs.Wires.{Wires}
use Rattle.snesl_translation.specs.FreeNames.{Names, without, free}
use Rattle.snesl_translation.specs.Translation.{Bodies, tr}
use Rattle.snesl_translation.specs.Functions.{parameters_bound, with_body, bodies_after}
use Rattle.snesl_translation.specs.Carrying.{Controls, given_by, GoesTo}
use Rattle.snesl_translation.specs.Meaning.{Bears, AllCarry}
use Rattle.snesl_translation.specs.Theorems.{CallsMean, TypedExpressionsMean}
use Rattle.snesl_translation.proofs.Instances.{given_go, each_map, each_same, each_length}
use Rattle.snesl_translation.proofs.Operands.{each_after}
use Rattle.snesl_translation.proofs.Bindings.{with_name, borne_with}

-- the names of parameters with their types, after others
parameter_declarations : {text : List ℕ} {earlier all : List InputDeclaration} {written : List TypedName} → NamesType text earlier written all →
    (given : List InputDeclaration) × (all ≡ earlier ++ given)
parameter_declarations no_names = ([], sym (append-nil _))
parameter_declarations {text = text} {earlier = earlier} (more_names {first = first} {t = t} new is h) =
    let p = parameter_declarations h in (typed_name text first t ∷ p.0, p.1 ∙ append_assoc earlier (typed_name text first t ∷ []) p.0)

-- the environments of calls

-- a row with one more value in front, and what its parameters stand for
named_rows : (name : List ℕ) (f : List Value → Option Environment) (vs : List Value) (rows : List (List Value)) (environments : List Environment) →
    length vs ≡ length rows → each f rows ≡ Some environments
    → each (λ (p : Value × List Value). bind (f p.1) (λ environment. Some ((name, p.0) ∷ environment))) (zip vs rows) ≡ Some (with_name name environments vs)
named_rows name f [] [] environments e is = let same : [] ≡ environments = cc in ap (λ l. Some (with_name name l [])) same
named_rows name f [] (row ∷ rows) environments e is = absurd (omega (arith))
named_rows name f (v ∷ vs) [] environments e is = absurd (omega (arith))
named_rows name f (v ∷ vs) (row ∷ rows) environments e is = by_case (f row) (each f rows) (λ others h. named_rows name f vs rows others (omega (arith)) h) is
  where
    by_case : (o : Option Environment) (p : Option (List Environment))
        → ((others : List Environment) → p ≡ Some others →
        each (λ (p : Value × List Value). bind (f p.1) (λ environment. Some ((name, p.0) ∷ environment))) (zip vs rows)
        ≡ Some (with_name name others vs))
        → bind o (λ y. option_map (λ ys. y ∷ ys) p) ≡ Some environments
        → bind (bind o (λ environment. Some ((name, v) ∷ environment)))
        (λ y. option_map (λ ys. y ∷ ys)
        (each (λ (p : Value × List Value). bind (f p.1) (λ environment. Some ((name, p.0) ∷ environment))) (zip vs rows)))
        ≡ Some (with_name name environments (v ∷ vs))
    by_case None p rest e = absurd (cc)
    by_case (Some environment) None rest e = absurd (cc)
    by_case (Some environment) (Some others) rest e =
        let same : environment ∷ others ≡ environments = cc in
        ap (option_map (λ ys. ((name, v) ∷ environment) ∷ ys)) (rest others refl) ∙ ap (λ l. Some (with_name name l (v ∷ vs))) same

empty_environments : (at : ℕ) (text : List ℕ) (rows : List (List Value)) → rows ≡ replicate (length rows) [] → (environments : List Environment)
    × (each (λ row. given_by (parameters_with at text [] row)) rows ≡ Some environments) × (length environments ≡ length rows)
empty_environments at text [] e = ([], refl, refl)
empty_environments at text ([] ∷ rows) e =
    let there : rows ≡ replicate (length rows) [] = cc in
    let h = empty_environments at text rows there in ([] ∷ h.0, ap (option_map (λ ys. [] ∷ ys)) h.1, ap suc h.2)
empty_environments at text ((v ∷ row) ∷ rows) e = absurd (cc)

-- what parameters stand for at rows of arguments: environments that their streams bear
pub parameters_mean : (at : ℕ) (text : List ℕ) (streams : Columns) (earlier all : List InputDeclaration) (written : List TypedName) → NamesType text earlier written all
    → (given : List InputDeclaration) × (all ≡ earlier ++ given) × ((us : List Wires) (rows : List (List Value)) → AllCarry streams us (map (λ declaration. declaration.1) given) rows
    → (environments : List Environment) × (each (λ row. given_by (parameters_with at text written row)) rows ≡ Some environments) × (length environments ≡ length rows)
    × ((names : Names) → Bears streams (parameters_bound text written us) names (names_context given) environments))
parameters_mean at text streams earlier all written no_names = (
  [],
  sym (append-nil earlier),
  λ us rows carry. by_wires us rows carry,
)
  where
    by_wires : (us : List Wires) (rows : List (List Value)) → AllCarry streams us [] rows → (environments : List Environment)
        × (each (λ row. given_by (parameters_with at text [] row)) rows ≡ Some environments)
        × (length environments ≡ length rows) × ((names : Names) → Bears streams [] names [] environments)
    by_wires [] rows carry = let h = empty_environments at text rows carry in (h.0, h.1, h.2, λ names bytes t among is. absurd (cc))
    by_wires (u ∷ us) rows carry = absurd carry
parameters_mean at text streams earlier all written (more_names {first = first} {others = others} {t = t} new is h) =
    let rest = parameters_mean at text streams (earlier ++ (typed_name text first t ∷ [])) all others h in (
      typed_name text first t ∷ rest.0,
      rest.1 ∙ append_assoc earlier (typed_name text first t ∷ []) rest.0,
      by_wires rest.0 rest.2,
    )
  where
    by_wires : (given : List InputDeclaration) → ((us : List Wires) (rows : List (List Value)) → AllCarry streams us (map (λ declaration. declaration.1) given) rows
        → (environments : List Environment) × (each (λ row. given_by (parameters_with at text others row)) rows ≡ Some environments) × (length environments ≡ length rows)
        × ((names : Names) → Bears streams (parameters_bound text others us) names (names_context given) environments))
        → (us : List Wires) (rows : List (List Value)) → AllCarry streams us (t ∷ map (λ declaration. declaration.1) given) rows
        → (environments : List Environment) × (each (λ row. given_by (parameters_with at text (first ∷ others) row)) rows ≡ Some environments) × (length environments ≡ length rows)
        × ((names : Names) → Bears streams (parameters_bound text (first ∷ others) us) names (names_context (typed_name text first t ∷ given)) environments)
    by_wires given rest [] rows carry = absurd carry
    by_wires given rest (u ∷ us) rows (vs, others_rows, is, long, c, carry) =
        let h = rest us others_rows carry in
        let name = spelling text first.place in
        let inner = with_name name h.0 vs in
        let count : length vs ≡ length h.0 = long ∙ sym h.2 in
        let one : (p : Value × List Value) → given_by (parameters_with at text (first ∷ others) (p.0 ∷ p.1))
        ≡ bind (given_by (parameters_with at text others p.1)) (λ environment. Some ((name, p.0) ∷ environment)) =
        λ p. given_go (parameters_with at text others p.1) (λ environment. gives ((name, p.0) ∷ environment)) in
        let made : each (λ row. given_by (parameters_with at text (first ∷ others) row)) (map (λ p. p.0 ∷ p.1) (zip vs others_rows)) ≡ Some inner =
        each_map (λ row. given_by (parameters_with at text (first ∷ others) row)) (λ (p : Value × List Value). p.0 ∷ p.1) (zip vs others_rows)
        ∙ each_same (λ (p : Value × List Value). given_by (parameters_with at text (first ∷ others) (p.0 ∷ p.1)))
        (λ p. bind (given_by (parameters_with at text others p.1)) (λ environment. Some ((name, p.0) ∷ environment))) one (zip vs others_rows)
        ∙ named_rows name (λ row. given_by (parameters_with at text others row)) vs others_rows h.0 long h.1 in (
          inner,
          ap (each (λ row. given_by (parameters_with at text (first ∷ others) row))) is ∙ made,
          each_length (λ row. given_by (parameters_with at text (first ∷ others) row)) rows inner (ap (each (λ row. given_by (parameters_with at text (first ∷ others) row))) is ∙ made),
          λ names. borne_with streams (parameters_bound text others us) name u t names (names_context given) h.0 vs count c (h.3 (without name names)),
        )

-- functions

-- the last function is that of its name where none before it is
last_named : (bytes : List ℕ) (functions : Signatures) (signature : Signature) → function_named bytes functions ≡ None → bytes_eq bytes signature.bytes ≡ true
    → function_named bytes (functions ++ (signature ∷ [])) ≡ Some signature
last_named bytes [] signature none is = ap (λ b. if b then Some signature else None) is
last_named bytes (first ∷ functions) signature none is = by_case (bytes_eq bytes first.bytes) none (λ h. last_named bytes functions signature h is)
  where
    by_case : (b : Bool) → (if b then Some first else function_named bytes functions) ≡ None →
        (function_named bytes functions ≡ None → function_named bytes (functions ++ (signature ∷ [])) ≡ Some signature)
        → (if b then Some first else function_named bytes (functions ++ (signature ∷ []))) ≡ Some signature
    by_case true none rest = absurd (cc)
    by_case false none rest = rest none

-- of another name it is not
earlier_named : (bytes : List ℕ) (functions : Signatures) (signature : Signature) → bytes_eq bytes signature.bytes ≡ false →
    function_named bytes (functions ++ (signature ∷ [])) ≡ function_named bytes functions
earlier_named bytes [] signature other = ap (λ b. if b then Some signature else None) other
earlier_named bytes (first ∷ functions) signature other = ap (λ o. if bytes_eq bytes first.bytes then Some first else o) (earlier_named bytes functions signature other)

module _ (expressions : TypedExpressionsMean) (dialect : Dialect) (text : List ℕ) where
  -- the body of a function means what its calls do
  body_means : (functions : Signatures) (calls : Calls) (bodies : Bodies) (parameters : List InputDeclaration) (written : List TypedName) (body : Tree) (t : Ty) → CallsMean functions calls bodies
      → NamesType text [] written parameters → Types dialect text functions (names_context parameters) body t
      → (streams : Columns) (at : ℕ) (us : List Wires) (control : ℕ) (rows : List (List Value)) →
      AllCarry streams us (map (λ declaration. declaration.1) parameters) rows → Controls streams control (length rows)
      → GoesTo streams t (tr dialect text bodies body (parameters_bound text written us) control (length streams))
      (each (λ row. given_by (function_answer dialect at text calls written body row)) rows)
  body_means functions calls bodies parameters written body t mean names typed streams at us control rows carry controls =
      let given = parameters_mean at text streams [] parameters written names in
      let h = given.2 us rows (subst (λ l. AllCarry streams us (map (λ declaration. declaration.1) l) rows) given.1 carry) in
      let bears : Bears streams (parameters_bound text written us) (free text body) (names_context parameters) h.0 =
      subst (λ l. Bears streams (parameters_bound text written us) (free text body) (names_context l) h.0) (sym given.1) (h.3 (free text body)) in
      let value : Environment → Option Value = λ environment. given_by (eval dialect body text calls environment) in
      let goes = expressions dialect text functions calls bodies (names_context parameters) body t mean typed streams
      (parameters_bound text written us) control h.0 bears (subst (Controls streams control) (sym h.2) controls) in
      let same : each (λ row. given_by (function_answer dialect at text calls written body row)) rows ≡ each value h.0 =
      each_same (λ row. given_by (function_answer dialect at text calls written body row)) (λ row. bind (given_by (parameters_with at text written row)) value)
      (λ row. given_go (parameters_with at text written row) (λ environment. eval dialect body text calls environment)) rows
      ∙ each_after (λ row. given_by (parameters_with at text written row)) value rows
      ∙ ap (λ o. bind o (each value)) h.1 in
      subst (GoesTo streams t (tr dialect text bodies body (parameters_bound text written us) control (length streams))) (sym same) goes

  -- and so with one function more
  one_more : (functions : Signatures) (calls : Calls) (bodies : Bodies) (place : Span) (written : List TypedName) (result : TypeTree) (body : Tree)
      (signature : Signature) → CallsMean functions calls bodies
      → FunctionTypes dialect text functions place written result body signature
      → CallsMean (functions ++ (signature ∷ [])) (with_declaration dialect text calls (declares_function place written result body))
      (with_body dialect text bodies (declares_function place written result body))
  one_more functions calls bodies place written result body signature mean
      (function_type {parameters = parameters} {t = t} new names typed_result typed) streams at bytes called us control rows is carry controls =
      by_case (bytes_eq bytes (spelling text place)) refl
    where
      by_case : (b : Bool) → bytes_eq bytes (spelling text place) ≡ b
          → GoesTo streams called.result (if b then tr dialect text bodies body (parameters_bound text written us) control (length streams) else bodies at bytes us control (length streams))
          (each (λ row. given_by (if b then function_answer dialect at text calls written body row else calls at bytes row)) rows)
      by_case true e =
          let same : spelling text place ≡ bytes = sym ((bytes_eq-Decides bytes (spelling text place)).0 e) in
          let none : function_named bytes functions ≡ None = subst (λ n. function_named n functions ≡ None) same new in
          let this : signature_of text place parameters t ≡ called = let f = last_named bytes functions (signature_of text place parameters t) none e in cc in
          subst (λ s. GoesTo streams s.result (tr dialect text bodies body (parameters_bound text written us) control (length streams))
          (each (λ row. given_by (function_answer dialect at text calls written body row)) rows)) this
          (body_means functions calls bodies parameters written body t mean names typed streams at us control rows (subst (λ s. AllCarry streams us s.parameters rows) (sym this) carry) controls)
      by_case false e =
          mean streams at bytes called us control rows (sym (earlier_named bytes functions (signature_of text place parameters t) e) ∙ is) carry controls

  pub functions_mean : (earlier all : Declared) (calls : Calls) (bodies : Bodies) (declarations : List DeclarationTree) → CallsMean earlier.functions calls bodies
      → DeclarationsType dialect text earlier declarations all → CallsMean all.functions (calls_after dialect text calls declarations) (bodies_after dialect text bodies declarations)
  functions_mean earlier all calls bodies declarations mean no_declarations = mean
  functions_mean earlier all calls bodies declarations mean (input_declared {inputs = inputs} {declared = declared} {others = others} names h) =
      functions_mean (with_inputs earlier inputs) all (with_declaration dialect text calls (declares_input declared)) (with_body dialect text bodies (declares_input declared)) others mean h
  functions_mean earlier all calls bodies declarations mean (function_declared {place = place} {written = written} {result = result} {body = body} {signature = signature} {others = others} typed h) =
      functions_mean (with_function text earlier signature body) all
      (with_declaration dialect text calls (declares_function place written result body))
      (with_body dialect text bodies (declares_function place written result body)) others
      (one_more earlier.functions calls bodies place written result body signature mean typed) h
