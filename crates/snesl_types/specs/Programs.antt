-- Which programs have a type, and which rule a program violates first.
use Rattle.std.specs.Prelude.{◌≡◌, ℕ, suc, ◌<◌, ◌≤◌, nat_le, Bool, true, false, ◌&&◌, if◌then◌else◌, List, [], ◌∷◌, ◌++◌, Some, None, Result, Ok, Err, ◌⊎◌}
use Rattle.snesl_data.specs.declared.dialect.Dialect.{Dialect}
use Rattle.snesl_data.specs.declared.refusal.Refusal.{Refusal}
use Rattle.snesl_data.specs.declared.refusal.Refusal.TheVariants.{Name, Mismatch, Streamed, TooBig, NoMemory}
use Rattle.snesl_values.specs.Inputs.{InputDeclaration}
use Rattle.snesl_data.specs.Types.{Ty, int, bool, pair, vec, seq, is_concrete}
use Rattle.snesl_grammar.specs.declared.tree.span.Span.{Span}
use Rattle.snesl_grammar.specs.tree.Spelling.{spelling}
use Rattle.snesl_grammar.specs.tree.Tree.{Tree, TypeTree, int_type, bool_type, pair_type, vector_type, sequence_type, TypedName, DeclarationTree, declares_input, declares_function, ProgramTree}
use Rattle.snesl_types.specs.Contexts.{names_context, declared_types, type_in, Signature, Signatures, function_named}
use Rattle.snesl_types.specs.Sizes.{BodySizes, is_small, size, greatest_size, greatest_count}
use Rattle.snesl_types.specs.Ranges.{ProgramInRange}
use Rattle.snesl_types.specs.Typing.{Types}
use Rattle.snesl_types.specs.Violations.{Violates}

-- the type, where it is not too big
abbrev pub small_type : Ty → Result Ty Refusal
small_type t = if is_small t then Ok t else Err TooBig

-- goes on with what there is; a refusal ends all
abbrev pub and_then : {A B : Type 0} → Result A Refusal → (A → Result B Refusal) → Result B Refusal
and_then (Ok x) next = next x
and_then (Err refusal) next = Err refusal

-- the type that a written one means, or what it is refused for: its parts from left to right, and then itself;
-- a vector of what holds a sequence is streamed
abbrev pub written_type : TypeTree → Result Ty Refusal
written_type (int_type at) = Ok int
written_type (bool_type at) = Ok bool
written_type (pair_type at first second) = and_then (written_type first) (λ t. and_then (written_type second) (λ u. small_type (pair t u)))
written_type (vector_type at item) = and_then (written_type item) (λ t. if is_concrete t then small_type (vec t) else Err (Streamed at))
written_type (sequence_type at item) = and_then (written_type item) (λ t. small_type (seq t))

-- what was declared so far: the inputs and the functions, in order, and the sizes of the functions' bodies
-- with the calls in them written out
pub record Declared : Type 0 where
  pub inputs : List InputDeclaration
  pub functions : Signatures
  pub sizes : BodySizes

-- with these inputs
abbrev pub with_inputs : Declared → List InputDeclaration → Declared
with_inputs declared inputs = record { inputs = inputs; functions = declared.functions; sizes = declared.sizes }

-- with one more function, of this body
abbrev pub with_function : List ℕ → Declared → Signature → Tree → Declared
with_function text declared signature body = record {
  inputs = declared.inputs;
  functions = declared.functions ++ (signature ∷ []);
  sizes = declared.sizes ++ ((signature.bytes, size text declared.sizes body) ∷ []);
}

-- a name with its type
abbrev pub typed_name : List ℕ → TypedName → Ty → InputDeclaration
typed_name text typed t = (spelling text typed.place, t)

-- after these declared names, further ones give all of these: an input, or parameters
pub data NamesType (text : List ℕ) : List InputDeclaration → List TypedName → List InputDeclaration → Type 0 where
  no_names : {earlier : List InputDeclaration} → NamesType text earlier [] earlier
  more_names : {earlier all : List InputDeclaration} {first : TypedName} {others : List TypedName} {t : Ty}
      → type_in (spelling text first.place) earlier ≡ None
      → written_type first.written ≡ Ok t
      → NamesType text (earlier ++ (typed_name text first t ∷ [])) others all
      → NamesType text earlier (first ∷ others) all

-- the first violation in them: of each first its name, then its type
pub data NamesViolate (text : List ℕ) : List InputDeclaration → List TypedName → Refusal → Type 0 where
  -- a name that is declared for the second time
  named_twice : {earlier : List InputDeclaration} {first : TypedName} {others : List TypedName} {t : Ty}
      → type_in (spelling text first.place) earlier ≡ Some t
      → NamesViolate text earlier (first ∷ others) (Name first.place.at)
  type_refused : {earlier : List InputDeclaration} {first : TypedName} {others : List TypedName} {refusal : Refusal}
      → type_in (spelling text first.place) earlier ≡ None
      → written_type first.written ≡ Err refusal
      → NamesViolate text earlier (first ∷ others) refusal
  later_names_violate : {earlier : List InputDeclaration} {first : TypedName} {others : List TypedName} {t : Ty} {refusal : Refusal}
      → type_in (spelling text first.place) earlier ≡ None
      → written_type first.written ≡ Ok t
      → NamesViolate text (earlier ++ (typed_name text first t ∷ [])) others refusal
      → NamesViolate text earlier (first ∷ others) refusal

-- what a call sees of a function of this name
abbrev pub signature_of : List ℕ → Span → List InputDeclaration → Ty → Signature
signature_of text place parameters result = record {
  bytes = spelling text place;
  parameters = declared_types parameters;
  result = result;
}

-- a function's parameters, result and body fit under the earlier functions; its body sees its parameters only
pub data FunctionTypes (dialect : Dialect) (text : List ℕ) (functions : Signatures) : Span → List TypedName → TypeTree → Tree → Signature → Type 0 where
  function_type : {place : Span} {written : List TypedName} {result : TypeTree} {body : Tree} {parameters : List InputDeclaration} {t : Ty}
      → function_named (spelling text place) functions ≡ None
      → NamesType text [] written parameters
      → written_type result ≡ Ok t
      → Types dialect text functions (names_context parameters) body t
      → FunctionTypes dialect text functions place written result body (signature_of text place parameters t)

-- the first violation in a function: its name, its parameters, its result's type, its body, and that the body has this type
pub data FunctionViolates (dialect : Dialect) (text : List ℕ) (functions : Signatures) : Span → List TypedName → TypeTree → Tree → Refusal → Type 0 where
  function_twice : {place : Span} {written : List TypedName} {result : TypeTree} {body : Tree} {signature : Signature}
      → function_named (spelling text place) functions ≡ Some signature
      → FunctionViolates dialect text functions place written result body (Name place.at)
  parameter_violates : {place : Span} {written : List TypedName} {result : TypeTree} {body : Tree} {refusal : Refusal}
      → function_named (spelling text place) functions ≡ None
      → NamesViolate text [] written refusal
      → FunctionViolates dialect text functions place written result body refusal
  result_refused : {place : Span} {written : List TypedName} {result : TypeTree} {body : Tree} {parameters : List InputDeclaration} {refusal : Refusal}
      → function_named (spelling text place) functions ≡ None
      → NamesType text [] written parameters
      → written_type result ≡ Err refusal
      → FunctionViolates dialect text functions place written result body refusal
  function_body_violates : {place : Span} {written : List TypedName} {result : TypeTree} {body : Tree} {parameters : List InputDeclaration} {t : Ty} {refusal : Refusal}
      → function_named (spelling text place) functions ≡ None
      → NamesType text [] written parameters
      → written_type result ≡ Ok t
      → Violates dialect text functions (names_context parameters) body refusal
      → FunctionViolates dialect text functions place written result body refusal
  -- a body of another type than the declared one
  function_mismatch : {place : Span} {written : List TypedName} {result : TypeTree} {body : Tree} {parameters : List InputDeclaration} {t u : Ty}
      → function_named (spelling text place) functions ≡ None
      → NamesType text [] written parameters
      → written_type result ≡ Ok t
      → Types dialect text functions (names_context parameters) body u
      → ¬ (u ≡ t)
      → FunctionViolates dialect text functions place written result body (Mismatch place.at)

-- after what was declared, these declarations in order give all of this
pub data DeclarationsType (dialect : Dialect) (text : List ℕ) : Declared → List DeclarationTree → Declared → Type 0 where
  no_declarations : {earlier : Declared} → DeclarationsType dialect text earlier [] earlier
  input_declared : {earlier all : Declared} {inputs : List InputDeclaration} {declared : TypedName} {others : List DeclarationTree}
      → NamesType text earlier.inputs (declared ∷ []) inputs
      → DeclarationsType dialect text (with_inputs earlier inputs) others all
      → DeclarationsType dialect text earlier (declares_input declared ∷ others) all
  function_declared : {earlier all : Declared} {place : Span} {written : List TypedName} {result : TypeTree} {body : Tree} {signature : Signature} {others : List DeclarationTree}
      → FunctionTypes dialect text earlier.functions place written result body signature
      → DeclarationsType dialect text (with_function text earlier signature body) others all
      → DeclarationsType dialect text earlier (declares_function place written result body ∷ others) all

-- the first violation in them
pub data DeclarationsViolate (dialect : Dialect) (text : List ℕ) : Declared → List DeclarationTree → Refusal → Type 0 where
  input_violates : {earlier : Declared} {declared : TypedName} {others : List DeclarationTree} {refusal : Refusal}
      → NamesViolate text earlier.inputs (declared ∷ []) refusal
      → DeclarationsViolate dialect text earlier (declares_input declared ∷ others) refusal
  function_violates : {earlier : Declared} {place : Span} {written : List TypedName} {result : TypeTree} {body : Tree} {others : List DeclarationTree} {refusal : Refusal}
      → FunctionViolates dialect text earlier.functions place written result body refusal
      → DeclarationsViolate dialect text earlier (declares_function place written result body ∷ others) refusal
  after_input_violates : {earlier : Declared} {inputs : List InputDeclaration} {declared : TypedName} {others : List DeclarationTree} {refusal : Refusal}
      → NamesType text earlier.inputs (declared ∷ []) inputs
      → DeclarationsViolate dialect text (with_inputs earlier inputs) others refusal
      → DeclarationsViolate dialect text earlier (declares_input declared ∷ others) refusal
  after_function_violates : {earlier : Declared} {place : Span} {written : List TypedName} {result : TypeTree} {body : Tree} {signature : Signature} {others : List DeclarationTree} {refusal : Refusal}
      → FunctionTypes dialect text earlier.functions place written result body signature
      → DeclarationsViolate dialect text (with_function text earlier signature body) others refusal
      → DeclarationsViolate dialect text earlier (declares_function place written result body ∷ others) refusal

-- how many inputs, and functions, there are
abbrev pub input_count : List DeclarationTree → ℕ
input_count [] = 0
input_count (declares_input declared ∷ others) = suc (input_count others)
input_count (declares_function place parameters result body ∷ others) = input_count others

abbrev pub function_count : List DeclarationTree → ℕ
function_count [] = 0
function_count (declares_input declared ∷ others) = function_count others
function_count (declares_function place parameters result body ∷ others) = suc (function_count others)

-- whether there are not too many of them
abbrev pub are_few : List DeclarationTree → Bool
are_few declarations = nat_le (input_count declarations) greatest_count && nat_le (function_count declarations) greatest_count

abbrev pub nothing_declared : Declared
nothing_declared = record { inputs = []; functions = []; sizes = [] }

-- the program declares this, and its expression, which sees the inputs and the functions, has this type
pub record ProgramTypes (text : List ℕ) (program : ProgramTree) (declared : Declared) (t : Ty) : Type 0 where
  pub few : are_few program.declarations ≡ true
  pub declarations : DeclarationsType program.dialect text nothing_declared program.declarations declared
  pub expression : Types program.dialect text declared.functions (names_context declared.inputs) program.expression t
  pub size : size text declared.sizes program.expression ≤ greatest_size

-- the program has these inputs and this type
abbrev pub HasTyping : List ℕ → ProgramTree → List InputDeclaration → Ty → Type 0
HasTyping text program inputs t = (declared : Declared) × ProgramTypes text program declared t × (declared.inputs ≡ inputs)

-- the first rule that the program violates: too many declarations before all else, too big an expression after all else
pub data ProgramViolates (text : List ℕ) (program : ProgramTree) : Refusal → Type 0 where
  many_declarations : are_few program.declarations ≡ false → ProgramViolates text program TooBig
  declaration_violates : {refusal : Refusal} → are_few program.declarations ≡ true
      → DeclarationsViolate program.dialect text nothing_declared program.declarations refusal
      → ProgramViolates text program refusal
  expression_violates : {declared : Declared} {refusal : Refusal} → are_few program.declarations ≡ true
      → DeclarationsType program.dialect text nothing_declared program.declarations declared
      → Violates program.dialect text declared.functions (names_context declared.inputs) program.expression refusal
      → ProgramViolates text program refusal
  big_expression : {declared : Declared} {t : Ty} → are_few program.declarations ≡ true
      → DeclarationsType program.dialect text nothing_declared program.declarations declared
      → Types program.dialect text declared.functions (names_context declared.inputs) program.expression t
      → greatest_size < size text declared.sizes program.expression
      → ProgramViolates text program TooBig

-- a program declares one thing and has one type, or has one first violation, and not both
abbrev pub HaveOneTyping : Type 0
HaveOneTyping =
    (text : List ℕ) (program : ProgramTree)
    → ((d e : Declared) (t u : Ty) → ProgramTypes text program d t → ProgramTypes text program e u → (d ≡ e) × (t ≡ u))
    × ((r s : Refusal) → ProgramViolates text program r → ProgramViolates text program s → r ≡ s)
    × ((d : Declared) (t : Ty) (r : Refusal) → ProgramTypes text program d t → ¬ ProgramViolates text program r)

-- a program has a type or a first violation, where its integers are integers of its dialect: the rules leave none out
abbrev pub HaveSomeTyping : Type 0
HaveSomeTyping =
    (text : List ℕ) (program : ProgramTree) → ProgramInRange program
    → ((d : Declared) × (t : Ty) × ProgramTypes text program d t) ⊎ ((refusal : Refusal) × ProgramViolates text program refusal)

-- what checking answers: the first violation, unless memory ran out
abbrev pub IsFirstViolation : List ℕ → ProgramTree → Refusal → Type 0
IsFirstViolation text program NoMemory = Unit {0}
IsFirstViolation text program refusal = ProgramViolates text program refusal

-- where the program has a type, no refusal but that memory ran out
abbrev pub IsMemoryIfTyped : List ℕ → ProgramTree → Refusal → Type 0
IsMemoryIfTyped text program refusal = (declared : Declared) (t : Ty) → ProgramTypes text program declared t → refusal ≡ NoMemory
