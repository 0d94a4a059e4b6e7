-- The rules as functions: the type of an expression, or what it is refused for. That these answers and the
-- rules agree is proved.
use Rattle.std.specs.Prelude.{◌≡◌, ℕ, ◌⊎◌, min, nat_le, Bool, true, false, ◌&&◌, if◌then◌else◌, List, [], ◌∷◌, ◌++◌, Option, Some, None, is_some, Result, Ok, Err}
use Rattle.snesl_data.specs.declared.dialect.Dialect.{Dialect}
use Rattle.snesl_data.specs.declared.refusal.Refusal.{Refusal}
use Rattle.snesl_data.specs.declared.refusal.Refusal.TheVariants.{Name, Mismatch, Streamed, TooBig, NoMemory}
use Rattle.snesl_values.specs.Inputs.{InputDeclaration}
use Rattle.snesl_data.specs.Integers.{is_integer}
use Rattle.snesl_data.specs.declared.ty.Ty.{Ty as TyTree}
use Rattle.snesl_data.specs.Types.{Ty, int, bool, pair, seq, is_same, ty_of}
use Rattle.snesl_grammar.specs.declared.tree.operator.Builtin.{Builtin}
use Rattle.snesl_grammar.specs.declared.tree.operator.Operator.{Operator}
use Rattle.snesl_grammar.specs.declared.tree.operator.Prefix.{Prefix}
use Rattle.snesl_grammar.specs.declared.tree.span.Span.{Span}
use Rattle.snesl_grammar.specs.tree.Spelling.{spelling}
use Rattle.snesl_grammar.specs.tree.Tree.{Tree, Trees, Binders, Condition, integer, truth, name, binary, prefix, call, apply, group, pair as pair_tree}
use Rattle.snesl_grammar.specs.tree.Tree.{binding, choice, literal, filter, each, none, both, none_bound, binder, always, only_where, TypeTree, TypedName}
use Rattle.snesl_grammar.specs.tree.Tree.{DeclarationTree, declares_input, declares_function, ProgramTree}
use Rattle.snesl_types.specs.Contexts.{Binding, open_to, shut, Context, bound, names_context, found, inside, type_in, Signature, Signatures, function_named}
use Rattle.snesl_types.specs.Forms.{operator_result, prefix_result, result_of, tabs_streamed}
use Rattle.snesl_types.specs.Sizes.{size, greatest_size}
use Rattle.snesl_types.specs.Programs.{Declared, and_then, small_type, written_type, with_inputs, signature_of, are_few, nothing_declared}

-- a type that is there, and else a refusal
abbrev pub or_refused : Refusal → Option Ty → Result Ty Refusal
or_refused refusal None = Err refusal
or_refused refusal (Some t) = Ok t

-- an operator at operands of these types
abbrev pub of_operator : ℕ → Operator → Ty → Ty → Result Ty Refusal
of_operator at operator t u = or_refused (Mismatch at) (operator_result operator t u)

-- a prefix operator at an operand of this type
abbrev pub of_prefix : ℕ → Prefix → Ty → Result Ty Refusal
of_prefix at operator t = or_refused (Mismatch at) (prefix_result operator t)

-- what a variable's binding gives
abbrev pub of_binding : Span → Option Binding → Result Ty Refusal
of_binding place None = Err (Name place.at)
of_binding place (Some shut) = Err (Streamed place.at)
of_binding place (Some (open_to t)) = Ok t

-- a built-in at arguments of these types
abbrev pub of_builtin : ℕ → Builtin → List Ty → Result Ty Refusal
of_builtin at function ts = or_refused (if tabs_streamed function ts then Streamed at else Mismatch at) (result_of function ts)

abbrev pub are_same : List Ty → List Ty → Bool
are_same [] [] = true
are_same (t ∷ ts) (u ∷ us) = is_same t u && are_same ts us
are_same _ _ = false

-- a declared function at arguments of these types
abbrev pub of_function : Span → List Ty → Option Signature → Result Ty Refusal
of_function place ts None = Err (Name place.at)
of_function place ts (Some signature) = if are_same ts signature.parameters then Ok signature.result else Err (Mismatch place.at)

-- each of these types is this one
abbrev pub all_same : Ty → List Ty → Bool
all_same t [] = true
all_same t (u ∷ us) = is_same u t && all_same t us

-- a literal of items of these types
abbrev pub of_items : ℕ → List Ty → Result Ty Refusal
of_items at [] = Err (Mismatch at)
of_items at (t ∷ ts) = if all_same t ts then Ok (seq t) else Err (Mismatch at)

-- whether the parts of an `if` have types that fit: a truth value, and twice one type
abbrev pub fit_branches : Ty → Ty → Ty → Bool
fit_branches t u v = is_same t bool && is_same u v

-- an `if` of these three
abbrev pub of_choice : ℕ → Ty → Ty → Ty → Result Ty Refusal
of_choice at t u v = if fit_branches t u v then Ok u else Err (Mismatch at)

-- a sequence of items of the first type, where the second is that of a condition
abbrev pub of_filter : ℕ → Ty → Ty → Result Ty Refusal
of_filter at t u = if is_same u bool then Ok (seq t) else Err (Mismatch at)

-- a comprehension of these binders, whose body has the first type, and whose condition the second
abbrev pub of_each : ℕ → Binders → Ty → Ty → Result Ty Refusal
of_each at none_bound t u = Err (Mismatch at)
of_each at (binder place source others) t u = of_filter at t u

-- a binder of this name, which an earlier one may have taken, over a value of this type
abbrev pub of_binder : Span → Bool → Ty → Result Ty Refusal
of_binder place true t = Err (Name place.at)
of_binder place false (seq t) = Ok t
of_binder place false t = Err (Mismatch place.at)

-- both, the first before the second
abbrev pub both_of : {A B : Type 0} → Result A Refusal → Result B Refusal → Result (A × B) Refusal
both_of (Ok a) (Ok b) = Ok (a, b)
both_of (Ok a) (Err refusal) = Err refusal
both_of (Err refusal) _ = Err refusal

-- a type that is not too big
abbrev pub sized : Result Ty Refusal → Result Ty Refusal
sized r = and_then r small_type

abbrev mutual
  -- the type of an expression by the rule of its form, whatever the type's size; no answer at an integer out of range, which no program has
  pub rule : (dialect : Dialect) (text : List ℕ) (functions : Signatures) → Context → Tree → Result Ty Refusal
  rule dialect text functions context (integer at value) = if is_integer dialect value then Ok int else Err NoMemory
  rule dialect text functions context (truth at value) = Ok bool
  rule dialect text functions context (name place) = of_binding place (found (spelling text place) context)
  rule dialect text functions context (binary at operator left right) =
      and_then (both_of (sized (rule dialect text functions context left)) (sized (rule dialect text functions context right)))
      (λ ts. of_operator at operator ts.0 ts.1)
  rule dialect text functions context (prefix at operator operand) =
      and_then (sized (rule dialect text functions context operand)) (of_prefix at operator)
  rule dialect text functions context (call at function arguments) =
      and_then (verdicts dialect text functions context [] arguments) (of_builtin at function)
  rule dialect text functions context (apply place arguments) =
      and_then (verdicts dialect text functions context [] arguments) (λ ts. of_function place ts (function_named (spelling text place) functions))
  rule dialect text functions context (group at inner) = sized (rule dialect text functions context inner)
  rule dialect text functions context (pair_tree at first second) =
      and_then (both_of (sized (rule dialect text functions context first)) (sized (rule dialect text functions context second))) (λ ts. Ok (pair ts.0 ts.1))
  rule dialect text functions context (binding at place value body) =
      and_then (sized (rule dialect text functions context value)) (λ t. sized (rule dialect text functions (bound (spelling text place) t ∷ context) body))
  rule dialect text functions context (choice at condition positive negative) =
      and_then (sized (rule dialect text functions context condition)) (λ t.
      and_then (both_of (sized (rule dialect text functions context positive)) (sized (rule dialect text functions context negative))) (λ ts. of_choice at t ts.0 ts.1))
  rule dialect text functions context (literal at items) = and_then (verdicts dialect text functions context [] items) (of_items at)
  rule dialect text functions context (filter at item condition) =
      and_then (both_of (sized (rule dialect text functions context item)) (sized (rule dialect text functions context condition))) (λ ts. of_filter at ts.0 ts.1)
  rule dialect text functions context (each at body binders condition) =
      and_then (binders_verdict dialect text functions context [] binders) (λ items.
      and_then (both_of (condition_verdict dialect text functions (names_context items ++ inside context) condition)
      (sized (rule dialect text functions (names_context items ++ inside context) body))) (λ ts. of_each at binders ts.1 ts.0))

  -- the types of arguments or items after earlier ones
  pub verdicts : (dialect : Dialect) (text : List ℕ) (functions : Signatures) → Context → List Ty → Trees → Result (List Ty) Refusal
  verdicts dialect text functions context earlier none = Ok earlier
  verdicts dialect text functions context earlier (both first others) =
      and_then (sized (rule dialect text functions context first)) (λ t. verdicts dialect text functions context (earlier ++ (t ∷ [])) others)

  -- the names of binders after earlier ones, with the types of their elements
  pub binders_verdict : (dialect : Dialect) (text : List ℕ) (functions : Signatures) → Context → List InputDeclaration → Binders → Result (List InputDeclaration) Refusal
  binders_verdict dialect text functions context earlier none_bound = Ok earlier
  binders_verdict dialect text functions context earlier (binder place source others) =
      and_then (sized (rule dialect text functions context source)) (λ t.
      and_then (of_binder place (is_some (type_in (spelling text place) earlier)) t) (λ item.
      binders_verdict dialect text functions context (earlier ++ ((spelling text place, item) ∷ [])) others))

  pub condition_verdict : (dialect : Dialect) (text : List ℕ) (functions : Signatures) → Context → Condition → Result Ty Refusal
  condition_verdict dialect text functions context always = Ok bool
  condition_verdict dialect text functions context (only_where condition) = sized (rule dialect text functions context condition)

-- the type of an expression
abbrev pub verdict : (dialect : Dialect) (text : List ℕ) (functions : Signatures) → Context → Tree → Result Ty Refusal
verdict dialect text functions context tree = sized (rule dialect text functions context tree)

-- a name that must not stand for a type yet
abbrev pub new_name : {A : Type 0} → List ℕ → Span → Option A → Result (List ℕ) Refusal
new_name text place (Some earlier) = Err (Name place.at)
new_name text place None = Ok (spelling text place)

-- a name after earlier ones, with its type
abbrev pub name_verdict : List ℕ → List InputDeclaration → TypedName → Result InputDeclaration Refusal
name_verdict text earlier first =
    and_then (new_name text first.place (type_in (spelling text first.place) earlier)) (λ bytes.
    and_then (written_type first.written) (λ t. Ok (bytes, t)))

-- names after earlier ones, with their types
abbrev pub names_verdict : List ℕ → List InputDeclaration → List TypedName → Result (List InputDeclaration) Refusal
names_verdict text earlier [] = Ok earlier
names_verdict text earlier (first ∷ others) =
    and_then (name_verdict text earlier first) (λ declaration. names_verdict text (earlier ++ (declaration ∷ [])) others)

-- a function, after its name, its parameters and its result's type
abbrev pub of_body : Span → Signature → Ty → Result Signature Refusal
of_body place signature t = if is_same t signature.result then Ok signature else Err (Mismatch place.at)

-- what a call sees of a function
abbrev pub function_verdict : (dialect : Dialect) (text : List ℕ) (functions : Signatures) → Span → List TypedName → TypeTree → Tree → Result Signature Refusal
function_verdict dialect text functions place parameters result body =
    and_then (new_name text place (function_named (spelling text place) functions)) (λ bytes.
    and_then (names_verdict text [] parameters) (λ declarations.
    and_then (written_type result) (λ t.
    and_then (verdict dialect text functions (names_context declarations) body) (of_body place (signature_of text place declarations t)))))

-- a size up to one more than the greatest, which stands for all greater ones
abbrev pub capped : ℕ → ℕ
capped n = min n 65537

-- with one more function, of this body
abbrev pub with_capped_function : List ℕ → Declared → Signature → Tree → Declared
with_capped_function text declared signature body = record {
  inputs = declared.inputs;
  functions = declared.functions ++ (signature ∷ []);
  sizes = declared.sizes ++ ((signature.bytes, capped (size text declared.sizes body)) ∷ []);
}

-- one more declaration; sizes are capped
abbrev pub declaration_verdict : Dialect → List ℕ → Declared → DeclarationTree → Result Declared Refusal
declaration_verdict dialect text earlier (declares_input declared) =
    and_then (name_verdict text earlier.inputs declared) (λ input. Ok (with_inputs earlier (earlier.inputs ++ (input ∷ []))))
declaration_verdict dialect text earlier (declares_function place parameters result body) =
    and_then (function_verdict dialect text earlier.functions place parameters result body) (λ signature. Ok (with_capped_function text earlier signature body))

abbrev pub declarations_verdict : Dialect → List ℕ → Declared → List DeclarationTree → Result Declared Refusal
declarations_verdict dialect text earlier [] = Ok earlier
declarations_verdict dialect text earlier (first ∷ others) =
    and_then (declaration_verdict dialect text earlier first) (λ declared. declarations_verdict dialect text declared others)

-- what was declared, and the type of the final expression, of this size
abbrev pub of_expression : ℕ → Declared → Ty → Result (Declared × Ty) Refusal
of_expression n declared t = if nat_le n greatest_size then Ok (declared, t) else Err TooBig

abbrev pub expression_verdict : Dialect → List ℕ → Declared → Tree → Result (Declared × Ty) Refusal
expression_verdict dialect text declared tree =
    and_then (verdict dialect text declared.functions (names_context declared.inputs) tree) (of_expression (capped (size text declared.sizes tree)) declared)

abbrev pub program_verdict : List ℕ → ProgramTree → Result (Declared × Ty) Refusal
program_verdict text program =
    if are_few program.declarations
    then and_then (declarations_verdict program.dialect text nothing_declared program.declarations) (λ declared. expression_verdict program.dialect text declared program.expression)
    else Err TooBig

-- what the code answers is the verdict, unless memory ran out
abbrev pub IsVerdict : {A B : Type 0} → (A → B) → Result B Refusal → Result A Refusal → Type 0
IsVerdict view verdict (Ok x) = verdict ≡ Ok (view x)
IsVerdict view verdict (Err refusal) = (refusal ≡ NoMemory) ⊎ (verdict ≡ Err refusal)

-- the same of a type
abbrev pub IsType : Result Ty Refusal → Result TyTree Refusal → Type 0
IsType = IsVerdict ty_of
