-- Which types stand where a rule fails although all parts have types.
use Rattle.std.specs.Prelude.{◌≡◌, ℕ, false, List, [], ◌∷◌, ◌++◌, map, Option, Some, None, Result, Ok, Err}
use Rattle.snesl_data.specs.declared.dialect.Dialect.{Dialect}
use Rattle.snesl_values.specs.Inputs.{InputDeclaration}
use Rattle.snesl_data.specs.Types.{Ty, bool, seq, ty_of}
use Rattle.snesl_grammar.specs.declared.tree.operator.Builtin.{Builtin}
use Rattle.snesl_grammar.specs.declared.tree.operator.Operator.{Operator}
use Rattle.snesl_grammar.specs.declared.tree.operator.Prefix.{Prefix}
use Rattle.snesl_grammar.specs.declared.tree.span.Span.{Span}
use Rattle.snesl_grammar.specs.tree.Spelling.{spelling}
use Rattle.snesl_grammar.specs.tree.Tree.{Tree, Trees, Binders, Condition, integer, truth, name, binary, prefix, call, apply, group, pair as pair_tree}
use Rattle.snesl_grammar.specs.tree.Tree.{binding, choice, literal, filter, each, none, both, none_bound, binder, only_where, offset, TypeTree, TypedName}
use Rattle.snesl_grammar.specs.tree.Tree.{DeclarationTree, declares_function, ProgramTree}
use Rattle.snesl_types.specs.declared.clashes.Clash.{Clash as Told}
use Rattle.snesl_types.specs.declared.clashes.Clash.TheVariants.{Operands, Operand, Arguments, Parameters, Branches, Items, Condition as ConditionTold, Source, Body}
use Rattle.snesl_types.specs.Contexts.{Context, bound, names_context, inside, Signature, Signatures, function_named}
use Rattle.snesl_types.specs.Forms.{operator_result, prefix_result, result_of, tabs_streamed}
use Rattle.snesl_types.specs.Typing.{Types, AllTypes, BindersType}
use Rattle.snesl_types.specs.Violations.{AreOneType}
use Rattle.snesl_types.specs.Programs.{Declared, nothing_declared, written_type, NamesType, DeclarationsType}

-- the types that stand where types do not fit
pub data Clash : Type 0 where
  -- of an operator's operands, the left one first
  operands : (left right : Ty) → Clash
  -- of a prefix operator's operand
  operand : (t : Ty) → Clash
  -- of a built-in function's arguments, in order
  arguments : (ts : List Ty) → Clash
  -- of a declared function's arguments, and of its parameters
  parameters : (ts wanted : List Ty) → Clash
  -- of the three parts of an `if`
  branches : (condition positive negative : Ty) → Clash
  -- of a literal's items, in order
  items : (ts : List Ty) → Clash
  -- of a condition
  condition : (t : Ty) → Clash
  -- of what a binder goes over
  source : (t : Ty) → Clash
  -- of a function's body, and of its declared result
  body : (t wanted : Ty) → Clash

-- the types that the program's value holds
abbrev pub clash_of : Told → Clash
clash_of (Operands left right) = operands (ty_of left) (ty_of right)
clash_of (Operand ty) = operand (ty_of ty)
clash_of (Arguments types) = arguments (map ty_of types.items)
clash_of (Parameters found wanted) = parameters (map ty_of found.items) (map ty_of wanted.items)
clash_of (Branches cond positive negative) = branches (ty_of cond) (ty_of positive) (ty_of negative)
clash_of (Items types) = items (map ty_of types.items)
clash_of (ConditionTold ty) = condition (ty_of ty)
clash_of (Source ty) = source (ty_of ty)
clash_of (Body found wanted) = body (ty_of found) (ty_of wanted)

-- the sequences that binders go over
abbrev pub sources : Binders → Trees
sources none_bound = none
sources (binder place over others) = both over (sources others)

-- the parts of a form that see the variables that the form sees
abbrev pub seen_parts : Tree → Trees
seen_parts (integer at value) = none
seen_parts (truth at value) = none
seen_parts (name place) = none
seen_parts (binary at operator left right) = both left (both right none)
seen_parts (prefix at operator one) = both one none
seen_parts (call at function all) = all
seen_parts (apply place all) = all
seen_parts (group at inner) = both inner none
seen_parts (pair_tree at first second) = both first (both second none)
seen_parts (binding at place value within) = both value none
seen_parts (choice at cond positive negative) = both cond (both positive (both negative none))
seen_parts (literal at all) = all
seen_parts (filter at item cond) = both item (both cond none)
seen_parts (each at within binders cond) = sources binders

-- by the rule of its form the expression has no type, although its parts have these
pub data Misfits (dialect : Dialect) (text : List ℕ) (functions : Signatures) (context : Context) : Tree → Clash → Type 0 where
  operands_misfit : {at : ℕ} {operator : Operator} {left right : Tree} {t u : Ty}
      → Types dialect text functions context left t → Types dialect text functions context right u → operator_result operator t u ≡ None
      → Misfits dialect text functions context (binary at operator left right) (operands t u)
  operand_misfits : {at : ℕ} {operator : Prefix} {one : Tree} {t : Ty}
      → Types dialect text functions context one t → prefix_result operator t ≡ None
      → Misfits dialect text functions context (prefix at operator one) (operand t)
  arguments_misfit : {at : ℕ} {function : Builtin} {all : Trees} {ts : List Ty}
      → AllTypes dialect text functions context all ts → result_of function ts ≡ None → tabs_streamed function ts ≡ false
      → Misfits dialect text functions context (call at function all) (arguments ts)
  call_misfits : {place : Span} {all : Trees} {ts : List Ty} {signature : Signature}
      → AllTypes dialect text functions context all ts → function_named (spelling text place) functions ≡ Some signature
      → ¬ (ts ≡ signature.parameters)
      → Misfits dialect text functions context (apply place all) (parameters ts signature.parameters)
  branches_misfit : {at : ℕ} {cond positive negative : Tree} {t u v : Ty}
      → Types dialect text functions context cond t → Types dialect text functions context positive u → Types dialect text functions context negative v
      → ¬ ((t ≡ bool) × (u ≡ v))
      → Misfits dialect text functions context (choice at cond positive negative) (branches t u v)
  items_misfit : {at : ℕ} {all : Trees} {ts : List Ty}
      → AllTypes dialect text functions context all ts → ¬ AreOneType ts
      → Misfits dialect text functions context (literal at all) (items ts)
  filter_misfits : {at : ℕ} {item cond : Tree} {t u : Ty}
      → Types dialect text functions context item t → Types dialect text functions context cond u → ¬ (u ≡ bool)
      → Misfits dialect text functions context (filter at item cond) (condition u)
  -- the condition sees the binders' names, and the outer ones as from inside
  condition_misfits : {at : ℕ} {within cond : Tree} {binders : Binders} {all : List InputDeclaration} {t : Ty}
      → BindersType dialect text functions context [] binders all
      → Types dialect text functions (names_context all ++ inside context) cond t → ¬ (t ≡ bool)
      → Misfits dialect text functions context (each at within binders (only_where cond)) (condition t)

-- the binder whose name stands at the offset goes over what is no sequence, and has this type
pub data SourceMisfits (dialect : Dialect) (text : List ℕ) (functions : Signatures) (context : Context) (at : ℕ) : Binders → Clash → Type 0 where
  this_source : {place : Span} {over : Tree} {others : Binders} {t : Ty}
      → place.at ≡ at → Types dialect text functions context over t → ((item : Ty) → ¬ (t ≡ seq item))
      → SourceMisfits dialect text functions context at (binder place over others) (source t)
  later_source : {place : Span} {over : Tree} {others : Binders} {clash : Clash}
      → SourceMisfits dialect text functions context at others clash
      → SourceMisfits dialect text functions context at (binder place over others) clash

mutual
  -- the expression is, or has within it, a form at the offset in which these types clash in the context that the form has there
  pub data Clashes (dialect : Dialect) (text : List ℕ) (functions : Signatures) (at : ℕ) (clash : Clash) : Context → Tree → Type 0 where
    itself : {context : Context} {tree : Tree} → offset tree ≡ at
        → Misfits dialect text functions context tree clash → Clashes dialect text functions at clash context tree
    in_binder : {context : Context} {place : ℕ} {within : Tree} {binders : Binders} {cond : Condition}
        → SourceMisfits dialect text functions context at binders clash
        → Clashes dialect text functions at clash context (each place within binders cond)
    in_part : {context : Context} {tree : Tree} → AnyClashes dialect text functions at clash context (seen_parts tree)
        → Clashes dialect text functions at clash context tree
    -- the body of a `let` sees its name
    in_bound : {context : Context} {start : ℕ} {place : Span} {value within : Tree} {t : Ty}
        → Types dialect text functions context value t
        → Clashes dialect text functions at clash (bound (spelling text place) t ∷ context) within
        → Clashes dialect text functions at clash context (binding start place value within)
    -- a comprehension's condition and its body see the binders' names, and the outer ones as from inside
    in_condition : {context : Context} {place : ℕ} {within cond : Tree} {binders : Binders} {all : List InputDeclaration}
        → BindersType dialect text functions context [] binders all
        → Clashes dialect text functions at clash (names_context all ++ inside context) cond
        → Clashes dialect text functions at clash context (each place within binders (only_where cond))
    in_body : {context : Context} {place : ℕ} {within : Tree} {binders : Binders} {cond : Condition} {all : List InputDeclaration}
        → BindersType dialect text functions context [] binders all
        → Clashes dialect text functions at clash (names_context all ++ inside context) within
        → Clashes dialect text functions at clash context (each place within binders cond)

  -- one of these does
  pub data AnyClashes (dialect : Dialect) (text : List ℕ) (functions : Signatures) (at : ℕ) (clash : Clash) : Context → Trees → Type 0 where
    first_clashes : {context : Context} {first : Tree} {others : Trees}
        → Clashes dialect text functions at clash context first → AnyClashes dialect text functions at clash context (both first others)
    later_clashes : {context : Context} {first : Tree} {others : Trees}
        → AnyClashes dialect text functions at clash context others → AnyClashes dialect text functions at clash context (both first others)

-- types clash in the function's body, which sees its parameters, or the body has not the type that was declared
pub data FunctionClashes (dialect : Dialect) (text : List ℕ) (functions : Signatures) (at : ℕ) : Span → List TypedName → TypeTree → Tree → Clash → Type 0 where
  within_body : {place : Span} {written : List TypedName} {result : TypeTree} {within : Tree} {names : List InputDeclaration} {clash : Clash}
      → NamesType text [] written names
      → Clashes dialect text functions at clash (names_context names) within
      → FunctionClashes dialect text functions at place written result within clash
  body_misfits : {place : Span} {written : List TypedName} {result : TypeTree} {within : Tree} {names : List InputDeclaration} {t u : Ty}
      → place.at ≡ at → NamesType text [] written names → written_type result ≡ Ok t
      → Types dialect text functions (names_context names) within u → ¬ (u ≡ t)
      → FunctionClashes dialect text functions at place written result within (body u t)

-- these types clash at the offset: in a function after what was declared before it, or in the final expression
pub data ProgramClashes (text : List ℕ) (program : ProgramTree) (at : ℕ) (clash : Clash) : Type 0 where
  in_function : (before after : List DeclarationTree) {declared : Declared} {place : Span} {written : List TypedName} {result : TypeTree} {within : Tree}
      → program.declarations ≡ before ++ (declares_function place written result within ∷ after)
      → DeclarationsType program.dialect text nothing_declared before declared
      → FunctionClashes program.dialect text declared.functions at place written result within clash
      → ProgramClashes text program at clash
  in_expression : {declared : Declared}
      → DeclarationsType program.dialect text nothing_declared program.declarations declared
      → Clashes program.dialect text declared.functions at clash (names_context declared.inputs) program.expression
      → ProgramClashes text program at clash

-- what was found, if anything, is this
abbrev pub IsFound : {E : Type 0} → (Clash → Type 0) → Result (Option Told) E → Type 0
IsFound P (Ok (Some clash)) = P (clash_of clash)
IsFound P (Ok None) = Unit {0}
IsFound P (Err refused) = Unit {0}
