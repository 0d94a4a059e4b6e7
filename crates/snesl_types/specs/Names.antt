-- The names that the checker sees.
use Rattle.std.specs.Prelude.{◌≡◌, ℕ, Bool, true, false, List, ◌∷◌, ◌++◌, map, Option, Some, None, option_map, Result, Box}
use Rattle.std.specs.Borrow.{Bor}
use Rattle.std.specs.Global.{Global}
use Rattle.snesl_data.specs.declared.refusal.Refusal.{Refusal}
use Rattle.snesl_data.specs.declared.ty.Ty.{Ty as TyTree}
use Rattle.snesl_data.specs.Types.{Ty, ty_of}
use Rattle.snesl_values.specs.Inputs.{InputDeclaration, declared}
use Rattle.snesl_grammar.specs.declared.tree.span.Span.{Span}
use Rattle.snesl_grammar.specs.tree.Spelling.{spelling}
use Rattle.snesl_grammar.specs.tree.Tree.{Tree, Trees, Binders, Condition, always, only_where}
use Rattle.snesl_grammar.specs.declared.tree.expr.Expr.{Expr}
use Rattle.snesl_grammar.specs.tree.View.{tree_of}
use Rattle.snesl_types.specs.declared.names.Names.{Names}
use Rattle.snesl_types.specs.declared.names.Names.TheVariants.{Declared, Bound', Inside'}
use Rattle.snesl_types.specs.declared.names.Meaning.{Meaning}
use Rattle.snesl_types.specs.declared.names.Meaning.TheVariants.{Unbound, Shut, Open}
use Rattle.snesl_types.specs.declared.names.Function.{Function}
use Rattle.snesl_types.specs.declared.names.Scope.{Scope}
use Rattle.snesl_types.specs.Contexts.{Binding, open_to, shut, Context, bound, names_context, declared_types, found, inside, shut_if_streamed, Signature, Signatures, function_named}
use Rattle.snesl_types.specs.Sizes.{BodySizes, size, size_of_all, size_of_binders, size_of_condition}
use Rattle.snesl_types.specs.Verdicts.{IsVerdict, both_of, verdict, rule, verdicts, binders_verdict, condition_verdict, capped}

-- the context that the linked names hold
abbrev pub context_of : List ℕ → Names → Context
context_of text (Declared names) = names_context (declared names.now)
context_of text (Bound' name ty p outer) = bound (spelling text name) (ty_of ty.now) ∷ context_of text outer
context_of text (Inside' binders p outer) = names_context (declared binders.now) ++ inside (context_of text outer)

-- the binding that an answer of the look-up holds
abbrev pub found_binding : Meaning → Option Binding
found_binding Unbound = None
found_binding Shut = Some shut
found_binding (Open ty) = Some (open_to (ty_of ty.now))

-- what a name of the text stands for among these
abbrev pub binding_named : List ℕ → Span → Names → Option Binding
binding_named text place names = found (spelling text place) (context_of text names)

-- and in a scope
abbrev pub binding_in : Scope → Span → Option Binding
binding_in scope place = binding_named scope.text.now place scope.names.now

-- a binding as it is seen past the edge of a comprehension, or before it
abbrev pub seen : Bool → Option Binding → Option Binding
seen crossed None = None
seen true (Some binding) = Some (shut_if_streamed binding)
seen false (Some binding) = Some binding

-- what a call sees of a function
abbrev pub signature_in : List ℕ → Function → Signature
signature_in text function = record {
  bytes = spelling text function.name;
  parameters = declared_types (declared function.parameters.items);
  result = ty_of function.result;
}

abbrev pub signatures_in : List ℕ → List Function → Signatures
signatures_in text functions = map (signature_in text) functions

-- of a function that is found
abbrev pub found_signature : List ℕ → Option (Bor Function) → Option Signature
found_signature text found = option_map (λ function. signature_in text function.now) found

-- of the first of these functions that has the name
abbrev pub signature_named : List ℕ → Span → List Function → Option Signature
signature_named text place functions = function_named (spelling text place) (signatures_in text functions)

-- and in a scope
abbrev pub callee_in : Scope → Span → Option Signature
callee_in scope place = signature_named scope.text.now place scope.functions.now

abbrev pub sizes_in : List ℕ → List Function → BodySizes
sizes_in text functions = map (λ function. (spelling text function.name, function.size)) functions

-- the size of an expression that calls these functions, up to one more than the greatest
abbrev pub size_in : List ℕ → List Function → Tree → ℕ
size_in text functions tree = capped (size text (sizes_in text functions) tree)

-- of arguments, or items
abbrev pub all_sizes_in : List ℕ → List Function → Trees → ℕ
all_sizes_in text functions trees = capped (size_of_all text (sizes_in text functions) trees)

-- of binders
abbrev pub binders_size_in : List ℕ → List Function → Binders → ℕ
binders_size_in text functions binders = capped (size_of_binders text (sizes_in text functions) binders)

-- of a condition
abbrev pub condition_size_in : List ℕ → List Function → Condition → ℕ
condition_size_in text functions condition = capped (size_of_condition text (sizes_in text functions) condition)

-- the function has a body of the size of this one
abbrev pub HasBodySize : List ℕ → List Function → Tree → Function → Type 0
HasBodySize text earlier body = λ function. function.size ≡ size_in text earlier body

-- what the rules say of an expression in a scope
abbrev pub typed_in : Scope → Tree → Result Ty Refusal
typed_in scope tree = verdict scope.dialect scope.text.now (signatures_in scope.text.now scope.functions.now) (context_of scope.text.now scope.names.now) tree

-- the types of two expressions, as IsVerdict
abbrev pub AreTyped : Scope → Tree → Tree → Result (TyTree × TyTree) Refusal → Type 0
AreTyped scope first second = IsVerdict (λ types. (ty_of types.0, ty_of types.1)) (both_of (typed_in scope first) (typed_in scope second))

abbrev pub ruled_in : Scope → Tree → Result Ty Refusal
ruled_in scope tree = rule scope.dialect scope.text.now (signatures_in scope.text.now scope.functions.now) (context_of scope.text.now scope.names.now) tree

-- of arguments, or items, after earlier ones
abbrev pub all_typed_in : Scope → List Ty → Trees → Result (List Ty) Refusal
all_typed_in scope earlier trees = verdicts scope.dialect scope.text.now (signatures_in scope.text.now scope.functions.now) (context_of scope.text.now scope.names.now) earlier trees

-- of binders after earlier ones
abbrev pub binders_typed_in : Scope → List InputDeclaration → Binders → Result (List InputDeclaration) Refusal
binders_typed_in scope earlier binders = binders_verdict scope.dialect scope.text.now (signatures_in scope.text.now scope.functions.now) (context_of scope.text.now scope.names.now) earlier binders

-- of a condition
abbrev pub condition_typed_in : Scope → Condition → Result Ty Refusal
condition_typed_in scope condition = condition_verdict scope.dialect scope.text.now (signatures_in scope.text.now scope.functions.now) (context_of scope.text.now scope.names.now) condition

abbrev pub condition_in : Option (Box Expr Global) → Condition
condition_in None = always
condition_in (Some condition) = only_where (tree_of condition.value)
