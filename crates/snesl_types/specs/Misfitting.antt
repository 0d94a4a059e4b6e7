-- Which types stand where they do not fit, in the scopes that the checker sees.
use Rattle.std.specs.Prelude.{◌≡◌, ℕ, Bool, true, false, List, [], map, Result, Ok, Err}
use Rattle.snesl_data.specs.declared.dialect.Dialect.{Dialect}
use Rattle.snesl_data.specs.declared.refusal.Refusal.{Refusal}
use Rattle.snesl_data.specs.declared.refusal.Refusal.TheVariants.{Mismatch}
use Rattle.snesl_data.specs.declared.ty.Ty.{Ty as TyTree}
use Rattle.snesl_data.specs.Types.{Ty, seq}
use Rattle.snesl_values.specs.Inputs.{InputDeclaration}
use Rattle.snesl_grammar.specs.tree.Tree.{Tree, Trees, Binders, Condition, always, only_where, binding, each, TypeTree, DeclarationTree}
use Rattle.snesl_grammar.specs.declared.tree.declaration.Declaration.{Declaration}
use Rattle.snesl_grammar.specs.declared.tree.declaration.Function.{Function as WrittenFunction}
use Rattle.snesl_grammar.specs.declared.tree.expr.Binder.{Binder}
use Rattle.snesl_grammar.specs.declared.tree.expr.Expr.{Expr}
use Rattle.snesl_grammar.specs.declared.tree.span.Span.{Span}
use Rattle.snesl_grammar.specs.tree.View.{tree_of, binders_of, type_tree, typed_of, declaration_of}
use Rattle.snesl_grammar.specs.declared.program.Program.{Program}
use Rattle.snesl_grammar.specs.Spelled.{program_with}
use Rattle.snesl_grammar.specs.View.{program_of as tree_of_program}
use Rattle.snesl_types.specs.declared.declarations.Declarations.{Declarations}
use Rattle.snesl_types.specs.declared.names.Function.{Function}
use Rattle.snesl_types.specs.declared.names.Scope.{Scope}
use Rattle.snesl_types.specs.Names.{context_of, signatures_in}
use Rattle.snesl_types.specs.Contexts.{Context, names_context, Signatures}
use Rattle.snesl_types.specs.Programs.{Declared, written_type}
use Rattle.snesl_types.specs.Views.{declared_in}
use Rattle.snesl_types.specs.Typing.{Types, AllTypes, BindersType}
use Rattle.snesl_types.specs.Clashes.{Clash, source, body, Misfits, SourceMisfits, Clashes, AnyClashes, FunctionClashes, ProgramClashes}

-- a rule gives no type
abbrev pub IsMismatch : Result TyTree Refusal → Type 0
IsMismatch (Err (Mismatch at)) = Unit {0}
IsMismatch _ = ⊥

-- the functions and the names of a scope
abbrev pub functions_in : Scope → Signatures
functions_in scope = signatures_in scope.text.now scope.functions.now

abbrev pub context_names : Scope → Context
context_names scope = context_of scope.text.now scope.names.now

-- a body's type, and another one that is written
abbrev pub BodyMisfits : Dialect → List ℕ → Signatures → Context → Tree → TypeTree → Clash → Type 0
BodyMisfits dialect text functions context tree written clash =
    (t : Ty) × (u : Ty) × (clash ≡ body u t) × (written_type written ≡ Ok t) × Types dialect text functions context tree u × ¬ (u ≡ t)

abbrev pub IsOfAnotherType : Scope → Tree → TypeTree → Clash → Type 0
IsOfAnotherType scope = BodyMisfits scope.dialect scope.text.now (functions_in scope) (context_names scope)

-- of a function
abbrev pub BodyMisfitsIn : Scope → WrittenFunction → Clash → Type 0
BodyMisfitsIn scope written = IsOfAnotherType scope (tree_of written.body) (type_tree written.result)

-- whether it is a sequence's type
abbrev pub is_sequence : Ty → Bool
is_sequence (seq item) = true
is_sequence _ = false

-- typing in a scope
abbrev pub TypesIn : Scope → Tree → Ty → Type 0
TypesIn scope = Types scope.dialect scope.text.now (functions_in scope) (context_names scope)

abbrev pub AllTypeIn : Scope → Trees → List Ty → Type 0
AllTypeIn scope = AllTypes scope.dialect scope.text.now (functions_in scope) (context_names scope)

abbrev pub BindersTypeIn : Scope → Binders → List InputDeclaration → Type 0
BindersTypeIn scope = BindersType scope.dialect scope.text.now (functions_in scope) (context_names scope) []

-- what does not fit in a scope
abbrev pub MisfitsIn : Scope → Tree → Clash → Type 0
MisfitsIn scope = Misfits scope.dialect scope.text.now (functions_in scope) (context_names scope)

-- in a comprehension of these binders and this condition
abbrev pub ConditionMisfitsIn : Scope → Binders → Condition → Clash → Type 0
ConditionMisfitsIn scope binders cond clash = (at : ℕ) (within : Tree) → MisfitsIn scope (each at within binders cond) clash

abbrev pub EachMisfitsIn : Scope → List Binder → Condition → Clash → Type 0
EachMisfitsIn scope binders = ConditionMisfitsIn scope (binders_of binders)

abbrev pub SourceMisfitsIn : Scope → ℕ → Binders → Clash → Type 0
SourceMisfitsIn scope = SourceMisfits scope.dialect scope.text.now (functions_in scope) (context_names scope)

-- it has this type, which is no sequence's
abbrev pub IsNoSequence : Scope → Tree → Clash → Type 0
IsNoSequence scope tree clash = (t : Ty) × (clash ≡ source t) × TypesIn scope tree t × ((item : Ty) → ¬ (t ≡ seq item))

abbrev pub ClashesIn : Scope → ℕ → Tree → Clash → Type 0
ClashesIn scope at tree clash = Clashes scope.dialect scope.text.now (functions_in scope) at clash (context_names scope) tree

abbrev pub AnyClashesIn : Scope → ℕ → Trees → Clash → Type 0
AnyClashesIn scope at trees clash = AnyClashes scope.dialect scope.text.now (functions_in scope) at clash (context_names scope) trees

-- there is a condition, and types clash in it
abbrev pub ConditionClashesIn : Scope → ℕ → Condition → Clash → Type 0
ConditionClashesIn scope at always clash = ⊥
ConditionClashesIn scope at (only_where tree) clash = ClashesIn scope at tree clash

-- types clash in a `let` of this name
abbrev pub BoundClashesIn : Scope → ℕ → Span → Tree → Tree → Clash → Type 0
BoundClashesIn scope at place value within clash = (start : ℕ) → ClashesIn scope at (binding start place value within) clash

-- types clash in an expression that sees what was declared
abbrev pub ExpressionClashes : Dialect → List ℕ → Declared → ℕ → Tree → Clash → Type 0
ExpressionClashes dialect text declared at tree clash = Clashes dialect text declared.functions at clash (names_context declared.inputs) tree

-- types clash in these declarations, whatever the final expression is
abbrev pub DeclarationClashes : Dialect → List ℕ → List DeclarationTree → ℕ → Clash → Type 0
DeclarationClashes dialect text declarations at clash =
    (tree : Tree) → ProgramClashes text (record { dialect = dialect; declarations = declarations; expression = tree }) at clash

-- the same of what the program's data hold: in the final expression, in a function, in declarations, in a program
abbrev pub FinalClashes : Dialect → List ℕ → Declarations → ℕ → Tree → Clash → Type 0
FinalClashes dialect text declarations = ExpressionClashes dialect text (declared_in text declarations)

abbrev pub FunctionClashesIn : Dialect → List ℕ → List Function → ℕ → WrittenFunction → Clash → Type 0
FunctionClashesIn dialect text functions at written =
    FunctionClashes dialect text (signatures_in text functions) at written.name (map typed_of written.parameters.items) (type_tree written.result) (tree_of written.body)

abbrev pub DeclarationClashesIn : Dialect → List ℕ → List Declaration → ℕ → Clash → Type 0
DeclarationClashesIn dialect text declarations = DeclarationClashes dialect text (map declaration_of declarations)

abbrev pub WrittenClashes : Dialect → List ℕ → List Declaration → Expr → ℕ → Clash → Type 0
WrittenClashes dialect text declarations expr = ProgramClashes text (program_with dialect declarations expr)

abbrev pub ProgramClashesIn : Program → ℕ → Clash → Type 0
ProgramClashesIn program = ProgramClashes program.text.items (tree_of_program program)
