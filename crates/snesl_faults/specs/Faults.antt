-- The form at which evaluation ends in a fault, and the values of its parts.
use Rattle.std.specs.Prelude.{◌≡◌, ℕ, List, map, Result, Ok, Err, IfOk, Vec}
use Rattle.std.specs.Global.{Global}
use Rattle.snesl_data.specs.declared.datum.Datum.{Datum}
use Rattle.snesl_data.specs.declared.dialect.Dialect.{Dialect}
use Rattle.snesl_data.specs.declared.fault.Fault.{Fault}
use Rattle.snesl_data.specs.declared.fault.FaultKind.{FaultKind}
use Rattle.snesl_data.specs.Values.{Value, value_of}
use Rattle.snesl_values.specs.Inputs.{Environment}
use Rattle.snesl_grammar.specs.declared.tree.declaration.Declaration.{Declaration}
use Rattle.snesl_grammar.specs.tree.Tree.{Tree, Trees, Binders, binary, prefix, call, each, none, both, none_bound, binder, offset}
use Rattle.snesl_grammar.specs.tree.View.{declaration_of, tree_of}
use Rattle.snesl_grammar.specs.declared.tree.expr.Expr.{Expr}
use Rattle.snesl_grammar.specs.declared.program.Program.{Program}
use Rattle.snesl_evaluation.specs.declared.halt.Halt.{Halt}
use Rattle.snesl_evaluation.specs.declared.scope.ProgramContext.{ProgramContext}
use Rattle.snesl_evaluation.specs.declared.scope.Scope.{Scope}
use Rattle.snesl_evaluation.specs.Scopes.{all_in}
use Rattle.snesl_evaluation.specs.Answer.{Answer, gives, faults}
use Rattle.snesl_evaluation.specs.Eval.{Calls, calls_of, eval, eval_all}
use Rattle.snesl_faults.specs.declared.finding.Finding.{Finding}
use Rattle.snesl_faults.specs.declared.finding.Stop.{Stop}
use Rattle.snesl_faults.specs.declared.finding.Stop.TheVariants.{Found, GivenUp}

-- the sequences of binders
abbrev pub sources : Binders → Trees
sources none_bound = none
sources (binder place source others) = both source (sources others)

-- the parts that a form at fault has: operands, arguments, or the sequences of a comprehension
abbrev pub parts_of : Tree → Trees
parts_of (binary at operator left right) = both left (both right none)
parts_of (prefix at operator operand) = both operand none
parts_of (call at function arguments) = arguments
parts_of (each at body binders condition) = sources binders
parts_of _ = none

-- where calls and names mean this, the parts of the form have the values, and the form ends in the fault, which stands at its own offset
pub record FaultsAtForm (dialect : Dialect) (text : List ℕ) (calls : Calls) (environment : Environment) (tree : Tree) (kind : FaultKind) (at : ℕ) (values : List Value) : Type 0 where
  pub parts : eval_all dialect (parts_of tree) text calls environment ≡ gives values
  pub form : eval dialect tree text calls environment ≡ faults kind at
  pub own : at ≡ offset tree

-- some form does, where these functions may be called and names mean something
abbrev pub FaultsAtSomeForm : Dialect → List ℕ → FaultKind → ℕ → List Value → Type 0
FaultsAtSomeForm dialect text kind at values =
    (functions : List Declaration) × (environment : Environment) × (tree : Tree)
    × FaultsAtForm dialect text (calls_of dialect text (map declaration_of functions)) environment tree kind at values

-- so it is of what a search has found; where it was given up nothing is said
abbrev pub IsRightStop : Dialect → List ℕ → Stop → Type 0
IsRightStop dialect text GivenUp = Unit {0}
IsRightStop dialect text (Found finding) = FaultsAtSomeForm dialect text finding.fault.kind finding.fault.at (map value_of finding.values.items)

-- the same of a result, where this program is evaluated
abbrev pub MayStop : {A : Type 0} → ProgramContext → Result A Stop → Type 0
MayStop context (Ok x) = Unit {0}
MayStop context (Err stop) = IsRightStop context.dialect context.text.now stop

-- so it is of a program's fault and these values
abbrev pub FaultsWith : Program → Fault → Vec Datum Global → Type 0
FaultsWith program fault values =
    FaultsAtSomeForm program.dialect program.text.items fault.kind fault.at (map value_of values.items)

-- two expressions, in order
abbrev pub two_parts : Expr → Expr → Trees
two_parts first second = both (tree_of first) (both (tree_of second) none)

-- where there are values, they are those of these expressions there
abbrev pub GivesValuesOf : ProgramContext → Scope → Trees → Result (Vec Datum Global) Halt → Type 0
GivesValuesOf context scope trees result = IfOk result (λ values. all_in context scope trees ≡ gives (map value_of values.items))
