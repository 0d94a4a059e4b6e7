-- A typed program gives a value of its type, or a fault that types cannot rule out.
use Rattle.std.specs.Prelude.{◌≡◌, ◌≢◌, ℕ, List, [], ◌∷◌, Some, Result, Ok, Err}
use Rattle.snesl_data.specs.declared.dialect.Dialect.{Dialect}
use Rattle.snesl_data.specs.declared.datum.Datum.{Datum}
use Rattle.snesl_data.specs.declared.fault.Fault.{Fault}
use Rattle.snesl_data.specs.declared.fault.FaultKind.TheVariants.{Shape}
use Rattle.snesl_data.specs.Types.{Ty}
use Rattle.snesl_data.specs.Values.{Value, value_of, HasType}
use Rattle.snesl_values.specs.Inputs.{Environment, FitDeclarations}
use Rattle.snesl_grammar.specs.tree.Tree.{Tree, ProgramTree}
use Rattle.snesl_evaluation.specs.Answer.{Answer, gives, faults}
use Rattle.snesl_evaluation.specs.Eval.{Calls, eval, program_value}
use Rattle.snesl_types.specs.Contexts.{Binding, open_to, shut, Context, Signature, Signatures, function_named}
use Rattle.snesl_types.specs.Typing.{Types}
use Rattle.snesl_types.specs.Programs.{Declared, ProgramTypes}

-- the value is one of the binding's type; a shut name may have any value
abbrev pub FitsBinding : Dialect → Value → Binding → Type 0
FitsBinding dialect value (open_to t) = HasType dialect value t
FitsBinding dialect value shut = Unit {0}

-- the names of the context have fitting values, in the same order; further names may follow
abbrev pub Holds : Dialect → Context → Environment → Type 0
Holds dialect [] environment = Unit {0}
Holds dialect (entry ∷ context) [] = ⊥
Holds dialect (entry ∷ context) ((bytes, value) ∷ environment) =
    (entry.bytes ≡ bytes) × FitsBinding dialect value entry.binding × Holds dialect context environment

-- the values are of these types, in order
abbrev pub HaveTypes : Dialect → List Value → List Ty → Type 0
HaveTypes dialect [] [] = Unit {0}
HaveTypes dialect (v ∷ vs) (t ∷ ts) = HasType dialect v t × HaveTypes dialect vs ts
HaveTypes dialect _ _ = ⊥

-- a result that meets the condition, or a fault other than Shape
abbrev pub Safe : {A : Type 0} → (A → Type 0) → Answer A → Type 0
Safe Meets (gives x) = Meets x
Safe Meets (faults kind at) = kind ≢ Shape

-- calls of these functions at arguments of the parameters' types give values of the declared types
abbrev pub CallsHold : Dialect → Signatures → Calls → Type 0
CallsHold dialect functions calls =
    (at : ℕ) (bytes : List ℕ) (signature : Signature) (vs : List Value)
    → function_named bytes functions ≡ Some signature → HaveTypes dialect vs signature.parameters
    → Safe (λ value. HasType dialect value signature.result) (calls at bytes vs)

-- evaluation keeps the types of expressions
abbrev pub TypedExpressionsAreSound : Type 0
TypedExpressionsAreSound =
    (dialect : Dialect) (text : List ℕ) (functions : Signatures) (calls : Calls) (context : Context) (environment : Environment) (tree : Tree) (t : Ty)
    → Types dialect text functions context tree t → CallsHold dialect functions calls → Holds dialect context environment
    → Safe (λ value. HasType dialect value t) (eval dialect tree text calls environment)

-- and those of programs, where the inputs have values of their declared types
abbrev pub TypedProgramsAreSound : Type 0
TypedProgramsAreSound =
    (text : List ℕ) (program : ProgramTree) (declared : Declared) (t : Ty) (environment : Environment)
    → ProgramTypes text program declared t → FitDeclarations program.dialect declared.inputs environment
    → Safe (λ value. HasType program.dialect value t) (program_value text program environment)

-- the datum is of the type, or the fault is one that types cannot rule out
abbrev pub TypesAllow : Dialect → Ty → Result Datum Fault → Type 0
TypesAllow dialect t (Ok datum) = HasType dialect (value_of datum) t
TypesAllow dialect t (Err fault) = fault.kind ≢ Shape
