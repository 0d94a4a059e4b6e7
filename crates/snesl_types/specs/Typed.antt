-- What callers see of a typed program.
use Rattle.std.specs.Prelude.{◌≡◌, ℕ, List, Result}
use Rattle.snesl_data.specs.declared.dialect.Dialect.{Dialect}
use Rattle.snesl_data.specs.declared.datum.Datum.{Datum}
use Rattle.snesl_data.specs.declared.fault.Fault.{Fault}
use Rattle.snesl_data.specs.declared.refusal.Refusal.{Refusal}
use Rattle.snesl_data.specs.Types.{Ty, ty_of}
use Rattle.snesl_values.specs.declared.environment.Inputs.{Inputs}
use Rattle.snesl_values.specs.Inputs.{InputDeclaration, Environment, declared, declarations_of, dialect_of}
use Rattle.snesl_grammar.specs.declared.program.Program.{Program}
use Rattle.snesl_grammar.specs.tree.Tree.{ProgramTree}
use Rattle.snesl_grammar.specs.View.{program_of as tree_of_program}
use Rattle.snesl_evaluation.specs.Eval.{program_value}
use Rattle.snesl_evaluation.specs.Results.{IsAnswer}
use Rattle.snesl_types.specs.declared.typed.TypedProgram.{TypedProgram}
use Rattle.snesl_types.specs.Programs.{HasTyping, IsFirstViolation, IsMemoryIfTyped}

abbrev pub program_of : TypedProgram → Program
program_of typed = typed.program.now

-- the dialect of its integers
abbrev pub typed_dialect : TypedProgram → Dialect
typed_dialect typed = typed.program.now.dialect

abbrev pub typed_text : TypedProgram → List ℕ
typed_text typed = typed.program.now.text.items

abbrev pub typed_tree : TypedProgram → ProgramTree
typed_tree typed = tree_of_program typed.program.now

-- the declared inputs in order
abbrev pub typed_inputs : TypedProgram → List InputDeclaration
typed_inputs typed = declared typed.inputs.items

abbrev pub typed_ty : TypedProgram → Ty
typed_ty typed = ty_of typed.ty

-- the answer is what its evaluation with these inputs gives
abbrev pub IsAnswerOf : TypedProgram → Environment → Result Datum Fault → Type 0
IsAnswerOf typed environment = λ answer. IsAnswer answer (program_value (typed_text typed) (typed_tree typed) environment)

-- the inputs were read in its dialect and for its declared inputs
abbrev pub AreReadFor : TypedProgram → Inputs → Type 0
AreReadFor typed inputs = (dialect_of inputs ≡ typed_dialect typed) × (declarations_of inputs ≡ typed_inputs typed)

-- a program has the inputs and the type of the typed one
abbrev pub HasTypingIn : Program → TypedProgram → Type 0
HasTypingIn program = λ typed. HasTyping program.text.items (tree_of_program program) (typed_inputs typed) (typed_ty typed)

-- what checking a program answers, as IsFirstViolation
abbrev pub IsFirstViolationIn : Program → Refusal → Type 0
IsFirstViolationIn program = IsFirstViolation program.text.items (tree_of_program program)

-- where the program has a type, no refusal but that memory ran out
abbrev pub IsMemoryIfTypedIn : Program → Refusal → Type 0
IsMemoryIfTypedIn program = IsMemoryIfTyped program.text.items (tree_of_program program)
