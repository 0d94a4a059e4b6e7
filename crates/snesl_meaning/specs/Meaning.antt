-- What a program means for an input text.
use Rattle.std.specs.Prelude.{◌≡◌, ℕ, List, Ok, Err}
use Rattle.snesl_data.specs.declared.fault.FaultKind.{FaultKind}
use Rattle.snesl_data.specs.declared.refusal.Refusal.{Refusal}
use Rattle.snesl_data.specs.declared.refusal.Refusal.TheVariants.{BadInput, NoMemory}
use Rattle.snesl_data.specs.Types.{Ty}
use Rattle.snesl_data.specs.Values.{Value}
use Rattle.snesl_values.specs.Inputs.{Environment, InputMeans, spells, refused_at}
use Rattle.snesl_grammar.specs.tree.Tree.{ProgramTree}
use Rattle.snesl_syntax.specs.Parse.{Parses}
use Rattle.snesl_evaluation.specs.Answer.{Answer, gives, faults}
use Rattle.snesl_evaluation.specs.Eval.{program_value}
use Rattle.snesl_types.specs.Programs.{Declared}
use Rattle.snesl_types.specs.Verdicts.{program_verdict}

pub data Meaning : Type 0 where
  is_refused : Refusal → Meaning
  has_value : Value → Meaning
  has_fault : FaultKind → ℕ → Meaning

abbrev pub meaning_of : Answer Value → Meaning
meaning_of (gives v) = has_value v
meaning_of (faults kind at) = has_fault kind at

-- the meaning of a program text for an input text
pub data Means (text input : List ℕ) : Meaning → Type 0 where
  -- the text is no program
  no_program : {refusal : Refusal} → Parses text (Err refusal) → Means text input (is_refused refusal)
  -- the program violates a rule of typing, the first of which is named
  ill_typed : {program : ProgramTree} {refusal : Refusal} → Parses text (Ok program) → program_verdict text program ≡ Err refusal
      → Means text input (is_refused refusal)
  -- the input text is not lawful for the declared inputs
  bad_input : {program : ProgramTree} {declared : Declared} {t : Ty} {at : ℕ} → Parses text (Ok program) → program_verdict text program ≡ Ok (declared, t)
      → InputMeans program.dialect declared.inputs input (refused_at at)
      → Means text input (is_refused (BadInput at))
  -- the program is evaluated with the values that the input text spells
  evaluated : {program : ProgramTree} {declared : Declared} {t : Ty} {environment : Environment} → Parses text (Ok program) → program_verdict text program ≡ Ok (declared, t)
      → InputMeans program.dialect declared.inputs input (spells environment)
      → Means text input (meaning_of (program_value text program environment))

-- no program and input text have two meanings
abbrev pub HaveOneMeaning : Type 0
HaveOneMeaning = (program input : List ℕ) (m n : Meaning) → Means program input m → Means program input n → m ≡ n

-- a program and an input text have a meaning
abbrev pub HaveSomeMeaning : Type 0
HaveSomeMeaning = (program input : List ℕ) → (m : Meaning) × Means program input m

-- none is that memory ran out
abbrev pub IsNeverOfMemory : Type 0
IsNeverOfMemory = (program input : List ℕ) → ¬ Means program input (is_refused NoMemory)
