-- A program and an input text have a meaning.
use Rattle.std.proofs.Common.{ℕ, List, Result, Ok, Err, ◌≡◌, refl}
use Rattle.snesl_data.specs.declared.refusal.Refusal.{Refusal}
use Rattle.snesl_data.specs.declared.refusal.Refusal.TheVariants.{BadInput}
use Rattle.snesl_data.specs.Types.{Ty}
use Rattle.snesl_values.specs.Inputs.{InputAnswer, InputMeans, SomeInputMeaning, spells, refused_at}
use Rattle.snesl_grammar.specs.tree.Tree.{ProgramTree}
use Rattle.snesl_syntax.specs.Parse.{Parses, HaveSomeAnswer}
use Rattle.snesl_evaluation.specs.Eval.{program_value}
use Rattle.snesl_types.specs.Programs.{Declared}
use Rattle.snesl_types.specs.Verdicts.{program_verdict}
use Rattle.snesl_meaning.specs.Meaning.{Meaning, Means, meaning_of, no_program, ill_typed, bad_input, evaluated, is_refused, HaveSomeMeaning}

module _ (answers : HaveSomeAnswer) (inputs : SomeInputMeaning) (text input : List ℕ) where
  -- a program that has a type is evaluated, unless its input text is refused
  of_input : {program : ProgramTree} {declared : Declared} {t : Ty} → Parses text (Ok program) → program_verdict text program ≡ Ok (declared, t)
      → (answer : InputAnswer) → InputMeans program.dialect declared.inputs input answer → (m : Meaning) × Means text input m
  of_input {program = program} p h (spells environment) i = (meaning_of (program_value text program environment), evaluated p h i)
  of_input p h (refused_at at) i = (is_refused (BadInput at), bad_input p h i)

  -- a program has a type, or it is refused
  of_verdict : {program : ProgramTree} → Parses text (Ok program) → (verdict : Result (Declared × Ty) Refusal) → program_verdict text program ≡ verdict
      → (m : Meaning) × Means text input m
  of_verdict {program = program} p (Ok (declared, t)) h = let means = inputs program.dialect declared.inputs input in of_input p h means.0 means.1
  of_verdict p (Err refusal) h = (is_refused refusal, ill_typed p h)

  of_answer : (answer : Result ProgramTree Refusal) → Parses text answer → (m : Meaning) × Means text input m
  of_answer (Ok program) p = of_verdict p (program_verdict text program) refl
  of_answer (Err refusal) p = (is_refused refusal, no_program p)

  meaning : (m : Meaning) × Means text input m
  meaning = let answer = answers text in of_answer answer.0 answer.1

pub some_meaning : HaveSomeAnswer → SomeInputMeaning → HaveSomeMeaning
some_meaning answers inputs text input = meaning answers inputs text input
