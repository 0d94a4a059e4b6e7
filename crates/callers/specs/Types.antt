-- The value of a program for an input text.
use Rattle.std.specs.Prelude.{ℕ, List, Result, Ok}
use Rattle.snesl_values.specs.Datum.{Datum}
use Rattle.snesl_values.specs.Fault.{Fault}
use Rattle.snesl_values.specs.Inputs.{InputDeclaration, Environment, InputMeans, spells}
use Rattle.snesl_values.specs.Types.{Ty}
use Rattle.snesl_syntax.specs.Parse.{Parses}
use Rattle.snesl_types.specs.Eval.{program_value}
use Rattle.snesl_types.specs.Programs.{HasTyping}
use Rattle.snesl_types.specs.Results.{IsAnswer}
use Rattle.snesl_types.specs.Tree.{ProgramTree}

-- The text is a typed program, the input text spells values for its inputs, and the answer is its value for these, or its
-- first fault.
pub record IsValueOf (text input : List ℕ) (answer : Result Datum Fault) : Type 0 where
  pub program : ProgramTree
  pub inputs : List InputDeclaration
  pub ty : Ty
  pub environment : Environment
  pub parses : Parses text (Ok program)
  pub types : HasTyping text program inputs ty
  pub reads : InputMeans program.dialect inputs input (spells environment)
  pub answers : IsAnswer answer (program_value text program environment)
