-- What is told of a refusal, and where its caret stands.
use Rattle.std.specs.Prelude.{◌≡◌, ℕ, List, [], Option, unwrap_or}
use Rattle.snesl_data.specs.declared.refusal.Refusal.{Refusal}
use Rattle.snesl_data.specs.declared.refusal.Refusal.TheVariants.{Lex, Syntax, Name, Mismatch, Streamed, BadInput}
use Rattle.snesl_grammar.specs.declared.program.Program.{Program}
use Rattle.snesl_grammar.specs.View.{program_of}
use Rattle.snesl_types.specs.Clashes.{Clash, ProgramClashes}
use Rattle.snesl_advice.specs.culprits.Culprits.{BeginsOne, IsCulpritOf}
use Rattle.snesl_look.specs.Messages.{IsRefusalMessage, refusal_message}
use Rattle.snesl_advice.specs.declared.refusals.Advice.{Advice}
use Rattle.snesl_advice.specs.Told.{IsToldAt, IsToldOfInput, shown_place}

-- the message has its caret at the refusal's offset, if it has one
abbrev pub IsToldOfRefusal : Refusal → (program input message : List ℕ) → Type 0
IsToldOfRefusal (Lex at) program input message = IsToldAt program at message
IsToldOfRefusal (Syntax at) program input message = IsToldAt program at message
IsToldOfRefusal (Name at) program input message = IsToldAt program at message
IsToldOfRefusal (Mismatch at) program input message = IsToldAt program at message
IsToldOfRefusal (Streamed at) program input message = IsToldAt program at message
IsToldOfRefusal (BadInput at) program input message = IsToldOfInput input at message
IsToldOfRefusal refusal program input message = IsRefusalMessage refusal program input message

-- so has the message of this advice, at the refusal that it shows
abbrev pub TellsOfRefusal : (program input : List ℕ) → Advice → Type 0
TellsOfRefusal program input advice = IsToldOfRefusal advice.shown program input advice.message.items

-- the message of types that do not fit at the offset has its caret at the place
pub data IsToldOfMismatch (text : List ℕ) (at : ℕ) (message : List ℕ) : (place : ℕ) → Type 0 where
  -- the types clash there: where the part begins that is at fault, or else at the offset
  of_clash : (program : Program) (clash : Clash) (found : Option ℕ) → program.text.items ≡ text
      → ProgramClashes text (program_of program) at clash → BeginsOne (IsCulpritOf (program_of program) at clash) found
      → IsToldAt text (unwrap_or found at) message → IsToldOfMismatch text at message (unwrap_or found at)
  -- it was not found which types they are: at the offset, with no note
  of_nothing : message ≡ refusal_message (Mismatch at) text [] → IsToldOfMismatch text at message at

-- what is told of types that do not fit
abbrev pub IsMismatchAdvice : List ℕ → ℕ → Advice → Type 0
IsMismatchAdvice program at advice =
    (place : ℕ) × (advice.shown ≡ Mismatch place) × IsToldOfMismatch program at advice.message.items place

-- the refusal has the offset at which it is shown
abbrev pub IsShown : Refusal → (program : List ℕ) → Advice → Type 0
IsShown (Mismatch at) program advice = IsMismatchAdvice program at advice
IsShown (Syntax at) program advice = advice.shown ≡ Syntax (shown_place program at)
IsShown refusal program advice = advice.shown ≡ refusal
