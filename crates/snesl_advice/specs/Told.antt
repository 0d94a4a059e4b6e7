-- What is told at a place of a program.
use Rattle.std.specs.Prelude.{ℕ, zero, suc, List, [], ◌++◌, Vec, codes, if◌then◌else◌, length, nat_le, slice_index}
use Rattle.std.specs.Global.{Global}
use Rattle.snesl_data.specs.Blanks.{is_blank}
use Rattle.snesl_look.specs.Messages.{noted_message}

-- a sentence, some notes and perhaps a hint are told at this place of a text, of which it is said which it is
pub data IsToldOf (of_text text : List ℕ) (place : ℕ) : List ℕ → Type 0 where
  told : (sentence : List ℕ) (notes : List (List ℕ)) (hint : List ℕ)
      → IsToldOf of_text text place (noted_message sentence text place of_text notes hint)

-- the same in a program
abbrev pub IsToldAt : (program : List ℕ) → (place : ℕ) → List ℕ → Type 0
IsToldAt program place message = IsToldOf [] program place message

-- and in an input text
abbrev pub IsToldOfInput : (input : List ℕ) → (place : ℕ) → List ℕ → Type 0
IsToldOfInput input place message = IsToldOf (codes " of the input text") input place message

-- a message that is told so
abbrev pub IsAdviceAt : (program : List ℕ) → (place : ℕ) → Vec ℕ Global → Type 0
IsAdviceAt program place message = IsToldAt program place message.items

-- and one that is told in an input text
abbrev pub IsAdviceOnInput : (input : List ℕ) → (place : ℕ) → Vec ℕ Global → Type 0
IsAdviceOnInput input place message = IsToldOfInput input place message.items

-- a text in quotes, between two others
abbrev pub in_quotes : (before text after : List ℕ) → List ℕ
in_quotes before text after = before ++ codes "`" ++ text ++ codes "`" ++ after

-- how many of the first bytes stand before the blanks at their end
abbrev pub length_without_blanks : List ℕ → ℕ → ℕ
length_without_blanks text zero = zero
length_without_blanks text (suc n) = if is_blank (slice_index text n) then length_without_blanks text n else suc n

-- where it is shown: at the end of a program, before the blanks there
abbrev pub shown_place : List ℕ → ℕ → ℕ
shown_place program at = if nat_le (length program) at then length_without_blanks program (length program) else at
