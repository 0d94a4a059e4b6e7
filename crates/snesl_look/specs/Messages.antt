-- What is printed for a refusal and for a fault.
use Rattle.std.specs.Prelude.{◌≡◌, ℕ, ◌-◌, ◌++◌, List, [], ◌∷◌, Option, Some, None, codes, decimal, drop, if◌then◌else◌, length, map, nat_le, take}
use Rattle.snesl_data.specs.declared.fault.Fault.{Fault}
use Rattle.snesl_data.specs.declared.refusal.Refusal.{Refusal}
use Rattle.snesl_data.specs.declared.refusal.Refusal.TheVariants.{Lex, Syntax, Name, Mismatch, Streamed, BadInput}
use Rattle.snesl_look.specs.Functions.{IsNamedAt, NoneNamedAt}
use Rattle.snesl_look.specs.Names.{IsMeant, NoneMeant}
use Rattle.snesl_look.specs.declared.stalls.Enough.{Enough}
use Rattle.snesl_look.specs.declared.stalls.Enough.TheVariants.{Messages}
use Rattle.snesl_look.specs.Places.{caret_line, column_of, line_of, line_text, shown_byte}
use Rattle.snesl_look.specs.Stalls.{stalled_hint, stalled_sentence}
use Rattle.snesl_look.specs.Words.{fault_hint, fault_sentence, refusal_hint, refusal_sentence}

-- as many blanks as a number has digits
abbrev pub gutter : ℕ → List ℕ
gutter number = take (length (decimal number)) (codes "                    ")

-- `error: `, and the sentence
abbrev pub sentence_part : List ℕ → List ℕ
sentence_part sentence = codes "error: " ++ sentence ++ codes "\n"

-- ` --> line 2, column 5`, and of which text they are
abbrev pub heading_part : (line column : ℕ) → (of_text : List ℕ) → List ℕ
heading_part line column of_text =
    gutter line ++ codes "--> line " ++ decimal line ++ codes ", column " ++ decimal column ++ of_text ++ codes "\n"

-- of a line of more than 120 bytes at most 60 before the place are shown
abbrev pub shown_from : List ℕ → ℕ → ℕ
shown_from line column = if nat_le (length line) 120 then 0 else column - 61

-- of a line at most 120 bytes are shown
abbrev pub shown_part : List ℕ → ℕ → List ℕ
shown_part line from = take 120 (drop from line)

-- the bytes of a line, after its number
abbrev pub line_part : (number : ℕ) → (part : List ℕ) → List ℕ
line_part number part = gutter number ++ codes " |\n" ++ decimal number ++ codes " | " ++ map shown_byte part ++ codes "\n"

-- a caret under it
abbrev pub caret_part : (number : ℕ) → (part : List ℕ) → (column : ℕ) → List ℕ
caret_part number part column = gutter number ++ codes " | " ++ caret_line part column ++ codes "\n"

-- the line, or a part of it, and a caret under the column
abbrev pub place_part : (line : List ℕ) → (number column : ℕ) → List ℕ
place_part line number column =
    let from = shown_from line column in
    let part = shown_part line from in
    line_part number part ++ caret_part number part (column - from)

-- a text after the gutter, between others
abbrev pub remark : (number : ℕ) → (before text behind : List ℕ) → List ℕ
remark number before text behind = gutter number ++ before ++ text ++ behind

-- the function in which the place lies
abbrev pub function_part : ℕ → Option (List ℕ) → List ℕ
function_part number None = []
function_part number (Some name) =
    remark number (codes " = note: this is in the function `") name (codes "`; which call of it led here is not known\n")

-- ` = note: `, and the note
abbrev pub note_part : ℕ → List ℕ → List ℕ
note_part number note = remark number (codes " = note: ") note (codes "\n")

-- notes, each in a line
abbrev pub notes_part : ℕ → List (List ℕ) → List ℕ
notes_part number [] = []
notes_part number (note ∷ notes) = note_part number note ++ notes_part number notes

-- ` = hint: `, and the hint
abbrev pub hint_part : ℕ → Option (List ℕ) → List ℕ
hint_part number None = []
hint_part number (Some hint) = remark number (codes " = hint: ") hint (codes "\n")

-- a message with no place
abbrev pub message : List ℕ → Option (List ℕ) → List ℕ
message sentence hint = sentence_part sentence ++ hint_part 0 hint

-- a message with a place in a text, and the name of a function in which it lies
abbrev pub placed_message : (sentence text : List ℕ) → (offset : ℕ) → (of_text : List ℕ) → (name hint : Option (List ℕ)) → List ℕ
placed_message sentence text offset of_text name hint =
    let line = line_of text offset in
    let column = column_of text offset in
    sentence_part sentence ++ heading_part line column of_text ++ place_part (line_text text offset) line column
    ++ function_part line name ++ hint_part line hint

-- a hint where there is one
abbrev pub hint_where_some : List ℕ → Option (List ℕ)
hint_where_some [] = None
hint_where_some (byte ∷ bytes) = Some (byte ∷ bytes)

-- a message with a place in a text, some notes, and a hint, if that is not empty
abbrev pub noted_message : (sentence text : List ℕ) → (offset : ℕ) → (of_text : List ℕ) → (notes : List (List ℕ)) → (hint : List ℕ) → List ℕ
noted_message sentence text offset of_text notes hint =
    let line = line_of text offset in
    let column = column_of text offset in
    sentence_part sentence ++ heading_part line column of_text ++ place_part (line_text text offset) line column
    ++ notes_part line notes ++ hint_part line (hint_where_some hint)

-- what is said of a refusal, where no other name is meant
abbrev pub refusal_message : Refusal → (program input : List ℕ) → List ℕ
refusal_message (BadInput at) program input =
    placed_message (refusal_sentence (BadInput at)) input at (codes " of the input text") None (refusal_hint (BadInput at))
refusal_message (Lex at) program input = placed_message (refusal_sentence (Lex at)) program at [] None (refusal_hint (Lex at))
refusal_message (Syntax at) program input = placed_message (refusal_sentence (Syntax at)) program at [] None (refusal_hint (Syntax at))
refusal_message (Name at) program input = placed_message (refusal_sentence (Name at)) program at [] None (refusal_hint (Name at))
refusal_message (Mismatch at) program input = placed_message (refusal_sentence (Mismatch at)) program at [] None (refusal_hint (Mismatch at))
refusal_message (Streamed at) program input = placed_message (refusal_sentence (Streamed at)) program at [] None (refusal_hint (Streamed at))
refusal_message refusal program input = message (refusal_sentence refusal) (refusal_hint refusal)

-- the name that is meant
abbrev pub near_part : (number : ℕ) → (name : List ℕ) → List ℕ
near_part number name = remark number (codes " = hint: did you mean `") name (codes "`?\n")

-- what is said of a name that is not bound, where another is meant
abbrev pub near_message : (at : ℕ) → (program name : List ℕ) → List ℕ
near_message at program name =
    placed_message (refusal_sentence (Name at)) program at [] None None ++ near_part (line_of program at) name

-- what is said of a name that is not bound: its hint is the name that is meant, if one is
pub data IsNameMessage (at : ℕ) (program : List ℕ) : List ℕ → Type 0 where
  meant : (name : List ℕ) → IsMeant program at name → IsNameMessage at program (near_message at program name)
  none_meant : NoneMeant program at → IsNameMessage at program (refusal_message (Name at) program [])

-- what is said of a refusal
abbrev pub IsRefusalMessage : Refusal → (program input message : List ℕ) → Type 0
IsRefusalMessage (Name at) program input message = IsNameMessage at program message
IsRefusalMessage refusal program input message = message ≡ refusal_message refusal program input

-- what is said of a fault: it names the function in whose declaration its place lies, if it lies in one
abbrev pub fault_message : Fault → List ℕ → Option (List ℕ) → List ℕ
fault_message fault program name = placed_message (fault_sentence fault.kind) program fault.at [] name (fault_hint fault.kind)

-- and so it is for the program
pub data IsFaultMessage (fault : Fault) (program : List ℕ) : List ℕ → Type 0 where
  in_function : (name : List ℕ) → IsNamedAt program fault.at name → IsFaultMessage fault program (fault_message fault program (Some name))
  in_no_function : NoneNamedAt program fault.at → IsFaultMessage fault program (fault_message fault program None)

-- the form before it writes the stream at which a network has stalled
abbrev pub full_part : ℕ → List ℕ
full_part number = remark number (codes " = note: ") (codes "a stream that this form writes is full") (codes "\n")

-- how many messages are enough for a network that has stalled
abbrev pub messages_part : (number count : ℕ) → List ℕ
messages_part number count =
    gutter number ++ codes " = note: " ++ decimal count ++ codes " messages are enough, as by `--capacity " ++ decimal count ++ codes "`\n"

-- and where that is not known a hint
abbrev pub enough_part : ℕ → Enough → List ℕ
enough_part number (Messages count) = messages_part number count
enough_part number enough = hint_part number (Some (stalled_hint enough))

-- what is said of such a network, with the place of the form whose stream is full, if that is known
abbrev pub stalled_message : List ℕ → Option ℕ → Enough → List ℕ
stalled_message program (Some at) enough =
    let line = line_of program at in
    placed_message stalled_sentence program at [] None None ++ full_part line ++ enough_part line enough
stalled_message program None enough = message stalled_sentence None ++ enough_part 0 enough
