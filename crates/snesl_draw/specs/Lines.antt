-- The parts of a drawing.
use Rattle.std.specs.Prelude.{ℕ, ◌+◌, ◌/◌, ◌++◌, List, [], ◌∷◌, Bool, true, false, ◌==◌, nat_lt, if◌then◌else◌, Option, Some, None, codes, decimal, length, min, take}
use Rattle.snesl_data.specs.Blanks.{is_blank}
use Rattle.snesl_look.specs.Places.{column_of, line_of}
use Rattle.snesl_grammar.specs.tree.Spelling.{spelling}
use Rattle.snesl_draw.specs.Quoting.{quoted}
use Rattle.snesl_draw.specs.Words.{kind_word}
use Rattle.snesl_draw.specs.declared.drawing.DrawnEdge.{DrawnEdge}
use Rattle.snesl_draw.specs.declared.drawing.DrawnForm.{DrawnForm}
use Rattle.snesl_draw.specs.declared.drawing.DrawnNode.{DrawnNode}
use Rattle.snesl_draw.specs.declared.drawing.InputStream.{InputStream}

-- `2:5`: the line and the column of an offset
abbrev pub line_and_column : List ℕ → ℕ → List ℕ
line_and_column program at = decimal (line_of program at) ++ codes ":" ++ decimal (column_of program at)

-- a text in one line: one blank for blanks and line feeds in a row
abbrev pub one_blank : (after_blank : Bool) → ℕ → List ℕ
one_blank after byte = if is_blank byte then (if after then [] else 32 ∷ []) else byte ∷ []

abbrev pub in_one_line : (after_blank : Bool) → List ℕ → List ℕ
in_one_line after [] = []
in_one_line after (byte ∷ bytes) = one_blank after byte ++ in_one_line (is_blank byte) bytes

-- a text, or its first 40 bytes and `…`
abbrev pub shortened : List ℕ → List ℕ
shortened text = if nat_lt 40 (length text) then quoted (take 40 text) ++ 226 ∷ 128 ∷ 166 ∷ [] else quoted text

-- what a form is called: where it begins, and its text, each in a line that begins at the left
abbrev pub form_title : List ℕ → DrawnForm → List ℕ
form_title program form =
    line_and_column program form.piece.at ++ codes "\\l" ++ shortened (in_one_line false (spelling program form.piece)) ++ codes "\\l"

-- ` rows: lengths`: the name of an input, and which of its streams
abbrev pub part_of_input : List ℕ → List ℕ
part_of_input part = if length part == 0 then [] else codes ": " ++ part

abbrev pub input_part : List ℕ → Option InputStream → List ℕ
input_part program None = []
input_part program (Some input) = codes " " ++ quoted (spelling program input.name) ++ part_of_input input.part.now

-- `4 Binary: Multiply`, `2 Input rows: lengths`
abbrev pub node_title : List ℕ → DrawnNode → List ℕ
node_title program node = decimal node.number ++ codes " " ++ node.word.now ++ input_part program node.input

-- how many messages went over an edge, after a blank, where that is known
abbrev pub messages_part : Option ℕ → List ℕ
messages_part None = []
messages_part (Some messages) = codes " " ++ decimal messages

-- what goes over an edge: the kind of its items, and how many messages
abbrev pub edge_label : DrawnEdge → List ℕ
edge_label edge = kind_word edge.kind ++ messages_part edge.messages

-- an edge is half as thick as the number of its messages has digits, and at most 3
abbrev pub width_of : ℕ → ℕ
width_of messages = min 3 ((length (decimal messages) + 1) / 2)
