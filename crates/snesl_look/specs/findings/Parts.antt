-- The parts of a message.
use Rattle.std.specs.Prelude.{ℕ, ◌-◌, ◌==◌, List, Option, Some, None, codes, drop, if◌then◌else◌, length}
use Rattle.std.specs.List.{starts_with}
use Rattle.std.specs.Option.{unwrap_or}
use Rattle.snesl_look.specs.Functions.{after_blanks}
use Rattle.snesl_look.specs.Places.{line_text}

-- what stands behind a word at the front of a text
abbrev pub behind : (word text : List ℕ) → Option (List ℕ)
behind word text = if starts_with ◌==◌ text word then Some (drop (length word) text) else None

-- the last line of a text that ends with a line feed
abbrev pub last_line : List ℕ → List ℕ
last_line text = line_text text (length text - 1)

-- the first line of a message, without `error: `
abbrev pub sentence_of : List ℕ → List ℕ
sentence_of message = unwrap_or (behind (codes "error: ") (line_text message 0)) (line_text message 0)

-- what stands behind `= hint: ` in the last line, where that begins so after its blanks
abbrev pub hint_of : List ℕ → Option (List ℕ)
hint_of message = behind (codes "= hint: ") (after_blanks (last_line message))
