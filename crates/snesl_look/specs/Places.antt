-- Places in a text.
use Rattle.std.specs.Prelude.{ℕ, ◌+◌, ◌-◌, ◌++◌, List, Bool, ◌==◌, ◌||◌, ◌&&◌, not, nat_lt, nat_le, if◌then◌else◌, codes, drop, filter, length, map, take}
use Rattle.std.specs.List.{after_last, before_first, count_by}

-- a line feed
abbrev pub is_line_feed : ℕ → Bool
is_line_feed byte = byte == 10

-- the number of an offset's line: one more than the line feeds before it
abbrev pub line_of : List ℕ → ℕ → ℕ
line_of text offset = count_by is_line_feed (take offset text) + 1

-- its column: one more than the bytes after the last of them
abbrev pub column_of : List ℕ → ℕ → ℕ
column_of text offset = length (after_last is_line_feed (take offset text)) + 1

-- the bytes of its line: what stands between the last line feed before it and the next one from it on
abbrev pub line_text : List ℕ → ℕ → List ℕ
line_text text offset = after_last is_line_feed (take offset text) ++ before_first is_line_feed (drop offset text)

-- all bytes but the later ones of a character of several bytes, which are 128 to 191
abbrev pub starts_character : ℕ → Bool
starts_character byte = nat_lt byte 128 || nat_le 192 byte

-- a tab for a tab, and else a blank
abbrev pub blank_for : ℕ → ℕ
blank_for byte = if byte == 9 then 9 else 32

-- as many characters as stand before the column, each blank, and then a caret
abbrev pub caret_line : List ℕ → ℕ → List ℕ
caret_line line column = map blank_for (filter starts_character (take (column - 1) line)) ++ codes "^"

-- a blank for a control character, but for a tab; the control characters are those before the blank, and 127
abbrev pub shown_byte : ℕ → ℕ
shown_byte byte = if (nat_lt byte 32 && not (byte == 9)) || byte == 127 then 32 else byte
