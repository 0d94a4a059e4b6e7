-- Strings of DOT, the language in which a network is drawn.
use Rattle.std.specs.Prelude.{◌≡◌, ℕ, List, [], ◌∷◌, ◌++◌, Option, Some, None, Bool, true, false, ◌==◌, nat_lt, if◌then◌else◌, flat_map}

-- A quote and a backslash stand after a backslash, a line feed is written `\n`, another byte before the blank is a blank, and one
-- after `~` is `?`.
abbrev pub quoted_byte : ℕ → List ℕ
quoted_byte byte =
    if byte == 34 then 92 ∷ 34 ∷ []
    else if byte == 92 then 92 ∷ 92 ∷ []
    else if byte == 10 then 92 ∷ 110 ∷ []
    else if nat_lt byte 32 then 32 ∷ []
    else if nat_lt 126 byte then 63 ∷ []
    else byte ∷ []

-- each byte in turn
abbrev pub quoted : List ℕ → List ℕ
quoted text = flat_map quoted_byte text

-- What stands after the string that these bytes begin, where a quote ends it; a backslash and the byte after it never end it.
-- `escaped` says that the last byte was such a backslash.
abbrev pub after_string : (escaped : Bool) → List ℕ → Option (List ℕ)
after_string escaped [] = None
after_string true (byte ∷ bytes) = after_string false bytes
after_string false (byte ∷ bytes) = if byte == 34 then Some bytes else after_string (byte == 92) bytes

-- a quote after these bytes ends their string, and none among them does, whatever stands after it
abbrev pub EndsWithText : List ℕ → Type 0
EndsWithText text = (behind : List ℕ) → after_string false (text ++ 34 ∷ behind) ≡ Some behind
