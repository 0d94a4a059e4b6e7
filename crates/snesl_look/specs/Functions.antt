-- In which function a place of a program lies.
use Rattle.std.specs.Prelude.{◌≡◌, ◌<◌, ◌≤◌, ◌⊎◌, ℕ, ◌+◌, ◌-◌, List, Bool, ◌==◌, ◌||◌, if◌then◌else◌, codes, drop, fold, length, slice_index, take}
use Rattle.std.specs.List.{prefix_len}
use Rattle.snesl_data.specs.Blanks.{is_blank}
use Rattle.snesl_data.specs.Characters.{is_word}

-- `(`, `[` or `{`
abbrev pub opens : ℕ → Bool
opens byte = byte == 40 || byte == 91 || byte == 123

-- `)`, `]` or `}`
abbrev pub is_closing : ℕ → Bool
is_closing byte = byte == 41 || byte == 93 || byte == 125

-- how many brackets are open after a byte before which so many are
abbrev pub depth_after_byte : ℕ → ℕ → ℕ
depth_after_byte depth byte = if opens byte then depth + 1 else if is_closing byte then depth - 1 else depth

-- how many brackets are open before a place
abbrev pub depth_at : List ℕ → ℕ → ℕ
depth_at text place = fold depth_after_byte 0 (take place text)

-- a `;` stands there, in no bracket: it ends a declaration
abbrev pub EndsDeclaration : List ℕ → ℕ → Type 0
EndsDeclaration text place = (place < length text) × (slice_index text place ≡ 59) × (depth_at text place ≡ 0)

-- a declaration may begin there: at the beginning, or after the end of another
abbrev pub BeginsDeclaration : List ℕ → ℕ → Type 0
BeginsDeclaration text place = (place ≡ 0) ⊎ ((end : ℕ) × (place ≡ end + 1) × EndsDeclaration text end)

-- This is the declaration in which the offset lies, without its `;`: none ends from its start to before its end.
pub record IsDeclarationAt (text : List ℕ) (offset : ℕ) (declaration : List ℕ) : Type 0 where
  pub start : ℕ
  pub end : ℕ
  pub begins : BeginsDeclaration text start
  pub ends : EndsDeclaration text end
  pub one : (k : ℕ) → start ≤ k → k < end → ¬ EndsDeclaration text k
  pub behind : start ≤ offset
  pub before : offset ≤ end
  pub bytes : declaration ≡ take (end - start) (drop start text)

-- the offset lies in no declaration, since none ends from there on
abbrev pub NoneAt : List ℕ → ℕ → Type 0
NoneAt text offset = (k : ℕ) → offset ≤ k → ¬ EndsDeclaration text k

-- what stands after the blanks at the front
abbrev pub after_blanks : List ℕ → List ℕ
after_blanks text = drop (prefix_len is_blank text) text

-- the word at the front
abbrev pub front_word : List ℕ → List ℕ
front_word text = take (prefix_len is_word text) text

-- what stands after it
abbrev pub after_word : List ℕ → List ℕ
after_word text = drop (prefix_len is_word text) text

-- the first word of a declaration is `function`
abbrev pub DeclaresFunction : List ℕ → Type 0
DeclaresFunction declaration = front_word (after_blanks declaration) ≡ codes "function"

-- and this is its second word
abbrev pub HasName : List ℕ → List ℕ → Type 0
HasName declaration name = DeclaresFunction declaration × (name ≡ front_word (after_blanks (after_word (after_blanks declaration))))

-- the offset lies in the declaration of a function of this name
abbrev pub IsNamedAt : List ℕ → ℕ → List ℕ → Type 0
IsNamedAt text offset name = (declaration : List ℕ) × IsDeclarationAt text offset declaration × HasName declaration name

-- the offset lies in no declaration, or in one that is of no function
abbrev pub NoneNamedAt : List ℕ → ℕ → Type 0
NoneNamedAt text offset = NoneAt text offset ⊎ ((declaration : List ℕ) × IsDeclarationAt text offset declaration × ¬ DeclaresFunction declaration)
