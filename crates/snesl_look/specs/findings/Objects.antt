-- What an editor reads.
use Rattle.std.specs.Prelude.{◌≡◌, ℕ, List, [], ◌∷◌, ◌++◌, Option, Some, None, OnOk, Result, codes, decimal, option_map}
use Rattle.std.specs.Str.Lossy.{utf8_lossy}
use Rattle.json.specs.Token.{Token, begin_object, end_object, key, string, number, null}
use Rattle.json.specs.Written.{Written}
use Rattle.snesl_look.specs.declared.findings.objects.Finding.{Finding}

-- a text, in which U+FFFD stands for what is no UTF-8
abbrev pub text_token : List ℕ → Token
text_token text = string (utf8_lossy text)

-- a text, or null
abbrev pub text_or_null : Option (List ℕ) → Token
text_or_null (Some text) = text_token text
text_or_null None = null

-- the name of a file, or null
abbrev pub file_token : Option (List ℕ) → Token
file_token (Some file) = string file
file_token None = null

-- a member with a number
abbrev pub number_member : List ℕ → ℕ → List Token
number_member name count = key name ∷ number (decimal count) ∷ []

-- the name of its file
abbrev pub file_named : Finding → Option (List ℕ)
file_named finding = option_map (λ file. file.now) finding.file

-- `file`
abbrev pub source_tokens : Finding → List Token
source_tokens finding = key (codes "file") ∷ file_token (file_named finding) ∷ []

-- `line`, `column` and `end`
abbrev pub place_tokens : Finding → List Token
place_tokens finding =
    number_member (codes "line") finding.line
    ++ (number_member (codes "column") finding.column ++ number_member (codes "end") finding.end)

-- `severity`
abbrev pub severity_tokens : List Token
severity_tokens = key (codes "severity") ∷ string (codes "error") ∷ []

-- `message` and `hint`
abbrev pub word_tokens : Finding → List Token
word_tokens finding =
    key (codes "message") ∷ text_token finding.sentence.now
    ∷ key (codes "hint") ∷ text_or_null (option_map (λ hint. hint.now) finding.hint) ∷ []

abbrev pub member_tokens : Finding → List Token
member_tokens finding = source_tokens finding ++ (place_tokens finding ++ (severity_tokens ++ word_tokens finding))

-- the object
abbrev pub object_tokens : Finding → List Token
object_tokens finding = begin_object ∷ (member_tokens finding ++ end_object ∷ [])

-- these tokens are written too, where memory is not refused, and what stood before all tokens stays
pub record WritesMore {E : Type 0} (result : Result (Unit {0}) E) (old new : Written) (more : List Token) : Type 0 where
  pub tokens : OnOk result (new.tokens ≡ old.tokens ++ more)
  pub before : new.before ≡ old.before
