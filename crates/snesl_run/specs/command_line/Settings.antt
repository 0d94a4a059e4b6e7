-- What a command line says.
use Rattle.std.specs.Prelude.{◌≡◌, ◌<◌, ◌^◌, ◌⊎◌, ℕ, true, List, [], ◌∷◌, Option, Some, None, codes, fold, length, map, option_map}
use Rattle.std.specs.Borrow.{Bor}
use Rattle.std.specs.List.{All, range_with_len}
use Rattle.std.specs.Char.{digit_value}
use Rattle.std.specs.Int.{IsInRange}
use Rattle.std.specs.Str.Parse.{IsNumeral, digits_value, without_leading_plus}
use Rattle.clap.specs.Simple.{on_top}
use Rattle.clap.specs.Words.{App, Rule, Text, fault_of, first_of, found_of, matches_of, new_app, new_rule, rows_of, with_rule}
use Rattle.clap.specs.declared.parser.matches.ArgMatches.{ArgMatches}
use Rattle.snesl_data.specs.declared.refusal.Refusal.{Refusal}
use Rattle.snesl_data.specs.declared.refusal.Refusal.TheVariants.{BadConfig, NoMemory}
use Rattle.flow_drives.specs.Configs.{IsLawful, IsWithin}
use Rattle.flow_drives.specs.declared.config.Config.{Config}
use Rattle.flow_drives.specs.declared.config.Drive.{Drive}
use Rattle.flow_drives.specs.declared.config.Drive.TheVariants.{Serial, Rounds, Rings}

-- ---- the options

-- an option `--name`, which takes one value
abbrev pub option_named : Text → Rule
option_named name = record (new_rule name) { long = Some name }

-- the names of the options
abbrev pub option_names : List Text
option_names = codes "capacity" ∷ codes "chunk" ∷ codes "threads" ∷ codes "idle" ∷ codes "drive" ∷ codes "deal" ∷ []

-- the same command, where `--help` is no option
abbrev pub without_help : App → App
without_help app = on_top (λ shape. record shape { disable_help_flag = true }) app

-- the command of the program: it has these options, and takes no other word
abbrev pub command_line : App
command_line = fold with_rule (without_help (new_app (codes "snesl"))) (map option_named option_names)

-- the value that the words give the option
abbrev pub option_value : List Text → Text → Option Text
option_value words name = first_of name (matches_of command_line words)

-- these are the matches of the words
abbrev pub IsFoundIn : List Text → ArgMatches → Type 0
IsFoundIn words matches = rows_of (found_of matches) ≡ matches_of command_line words

-- the value that the matches give the option
abbrev pub value_found : ArgMatches → Text → Option Text
value_found matches name = first_of name (rows_of (found_of matches))

-- ---- the values

-- the text of a value
abbrev pub text_said : Option (Bor Text) → Option Text
text_said said = option_map (λ text. text.now) said

-- The text is a spelling of the number: decimal digits, before which one plus may stand.
pub record SpellsNumber (text : Text) (number : ℕ) : Type 0 where
  pub digits : IsNumeral 10 (without_leading_plus text)
  pub value : digits_value 10 (without_leading_plus text) ≡ number

-- it spells none of 64 bits
abbrev pub SpellsNoNumber : Text → Type 0
SpellsNoNumber text = (number : ℕ) → number < 2 ^ 64 → ¬ (SpellsNumber text number)

-- the value spells the number; where there is no value, the number is the default
abbrev pub SaysNumber : Option Text → ℕ → ℕ → Type 0
SaysNumber None default number = number ≡ default
SaysNumber (Some text) default number = SpellsNumber text number

-- it says no number from 1 to the most
abbrev pub SaysNoneWithin : (most : ℕ) → Option Text → ℕ → Type 0
SaysNoneWithin most value default = (number : ℕ) → IsWithin most number → ¬ (SaysNumber value default number)

-- the word for a drive
abbrev pub drive_word : Drive → Text
drive_word Serial = codes "serial"
drive_word Rounds = codes "rounds"
drive_word Rings = codes "rings"

-- the value is the word for the drive; where there is no value, the drive is `Rings`
abbrev pub SaysDrive : Option Text → Drive → Type 0
SaysDrive None drive = drive ≡ Rings
SaysDrive (Some text) drive = text ≡ drive_word drive

-- one of 0..9 (48 to 57) and a..f (97 to 102)
abbrev pub IsShareDigit : ℕ → Type 0
IsShareDigit letter = IsInRange 48 57 letter ⊎ IsInRange 97 102 letter

-- the most digits of a share
abbrev pub most_digits : ℕ
most_digits = 64

-- The text is the spelling of the entries: one digit for each.
pub record SpellsShare (text : Text) (share : List ℕ) : Type 0 where
  pub count : IsWithin most_digits (length text)
  pub digits : All IsShareDigit text
  pub entries : share ≡ map digit_value text

-- the value spells the entries; where there is no value, they are the numbers below `threads`
abbrev pub SaysShare : Option Text → ℕ → List ℕ → Type 0
SaysShare None threads share = share ≡ range_with_len 0 threads
SaysShare (Some text) threads share = SpellsShare text share

-- it says some entries
abbrev pub SaysSomeShare : Option Text → ℕ → Type 0
SaysSomeShare value threads = (share : List ℕ) × SaysShare value threads share

-- ---- the configuration

-- Each field is what its option says, by the values of the options.
pub record HasFields (value : Text → Option Text) (config : Config) : Type 0 where
  pub capacity : SaysNumber (value (codes "capacity")) 256 config.capacity
  pub chunk : SaysNumber (value (codes "chunk")) 16 config.chunk
  pub threads : SaysNumber (value (codes "threads")) 2 config.threads
  pub idle : SaysNumber (value (codes "idle")) 64 config.idle
  pub drive : SaysDrive (value (codes "drive")) config.drive
  pub share : SaysShare (value (codes "deal")) config.threads config.share.items

-- the options say a configuration that is lawful
abbrev pub HaveLawfulFields : (Text → Option Text) → Type 0
HaveLawfulFields value = (config : Config) × HasFields value config × IsLawful config

-- The words say the configuration: clap finds no fault in them, and each field is what its option says.
pub record SaysSo (words : List Text) (config : Config) : Type 0 where
  pub faultless : fault_of command_line words ≡ []
  pub fields : HasFields (option_value words) config

-- the words say a configuration that is lawful
abbrev pub AreLawful : List Text → Type 0
AreLawful words = (config : Config) × SaysSo words config × IsLawful config

-- the words are at fault
abbrev pub IsBadConfig : Refusal → Type 0
IsBadConfig refusal = refusal ≡ BadConfig

-- the refusal is want of memory, or it is `BadConfig` and `Lawful` does not hold
abbrev pub RefusesBut : Type 0 → Refusal → Type 0
RefusesBut Lawful refusal = (refusal ≡ NoMemory) ⊎ ((refusal ≡ BadConfig) × ¬ Lawful)
