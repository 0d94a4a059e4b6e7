-- What is printed for types that do not fit.
use Rattle.std.specs.Prelude.{ℕ, ◌++◌, ◌==◌, List, [], ◌∷◌, codes, if◌then◌else◌, length}
use Rattle.snesl_data.specs.Types.{Ty, int, bool, pair, vec, seq}
use Rattle.snesl_types.specs.Clashes.{Clash, operands, operand, arguments, parameters, branches, items, condition, source, body}

-- a type as programs write it
abbrev pub type_text : Ty → List ℕ
type_text int = codes "int"
type_text bool = codes "bool"
type_text (pair first second) = codes "(" ++ type_text first ++ codes "," ++ type_text second ++ codes ")"
type_text (vec item) = codes "[" ++ type_text item ++ codes "]"
type_text (seq item) = codes "{" ++ type_text item ++ codes "}"

-- a type between quotes
abbrev pub quoted_type : Ty → List ℕ
quoted_type t = codes "`" ++ type_text t ++ codes "`"

-- further types, each after a comma
abbrev pub others : List Ty → List ℕ
others [] = []
others (t ∷ ts) = codes ", " ++ quoted_type t ++ others ts

-- types in order, with commas between them
abbrev pub listed : List Ty → List ℕ
listed [] = []
listed (t ∷ ts) = quoted_type t ++ others ts

-- what is of a type, by the word for it
abbrev pub phrase_of_type : (word : List ℕ) → Ty → List ℕ
phrase_of_type word t = codes "the " ++ word ++ codes " is of the type " ++ quoted_type t

-- what is of these types, by the word for one of them
abbrev pub of_types : (word : List ℕ) → List Ty → List ℕ
of_types word [] = codes "there is no " ++ word
of_types word (t ∷ []) = phrase_of_type word t
of_types word (t ∷ u ∷ ts) = codes "the " ++ word ++ codes "s are of the types " ++ listed (t ∷ u ∷ ts)

-- the types that stand there
abbrev pub note_of : Clash → List ℕ
note_of (operands t u) = of_types (codes "operand") (t ∷ u ∷ [])
note_of (operand t) = phrase_of_type (codes "operand") t
note_of (arguments ts) = of_types (codes "argument") ts
note_of (parameters ts wanted) = of_types (codes "argument") ts ++ codes ", and " ++ of_types (codes "parameter") wanted
note_of (branches t u v) = phrase_of_type (codes "condition") t ++ codes ", and the branches are of the types " ++ listed (u ∷ v ∷ [])
note_of (items ts) = of_types (codes "item") ts
note_of (condition t) = phrase_of_type (codes "condition") t
note_of (source t) = codes "this goes over a value of the type " ++ quoted_type t ++ codes ", which is no sequence"
note_of (body t wanted) = phrase_of_type (codes "body") t ++ codes ", and the result was declared as " ++ quoted_type wanted

-- of an `if` whose condition is of this type, what is wrong
abbrev pub branches_sentence : Ty → List ℕ
branches_sentence bool = codes "the two branches of an `if` are of one type"
branches_sentence _ = codes "the condition of an `if` is a truth value"

-- of so many arguments for so many parameters, what is wrong
abbrev pub parameters_sentence : (found wanted : ℕ) → List ℕ
parameters_sentence found wanted =
    if found == wanted then codes "an argument is of another type than its parameter" else codes "the function takes another number of arguments"

-- what is wrong, in a sentence
abbrev pub clash_sentence : Clash → List ℕ
clash_sentence (operands t u) = codes "the operator does not take values of these types"
clash_sentence (operand t) = codes "the operator does not take a value of this type"
clash_sentence (arguments ts) = codes "the built-in function does not take these arguments"
clash_sentence (parameters ts wanted) = parameters_sentence (length ts) (length wanted)
clash_sentence (branches t u v) = branches_sentence t
clash_sentence (items ts) = codes "the items of a sequence are of one type"
clash_sentence (condition t) = codes "a condition is a truth value"
clash_sentence (source t) = codes "a binder goes over a sequence"
clash_sentence (body t wanted) = codes "the body is of another type than the function declares"
