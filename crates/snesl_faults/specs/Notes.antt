-- What is said of the values of the parts of a form at fault.
use Rattle.std.specs.Prelude.{ℕ, ◌++◌, ◌==◌, if◌then◌else◌, List, [], ◌∷◌, Option, Some, None, codes, decimal, length, map, option_map}
use Rattle.snesl_data.specs.declared.fault.FaultKind.{FaultKind}
use Rattle.snesl_data.specs.declared.fault.FaultKind.TheVariants.{Divide, Overflow, NegativeCount, Length, Part, The, Index}
use Rattle.snesl_data.specs.Text.{text}
use Rattle.snesl_data.specs.declared.datum.Datum.{Datum}
use Rattle.snesl_data.specs.Values.{Value, a_vec, a_seq, list_of, value_of}

-- `1 element`, `2 elements`
abbrev pub elements_text : ℕ → List ℕ
elements_text n = decimal n ++ (if n == 1 then codes " element" else codes " elements")

-- a number or a truth value itself; of a vector or a sequence how many elements it has
abbrev pub value_text : Value → List ℕ
value_text (a_vec vs) = elements_text (length (list_of vs))
value_text (a_seq vs) = elements_text (length (list_of vs))
value_text v = text v

-- values after each of which but the last stand these bytes
abbrev pub values_text : List ℕ → List Value → List ℕ
values_text between [] = []
values_text between (v ∷ []) = value_text v
values_text between (v ∷ vs) = value_text v ++ between ++ values_text between vs

-- what stands before the values, and between them; of some kinds, and of some numbers of values, nothing is said
abbrev pub words_of : FaultKind → List Value → Option (List ℕ × List ℕ)
words_of Divide (v ∷ w ∷ []) = Some (codes "the operands are ", codes " and ")
words_of Overflow (v ∷ w ∷ []) = Some (codes "the operands are ", codes " and ")
words_of Overflow (a_seq vs ∷ []) = Some (codes "the sequence has ", [])
words_of Overflow (v ∷ []) = Some (codes "the operand is ", [])
words_of NegativeCount (v ∷ []) = Some (codes "the argument is ", [])
words_of Length (v ∷ w ∷ vs) = Some (codes "the sequences have ", codes " and ")
words_of Part (v ∷ w ∷ []) = Some (codes "the sequence has ", codes " and the flags have ")
words_of The (v ∷ []) = Some (codes "the sequence has ", [])
words_of Index (v ∷ w ∷ []) = Some (codes "the vector has ", codes " and the index is ")
words_of _ _ = None

-- what is said of a fault of this kind at a form whose parts have these values
abbrev pub note : FaultKind → List Value → Option (List ℕ)
note kind values = option_map (λ words. words.0 ++ values_text words.1 values) (words_of kind values)

-- data in such words
abbrev pub data_text : List ℕ → List Datum → List ℕ
data_text between all = values_text between (map value_of all)

-- the words before data, and between them
abbrev pub data_words : FaultKind → List Datum → Option (List ℕ × List ℕ)
data_words kind all = words_of kind (map value_of all)

-- what is said of a fault at a form whose parts have the values of these data
abbrev pub data_note : FaultKind → List Datum → Option (List ℕ)
data_note kind all = note kind (map value_of all)
