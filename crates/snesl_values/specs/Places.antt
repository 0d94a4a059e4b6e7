-- The value that the tokens from an offset on spell.
use Rattle.std.specs.Prelude.{ℕ, List, [], ◌∷◌, ◌++◌, Option, Some, None, false}
use Rattle.snesl_data.specs.Values.{Value, an_int, a_bool, a_pair, a_vec, a_seq, values_of}
use Rattle.snesl_values.specs.declared.marks.Bracket.{Bracket}
use Rattle.snesl_values.specs.declared.marks.Bracket.TheVariants.{Round, Square, Curly}
use Rattle.snesl_values.specs.declared.marks.Mark.{Mark}
use Rattle.snesl_values.specs.declared.marks.Mark.TheVariants.{Truth, Number, Open, Close, Comma}
use Rattle.snesl_values.specs.Marks.{Spot, spots}

-- what is open: a vector or a sequence with its items so far, or a pair in its first or second part
pub data OpenPart : Type 0 where
  in_items : Bracket → List Value → OpenPart
  in_first : OpenPart
  in_second : Value → OpenPart

-- what is open, the innermost first, and the value that was just read, if one was
abbrev pub Reading : Type 0
Reading = List OpenPart × Option Value

-- what stands for a value where none is spelled
abbrev pub no_value : Value
no_value = a_bool false

-- what is left where no value is spelled: nothing is open, and some value was read
abbrev pub unlawful : Reading
unlawful = ([], Some no_value)

-- the vector or the sequence of these items, by its bracket
abbrev pub bracket_value : Bracket → List Value → Value
bracket_value Square vs = a_vec (values_of vs)
bracket_value Curly vs = a_seq (values_of vs)
bracket_value Round vs = no_value

-- a bracket is closed where a value could come next
abbrev pub close_none : List OpenPart → Reading
close_none (in_items b vs ∷ frames) = (frames, Some (bracket_value b vs))
close_none _ = unlawful

-- a token where a value comes next
abbrev pub on_none : List OpenPart → Mark → Reading
on_none frames (Number n) = (frames, Some (an_int n))
on_none frames (Truth b) = (frames, Some (a_bool b))
on_none frames (Open Round) = (in_first ∷ frames, None)
on_none frames (Open Square) = (in_items Square [] ∷ frames, None)
on_none frames (Open Curly) = (in_items Curly [] ∷ frames, None)
on_none frames (Close b) = close_none frames
on_none frames mark = unlawful

-- a token after a value
abbrev pub on_some : Value → List OpenPart → Mark → Reading
on_some v [] mark = ([], Some v)
on_some v (in_items b vs ∷ frames) Comma = (in_items b (vs ++ v ∷ []) ∷ frames, None)
on_some v (in_items b vs ∷ frames) (Close c) = (frames, Some (bracket_value b (vs ++ v ∷ [])))
on_some v (in_first ∷ frames) Comma = (in_second v ∷ frames, None)
on_some v (in_second a ∷ frames) (Close c) = (frames, Some (a_pair a v))
on_some v frames mark = unlawful

-- a token after a value that was just read, or else where one comes next
abbrev pub after_token : Option Value → List OpenPart → Mark → Reading
after_token None frames mark = on_none frames mark
after_token (Some v) frames mark = on_some v frames mark

-- the value at the end of the tokens
abbrev pub read_value : List OpenPart → Option Value → Value
read_value [] (Some v) = v
read_value _ _ = no_value

-- the value that these tokens spell after what was read so far
abbrev pub spelled : List OpenPart → Option Value → List Spot → Value
spelled frames value [] = read_value frames value
spelled frames value (spot ∷ rest) = (let r = after_token value frames spot.0 in spelled r.0 r.1 rest)

-- the value that is read from an offset on
unfoldable pub value_at : List ℕ → ℕ → Value
value_at text at = spelled [] None (spots text at)
