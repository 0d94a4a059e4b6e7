-- The text of a value, as a program prints it: no blanks, and single commas between items.
use Rattle.std.specs.Prelude.{ℕ, true, false, List, [], ◌++◌, ◌==◌, if◌then◌else◌, codes}
use Rattle.std.specs.Fmt.{signed_decimal}
use Rattle.snesl_data.specs.Values.{Value, an_int, a_bool, a_pair, a_vec, a_seq, Values, no_values, more_values}

abbrev mutual
  -- `-14`, `true`, `(1,2)`, `[1,2]` for a vector and `{1,2}` for a sequence
  pub text : Value → List ℕ
  text (an_int n) = signed_decimal n
  text (a_bool true) = codes "true"
  text (a_bool false) = codes "false"
  text (a_pair a b) = codes "(" ++ text a ++ codes "," ++ text b ++ codes ")"
  text (a_vec vs) = codes "[" ++ items_text vs ++ codes "]"
  text (a_seq vs) = codes "{" ++ items_text vs ++ codes "}"

  -- the items, with a comma before each but the first
  pub items_text : Values → List ℕ
  items_text no_values = []
  items_text (more_values v vs) = text v ++ further_text vs

  -- the items, with a comma before each
  pub further_text : Values → List ℕ
  further_text no_values = []
  further_text (more_values v vs) = codes "," ++ text v ++ further_text vs

-- what stands before the item at this place
abbrev pub comma_before : ℕ → List ℕ
comma_before place = if place == 0 then [] else codes ","
