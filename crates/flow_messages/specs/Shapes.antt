-- Values of a type, whatever their integers.
use Rattle.std.specs.Prelude.{◌&&◌, Bool, true, false}
use Rattle.snesl_data.specs.Types.{Ty, int, bool, pair, vec, seq}
use Rattle.snesl_data.specs.Values.{Value, Values, an_int, a_bool, a_pair, a_vec, a_seq, no_values, more_values}

-- whether the value is one of the type
abbrev mutual
  pub is_a : Ty → Value → Bool
  is_a int (an_int n) = true
  is_a bool (a_bool b) = true
  is_a (pair first second) (a_pair a b) = is_a first a && is_a second b
  is_a (vec item) (a_vec vs) = all_are item vs
  is_a (seq item) (a_seq vs) = all_are item vs
  is_a _ _ = false

  pub all_are : Ty → Values → Bool
  all_are item no_values = true
  all_are item (more_values v vs) = is_a item v && all_are item vs
