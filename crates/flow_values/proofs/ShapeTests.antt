-- The test of a value's shape is right.
use Rattle.std.proofs.Common.{◌≡◌, Bool, true, ◌&&◌, refl, ap, ◌∙◌}
use Rattle.std.proofs.lemmas.Bool.{and_parts}
use Rattle.snesl_data.specs.Types.{Ty, int, bool, pair, vec, seq}
use Rattle.snesl_data.specs.Values.{Value, Values, an_int, a_bool, a_pair, a_vec, a_seq, no_values, more_values, HasShape, AreOf}
use Rattle.flow_values.specs.Shapes.{is_a, all_are, ShapesAreTested}

both_true : (a b : Bool) → a ≡ true → b ≡ true → a && b ≡ true
both_true a b h k = ap (λ x. x && b) h ∙ k

mutual
  has_shape : (t : Ty) (v : Value) → is_a t v ≡ true → HasShape v t
  has_shape int (an_int n) h = tt
  has_shape bool (a_bool b) h = tt
  has_shape (pair first second) (a_pair a b) h =
      let parts = and_parts (is_a first a) (is_a second b) h in (has_shape first a parts.0, has_shape second b parts.1)
  has_shape (vec item) (a_vec vs) h = have_shape item vs h
  has_shape (seq item) (a_seq vs) h = have_shape item vs h
  has_shape _ _ h = absurd (cc)

  have_shape : (item : Ty) (vs : Values) → all_are item vs ≡ true → AreOf (λ _. Unit {0}) vs item
  have_shape item no_values h = tt
  have_shape item (more_values v vs) h =
      let parts = and_parts (is_a item v) (all_are item vs) h in (has_shape item v parts.0, have_shape item vs parts.1)

mutual
  is_tested : (t : Ty) (v : Value) → HasShape v t → is_a t v ≡ true
  is_tested int (an_int n) h = refl
  is_tested bool (a_bool b) h = refl
  is_tested (pair first second) (a_pair a b) h = both_true (is_a first a) (is_a second b) (is_tested first a h.0) (is_tested second b h.1)
  is_tested (vec item) (a_vec vs) h = are_tested item vs h
  is_tested (seq item) (a_seq vs) h = are_tested item vs h
  is_tested _ _ h = absurd h

  are_tested : (item : Ty) (vs : Values) → AreOf (λ _. Unit {0}) vs item → all_are item vs ≡ true
  are_tested item no_values h = refl
  are_tested item (more_values v vs) h = both_true (is_a item v) (all_are item vs) (is_tested item v h.0) (are_tested item vs h.1)

pub shapes_are_tested : ShapesAreTested
shapes_are_tested t v = (has_shape t v, is_tested t v)
