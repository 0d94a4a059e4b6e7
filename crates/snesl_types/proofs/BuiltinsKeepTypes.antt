-- Operators and built-in functions keep types.
use Rattle.std.proofs.Common.{◌≡◌, ◌≢◌, ℕ, suc, zero, ◌+◌, ◌≤◌, Bool, true, false, List, [], ◌∷◌, ◌++◌, map, length, Option, Some, None, Result, Ok}
use Rattle.std.proofs.Common.{Err, ℤ, pos, negsuc, ◌+ℤ◌, ◌-ℤ◌, ◌*ℤ◌, refl, sym, subst, arith}
use Rattle.std.specs.Prelude.{neg_ℤ, int_div, int_lt, slice_get, if◌then◌else◌}
use Rattle.std.specs.List.{range_with_len}
use Rattle.std.proofs.lemmas.Bool.{leb-true, le-leb}
use Rattle.snesl_data.specs.declared.dialect.Dialect.{Dialect}
use Rattle.snesl_data.specs.declared.fault.FaultKind.{FaultKind}
use Rattle.snesl_data.specs.declared.fault.FaultKind.TheVariants.{Overflow, Index as IndexFault, Shape}
use Rattle.snesl_data.specs.Integers.{IsInteger, is_integer, greatest_integer}
use Rattle.snesl_data.specs.Types.{Ty, int, bool, pair, vec, seq, is_concrete, is_same}
use Rattle.snesl_data.specs.Values.{Value, an_int, a_bool, a_pair, a_vec, a_seq, Values, no_values, more_values, list_of, values_of, HasType, AllHaveType}
use Rattle.snesl_data.specs.declared.operators.scalar.Scalar.{Scalar}
use Rattle.snesl_data.specs.declared.operators.scalar.Scalar.TheVariants.{Int, Bool as Truth}
use Rattle.snesl_data.specs.declared.operators.operator.Reduction.{Reduction}
use Rattle.snesl_data.specs.declared.operators.operator.Reduction.TheVariants.{Sum, Max, All, Any}
use Rattle.snesl_data.specs.operators.Operators.{ranged, quotient, remainder, an_integer}
use Rattle.snesl_data.specs.operators.Reductions.{reduction_of, reduction_from, reduced_more, reduced_all, reduced_nothing, and_then, some_of, scan_of, scan_from}
use Rattle.snesl_data.proofs.OfOperators.OperatorLaws.{rem_integer}
use Rattle.snesl_data.proofs.OfOperators.ReductionLaws.{nothing_range}
use Rattle.snesl_grammar.specs.declared.tree.operator.Builtin.{Builtin}
use Rattle.snesl_grammar.specs.declared.tree.operator.Builtin.TheVariants.{Iota, ScanAdd, ReduceAdd, ReduceMax, ReduceAnd, ReduceOr, Length, Concat, Part, The, Tab, Seq, Fst, Snd}
use Rattle.snesl_grammar.specs.declared.tree.operator.Operator.{Operator}
use Rattle.snesl_grammar.specs.declared.tree.operator.Operator.TheVariants.{Or, And, Equal, Less, AtMost, Greater, AtLeast, Append, Add, Subtract, Multiply, Divide as Over, Remainder, Index}
use Rattle.snesl_grammar.specs.declared.tree.operator.Prefix.{Prefix}
use Rattle.snesl_grammar.specs.declared.tree.operator.Prefix.TheVariants.{Negate, Not}
use Rattle.snesl_evaluation.specs.Answer.{Answer, gives, faults, go, go_all, go_join, or_fault, answer_at}
use Rattle.snesl_evaluation.specs.Builtins.{int_at, truth_at, scalar_at, items_at, elements_at, each_at, sequence, seq_answer, scalar_answer}
use Rattle.snesl_evaluation.specs.Builtins.{item_answer, append_answer, prefix_answer, binary_answer, numbers_below, iota_answer, reduce_answer}
use Rattle.snesl_evaluation.specs.Builtins.{scan_answer, into_first, parts_answer, part_answer, the_answer, applied}
use Rattle.snesl_data.proofs.SameTypes.{same_eq}
use Rattle.snesl_types.specs.Forms.{operator_result, prefix_result, result_of}
use Rattle.snesl_types.specs.Soundness.{HaveTypes, Safe}

-- where the table of types has nothing, nothing is left to show
no_result : {A P : Type 0} {x : A} → None ≡ Some x → P
no_result e = cc

pub go_safe : {A B : Type 0} (P : A → Type 0) (Q : B → Type 0) (answer : Answer A) (next : A → Answer B)
    → Safe P answer → ((x : A) → P x → Safe Q (next x)) → Safe Q (go answer next)
go_safe P Q (gives x) next h k = k x h
go_safe P Q (faults kind at) next h k = h

-- the results at all items, where each is safe
pub all_safe : {A B : Type 0} (Each : List A → Type 0) (P : A → Type 0) (Q : B → Type 0) (All' : List B → Type 0)
    → ((x : A) (xs : List A) → Each (x ∷ xs) → P x × Each xs)
    → All' [] → ((y : B) (ys : List B) → Q y → All' ys → All' (y ∷ ys))
    → (f : A → Answer B) → ((x : A) → P x → Safe Q (f x)) → (xs : List A) → Each xs → Safe All' (go_all f xs)
all_safe Each P Q All' split none more f k [] h = none
all_safe Each P Q All' split none more f k (x ∷ xs) h =
    go_safe Q All' (f x) (λ y. go (go_all f xs) (λ ys. gives (y ∷ ys))) (k x (split x xs h).0) (λ y hy.
    go_safe All' All' (go_all f xs) (λ ys. gives (y ∷ ys)) (all_safe Each P Q All' split none more f k xs (split x xs h).1) (λ ys hys. more y ys hy hys))

-- a result that meets the condition, or a kind of fault other than Shape
abbrev Sure : {A : Type 0} → (A → Type 0) → Result A FaultKind → Type 0
Sure Meets (Ok x) = Meets x
Sure Meets (Err kind) = kind ≢ Shape

then_sure : {A B : Type 0} (P : A → Type 0) (Q : B → Type 0) (r : Result A FaultKind) (next : A → Result B FaultKind)
    → Sure P r → ((x : A) → P x → Sure Q (next x)) → Sure Q (and_then r next)
then_sure P Q (Ok x) next h k = k x h
then_sure P Q (Err kind) next h k = h

answer_at_safe : {A : Type 0} (P : A → Type 0) (at : ℕ) (r : Result A FaultKind) → Sure P r → Safe P (answer_at at r)
answer_at_safe P at (Ok x) h = h
answer_at_safe P at (Err kind) h = h

module _ (dialect : Dialect) where
  -- each value is of the type
  abbrev pub AllOf : List Value → Ty → Type 0
  AllOf [] t = Unit {0}
  AllOf (v ∷ vs) t = HasType dialect v t × AllOf vs t

  pub listed : (vs : Values) (t : Ty) → AllHaveType dialect vs t → AllOf (list_of vs) t
  listed no_values t h = tt
  listed (more_values v vs) t h = (h.0, listed vs t h.1)

  pub unlisted : (vs : List Value) (t : Ty) → AllOf vs t → AllHaveType dialect (values_of vs) t
  unlisted [] t h = tt
  unlisted (v ∷ vs) t h = (h.0, unlisted vs t h.1)

  pub joined_of : (vs ws : List Value) (t : Ty) → AllOf vs t → AllOf ws t → AllOf (vs ++ ws) t
  joined_of [] ws t h k = k
  joined_of (v ∷ vs) ws t h k = (h.0, joined_of vs ws t h.1 k)

  -- what a value of a type is
  int_is : (P : Value → Type 0) (v : Value) → HasType dialect v int → ((n : ℤ) → IsInteger dialect n → P (an_int n)) → P v
  int_is P (an_int n) h k = k n h
  int_is P (a_bool b) h k = absurd h
  int_is P (a_pair a b) h k = absurd h
  int_is P (a_vec vs) h k = absurd h
  int_is P (a_seq vs) h k = absurd h

  bool_is : (P : Value → Type 0) (v : Value) → HasType dialect v bool → ((b : Bool) → P (a_bool b)) → P v
  bool_is P (a_bool b) h k = k b
  bool_is P (an_int n) h k = absurd h
  bool_is P (a_pair a b) h k = absurd h
  bool_is P (a_vec vs) h k = absurd h
  bool_is P (a_seq vs) h k = absurd h

  ints : (P : Value → Value → Type 0) (v w : Value) → HasType dialect v int → HasType dialect w int
      → ((m n : ℤ) → IsInteger dialect m → IsInteger dialect n → P (an_int m) (an_int n)) → P v w
  ints P v w hv hw k = int_is (λ x. P x w) v hv (λ m hm. int_is (P (an_int m)) w hw (λ n hn. k m n hm hn))

  bools : (P : Value → Value → Type 0) (v w : Value) → HasType dialect v bool → HasType dialect w bool
      → ((a b : Bool) → P (a_bool a) (a_bool b)) → P v w
  bools P v w hv hw k = bool_is (λ x. P x w) v hv (λ a. bool_is (P (a_bool a)) w hw (λ b. k a b))

  pub truth_safe : (at : ℕ) (v : Value) → HasType dialect v bool → Safe (λ b. Unit {0}) (truth_at at v)
  truth_safe at v h = bool_is (λ x. Safe (λ b. Unit {0}) (truth_at at x)) v h (λ b. tt)

  int_safe : (at : ℕ) (v : Value) → HasType dialect v int → Safe (IsInteger dialect) (int_at at v)
  int_safe at v h = int_is (λ x. Safe (IsInteger dialect) (int_at at x)) v h (λ n hn. hn)

  pub items_safe : (at : ℕ) (v : Value) (t : Ty) → HasType dialect v (seq t) → Safe (λ vs. AllOf vs t) (items_at at v)
  items_safe at (a_seq vs) t h = listed vs t h
  items_safe at (an_int n) t h = absurd h
  items_safe at (a_bool b) t h = absurd h
  items_safe at (a_pair a b) t h = absurd h
  items_safe at (a_vec vs) t h = absurd h

  elements_safe : (at : ℕ) (v : Value) (t : Ty) → HasType dialect v (vec t) → Safe (λ vs. AllOf vs t) (elements_at at v)
  elements_safe at (a_vec vs) t h = listed vs t h
  elements_safe at (an_int n) t h = absurd h
  elements_safe at (a_bool b) t h = absurd h
  elements_safe at (a_pair a b) t h = absurd h
  elements_safe at (a_seq vs) t h = absurd h

  pub seq_answer_safe : (answer : Answer (List Value)) (t : Ty) → Safe (λ vs. AllOf vs t) answer → Safe (λ v. HasType dialect v (seq t)) (seq_answer answer)
  seq_answer_safe (gives vs) t h = unlisted vs t h
  seq_answer_safe (faults kind at) t h = h

  -- an integer in range, or a fault other than Shape
  abbrev Proper : Result ℤ FaultKind → Type 0
  Proper (Ok n) = IsInteger dialect n
  Proper (Err kind) = kind ≢ Shape

  ranged_proper : (n : ℤ) → Proper (ranged dialect n)
  ranged_proper n = by_test (is_integer dialect n) refl
    where
      by_test : (b : Bool) → is_integer dialect n ≡ b → Proper (if b then Ok n else Err Overflow)
      by_test true e = e
      by_test false e = λ f. cc

  quotient_proper : (m n : ℤ) → Proper (quotient dialect m n)
  quotient_proper m (pos zero) = λ e. cc
  quotient_proper m (pos (suc n)) = ranged_proper (int_div m (pos (suc n)))
  quotient_proper m (negsuc n) = ranged_proper (int_div m (negsuc n))

  remainder_proper : (m n : ℤ) → IsInteger dialect m → Proper (remainder m n)
  remainder_proper m (pos zero) h = λ e. cc
  remainder_proper m (pos (suc n)) h = rem_integer dialect m (pos (suc n)) h
  remainder_proper m (negsuc n) h = rem_integer dialect m (negsuc n) h

  integer_safe : (at : ℕ) (r : Result ℤ FaultKind) → Proper r → Safe (λ v. HasType dialect v int) (scalar_answer at (an_integer r))
  integer_safe at (Ok n) h = h
  integer_safe at (Err kind) h = h

  append_safe : (at : ℕ) (v w : Value) (t : Ty) → HasType dialect v (seq t) → HasType dialect w (seq t) → Safe (λ x. HasType dialect x (seq t)) (append_answer at v w)
  append_safe at v w t hv hw =
      go_safe (λ vs. AllOf vs t) (λ x. HasType dialect x (seq t)) (items_at at v) (λ vs. go (items_at at w) (λ ws. gives (sequence (vs ++ ws)))) (items_safe at v t hv) (λ vs hvs.
      go_safe (λ ws. AllOf ws t) (λ x. HasType dialect x (seq t)) (items_at at w) (λ ws. gives (sequence (vs ++ ws))) (items_safe at w t hw) (λ ws hws.
      unlisted (vs ++ ws) t (joined_of vs ws t hvs hws)))

  item_at_safe : (at : ℕ) (vs : List Value) (i : ℕ) (t : Ty) → AllOf vs t → Safe (λ x. HasType dialect x t) (or_fault IndexFault at (slice_get vs i))
  item_at_safe at [] i t h = λ e. cc
  item_at_safe at (v ∷ vs) zero t h = h.0
  item_at_safe at (v ∷ vs) (suc i) t h = item_at_safe at vs i t h.1

  item_safe : (at : ℕ) (vs : List Value) (i : ℤ) (t : Ty) → AllOf vs t → Safe (λ x. HasType dialect x t) (item_answer at vs i)
  item_safe at vs (pos i) t h = item_at_safe at vs i t h
  item_safe at vs (negsuc i) t h = λ e. cc

  index_safe : (at : ℕ) (v w : Value) (t : Ty) → HasType dialect v (vec t) → HasType dialect w int → Safe (λ x. HasType dialect x t) (binary_answer dialect at Index v w)
  index_safe at v w t hv hw =
      go_safe (λ vs. AllOf vs t) (λ x. HasType dialect x t) (elements_at at v) (λ vs. go (int_at at w) (item_answer at vs)) (elements_safe at v t hv) (λ vs hvs.
      go_safe (IsInteger dialect) (λ x. HasType dialect x t) (int_at at w) (item_answer at vs) (int_safe at w hw) (λ i hi.
      item_safe at vs i t hvs))

  -- where the table has a result for these types, the operator gives a value of that type
  pub binary_safe : (at : ℕ) (operator : Operator) (t u r : Ty) (v w : Value) → operator_result operator t u ≡ Some r → HasType dialect v t → HasType dialect w u
      → Safe (λ x. HasType dialect x r) (binary_answer dialect at operator v w)
  binary_safe at Or bool bool r v w e hv hw =
      rw (let same : bool ≡ r = cc in sym same) (bools (λ v w. Safe (λ x. HasType dialect x bool) (binary_answer dialect at Or v w)) v w hv hw (λ a b. tt))
  binary_safe at And bool bool r v w e hv hw =
      rw (let same : bool ≡ r = cc in sym same) (bools (λ v w. Safe (λ x. HasType dialect x bool) (binary_answer dialect at And v w)) v w hv hw (λ a b. tt))
  binary_safe at Equal int int r v w e hv hw =
      rw (let same : bool ≡ r = cc in sym same) (ints (λ v w. Safe (λ x. HasType dialect x bool) (binary_answer dialect at Equal v w)) v w hv hw (λ m n hm hn. tt))
  binary_safe at Equal bool bool r v w e hv hw =
      rw (let same : bool ≡ r = cc in sym same) (bools (λ v w. Safe (λ x. HasType dialect x bool) (binary_answer dialect at Equal v w)) v w hv hw (λ a b. tt))
  binary_safe at Less int int r v w e hv hw =
      rw (let same : bool ≡ r = cc in sym same) (ints (λ v w. Safe (λ x. HasType dialect x bool) (binary_answer dialect at Less v w)) v w hv hw (λ m n hm hn. tt))
  binary_safe at AtMost int int r v w e hv hw =
      rw (let same : bool ≡ r = cc in sym same) (ints (λ v w. Safe (λ x. HasType dialect x bool) (binary_answer dialect at AtMost v w)) v w hv hw (λ m n hm hn. tt))
  binary_safe at Greater int int r v w e hv hw =
      rw (let same : bool ≡ r = cc in sym same) (ints (λ v w. Safe (λ x. HasType dialect x bool) (binary_answer dialect at Greater v w)) v w hv hw (λ m n hm hn. tt))
  binary_safe at AtLeast int int r v w e hv hw =
      rw (let same : bool ≡ r = cc in sym same) (ints (λ v w. Safe (λ x. HasType dialect x bool) (binary_answer dialect at AtLeast v w)) v w hv hw (λ m n hm hn. tt))
  binary_safe at Append (seq t) (seq u) r v w e hv hw = by_test (is_same t u) refl e
    where
      by_test : (b : Bool) → is_same t u ≡ b → (if b then Some (seq t) else None) ≡ Some r → Safe (λ x. HasType dialect x r) (append_answer at v w)
      by_test true same e' =
          let result : seq t ≡ r = cc in
          let item : u ≡ t = sym (same_eq t u same) in
          subst (λ s. Safe (λ x. HasType dialect x s) (append_answer at v w)) result (append_safe at v w t hv (subst (λ s. HasType dialect w (seq s)) item hw))
      by_test false same e' = cc
  binary_safe at Add int int r v w e hv hw =
      rw (let same : int ≡ r = cc in sym same)
      (ints (λ v w. Safe (λ x. HasType dialect x int) (binary_answer dialect at Add v w)) v w hv hw
      (λ m n hm hn. integer_safe at (ranged dialect (m +ℤ n)) (ranged_proper (m +ℤ n))))
  binary_safe at Subtract int int r v w e hv hw =
      rw (let same : int ≡ r = cc in sym same)
      (ints (λ v w. Safe (λ x. HasType dialect x int) (binary_answer dialect at Subtract v w)) v w hv hw
      (λ m n hm hn. integer_safe at (ranged dialect (m -ℤ n)) (ranged_proper (m -ℤ n))))
  binary_safe at Multiply int int r v w e hv hw =
      rw (let same : int ≡ r = cc in sym same)
      (ints (λ v w. Safe (λ x. HasType dialect x int) (binary_answer dialect at Multiply v w)) v w hv hw
      (λ m n hm hn. integer_safe at (ranged dialect (m *ℤ n)) (ranged_proper (m *ℤ n))))
  binary_safe at Over int int r v w e hv hw =
      rw (let same : int ≡ r = cc in sym same)
      (ints (λ v w. Safe (λ x. HasType dialect x int) (binary_answer dialect at Over v w)) v w hv hw
      (λ m n hm hn. integer_safe at (quotient dialect m n) (quotient_proper m n)))
  binary_safe at Remainder int int r v w e hv hw =
      rw (let same : int ≡ r = cc in sym same)
      (ints (λ v w. Safe (λ x. HasType dialect x int) (binary_answer dialect at Remainder v w)) v w hv hw
      (λ m n hm hn. integer_safe at (remainder m n) (remainder_proper m n hm)))
  binary_safe at Index (vec t) int r v w e hv hw =
      let same : t ≡ r = cc in
      subst (λ s. Safe (λ x. HasType dialect x s) (binary_answer dialect at Index v w)) same (index_safe at v w t hv hw)
  binary_safe at _ _ _ r v w e hv hw = no_result e

  pub prefix_safe : (at : ℕ) (operator : Prefix) (t r : Ty) (v : Value) → prefix_result operator t ≡ Some r → HasType dialect v t
      → Safe (λ x. HasType dialect x r) (prefix_answer dialect at operator v)
  prefix_safe at Negate int r v e hv =
      rw (let same : int ≡ r = cc in sym same)
      (int_is (λ v. Safe (λ x. HasType dialect x int) (prefix_answer dialect at Negate v)) v hv
      (λ n hn. integer_safe at (ranged dialect (neg_ℤ n)) (ranged_proper (neg_ℤ n))))
  prefix_safe at Not bool r v e hv =
      rw (let same : bool ≡ r = cc in sym same) (bool_is (λ v. Safe (λ x. HasType dialect x bool) (prefix_answer dialect at Not v)) v hv (λ b. tt))
  prefix_safe at _ _ r v e hv = no_result e

  -- integers in range, all of them
  abbrev AllIntegers : List ℤ → Type 0
  AllIntegers [] = Unit {0}
  AllIntegers (n ∷ ns) = IsInteger dialect n × AllIntegers ns

  integers_listed : (ns : List ℤ) → AllIntegers ns → AllOf (map an_int ns) int
  integers_listed [] h = tt
  integers_listed (n ∷ ns) h = (h.0, integers_listed ns h.1)

  each_int_safe : (at : ℕ) (v : Value) → HasType dialect v (seq int) → Safe AllIntegers (each_at int_at at v)
  each_int_safe at v h =
      go_safe (λ vs. AllOf vs int) AllIntegers (items_at at v) (go_all (int_at at)) (items_safe at v int h) (λ vs hvs.
      all_safe (λ vs. AllOf vs int) (λ x. HasType dialect x int) (IsInteger dialect) AllIntegers (λ x xs hx. hx) tt (λ y ys hy hys. (hy, hys)) (int_at at) (int_safe at) vs hvs)

  -- a scalar of a type: an integer in range, or a truth value
  abbrev ScalarOf : Ty → Scalar → Type 0
  ScalarOf int (Int n) = IsInteger dialect n
  ScalarOf bool (Truth b) = Unit {0}
  ScalarOf _ _ = ⊥

  abbrev AllScalars : Ty → List Scalar → Type 0
  AllScalars t [] = Unit {0}
  AllScalars t (x ∷ xs) = ScalarOf t x × AllScalars t xs

  int_scalar_safe : (at : ℕ) (v : Value) → HasType dialect v int → Safe (ScalarOf int) (scalar_at at v)
  int_scalar_safe at v h = int_is (λ x. Safe (ScalarOf int) (scalar_at at x)) v h (λ n hn. hn)

  bool_scalar_safe : (at : ℕ) (v : Value) → HasType dialect v bool → Safe (ScalarOf bool) (scalar_at at v)
  bool_scalar_safe at v h = bool_is (λ x. Safe (ScalarOf bool) (scalar_at at x)) v h (λ b. tt)

  each_scalar_safe : (at : ℕ) (t : Ty) (v : Value) → ((x : Value) → HasType dialect x t → Safe (ScalarOf t) (scalar_at at x)) → HasType dialect v (seq t) → Safe (AllScalars t) (each_at scalar_at at v)
  each_scalar_safe at t v k h =
      go_safe (λ vs. AllOf vs t) (AllScalars t) (items_at at v) (go_all (scalar_at at)) (items_safe at v t h) (λ vs hvs.
      all_safe (λ vs. AllOf vs t) (λ x. HasType dialect x t) (ScalarOf t) (AllScalars t) (λ x xs hx. hx) tt (λ y ys hy hys. (hy, hys)) (scalar_at at) k vs hvs)

  -- what a reduction has so far, of elements of this type
  abbrev IsSoFar : Reduction → Ty → Option Scalar → Type 0
  IsSoFar Sum int (Some (Int n)) = IsInteger dialect n
  IsSoFar Max int None = Unit {0}
  IsSoFar Max int (Some (Int n)) = IsInteger dialect n
  IsSoFar All bool (Some (Truth b)) = Unit {0}
  IsSoFar Any bool (Some (Truth b)) = Unit {0}
  IsSoFar _ _ _ = ⊥

  sum_sure : (r : Result ℤ FaultKind) → Proper r → Sure (IsSoFar Sum int) (some_of (an_integer r))
  sum_sure (Ok n) h = h
  sum_sure (Err kind) h = h

  greater_integer : (b : Bool) (m n : ℤ) → IsInteger dialect m → IsInteger dialect n → IsInteger dialect (if b then n else m)
  greater_integer true m n hm hn = hn
  greater_integer false m n hm hn = hm

  more_sure : (r : Reduction) (t : Ty) (so_far : Option Scalar) (x : Scalar) → IsSoFar r t so_far → ScalarOf t x → Sure (IsSoFar r t) (reduced_more dialect r so_far x)
  more_sure Sum int (Some (Int m)) (Int n) h hx = sum_sure (ranged dialect (m +ℤ n)) (ranged_proper (m +ℤ n))
  more_sure Max int None (Int n) h hx = hx
  more_sure Max int (Some (Int m)) (Int n) h hx = greater_integer (int_lt m n) m n h hx
  more_sure All bool (Some (Truth a)) (Truth b) h hx = tt
  more_sure Any bool (Some (Truth a)) (Truth b) h hx = tt
  more_sure Sum int (Some (Int m)) (Truth b) h hx = absurd hx
  more_sure Max int None (Truth b) h hx = absurd hx
  more_sure Max int (Some (Int m)) (Truth b) h hx = absurd hx
  more_sure All bool (Some (Truth a)) (Int n) h hx = absurd hx
  more_sure Any bool (Some (Truth a)) (Int n) h hx = absurd hx
  more_sure _ _ _ _ h hx = absurd h

  all_sure : (r : Reduction) (t : Ty) (so_far : Option Scalar) → IsSoFar r t so_far → Sure (ScalarOf t) (reduced_all so_far)
  all_sure Sum int (Some (Int m)) h = h
  all_sure Max int None h = λ e. cc
  all_sure Max int (Some (Int m)) h = h
  all_sure All bool (Some (Truth a)) h = tt
  all_sure Any bool (Some (Truth a)) h = tt
  all_sure _ _ _ h = absurd h

  reduced_sure : (r : Reduction) (t : Ty) (xs : List Scalar) (so_far : Option Scalar) → IsSoFar r t so_far → AllScalars t xs → Sure (ScalarOf t) (reduction_from dialect r so_far xs)
  reduced_sure r t [] so_far h hs = all_sure r t so_far h
  reduced_sure r t (x ∷ xs) so_far h hs =
      then_sure (IsSoFar r t) (ScalarOf t) (reduced_more dialect r so_far x) (λ more. reduction_from dialect r more xs) (more_sure r t so_far x h hs.0) (λ more hm.
      reduced_sure r t xs more hm hs.1)

  scalar_typed : (at : ℕ) (t : Ty) (r : Result Scalar FaultKind) → Sure (ScalarOf t) r → Safe (λ v. HasType dialect v t) (scalar_answer at r)
  scalar_typed at int (Ok (Int n)) h = h
  scalar_typed at bool (Ok (Truth b)) h = tt
  scalar_typed at t (Err kind) h = h
  scalar_typed at _ (Ok x) h = absurd h

  reduce_safe : (at : ℕ) (r : Reduction) (t : Ty) (v : Value) → ((x : Value) → HasType dialect x t → Safe (ScalarOf t) (scalar_at at x)) → IsSoFar r t (reduced_nothing r) → HasType dialect v (seq t)
      → Safe (λ x. HasType dialect x t) (reduce_answer dialect at r v)
  reduce_safe at r t v k h hv =
      go_safe (AllScalars t) (λ x. HasType dialect x t) (each_at scalar_at at v) (λ xs. scalar_answer at (reduction_of dialect r xs)) (each_scalar_safe at t v k hv) (λ xs hxs.
      scalar_typed at t (reduction_of dialect r xs) (reduced_sure r t xs (reduced_nothing r) h hxs))

  ranged_sure : (n : ℤ) → Sure (IsInteger dialect) (ranged dialect n)
  ranged_sure n = by_test (is_integer dialect n) refl
    where
      by_test : (b : Bool) → is_integer dialect n ≡ b → Sure (IsInteger dialect) (if b then Ok n else Err Overflow)
      by_test true e = e
      by_test false e = λ f. cc

  scanned_sure : (ns : List ℤ) (so_far : ℤ) → IsInteger dialect so_far → Sure AllIntegers (scan_from dialect so_far ns)
  scanned_sure [] so_far h = tt
  scanned_sure (n ∷ []) so_far h = (h, tt)
  scanned_sure (n ∷ m ∷ ns) so_far h =
      then_sure (IsInteger dialect) AllIntegers (ranged dialect (so_far +ℤ n)) (λ sum. and_then (scan_from dialect sum (m ∷ ns)) (λ sums. Ok (so_far ∷ sums))) (ranged_sure (so_far +ℤ n)) (λ sum hsum.
      then_sure AllIntegers AllIntegers (scan_from dialect sum (m ∷ ns)) (λ sums. Ok (so_far ∷ sums)) (scanned_sure (m ∷ ns) sum hsum) (λ sums hsums. (h, hsums)))

  scan_safe : (at : ℕ) (v : Value) → HasType dialect v (seq int) → Safe (λ x. HasType dialect x (seq int)) (scan_answer dialect at v)
  scan_safe at v hv =
      go_safe AllIntegers (λ x. HasType dialect x (seq int)) (each_at int_at at v)
      (λ ns. go (answer_at at (scan_of dialect ns)) (λ sums. gives (sequence (map an_int sums)))) (each_int_safe at v hv) (λ ns hns.
      go_safe AllIntegers (λ x. HasType dialect x (seq int)) (answer_at at (scan_of dialect ns)) (λ sums. gives (sequence (map an_int sums)))
      (answer_at_safe AllIntegers at (scan_of dialect ns) (scanned_sure ns (pos 0) (nothing_range dialect Sum))) (λ sums hsums.
      unlisted (map an_int sums) int (integers_listed sums hsums)))

  less_fits : (m n : ℕ) → m ≤ n → IsInteger dialect (pos n) → IsInteger dialect (pos m)
  less_fits m n less h = let k : n ≤ greatest_integer dialect = leb-true n (greatest_integer dialect) h in le-leb m (greatest_integer dialect) (omega arith)

  below_safe : (count from n : ℕ) → from + count ≤ n → IsInteger dialect (pos n) → AllOf (map (λ i. an_int (pos i)) (range_with_len from count)) int
  below_safe zero from n h k = tt
  below_safe (suc count) from n h k = (less_fits from n (omega arith) k, below_safe count (from + 1) n (omega arith) k)

  iota_safe : (at : ℕ) (n : ℤ) → IsInteger dialect n → Safe (λ v. HasType dialect v (seq int)) (iota_answer at n)
  iota_safe at (pos n) h = unlisted (numbers_below n) int (below_safe n 0 n (omega arith) h)
  iota_safe at (negsuc n) h = λ e. cc

  concat_safe : (at : ℕ) (vs : List Value) (t : Ty) → AllOf vs (seq t) → Safe (λ ws. AllOf ws t) (go_join (items_at at) vs)
  concat_safe at [] t h = tt
  concat_safe at (v ∷ vs) t h =
      go_safe (λ ws. AllOf ws t) (λ ws. AllOf ws t) (items_at at v) (λ ys. go (go_join (items_at at) vs) (λ zs. gives (ys ++ zs))) (items_safe at v t h.0) (λ ys hys.
      go_safe (λ ws. AllOf ws t) (λ ws. AllOf ws t) (go_join (items_at at) vs) (λ zs. gives (ys ++ zs)) (concat_safe at vs t h.1) (λ zs hzs. joined_of ys zs t hys hzs))

  -- each part's items are of the type
  abbrev PartsOf : List (List Value) → Ty → Type 0
  PartsOf [] t = Unit {0}
  PartsOf (part ∷ parts) t = AllOf part t × PartsOf parts t

  into_first_safe : (at : ℕ) (v : Value) (t : Ty) (parts : List (List Value)) → HasType dialect v t → PartsOf parts t → Safe (λ parts. PartsOf parts t) (into_first at v parts)
  into_first_safe at v t [] hv h = λ e. cc
  into_first_safe at v t (part ∷ parts) hv h = ((hv, h.0), h.1)

  parts_safe : (at : ℕ) (vs : List Value) (flags : List Bool) (t : Ty) → AllOf vs t → Safe (λ parts. PartsOf parts t) (parts_answer at vs flags)
  parts_safe at [] [] t h = tt
  parts_safe at [] (true ∷ flags) t h =
      go_safe (λ parts. PartsOf parts t) (λ parts. PartsOf parts t) (parts_answer at [] flags) (λ parts. gives ([] ∷ parts)) (parts_safe at [] flags t h) (λ parts hp. (tt, hp))
  parts_safe at (v ∷ vs) (true ∷ flags) t h =
      go_safe (λ parts. PartsOf parts t) (λ parts. PartsOf parts t) (parts_answer at (v ∷ vs) flags) (λ parts. gives ([] ∷ parts)) (parts_safe at (v ∷ vs) flags t h) (λ parts hp. (tt, hp))
  parts_safe at (v ∷ vs) (false ∷ flags) t h =
      go_safe (λ parts. PartsOf parts t) (λ parts. PartsOf parts t) (parts_answer at vs flags) (into_first at v) (parts_safe at vs flags t h.1) (λ parts hp. into_first_safe at v t parts h.0 hp)
  parts_safe at (v ∷ vs) [] t h = λ e. cc
  parts_safe at [] (false ∷ flags) t h = λ e. cc

  parts_listed : (parts : List (List Value)) (t : Ty) → PartsOf parts t → AllOf (map sequence parts) (seq t)
  parts_listed [] t h = tt
  parts_listed (part ∷ parts) t h = (unlisted part t h.0, parts_listed parts t h.1)

  each_truth_safe : (at : ℕ) (v : Value) → HasType dialect v (seq bool) → Safe (λ flags. Unit {0}) (each_at truth_at at v)
  each_truth_safe at v h =
      go_safe (λ vs. AllOf vs bool) (λ flags. Unit {0}) (items_at at v) (go_all (truth_at at)) (items_safe at v bool h) (λ vs hvs.
      all_safe (λ vs. AllOf vs bool) (λ x. HasType dialect x bool) (λ b. Unit {0}) (λ flags. Unit {0}) (λ x xs hx. hx) tt (λ y ys hy hys. tt) (truth_at at) (truth_safe at) vs hvs)

  part_safe : (at : ℕ) (v w : Value) (t : Ty) → HasType dialect v (seq t) → HasType dialect w (seq bool) → Safe (λ x. HasType dialect x (seq (seq t))) (part_answer at v w)
  part_safe at v w t hv hw =
      go_safe (λ vs. AllOf vs t) (λ x. HasType dialect x (seq (seq t))) (items_at at v)
      (λ vs. go (each_at truth_at at w) (λ flags. go (parts_answer at vs flags) (λ parts. gives (sequence (map sequence parts)))))
      (items_safe at v t hv) (λ vs hvs.
      go_safe (λ flags. Unit {0}) (λ x. HasType dialect x (seq (seq t))) (each_at truth_at at w)
      (λ flags. go (parts_answer at vs flags) (λ parts. gives (sequence (map sequence parts)))) (each_truth_safe at w hw) (λ flags hf.
      go_safe (λ parts. PartsOf parts t) (λ x. HasType dialect x (seq (seq t))) (parts_answer at vs flags) (λ parts. gives (sequence (map sequence parts))) (parts_safe at vs flags t hvs) (λ parts hp.
      unlisted (map sequence parts) (seq t) (parts_listed parts t hp))))

  the_safe : (at : ℕ) (vs : List Value) (t : Ty) → AllOf vs t → Safe (λ x. HasType dialect x t) (the_answer at vs)
  the_safe at [] t h = λ e. cc
  the_safe at (v ∷ []) t h = h.0
  the_safe at (v ∷ w ∷ vs) t h = λ e. cc

  fst_safe : (at : ℕ) (v : Value) (t u : Ty) → HasType dialect v (pair t u) → Safe (λ x. HasType dialect x t) (applied dialect at Fst (v ∷ []))
  fst_safe at (a_pair a b) t u h = h.0
  fst_safe at (an_int n) t u h = absurd h
  fst_safe at (a_bool b) t u h = absurd h
  fst_safe at (a_vec vs) t u h = absurd h
  fst_safe at (a_seq vs) t u h = absurd h

  snd_safe : (at : ℕ) (v : Value) (t u : Ty) → HasType dialect v (pair t u) → Safe (λ x. HasType dialect x u) (applied dialect at Snd (v ∷ []))
  snd_safe at (a_pair a b) t u h = h.1
  snd_safe at (an_int n) t u h = absurd h
  snd_safe at (a_bool b) t u h = absurd h
  snd_safe at (a_vec vs) t u h = absurd h
  snd_safe at (a_seq vs) t u h = absurd h

  length_safe : (at : ℕ) (v : Value) (t : Ty) → HasType dialect v (seq t) → Safe (λ x. HasType dialect x int) (applied dialect at Length (v ∷ []))
  length_safe at v t h =
      go_safe (λ vs. AllOf vs t) (λ x. HasType dialect x int) (items_at at v) (λ vs. go (answer_at at (ranged dialect (pos (length vs)))) (λ n. gives (an_int n))) (items_safe at v t h) (λ vs hvs.
      go_safe (IsInteger dialect) (λ x. HasType dialect x int) (answer_at at (ranged dialect (pos (length vs)))) (λ n. gives (an_int n))
      (answer_at_safe (IsInteger dialect) at (ranged dialect (pos (length vs))) (ranged_sure (pos (length vs)))) (λ n hn. hn))

  concat_all_safe : (at : ℕ) (v : Value) (t : Ty) → HasType dialect v (seq (seq t)) → Safe (λ x. HasType dialect x (seq t)) (applied dialect at Concat (v ∷ []))
  concat_all_safe at v t h =
      go_safe (λ vs. AllOf vs (seq t)) (λ x. HasType dialect x (seq t)) (items_at at v) (λ vs. seq_answer (go_join (items_at at) vs)) (items_safe at v (seq t) h) (λ vs hvs.
      seq_answer_safe (go_join (items_at at) vs) t (concat_safe at vs t hvs))

  -- the type of a built-in's value, for one argument's type
  one_safe : (at : ℕ) (function : Builtin) (t r : Ty) (v : Value) → result_of function (t ∷ []) ≡ Some r → HasType dialect v t
      → Safe (λ x. HasType dialect x r) (applied dialect at function (v ∷ []))
  one_safe at Iota int r v e h =
      subst (λ s. Safe (λ x. HasType dialect x s) (applied dialect at Iota (v ∷ []))) (let same : seq int ≡ r = cc in same)
      (go_safe (IsInteger dialect) (λ x. HasType dialect x (seq int)) (int_at at v) (iota_answer at) (int_safe at v h) (iota_safe at))
  one_safe at ScanAdd (seq int) r v e h = subst (λ s. Safe (λ x. HasType dialect x s) (applied dialect at ScanAdd (v ∷ []))) (let same : seq int ≡ r = cc in same) (scan_safe at v h)
  one_safe at ReduceAdd (seq int) r v e h =
      subst (λ s. Safe (λ x. HasType dialect x s) (applied dialect at ReduceAdd (v ∷ []))) (let same : int ≡ r = cc in same)
      (reduce_safe at Sum int v (int_scalar_safe at) (nothing_range dialect Sum) h)
  one_safe at ReduceMax (seq int) r v e h =
      subst (λ s. Safe (λ x. HasType dialect x s) (applied dialect at ReduceMax (v ∷ []))) (let same : int ≡ r = cc in same)
      (reduce_safe at Max int v (int_scalar_safe at) tt h)
  one_safe at ReduceAnd (seq bool) r v e h =
      subst (λ s. Safe (λ x. HasType dialect x s) (applied dialect at ReduceAnd (v ∷ []))) (let same : bool ≡ r = cc in same)
      (reduce_safe at All bool v (bool_scalar_safe at) tt h)
  one_safe at ReduceOr (seq bool) r v e h =
      subst (λ s. Safe (λ x. HasType dialect x s) (applied dialect at ReduceOr (v ∷ []))) (let same : bool ≡ r = cc in same)
      (reduce_safe at Any bool v (bool_scalar_safe at) tt h)
  one_safe at Length (seq t) r v e h = subst (λ s. Safe (λ x. HasType dialect x s) (applied dialect at Length (v ∷ []))) (let same : int ≡ r = cc in same) (length_safe at v t h)
  one_safe at Concat (seq (seq t)) r v e h = subst (λ s. Safe (λ x. HasType dialect x s) (applied dialect at Concat (v ∷ []))) (let same : seq t ≡ r = cc in same) (concat_all_safe at v t h)
  one_safe at The (seq t) r v e h =
      subst (λ s. Safe (λ x. HasType dialect x s) (applied dialect at The (v ∷ []))) (let same : t ≡ r = cc in same)
      (go_safe (λ vs. AllOf vs t) (λ x. HasType dialect x t) (items_at at v) (the_answer at) (items_safe at v t h) (λ vs hvs. the_safe at vs t hvs))
  one_safe at Tab (seq t) r v e h = by_test (is_concrete t) e
    where
      by_test : (b : Bool) → (if b then Some (vec t) else None) ≡ Some r → Safe (λ x. HasType dialect x r) (applied dialect at Tab (v ∷ []))
      by_test true e' =
          subst (λ s. Safe (λ x. HasType dialect x s) (applied dialect at Tab (v ∷ []))) (let same : vec t ≡ r = cc in same)
          (go_safe (λ vs. AllOf vs t) (λ x. HasType dialect x (vec t)) (items_at at v) (λ vs. gives (a_vec (values_of vs))) (items_safe at v t h) (λ vs hvs. unlisted vs t hvs))
      by_test false e' = cc
  one_safe at Seq (vec t) r v e h =
      subst (λ s. Safe (λ x. HasType dialect x s) (applied dialect at Seq (v ∷ []))) (let same : seq t ≡ r = cc in same)
      (go_safe (λ vs. AllOf vs t) (λ x. HasType dialect x (seq t)) (elements_at at v) (λ vs. gives (sequence vs)) (elements_safe at v t h) (λ vs hvs. unlisted vs t hvs))
  one_safe at Fst (pair t u) r v e h = subst (λ s. Safe (λ x. HasType dialect x s) (applied dialect at Fst (v ∷ []))) (let same : t ≡ r = cc in same) (fst_safe at v t u h)
  one_safe at Snd (pair t u) r v e h = subst (λ s. Safe (λ x. HasType dialect x s) (applied dialect at Snd (v ∷ []))) (let same : u ≡ r = cc in same) (snd_safe at v t u h)
  one_safe at Part (seq t) r v e h = no_result e
  one_safe at _ _ r v e h = no_result e

  two_safe : (at : ℕ) (function : Builtin) (t u r : Ty) (v w : Value) → result_of function (t ∷ u ∷ []) ≡ Some r → HasType dialect v t → HasType dialect w u
      → Safe (λ x. HasType dialect x r) (applied dialect at function (v ∷ w ∷ []))
  two_safe at Part (seq t) (seq bool) r v w e hv hw =
      subst (λ s. Safe (λ x. HasType dialect x s) (applied dialect at Part (v ∷ w ∷ []))) (let same : seq (seq t) ≡ r = cc in same) (part_safe at v w t hv hw)
  two_safe at Iota int u r v w e hv hw = no_result e
  two_safe at ScanAdd (seq int) u r v w e hv hw = no_result e
  two_safe at ReduceAdd (seq int) u r v w e hv hw = no_result e
  two_safe at ReduceMax (seq int) u r v w e hv hw = no_result e
  two_safe at ReduceAnd (seq bool) u r v w e hv hw = no_result e
  two_safe at ReduceOr (seq bool) u r v w e hv hw = no_result e
  two_safe at Length (seq t) u r v w e hv hw = no_result e
  two_safe at Concat (seq (seq t)) u r v w e hv hw = no_result e
  two_safe at The (seq t) u r v w e hv hw = no_result e
  two_safe at Tab (seq t) u r v w e hv hw = no_result e
  two_safe at Seq (vec t) u r v w e hv hw = no_result e
  two_safe at Fst (pair t t') u r v w e hv hw = no_result e
  two_safe at Snd (pair t t') u r v w e hv hw = no_result e
  two_safe at _ _ _ r v w e hv hw = no_result e

  -- where the table has a result for the arguments' types, the built-in gives a value of that type
  pub applied_safe : (at : ℕ) (function : Builtin) (ts : List Ty) (r : Ty) (vs : List Value) → result_of function ts ≡ Some r → HaveTypes dialect vs ts
      → Safe (λ x. HasType dialect x r) (applied dialect at function vs)
  applied_safe at function (t ∷ []) r (v ∷ []) e h = one_safe at function t r v e h.0
  applied_safe at function (t ∷ u ∷ []) r (v ∷ w ∷ []) e h = two_safe at function t u r v w e h.0 h.1.0
  applied_safe at function [] r vs e h = none function e
    where
      none : (f : Builtin) → result_of f [] ≡ Some r → Safe (λ x. HasType dialect x r) (applied dialect at function vs)
      none Iota e' = no_result e'
      none _ e' = no_result e'
  applied_safe at function (t ∷ u ∷ s ∷ ts) r vs e h = none function t u e
    where
      none : (f : Builtin) (t u : Ty) → result_of f (t ∷ u ∷ s ∷ ts) ≡ Some r → Safe (λ x. HasType dialect x r) (applied dialect at function vs)
      none Iota int u e' = no_result e'
      none ScanAdd (seq int) u e' = no_result e'
      none ReduceAdd (seq int) u e' = no_result e'
      none ReduceMax (seq int) u e' = no_result e'
      none ReduceAnd (seq bool) u e' = no_result e'
      none ReduceOr (seq bool) u e' = no_result e'
      none Length (seq t) u e' = no_result e'
      none Concat (seq (seq t)) u e' = no_result e'
      none The (seq t) u e' = no_result e'
      none Tab (seq t) u e' = no_result e'
      none Seq (vec t) u e' = no_result e'
      none Fst (pair t t') u e' = no_result e'
      none Snd (pair t t') u e' = no_result e'
      none Part (seq t) (seq bool) e' = no_result e'
      none _ _ _ e' = no_result e'
  applied_safe at function (t ∷ []) r [] e h = absurd h
  applied_safe at function (t ∷ []) r (v ∷ w ∷ vs) e h = absurd h.1
  applied_safe at function (t ∷ u ∷ []) r [] e h = absurd h
  applied_safe at function (t ∷ u ∷ []) r (v ∷ []) e h = absurd h.1
  applied_safe at function (t ∷ u ∷ []) r (v ∷ w ∷ x ∷ vs) e h = absurd h.1.1
