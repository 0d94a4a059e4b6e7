-- Operators and built-in functions, by the types of their operands and arguments.
use Rattle.std.specs.Prelude.{◌≡◌, ℕ, Bool, true, false, List, [], ◌∷◌, length, Some, None, refl, if◌then◌else◌}
use Rattle.std.proofs.Common.{sym, subst}
use Rattle.snesl_data.specs.declared.dialect.Dialect.{Dialect}
use Rattle.snesl_data.specs.Types.{Ty, int, bool, pair, vec, seq, is_concrete, is_same}
use Rattle.snesl_data.proofs.SameTypes.{same_eq}
use Rattle.snesl_data.specs.operators.Operators.{binary_operand, binary_result}
use Rattle.snesl_data.specs.declared.operators.operator.BinaryOperator.{BinaryOperator}
use Rattle.snesl_data.specs.declared.operators.operator.BinaryOperator.TheVariants as binaries
use Rattle.snesl_grammar.specs.declared.tree.operator.Builtin.{Builtin}
use Rattle.snesl_grammar.specs.declared.tree.operator.Builtin.TheVariants.{Iota, ScanAdd, ReduceAdd, ReduceMax, ReduceAnd, ReduceOr, Length, Concat, Part, The, Tab, Seq, Fst, Snd}
use Rattle.snesl_grammar.specs.declared.tree.operator.Operator.{Operator}
use Rattle.snesl_grammar.specs.declared.tree.operator.Operator.TheVariants.{Or, And, Equal, Less, AtMost, Greater, AtLeast, Append, Add, Subtract, Multiply, Divide, Remainder, Index}
use Rattle.snesl_grammar.specs.declared.tree.operator.Prefix.{Prefix}
use Rattle.snesl_grammar.specs.declared.tree.operator.Prefix.TheVariants.{Negate, Not}
use Rattle.snesl_types.specs.Forms.{operator_result, prefix_result, result_of}
use Rattle.flow_messages.specs.declared.message.Kind.{Kind}
use Rattle.flow_folds.specs.Scalars.{kind_of_type as kind_of_scalar}
use Rattle.flow_values.specs.Shapes.{kinds_of}
use Rattle.flow_nodes.specs.plans.Plans.{index, tab, seq_of}
use Rattle.snesl_translation.specs.Wires.{Wires, IsSingle, numbers_of, kind_of_type, stream_of, item_type}
use Rattle.snesl_translation.specs.Makings.{Making, stepped}
use Rattle.snesl_translation.specs.Translation.{scalars_step, equality, binary_streams, prefix_streams, call_streams}
use Rattle.snesl_translation.proofs.BuiltinCalls.{none_of_no_arguments, none_of_more_arguments}
use Rattle.snesl_translation.proofs.OfWiring.Fitting.{stream_on, Reads, no_reads, more_reads, Fits, fits_segments, fits_type, first_fits, second_fits, items_fit, flags_fit, stream_fits, numbers_read}
use Rattle.snesl_translation.proofs.OfWiring.Making.{Makes, done_made, then_made, stepped_made, tested_made}
use Rattle.snesl_translation.proofs.OfWiring.Forms.{appended_made, concatenated_made, parted_made}

-- streams of arguments fit their types
pub data AllFit (kinds : List Kind) : List Ty → List Wires → Type 0 where
  none_fit : AllFit kinds [] []
  more_fit : {t : Ty} {ts : List Ty} {w : Wires} {ws : List Wires} → Fits kinds t w → AllFit kinds ts ws → AllFit kinds (t ∷ ts) (w ∷ ws)

typed : {kinds : List Kind} {s t : Ty} {making : Making Wires} → Some s ≡ Some t → Makes kinds s making → Makes kinds t making
typed {kinds = kinds} {s = s} {t = t} {making = making} e h = let same : s ≡ t = cc in subst (λ t. Makes kinds t making) same h

module _ (dialect : Dialect) (at : ℕ) where
  -- operators

  scalars_made : {kinds : List Kind} {u v : Wires} (operator : BinaryOperator) (s t : Ty) → IsSingle s → kind_of_type s ≡ kind_of_scalar (binary_operand operator)
      → kind_of_scalar (binary_result operator) ∷ [] ≡ kinds_of t → Fits kinds s u → Fits kinds s v → Makes kinds t (scalars_step dialect at operator t u v (length kinds))
  scalars_made {kinds = kinds} {u = u} {v = v} operator s t single same written hu hv =
      stepped_made t (subst (λ kind. Reads kinds (stream_of u ∷ stream_of v ∷ []) (kind ∷ kind ∷ [])) same (more_reads (stream_fits hu single) (more_reads (stream_fits hv single) no_reads))) written

  append_made : {kinds : List Kind} {u v : Wires} (a b t : Ty) (same : Bool) → is_same a b ≡ same → (if same then Some (seq a) else None) ≡ Some t → Fits kinds (seq a) u → Fits kinds (seq b) v
      → Makes kinds t (binary_streams dialect at Append u v (length kinds))
  append_made {kinds = kinds} {u = u} {v = v} a b t true same e hu hv = typed e (appended_made at u v hu (subst (λ b. Fits kinds (seq b) v) (sym (same_eq a b same)) hv))
  append_made a b t false same e hu hv = absurd (cc)

  pub binary_made : {kinds : List Kind} {u v : Wires} (operator : Operator) (s r t : Ty) → operator_result operator s r ≡ Some t → Fits kinds s u → Fits kinds r v
      → Makes kinds t (binary_streams dialect at operator u v (length kinds))
  binary_made Or bool bool t e hu hv = typed e (scalars_made binaries.Or bool bool tt refl refl hu hv)
  binary_made And bool bool t e hu hv = typed e (scalars_made binaries.And bool bool tt refl refl hu hv)
  binary_made {kinds = kinds} {u = u} {v = v} Equal int int t e hu hv =
      typed e (subst (λ s. Makes kinds bool (scalars_step dialect at (equality s) bool u v (length kinds))) (sym (fits_type hu)) (scalars_made binaries.EqualIntegers int bool tt refl refl hu hv))
  binary_made {kinds = kinds} {u = u} {v = v} Equal bool bool t e hu hv =
      typed e (subst (λ s. Makes kinds bool (scalars_step dialect at (equality s) bool u v (length kinds))) (sym (fits_type hu)) (scalars_made binaries.EqualTruths bool bool tt refl refl hu hv))
  binary_made Less int int t e hu hv = typed e (scalars_made binaries.Less int bool tt refl refl hu hv)
  binary_made AtMost int int t e hu hv = typed e (scalars_made binaries.AtMost int bool tt refl refl hu hv)
  binary_made Greater int int t e hu hv = typed e (scalars_made binaries.Greater int bool tt refl refl hu hv)
  binary_made AtLeast int int t e hu hv = typed e (scalars_made binaries.AtLeast int bool tt refl refl hu hv)
  binary_made Append (seq a) (seq b) t e hu hv = append_made a b t (is_same a b) refl e hu hv
  binary_made Add int int t e hu hv = typed e (scalars_made binaries.Add int int tt refl refl hu hv)
  binary_made Subtract int int t e hu hv = typed e (scalars_made binaries.Subtract int int tt refl refl hu hv)
  binary_made Multiply int int t e hu hv = typed e (scalars_made binaries.Multiply int int tt refl refl hu hv)
  binary_made Divide int int t e hu hv = typed e (scalars_made binaries.Divide int int tt refl refl hu hv)
  binary_made Remainder int int t e hu hv = typed e (scalars_made binaries.Remainder int int tt refl refl hu hv)
  binary_made {kinds = kinds} {u = u} {v = v} Index (vec item) int t e hu hv =
      typed e (subst (λ s. Makes kinds item (stepped at (index (item_type s)) (stream_of u ∷ stream_of v ∷ []) (item_type s) (length kinds))) (sym (fits_type hu))
      (stepped_made item (more_reads (stream_fits hu tt) (more_reads (stream_fits hv tt) no_reads)) refl))
  binary_made _ _ _ t e hu hv = absurd (cc)

  pub prefix_made : {kinds : List Kind} {u : Wires} (operator : Prefix) (s t : Ty) → prefix_result operator s ≡ Some t → Fits kinds s u →
      Makes kinds t (prefix_streams dialect at operator u (length kinds))
  prefix_made Negate int t e h = typed e (stepped_made int (more_reads (stream_fits h tt) no_reads) refl)
  prefix_made Not bool t e h = typed e (stepped_made bool (more_reads (stream_fits h tt) no_reads) refl)
  prefix_made _ _ t e h = absurd (cc)

  -- built-in functions

  tab_made : {kinds : List Kind} {u : Wires} (item t : Ty) (concrete : Bool) → is_concrete item ≡ concrete → (if concrete then Some (vec item) else None) ≡ Some t → Fits kinds (seq item) u
      → Makes kinds t (call_streams dialect at Tab (u ∷ []) (length kinds))
  tab_made {kinds = kinds} {u = u} item t true is e h =
      typed e (subst (λ s. Makes kinds (vec item) (stepped at (tab s) (numbers_of u) (vec s) (length kinds))) (sym (fits_type (items_fit h))) (stepped_made (vec item) (numbers_read h) refl))
  tab_made item t false is e h = absurd (cc)

  pub call_made : {kinds : List Kind} {u : Wires} (function : Builtin) (s t : Ty) → result_of function (s ∷ []) ≡ Some t → Fits kinds s u →
      Makes kinds t (call_streams dialect at function (u ∷ []) (length kinds))
  call_made Iota int t e h = typed e (stepped_made (seq int) (more_reads (stream_fits h tt) no_reads) refl)
  call_made ScanAdd (seq int) t e h =
      typed e (then_made _ (stepped_made int (more_reads (flags_fit h) (more_reads (stream_fits (items_fit h) tt) no_reads)) refl)
      (λ on more sums fs. done_made (fits_segments (stream_on more (flags_fit h)) fs)))
  call_made ReduceAdd (seq int) t e h = typed e (stepped_made int (more_reads (flags_fit h) (more_reads (stream_fits (items_fit h) tt) no_reads)) refl)
  call_made ReduceMax (seq int) t e h = typed e (stepped_made int (more_reads (flags_fit h) (more_reads (stream_fits (items_fit h) tt) no_reads)) refl)
  call_made ReduceAnd (seq bool) t e h = typed e (stepped_made bool (more_reads (flags_fit h) (more_reads (stream_fits (items_fit h) tt) no_reads)) refl)
  call_made ReduceOr (seq bool) t e h = typed e (stepped_made bool (more_reads (flags_fit h) (more_reads (stream_fits (items_fit h) tt) no_reads)) refl)
  call_made Length (seq item) t e h = typed e (stepped_made int (more_reads (flags_fit h) no_reads) refl)
  call_made {u = u} Concat (seq (seq item)) t e h = typed e (concatenated_made at u h)
  call_made The (seq item) t e h = typed e (tested_made (more_reads (flags_fit h) no_reads) refl (items_fit h))
  call_made Tab (seq item) t e h = tab_made item t (is_concrete item) refl e h
  call_made {kinds = kinds} {u = u} Seq (vec item) t e h =
      typed e (subst (λ s. Makes kinds (seq item) (stepped at (seq_of (item_type s)) (stream_of u ∷ []) (seq (item_type s)) (length kinds))) (sym (fits_type h))
      (stepped_made (seq item) (more_reads (stream_fits h tt) no_reads) refl))
  call_made Fst (pair s r) t e h = typed e (done_made (first_fits h))
  call_made Snd (pair s r) t e h = typed e (done_made (second_fits h))
  call_made Part (seq item) t e h = absurd (cc)
  call_made _ _ t e h = absurd (cc)

  -- only `part` has two arguments
  call_of_two_made : {kinds : List Kind} {u v : Wires} (function : Builtin) (s r t : Ty) → result_of function (s ∷ r ∷ []) ≡ Some t → Fits kinds s u → Fits kinds r v
      → Makes kinds t (call_streams dialect at function (u ∷ v ∷ []) (length kinds))
  call_of_two_made {u = u} {v = v} Part (seq item) (seq bool) t e hu hv = typed e (parted_made at u v hu hv)
  call_of_two_made Iota int r t e hu hv = absurd (cc)
  call_of_two_made ScanAdd (seq int) r t e hu hv = absurd (cc)
  call_of_two_made ReduceAdd (seq int) r t e hu hv = absurd (cc)
  call_of_two_made ReduceMax (seq int) r t e hu hv = absurd (cc)
  call_of_two_made ReduceAnd (seq bool) r t e hu hv = absurd (cc)
  call_of_two_made ReduceOr (seq bool) r t e hu hv = absurd (cc)
  call_of_two_made Length (seq item) r t e hu hv = absurd (cc)
  call_of_two_made Concat (seq (seq item)) r t e hu hv = absurd (cc)
  call_of_two_made The (seq item) r t e hu hv = absurd (cc)
  call_of_two_made Tab (seq item) r t e hu hv = absurd (cc)
  call_of_two_made Seq (vec item) r t e hu hv = absurd (cc)
  call_of_two_made Fst (pair a b) r t e hu hv = absurd (cc)
  call_of_two_made Snd (pair a b) r t e hu hv = absurd (cc)
  call_of_two_made _ _ _ t e hu hv = absurd (cc)

  pub builtin_made : {kinds : List Kind} {us : List Wires} (function : Builtin) (ts : List Ty) (t : Ty) → result_of function ts ≡ Some t → AllFit kinds ts us
      → Makes kinds t (call_streams dialect at function us (length kinds))
  builtin_made function [] t e none_fit = absurd (none_of_no_arguments function t e)
  builtin_made function (s ∷ []) t e (more_fit h none_fit) = call_made function s t e h
  builtin_made function (s ∷ r ∷ []) t e (more_fit h (more_fit g none_fit)) = call_of_two_made function s r t e h g
  builtin_made function (s ∷ r ∷ q ∷ ts) t e (more_fit h (more_fit g (more_fit k others))) = absurd (none_of_more_arguments function s r q t ts e)
