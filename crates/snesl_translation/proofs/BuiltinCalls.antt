-- Built-in functions at whole lists of instances, each by the types of its arguments.
use Rattle.std.specs.Prelude.{◌≡◌, ℕ, Bool, true, false, if◌then◌else◌, List, [], ◌∷◌, map, length, Some, None, refl}
use Rattle.snesl_data.specs.declared.dialect.Dialect.{Dialect}
use Rattle.snesl_data.specs.Types.{Ty, int, bool, pair, vec, seq, is_concrete}
use Rattle.snesl_data.specs.Values.{Value}
use Rattle.snesl_data.specs.declared.operators.operator.Reduction.TheVariants.{Sum, Max, All, Any}
use Rattle.snesl_grammar.specs.declared.tree.operator.Builtin.{Builtin}
use Rattle.snesl_grammar.specs.declared.tree.operator.Builtin.TheVariants.{Iota, ScanAdd, ReduceAdd, ReduceMax, ReduceAnd, ReduceOr, Length, Concat, Part, The, Tab, Seq, Fst, Snd}
use Rattle.snesl_types.specs.Forms.{result_of}
use Rattle.flow_base.specs.Columns.{Columns}
use Rattle.snesl_evaluation.specs.Answer.{go_all}
use Rattle.snesl_evaluation.specs.Builtins.{applied}
use Rattle.snesl_translation.specs.Wires.{Wires}
use Rattle.snesl_translation.specs.Translation.{call_streams}
use Rattle.snesl_translation.specs.Carrying.{Carries, Goes}
use Rattle.snesl_translation.proofs.Twins.{goes_typed}
use Rattle.snesl_translation.proofs.Counting.{length_goes, iota_goes, the_goes, tab_goes, seq_goes, fst_goes, snd_goes}
use Rattle.snesl_translation.proofs.Groups.{scan_goes, reduce_goes, concat_goes}
use Rattle.snesl_translation.proofs.Parts.{part_goes}

module _ (dialect : Dialect) (at : ℕ) (streams : Columns) where
  -- a built-in function at the argument of each instance
  abbrev CallGoes : Builtin → Wires → Ty → List Value → Type 0
  CallGoes function u t vs = Goes streams t (call_streams dialect at function (u ∷ []) (length streams)) (go_all (λ v. applied dialect at function (v ∷ [])) vs)

  typed : (function : Builtin) (u : Wires) (s t : Ty) (vs : List Value) → Some s ≡ Some t → CallGoes function u s vs → CallGoes function u t vs
  typed function u s t vs e h = goes_typed streams s t (call_streams dialect at function (u ∷ []) (length streams)) (go_all (λ v. applied dialect at function (v ∷ [])) vs) e h

  tab_typed : (u : Wires) (item t : Ty) (vs : List Value) (concrete : Bool) → is_concrete item ≡ concrete →
      (if concrete then Some (vec item) else None) ≡ Some t → Carries streams u (seq item) vs → CallGoes Tab u t vs
  tab_typed u item t vs true is e c = typed Tab u (vec item) t vs e (tab_goes dialect at streams u item vs is c)
  tab_typed u item t vs false is e c = absurd (cc)

  -- A built-in function of one argument, over all instances.
  pub call_goes : (function : Builtin) (u : Wires) (s t : Ty) (vs : List Value) → result_of function (s ∷ []) ≡ Some t → Carries streams u s vs
      → Goes streams t (call_streams dialect at function (u ∷ []) (length streams)) (go_all (λ v. applied dialect at function (v ∷ [])) vs)
  call_goes Iota u int t vs e c = typed Iota u (seq int) t vs e (iota_goes dialect at streams u vs c)
  call_goes ScanAdd u (seq int) t vs e c = typed ScanAdd u (seq int) t vs e (scan_goes dialect at streams u vs c)
  call_goes ReduceAdd u (seq int) t vs e c = typed ReduceAdd u int t vs e (reduce_goes dialect at streams Sum u vs c)
  call_goes ReduceMax u (seq int) t vs e c = typed ReduceMax u int t vs e (reduce_goes dialect at streams Max u vs c)
  call_goes ReduceAnd u (seq bool) t vs e c = typed ReduceAnd u bool t vs e (reduce_goes dialect at streams All u vs c)
  call_goes ReduceOr u (seq bool) t vs e c = typed ReduceOr u bool t vs e (reduce_goes dialect at streams Any u vs c)
  call_goes Length u (seq item) t vs e c = typed Length u int t vs e (length_goes dialect at streams u item vs c)
  call_goes Concat u (seq (seq item)) t vs e c = typed Concat u (seq item) t vs e (concat_goes dialect at streams u item vs c)
  call_goes The u (seq item) t vs e c = typed The u item t vs e (the_goes dialect at streams u item vs c)
  call_goes Tab u (seq item) t vs e c = tab_typed u item t vs (is_concrete item) refl e c
  call_goes Seq u (vec item) t vs e c = typed Seq u (seq item) t vs e (seq_goes dialect at streams u item vs c)
  call_goes Fst u (pair s r) t vs e c = typed Fst u s t vs e (fst_goes dialect at streams u s r vs c)
  call_goes Snd u (pair s r) t vs e c = typed Snd u r t vs e (snd_goes dialect at streams u s r vs c)
  call_goes Part u (seq item) t vs e c = absurd (cc)
  call_goes _ u _ t vs e c = absurd (cc)

  part_typed : (function : Builtin) (u v : Wires) (s r t : Ty) (ps : List (Value × Value)) → function ≡ Part → result_of function (s ∷ r ∷ []) ≡ Some t → Carries streams u s (map (λ p. p.0) ps)
      → Carries streams v r (map (λ p. p.1) ps) → Goes streams t (call_streams dialect at function (u ∷ v ∷ []) (length streams)) (go_all (λ p. applied dialect at function (p.0 ∷ p.1 ∷ [])) ps)
  part_typed Part u v (seq item) (seq bool) t ps is e cu cv =
      goes_typed streams (seq (seq item)) t (call_streams dialect at Part (u ∷ v ∷ []) (length streams))
      (go_all (λ p. applied dialect at Part (p.0 ∷ p.1 ∷ [])) ps) e (part_goes dialect at streams u v item ps cu cv)
  part_typed Part u v _ _ t ps is e cu cv = absurd (cc)
  part_typed _ u v s r t ps is e cu cv = absurd (cc)

-- only `part` has two arguments
only_part : (function : Builtin) (s r t : Ty) → result_of function (s ∷ r ∷ []) ≡ Some t → function ≡ Part
only_part Part s r t e = refl
only_part Iota int r t e = absurd (cc)
only_part ScanAdd (seq int) r t e = absurd (cc)
only_part ReduceAdd (seq int) r t e = absurd (cc)
only_part ReduceMax (seq int) r t e = absurd (cc)
only_part ReduceAnd (seq bool) r t e = absurd (cc)
only_part ReduceOr (seq bool) r t e = absurd (cc)
only_part Length (seq item) r t e = absurd (cc)
only_part Concat (seq (seq item)) r t e = absurd (cc)
only_part The (seq item) r t e = absurd (cc)
only_part Tab (seq item) r t e = absurd (cc)
only_part Seq (vec item) r t e = absurd (cc)
only_part Fst (pair a b) r t e = absurd (cc)
only_part Snd (pair a b) r t e = absurd (cc)
only_part _ _ r t e = absurd (cc)

-- One of two arguments, over all instances.
pub call_of_two_goes : (dialect : Dialect) (at : ℕ) (streams : Columns) (function : Builtin) (u v : Wires) (s r t : Ty) (ps : List (Value × Value)) → result_of function (s ∷ r ∷ []) ≡ Some t
    → Carries streams u s (map (λ p. p.0) ps) → Carries streams v r (map (λ p. p.1) ps)
    → Goes streams t (call_streams dialect at function (u ∷ v ∷ []) (length streams)) (go_all (λ p. applied dialect at function (p.0 ∷ p.1 ∷ [])) ps)
call_of_two_goes dialect at streams function u v s r t ps e cu cv = part_typed dialect at streams function u v s r t ps (only_part function s r t e) e cu cv

-- no built-in function has no arguments, or more than two

pub none_of_no_arguments : (function : Builtin) (t : Ty) → result_of function [] ≡ Some t → ⊥
none_of_no_arguments Iota t e = absurd (cc)
none_of_no_arguments _ t e = absurd (cc)

pub none_of_more_arguments : (function : Builtin) (s r q t : Ty) (more : List Ty) → result_of function (s ∷ r ∷ q ∷ more) ≡ Some t → ⊥
none_of_more_arguments Part (seq item) (seq bool) q t more e = absurd (cc)
none_of_more_arguments Iota int r q t more e = absurd (cc)
none_of_more_arguments ScanAdd (seq int) r q t more e = absurd (cc)
none_of_more_arguments ReduceAdd (seq int) r q t more e = absurd (cc)
none_of_more_arguments ReduceMax (seq int) r q t more e = absurd (cc)
none_of_more_arguments ReduceAnd (seq bool) r q t more e = absurd (cc)
none_of_more_arguments ReduceOr (seq bool) r q t more e = absurd (cc)
none_of_more_arguments Length (seq item) r q t more e = absurd (cc)
none_of_more_arguments Concat (seq (seq item)) r q t more e = absurd (cc)
none_of_more_arguments The (seq item) r q t more e = absurd (cc)
none_of_more_arguments Tab (seq item) r q t more e = absurd (cc)
none_of_more_arguments Seq (vec item) r q t more e = absurd (cc)
none_of_more_arguments Fst (pair a b) r q t more e = absurd (cc)
none_of_more_arguments Snd (pair a b) r q t more e = absurd (cc)
none_of_more_arguments _ _ _ q t more e = absurd (cc)
