-- Expressions of operators and of built-in functions mean what their operands and arguments say.
use Rattle.std.specs.Prelude.{◌≡◌, ℕ, Bool, true, false, if◌then◌else◌, List, [], ◌∷◌, ◌++◌, map, length, Option, Some, None, refl}
use Rattle.std.proofs.Common.{sym, ap, ◌∙◌, subst}
use Rattle.snesl_data.specs.declared.dialect.Dialect.{Dialect}
use Rattle.snesl_data.specs.Types.{Ty, seq, is_same}
use Rattle.snesl_data.specs.Values.{Value}
use Rattle.snesl_values.specs.Inputs.{Environment}
use Rattle.snesl_data.proofs.SameTypes.{same_eq}
use Rattle.snesl_grammar.specs.declared.tree.operator.Builtin.{Builtin}
use Rattle.snesl_grammar.specs.declared.tree.operator.Operator.{Operator}
use Rattle.snesl_grammar.specs.declared.tree.operator.Operator.TheVariants.{Append}
use Rattle.snesl_grammar.specs.declared.tree.operator.Prefix.{Prefix}
use Rattle.snesl_grammar.specs.tree.Tree.{Tree, Trees, binary, prefix, call}
use Rattle.snesl_types.specs.Forms.{operator_result, prefix_result, result_of}
use Rattle.snesl_types.specs.Contexts.{Context}
use Rattle.flow_base.specs.Columns.{Columns}
use Rattle.flow_nodes.specs.functions.Lists.{bind, each}
use Rattle.snesl_evaluation.specs.Answer.{Answer, gives, faults, go, go_all}
use Rattle.snesl_evaluation.specs.Builtins.{prefix_answer, binary_answer, applied}
use Rattle.snesl_evaluation.specs.Eval.{Calls, eval, eval_all}
use Rattle.snesl_translation.specs.Wires.{Wires, Bound}
use Rattle.snesl_translation.specs.Makings.{Making}
use Rattle.snesl_translation.specs.FreeNames.{Names, free, free_of_all}
use Rattle.snesl_translation.specs.Translation.{Bodies, prefix_streams, binary_streams, call_streams, tr, tr_all}
use Rattle.snesl_translation.specs.Carrying.{Carries, given_by, GoesTo, Goes}
use Rattle.snesl_translation.specs.Meaning.{IsTranslation, AllCarry}
use Rattle.snesl_translation.proofs.ArgumentMeanings.{AllMean}
use Rattle.snesl_translation.proofs.Instances.{given_go, given_all, each_same, each_map}
use Rattle.snesl_translation.proofs.Operands.{after_means, both_mean}
use Rattle.snesl_translation.proofs.Arguments.{call_means, one_row, both_rows}
use Rattle.snesl_translation.proofs.Twins.{goes_typed}
use Rattle.snesl_translation.proofs.Scalars.{prefix_goes, binary_goes}
use Rattle.snesl_translation.proofs.Appending.{append_goes}
use Rattle.snesl_translation.proofs.BuiltinCalls.{call_goes, call_of_two_goes, none_of_no_arguments, none_of_more_arguments}

-- steps

module _ (dialect : Dialect) (at : ℕ) (streams : Columns) where
  pub prefix_goes_to : (operator : Prefix) (s t : Ty) → prefix_result operator s ≡ Some t → (u : Wires) (vs : List Value) → Carries streams u s vs
      → GoesTo streams t (prefix_streams dialect at operator u (length streams)) (each (λ v. given_by (prefix_answer dialect at operator v)) vs)
  prefix_goes_to operator s t is u vs c =
      subst (GoesTo streams t (prefix_streams dialect at operator u (length streams))) (given_all (prefix_answer dialect at operator) vs) (prefix_goes dialect at streams operator u s t vs is c)

  append_typed : (a b t : Ty) (same : Bool) → is_same a b ≡ same → (if same then Some (seq a) else None) ≡ Some t → (u v : Wires) (ps : List (Value × Value))
      → Carries streams u (seq a) (map (λ p. p.0) ps) → Carries streams v (seq b) (map (λ p. p.1) ps)
      → Goes streams t (binary_streams dialect at Append u v (length streams)) (go_all (λ p. binary_answer dialect at Append p.0 p.1) ps)
  append_typed a b t true same is u v ps cu cv =
      goes_typed streams (seq a) t (binary_streams dialect at Append u v (length streams)) (go_all (λ p. binary_answer dialect at Append p.0 p.1) ps) is
      (append_goes dialect at streams u v a ps cu (subst (λ b. Carries streams v (seq b) (map (λ p. p.1) ps)) (sym (same_eq a b same)) cv))
  append_typed a b t false same is u v ps cu cv = absurd (cc)

  -- each operator between its operands
  pub operator_goes : (operator : Operator) (s r t : Ty) → operator_result operator s r ≡ Some t → (u v : Wires) (ps : List (Value × Value)) →
      Carries streams u s (map (λ p. p.0) ps) → Carries streams v r (map (λ p. p.1) ps)
      → Goes streams t (binary_streams dialect at operator u v (length streams)) (go_all (λ p. binary_answer dialect at operator p.0 p.1) ps)
  operator_goes Append (seq a) (seq b) t is u v ps cu cv = append_typed a b t (is_same a b) refl is u v ps cu cv
  operator_goes Append _ _ t is u v ps cu cv = absurd (cc)
  operator_goes operator s r t is u v ps cu cv = binary_goes dialect at streams operator u v s r t ps is (λ no. absurd (cc)) cu cv

  pub operator_goes_to : (operator : Operator) (s r t : Ty) → operator_result operator s r ≡ Some t → (u v : Wires) (ps : List (Value × Value)) →
      Carries streams u s (map (λ p. p.0) ps) → Carries streams v r (map (λ p. p.1) ps)
      → GoesTo streams t (binary_streams dialect at operator u v (length streams)) (each (λ p. given_by (binary_answer dialect at operator p.0 p.1)) ps)
  operator_goes_to operator s r t is u v ps cu cv =
      subst (GoesTo streams t (binary_streams dialect at operator u v (length streams))) (given_all (λ p. binary_answer dialect at operator p.0 p.1) ps) (operator_goes operator s r t is u v ps cu cv)

  -- each built-in function at rows of arguments
  pub builtin_goes_to : (function : Builtin) (ts : List Ty) (t : Ty) → result_of function ts ≡ Some t → (us : List Wires) (rows : List (List Value)) → AllCarry streams us ts rows
      → GoesTo streams t (call_streams dialect at function us (length streams)) (each (λ row. given_by (applied dialect at function row)) rows)
  builtin_goes_to function [] t is us rows h = absurd (none_of_no_arguments function t is)
  builtin_goes_to function (s ∷ []) t is us rows h =
      let one = one_row streams us s rows h in
      let answer = λ (v : Value). applied dialect at function (v ∷ []) in
      let same : given_by (go_all answer one.1) ≡ each (λ row. given_by (applied dialect at function row)) rows =
      given_all answer one.1 ∙ sym (each_map (λ row. given_by (applied dialect at function row)) (λ v. v ∷ []) one.1) ∙ ap (each (λ row. given_by (applied dialect at function row))) (sym one.3) in
      subst (λ us. GoesTo streams t (call_streams dialect at function us (length streams)) (each (λ row. given_by (applied dialect at function row)) rows)) (sym one.2)
      (subst (GoesTo streams t (call_streams dialect at function (one.0 ∷ []) (length streams))) same (call_goes dialect at streams function one.0 s t one.1 is one.4))
  builtin_goes_to function (s ∷ r ∷ []) t is us rows h =
      let both = both_rows streams us s r rows h in
      let ps = both.2 in
      let answer = λ (p : Value × Value). applied dialect at function (p.0 ∷ p.1 ∷ []) in
      let same : given_by (go_all answer ps) ≡ each (λ row. given_by (applied dialect at function row)) rows =
      given_all answer ps ∙ sym (each_map (λ row. given_by (applied dialect at function row)) (λ p. p.0 ∷ p.1 ∷ []) ps) ∙ ap (each (λ row. given_by (applied dialect at function row))) (sym both.4) in
      subst (λ us. GoesTo streams t (call_streams dialect at function us (length streams)) (each (λ row. given_by (applied dialect at function row)) rows)) (sym both.3)
      (subst (GoesTo streams t (call_streams dialect at function (both.0 ∷ both.1 ∷ []) (length streams))) same (call_of_two_goes dialect at streams function both.0 both.1 s r t ps is both.5 both.6))
  builtin_goes_to function (s ∷ r ∷ q ∷ more) t is us rows h = absurd (none_of_more_arguments function s r q t more is)

-- the same value at each instance means the same
pub means_same : (context : Context) (t : Ty) (names : Names) (translated : Bound → ℕ → ℕ → Making Wires) (one other : Environment → Option Value) →
    ((environment : Environment) → one environment ≡ other environment)
    → IsTranslation translated one names context t → IsTranslation translated other names context t
means_same context t names translated one other same h streams bound control environments bears controls =
    subst (GoesTo streams t (translated bound control (length streams))) (each_same one other same environments) (h streams bound control environments bears controls)

-- expressions

module _ (dialect : Dialect) (text : List ℕ) (calls : Calls) (bodies : Bodies) (context : Context) where
  -- a tree means its value
  abbrev pub TreeMeans : Tree → Ty → Type 0
  TreeMeans tree t = IsTranslation (tr dialect text bodies tree) (λ environment. given_by (eval dialect tree text calls environment)) (free text tree) context t

  abbrev pub TreesMean : Trees → List Ty → Type 0
  TreesMean trees ts = AllMean (tr_all dialect text bodies trees) (λ environment. given_by (eval_all dialect trees text calls environment)) (free_of_all text trees) context ts

  pub prefix_means : (at : ℕ) (operator : Prefix) (operand : Tree) (s t : Ty) → prefix_result operator s ≡ Some t → TreeMeans operand s → TreeMeans (prefix at operator operand) t
  prefix_means at operator operand s t is h =
      means_same context t (free text operand) (tr dialect text bodies (prefix at operator operand))
      (λ environment. bind (given_by (eval dialect operand text calls environment)) (λ v. given_by (prefix_answer dialect at operator v)))
      (λ environment. given_by (eval dialect (prefix at operator operand) text calls environment))
      (λ environment. sym (given_go (eval dialect operand text calls environment) (prefix_answer dialect at operator)))
      (after_means context s t (free text operand) (tr dialect text bodies operand) (λ u k. prefix_streams dialect at operator u k)
      (λ environment. given_by (eval dialect operand text calls environment)) (λ v. given_by (prefix_answer dialect at operator v)) h
      (λ streams u vs c. prefix_goes_to dialect at streams operator s t is u vs c))

  pub binary_means : (at : ℕ) (operator : Operator) (left right : Tree) (r s t : Ty) → operator_result operator r s ≡ Some t → TreeMeans left r →
      TreeMeans right s → TreeMeans (binary at operator left right) t
  binary_means at operator left right r s t is h g =
      means_same context t (free text left ++ free text right) (tr dialect text bodies (binary at operator left right))
      (λ environment. bind (given_by (eval dialect left text calls environment))
      (λ v. bind (given_by (eval dialect right text calls environment)) (λ w. given_by (binary_answer dialect at operator v w))))
      (λ environment. given_by (eval dialect (binary at operator left right) text calls environment))
      (λ environment. sym (two_given (eval dialect left text calls environment) (eval dialect right text calls environment) (binary_answer dialect at operator)))
      (both_mean context r s t (free text left) (free text right) (tr dialect text bodies left) (tr dialect text bodies right) (λ u v k. binary_streams dialect at operator u v k)
      (λ environment. given_by (eval dialect left text calls environment)) (λ environment. given_by (eval dialect right text calls environment))
      (λ v w. given_by (binary_answer dialect at operator v w)) h g
      (λ streams u v ps cu cv. operator_goes_to dialect at streams operator r s t is u v ps cu cv))
    where
      after : (w : Answer Value) (f : Value → Value → Answer Value) (v : Value) → given_by (go w (f v)) ≡ bind (given_by w) (λ w. given_by (f v w))
      after w f v = given_go w (f v)

      two_given : (v w : Answer Value) (f : Value → Value → Answer Value) → given_by (go v (λ v. go w (λ w. f v w))) ≡ bind (given_by v) (λ v. bind (given_by w) (λ w. given_by (f v w)))
      two_given (gives v) w f = after w f v
      two_given (faults kind place) w f = refl

  pub builtin_means : (at : ℕ) (function : Builtin) (arguments : Trees) (ts : List Ty) (t : Ty) → result_of function ts ≡ Some t → TreesMean arguments ts → TreeMeans (call at function arguments) t
  builtin_means at function arguments ts t is h =
      means_same context t (free_of_all text arguments) (tr dialect text bodies (call at function arguments))
      (λ environment. bind (given_by (eval_all dialect arguments text calls environment)) (λ row. given_by (applied dialect at function row)))
      (λ environment. given_by (eval dialect (call at function arguments) text calls environment))
      (λ environment. sym (given_go (eval_all dialect arguments text calls environment) (applied dialect at function)))
      (call_means context ts t (free_of_all text arguments) (tr_all dialect text bodies arguments) (λ us control k. call_streams dialect at function us k)
      (λ environment. given_by (eval_all dialect arguments text calls environment)) (λ row. given_by (applied dialect at function row)) h
      (λ streams us control rows c controls. builtin_goes_to dialect at streams function ts t is us rows c))
