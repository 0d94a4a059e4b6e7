-- Expressions of constants, names, pairs, bindings and calls mean what their parts say.
use Rattle.std.specs.Prelude.{◌≡◌, ℕ, ℤ, Bool, List, [], ◌∷◌, ◌++◌, length, Option, Some, None, refl}
use Rattle.std.proofs.Common.{sym, subst}
use Rattle.snesl_data.specs.declared.dialect.Dialect.{Dialect}
use Rattle.snesl_data.specs.declared.fault.FaultKind.TheVariants.{Shape}
use Rattle.snesl_data.specs.Types.{Ty, int, bool, pair}
use Rattle.snesl_data.specs.Values.{Value, a_pair}
use Rattle.snesl_values.specs.Inputs.{Environment, value_in}
use Rattle.snesl_data.specs.declared.operators.scalar.Scalar.TheVariants.{Int, Bool as Truth}
use Rattle.snesl_grammar.specs.declared.tree.span.Span.{Span}
use Rattle.snesl_grammar.specs.tree.Spelling.{spelling}
use Rattle.snesl_grammar.specs.tree.Tree.{Tree, Trees, integer, truth, name, pair as pair_tree, binding, apply, none, both}
use Rattle.snesl_evaluation.specs.Answer.{Answer, gives, faults, go, or_fault}
use Rattle.snesl_evaluation.specs.Eval.{Calls, eval, eval_all}
use Rattle.snesl_types.specs.Contexts.{open_to, Context, bound as bound_to, found, Signature, Signatures, function_named}
use Rattle.flow_nodes.specs.functions.Lists.{bind}
use Rattle.snesl_translation.specs.Wires.{Wires, Bound}
use Rattle.snesl_translation.specs.Makings.{Making}
use Rattle.snesl_translation.specs.FreeNames.{Names, without, free, free_of_all}
use Rattle.snesl_translation.specs.Translation.{Bodies, tr, tr_all}
use Rattle.snesl_translation.specs.Carrying.{given_by}
use Rattle.snesl_translation.proofs.ArgumentMeanings.{GoAll, AllMean}
use Rattle.snesl_translation.specs.Theorems.{CallsMean}
use Rattle.snesl_translation.proofs.Instances.{given_go, each_same}
use Rattle.snesl_translation.proofs.Forms.{pair_means}
use Rattle.snesl_translation.proofs.Bindings.{const_means, name_means, binding_means}
use Rattle.snesl_translation.proofs.Operands.{none_mean}
use Rattle.snesl_translation.proofs.Arguments.{more_mean, call_means}
use Rattle.snesl_translation.proofs.BuiltinMeanings.{means_same, TreeMeans, TreesMean}

-- the same rows at each instance mean the same
all_same : (context : Context) (ts : List Ty) (names : Names) (translated : Bound → ℕ → ℕ → Making (List Wires)) (one other : Environment → Option (List Value))
    → ((environment : Environment) → one environment ≡ other environment) → AllMean translated one names context ts → AllMean translated other names context ts
all_same context ts names translated one other same h streams bound control environments bears controls =
    subst (GoAll streams ts (translated bound control (length streams))) (each_same one other same environments) (h streams bound control environments bears controls)

-- the value of a name
named_value : (at : ℕ) (o : Option Value) → o ≡ given_by (or_fault Shape at o)
named_value at (Some v) = refl
named_value at None = refl

two_given : {A B C : Type 0} (v : Answer A) (w : Answer B) (f : A → B → C) → bind (given_by v) (λ x. bind (given_by w) (λ y. Some (f x y))) ≡ given_by (go v (λ x. go w (λ y. gives (f x y))))
two_given (gives x) (gives y) f = refl
two_given (gives x) (faults kind at) f = refl
two_given (faults kind at) w f = refl

module _ (dialect : Dialect) (text : List ℕ) (calls : Calls) (bodies : Bodies) (context : Context) where
  pub integer_means : (at : ℕ) (value : ℤ) → TreeMeans dialect text calls bodies context (integer at value) int
  integer_means at value = const_means context at (Int value)

  pub truth_means : (at : ℕ) (value : Bool) → TreeMeans dialect text calls bodies context (truth at value) bool
  truth_means at value = const_means context at (Truth value)

  pub variable_means : (place : Span) (t : Ty) → found (spelling text place) context ≡ Some (open_to t) → TreeMeans dialect text calls bodies context (name place) t
  variable_means place t is =
      means_same context t (spelling text place ∷ []) (tr dialect text bodies (name place)) (value_in (spelling text place))
      (λ environment. given_by (eval dialect (name place) text calls environment))
      (λ environment. named_value place.at (value_in (spelling text place) environment)) (name_means context (spelling text place) t is)

  pub pair_tree_means : (at : ℕ) (first second : Tree) (s t : Ty) → TreeMeans dialect text calls bodies context first s → TreeMeans dialect text calls bodies context second t
      → TreeMeans dialect text calls bodies context (pair_tree at first second) (pair s t)
  pair_tree_means at first second s t h g =
      means_same context (pair s t) (free text first ++ free text second) (tr dialect text bodies (pair_tree at first second))
      (λ environment. bind (given_by (eval dialect first text calls environment)) (λ v. bind (given_by (eval dialect second text calls environment)) (λ w. Some (a_pair v w))))
      (λ environment. given_by (eval dialect (pair_tree at first second) text calls environment))
      (λ environment. two_given (eval dialect first text calls environment) (eval dialect second text calls environment) a_pair)
      (pair_means context s t (free text first) (free text second) (tr dialect text bodies first) (tr dialect text bodies second)
      (λ environment. given_by (eval dialect first text calls environment)) (λ environment. given_by (eval dialect second text calls environment)) h g)

  pub let_means : (at : ℕ) (place : Span) (value body : Tree) (s t : Ty) → TreeMeans dialect text calls bodies context value s
      → TreeMeans dialect text calls bodies (bound_to (spelling text place) s ∷ context) body t → TreeMeans dialect text calls bodies context (binding at place value body) t
  let_means at place value body s t h g =
      means_same context t (free text value ++ without (spelling text place) (free text body)) (tr dialect text bodies (binding at place value body))
      (λ environment. bind (given_by (eval dialect value text calls environment)) (λ v. given_by (eval dialect body text calls ((spelling text place, v) ∷ environment))))
      (λ environment. given_by (eval dialect (binding at place value body) text calls environment))
      (λ environment. sym (given_go (eval dialect value text calls environment) (λ v. eval dialect body text calls ((spelling text place, v) ∷ environment))))
      (binding_means context (spelling text place) s t (free text value) (free text body) (tr dialect text bodies value) (tr dialect text bodies body)
      (λ environment. given_by (eval dialect value text calls environment)) (λ environment. given_by (eval dialect body text calls environment)) h g)

  pub no_arguments_mean : TreesMean dialect text calls bodies context none []
  no_arguments_mean = none_mean context

  pub arguments_mean : (first : Tree) (others : Trees) (t : Ty) (ts : List Ty) → TreeMeans dialect text calls bodies context first t → TreesMean dialect text calls bodies context others ts
      → TreesMean dialect text calls bodies context (both first others) (t ∷ ts)
  arguments_mean first others t ts h g =
      all_same context (t ∷ ts) (free text first ++ free_of_all text others) (tr_all dialect text bodies (both first others))
      (λ environment. bind (given_by (eval dialect first text calls environment)) (λ v. bind (given_by (eval_all dialect others text calls environment)) (λ row. Some (v ∷ row))))
      (λ environment. given_by (eval_all dialect (both first others) text calls environment))
      (λ environment. two_given (eval dialect first text calls environment) (eval_all dialect others text calls environment) (λ v row. v ∷ row))
      (more_mean context t ts (free text first) (free_of_all text others) (tr dialect text bodies first) (tr_all dialect text bodies others)
      (λ environment. given_by (eval dialect first text calls environment)) (λ environment. given_by (eval_all dialect others text calls environment)) h g)

  pub apply_means : (functions : Signatures) (function : Span) (arguments : Trees) (signature : Signature) → CallsMean functions calls bodies →
      function_named (spelling text function) functions ≡ Some signature
      → TreesMean dialect text calls bodies context arguments signature.parameters → TreeMeans dialect text calls bodies context (apply function arguments) signature.result
  apply_means functions function arguments signature mean is h =
      means_same context signature.result (free_of_all text arguments) (tr dialect text bodies (apply function arguments))
      (λ environment. bind (given_by (eval_all dialect arguments text calls environment)) (λ row. given_by (calls function.at (spelling text function) row)))
      (λ environment. given_by (eval dialect (apply function arguments) text calls environment))
      (λ environment. sym (given_go (eval_all dialect arguments text calls environment) (calls function.at (spelling text function))))
      (call_means context signature.parameters signature.result (free_of_all text arguments) (tr_all dialect text bodies arguments)
      (λ us control k. bodies function.at (spelling text function) us control k)
      (λ environment. given_by (eval_all dialect arguments text calls environment)) (λ row. given_by (calls function.at (spelling text function) row)) h
      (λ streams us control rows carry controls. mean streams function.at (spelling text function) signature us control rows is carry controls))
