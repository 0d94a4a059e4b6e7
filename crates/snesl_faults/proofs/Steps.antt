-- One step over the sequences of binders, which are evaluated in order.
use Rattle.std.proofs.Common.{◌≡◌, ℕ, zero, suc, ◌+◌, ◌<◌, ◌≤◌, List, [], ◌∷◌, ◌++◌, drop, length, map, get_or, Vec, Global, Result, Ok, Err, IfOk, sym, ap, ◌∙◌, arith}
use Rattle.snesl_data.specs.declared.datum.Datum.{Datum}
use Rattle.snesl_data.specs.Values.{Value, value_of}
use Rattle.snesl_grammar.specs.declared.tree.expr.Binder.{Binder}
use Rattle.snesl_grammar.specs.tree.View.{tree_of, binders_of}
use Rattle.snesl_evaluation.specs.declared.halt.Halt.{Halt}
use Rattle.snesl_evaluation.specs.declared.scope.Scope.{Scope}
use Rattle.snesl_evaluation.specs.declared.scope.ProgramContext.{ProgramContext}
use Rattle.snesl_evaluation.specs.Answer.{Answer, gives, go}
use Rattle.snesl_evaluation.specs.Results.{Answers}
use Rattle.snesl_evaluation.specs.Scopes.{all_in, eval_in}
use Rattle.snesl_evaluation.proofs.Reading.{behind, one_more, append_nothing}
use Rattle.snesl_faults.specs.Faults.{sources}

module _ (context : ProgramContext) (scope : Scope) where
  -- what a sequence and those after it give
  abbrev with_others : List Binder → Answer Value → Answer (List Value)
  with_others others answer = go answer (λ v. go (all_in context scope (sources (binders_of others))) (λ vs. gives (v ∷ vs)))

  sequences_next : (done : List Value) (binders : List Binder) (i : ℕ) (binder : Binder) (v : Value) → i < length binders → binder ≡ get_or binders i binder
      → eval_in context scope (tree_of binder.source) ≡ gives v
      → behind done (all_in context scope (sources (binders_of (drop i binders)))) ≡ behind (done ++ v ∷ []) (all_in context scope (sources (binders_of (drop (suc i) binders))))
  sequences_next done [] i binder v l is e = absurd (omega arith)
  sequences_next done (x ∷ binders) zero binder v l is e =
      ap (λ answer. behind done (with_others binders answer)) (ap (λ y. eval_in context scope (tree_of y.source)) (sym is) ∙ e)
      ∙ one_more done v (all_in context scope (sources (binders_of binders)))
  sequences_next done (x ∷ binders) (suc i) binder v l is e = sequences_next done binders i binder v (omega arith) is e

  pub sequences_given : (done : List Value) (binders : List Binder) (i : ℕ) (binder : Binder) (v : Value) → i < length binders → binder ≡ get_or binders i binder
      → eval_in context scope (tree_of binder.source) ≡ gives v
      → behind done (all_in context scope (sources (binders_of (drop i binders)))) ≡ behind (done ++ v ∷ []) (all_in context scope (sources (binders_of (drop (i + 1) binders))))
  sequences_given done binders i binder v l is e =
      let same : suc i ≡ i + 1 = omega arith in
      sequences_next done binders i binder v l is e ∙ ap (λ j. behind (done ++ v ∷ []) (all_in context scope (sources (binders_of (drop j binders))))) same

  pub sequences_all : (done : List Value) (binders : List Binder) (i : ℕ) → length binders ≤ i → behind done (all_in context scope (sources (binders_of (drop i binders)))) ≡ gives done
  sequences_all done [] zero l = ap gives (append_nothing done)
  sequences_all done [] (suc i) l = ap gives (append_nothing done)
  sequences_all done (x ∷ binders) zero l = absurd (omega arith)
  sequences_all done (x ∷ binders) (suc i) l = sequences_all done binders i (omega arith)

-- what is given where the values are there
pub values_where_ok : (r : Result (Vec Datum Global) Halt) (answer : Answer (List Value)) → Answers (λ values. map value_of values.items) r answer →
    IfOk r (λ values. answer ≡ gives (map value_of values.items))
values_where_ok (Ok values) answer e = e
values_where_ok (Err halt) answer e = tt
