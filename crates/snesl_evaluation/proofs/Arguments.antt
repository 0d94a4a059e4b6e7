-- One step over arguments, items or binders that are evaluated in order.
use Rattle.std.proofs.Common.{◌≡◌, ℕ, zero, suc, ◌+◌, ◌<◌, ◌≤◌, List, [], ◌∷◌, ◌++◌, drop, length, get_or, sym, ap, ◌∙◌, arith}
use Rattle.snesl_data.specs.declared.fault.FaultKind.{FaultKind}
use Rattle.snesl_data.specs.Values.{Value}
use Rattle.snesl_grammar.specs.declared.tree.expr.Expr.{Expr}
use Rattle.snesl_grammar.specs.declared.tree.expr.Binder.{Binder}
use Rattle.snesl_grammar.specs.tree.Spelling.{spelling}
use Rattle.snesl_grammar.specs.tree.View.{tree_of, trees_of, binders_of}
use Rattle.snesl_evaluation.specs.declared.scope.Scope.{Scope}
use Rattle.snesl_evaluation.specs.declared.scope.ProgramContext.{ProgramContext}
use Rattle.snesl_evaluation.specs.Answer.{Answer, gives, faults, go}
use Rattle.snesl_evaluation.specs.Builtins.{items_at}
use Rattle.snesl_evaluation.specs.Eval.{BoundItems}
use Rattle.snesl_evaluation.specs.Scopes.{all_in, binders_in, eval_in}
use Rattle.snesl_evaluation.proofs.Reading.{behind, one_more, append_nothing}

module _ (context : ProgramContext) (scope : Scope) where
  -- what an expression and those after it give
  abbrev with_others : List Expr → Answer Value → Answer (List Value)
  with_others others answer = go answer (λ v. go (all_in context scope (trees_of others)) (λ vs. gives (v ∷ vs)))

  values_next : (done : List Value) (exprs : List Expr) (i : ℕ) (expr : Expr) (v : Value) → i < length exprs → expr ≡ get_or exprs i expr → eval_in context scope (tree_of expr) ≡ gives v
      → behind done (all_in context scope (trees_of (drop i exprs))) ≡ behind (done ++ v ∷ []) (all_in context scope (trees_of (drop (suc i) exprs)))
  values_next done [] i expr v l is e = absurd (omega arith)
  values_next done (x ∷ exprs) zero expr v l is e =
      ap (λ answer. behind done (with_others exprs answer)) (ap (λ y. eval_in context scope (tree_of y)) (sym is) ∙ e)
      ∙ one_more done v (all_in context scope (trees_of exprs))
  values_next done (x ∷ exprs) (suc i) expr v l is e = values_next done exprs i expr v (omega arith) is e

  pub values_given : (done : List Value) {news : List Value} (exprs : List Expr) (i : ℕ) (expr : Expr) (v : Value) → i < length exprs → expr ≡ get_or exprs i expr
      → eval_in context scope (tree_of expr) ≡ gives v → news ≡ done ++ v ∷ []
      → behind done (all_in context scope (trees_of (drop i exprs))) ≡ behind news (all_in context scope (trees_of (drop (i + 1) exprs)))
  values_given done exprs i expr v l is e grown =
      let same : suc i ≡ i + 1 = omega arith in
      values_next done exprs i expr v l is e ∙ ap (λ j. behind (done ++ v ∷ []) (all_in context scope (trees_of (drop j exprs)))) same
      ∙ ap (λ given. behind given (all_in context scope (trees_of (drop (i + 1) exprs)))) (sym grown)

  pub values_faults : (done : List Value) (exprs : List Expr) (i : ℕ) (expr : Expr) (kind : FaultKind) (at : ℕ) → i < length exprs → expr ≡ get_or exprs i expr
      → eval_in context scope (tree_of expr) ≡ faults kind at → behind done (all_in context scope (trees_of (drop i exprs))) ≡ faults kind at
  values_faults done [] i expr kind at l is e = absurd (omega arith)
  values_faults done (x ∷ exprs) zero expr kind at l is e =
      ap (λ answer. behind done (with_others exprs answer)) (ap (λ y. eval_in context scope (tree_of y)) (sym is) ∙ e)
  values_faults done (x ∷ exprs) (suc i) expr kind at l is e = values_faults done exprs i expr kind at (omega arith) is e

  pub values_all : (done : List Value) (exprs : List Expr) (i : ℕ) → length exprs ≤ i → behind done (all_in context scope (trees_of (drop i exprs))) ≡ gives done
  values_all done [] zero l = ap gives (append_nothing done)
  values_all done [] (suc i) l = ap gives (append_nothing done)
  values_all done (x ∷ exprs) zero l = absurd (omega arith)
  values_all done (x ∷ exprs) (suc i) l = values_all done exprs i (omega arith)

  -- what a binder and those after it give
  abbrev with_binders : Binder → List Binder → Answer Value → Answer BoundItems
  with_binders binder others answer =
      go answer (λ v. go (items_at binder.name.at v) (λ vs.
      go (binders_in context scope (binders_of others)) (λ columns. gives ((spelling context.text.now binder.name, vs) ∷ columns))))

  columns_next : (done : BoundItems) (binders : List Binder) (i : ℕ) (binder : Binder) (v : Value) (vs : List Value) → i < length binders → binder ≡ get_or binders i binder
      → eval_in context scope (tree_of binder.source) ≡ gives v → items_at binder.name.at v ≡ gives vs
      → behind done (binders_in context scope (binders_of (drop i binders)))
      ≡ behind (done ++ (spelling context.text.now binder.name, vs) ∷ []) (binders_in context scope (binders_of (drop (suc i) binders)))
  columns_next done [] i binder v vs l is e f = absurd (omega arith)
  columns_next done (x ∷ binders) zero binder v vs l is e f =
      ap (λ y. behind done (with_binders y binders (eval_in context scope (tree_of y.source)))) (sym is)
      ∙ ap (λ answer. behind done (with_binders binder binders answer)) e
      ∙ ap (λ answer. behind done (go answer (λ ws. go (binders_in context scope (binders_of binders)) (λ columns. gives ((spelling context.text.now binder.name, ws) ∷ columns))))) f
      ∙ one_more done (spelling context.text.now binder.name, vs) (binders_in context scope (binders_of binders))
  columns_next done (x ∷ binders) (suc i) binder v vs l is e f = columns_next done binders i binder v vs (omega arith) is e f

  pub columns_given : (done : BoundItems) {news : BoundItems} (binders : List Binder) (i : ℕ) (binder : Binder) (v : Value) (vs : List Value) → i < length binders
      → binder ≡ get_or binders i binder → eval_in context scope (tree_of binder.source) ≡ gives v → items_at binder.name.at v ≡ gives vs
      → news ≡ done ++ (spelling context.text.now binder.name, vs) ∷ []
      → behind done (binders_in context scope (binders_of (drop i binders))) ≡ behind news (binders_in context scope (binders_of (drop (i + 1) binders)))
  columns_given done binders i binder v vs l is e f grown =
      let same : suc i ≡ i + 1 = omega arith in
      columns_next done binders i binder v vs l is e f
      ∙ ap (λ j. behind (done ++ (spelling context.text.now binder.name, vs) ∷ []) (binders_in context scope (binders_of (drop j binders)))) same
      ∙ ap (λ given. behind given (binders_in context scope (binders_of (drop (i + 1) binders)))) (sym grown)

  -- the sequence of a binder faults, or is none
  pub columns_faults : (done : BoundItems) (binders : List Binder) (i : ℕ) (binder : Binder) (kind : FaultKind) (at : ℕ) → i < length binders → binder ≡ get_or binders i binder
      → go (eval_in context scope (tree_of binder.source)) (items_at binder.name.at) ≡ faults kind at → behind done (binders_in context scope (binders_of (drop i binders))) ≡ faults kind at
  columns_faults done [] i binder kind at l is e = absurd (omega arith)
  columns_faults done (x ∷ binders) zero binder kind at l is e =
      ap (λ y. behind done (with_binders y binders (eval_in context scope (tree_of y.source)))) (sym is)
      ∙ in_two (eval_in context scope (tree_of binder.source)) e
    where
      in_two : (answer : Answer Value) → go answer (items_at binder.name.at) ≡ faults kind at → behind done (with_binders binder binders answer) ≡ faults kind at
      in_two (gives v) e' =
          ap (λ given. behind done
          (go given (λ ws. go (binders_in context scope (binders_of binders))
          (λ columns. gives ((spelling context.text.now binder.name, ws) ∷ columns))))) e'
      in_two (faults k place) e' = cc
  columns_faults done (x ∷ binders) (suc i) binder kind at l is e = columns_faults done binders i binder kind at (omega arith) is e

  pub columns_all : (done : BoundItems) (binders : List Binder) (i : ℕ) → length binders ≤ i → behind done (binders_in context scope (binders_of (drop i binders))) ≡ gives done
  columns_all done [] zero l = ap gives (append_nothing done)
  columns_all done [] (suc i) l = ap gives (append_nothing done)
  columns_all done (x ∷ binders) zero l = absurd (omega arith)
  columns_all done (x ∷ binders) (suc i) l = columns_all done binders i (omega arith)
