-- One step over arguments, items or binders whose types are found in order.
use Rattle.std.proofs.Common.{◌≡◌, ◌⊎◌, inl, inr, ℕ, zero, suc, ◌+◌, ◌<◌, ◌≤◌, List, [], ◌∷◌, ◌++◌, map, drop, length, get_or, Result, Ok, Err, refl, sym, ap, ◌∙◌, arith}
use Rattle.snesl_data.specs.declared.refusal.Refusal.{Refusal}
use Rattle.snesl_data.specs.declared.refusal.Refusal.TheVariants.{NoMemory}
use Rattle.snesl_values.specs.Inputs.{InputDeclaration}
use Rattle.snesl_data.specs.Types.{Ty}
use Rattle.snesl_grammar.specs.declared.tree.expr.Expr.{Expr}
use Rattle.snesl_grammar.specs.declared.tree.expr.Binder.{Binder}
use Rattle.snesl_grammar.specs.tree.View.{tree_of, trees_of, binders_of}
use Rattle.snesl_types.specs.declared.names.Scope.{Scope}
use Rattle.snesl_types.specs.Names.{typed_in, all_typed_in, binders_typed_in}
use Rattle.snesl_types.specs.Programs.{and_then}

-- a refusal of one part is one of another, unless memory ran out
pub refusal_passes : {A B : Type 0} (v : Result A Refusal) (w : Result B Refusal) (e : Refusal) → (e ≡ NoMemory) ⊎ (v ≡ Err e) → (v ≡ Err e → w ≡ Err e) → (e ≡ NoMemory) ⊎ (w ≡ Err e)
refusal_passes v w e (inl same) f = inl same
refusal_passes v w e (inr is) f = inr (f is)

pub map_push : {A B : Type 0} (f : A → B) (xs : List A) (x : A) → map f (xs ++ x ∷ []) ≡ map f xs ++ f x ∷ []
map_push f [] x = refl
map_push f (y ∷ xs) x = ap (λ ys. f y ∷ ys) (map_push f xs x)

module _ (scope : Scope) where
  -- with the type of an expression, those of the others
  abbrev with_others : List Ty → List Expr → Result Ty Refusal → Result (List Ty) Refusal
  with_others earlier others r = and_then r (λ t. all_typed_in scope (earlier ++ t ∷ []) (trees_of others))

  types_next : (earlier : List Ty) (exprs : List Expr) (i : ℕ) (expr : Expr) (t : Ty) → i < length exprs → expr ≡ get_or exprs i expr → typed_in scope (tree_of expr) ≡ Ok t
      → all_typed_in scope earlier (trees_of (drop i exprs)) ≡ all_typed_in scope (earlier ++ t ∷ []) (trees_of (drop (suc i) exprs))
  types_next earlier [] i expr t l is e = absurd (omega arith)
  types_next earlier (x ∷ exprs) zero expr t l is e = ap (with_others earlier exprs) (ap (λ y. typed_in scope (tree_of y)) (sym is) ∙ e)
  types_next earlier (x ∷ exprs) (suc i) expr t l is e = types_next earlier exprs i expr t (omega arith) is e

  pub types_given : (earlier : List Ty) (exprs : List Expr) (i : ℕ) (expr : Expr) (t : Ty) → i < length exprs → expr ≡ get_or exprs i expr → typed_in scope (tree_of expr) ≡ Ok t
      → all_typed_in scope earlier (trees_of (drop i exprs)) ≡ all_typed_in scope (earlier ++ t ∷ []) (trees_of (drop (i + 1) exprs))
  types_given earlier exprs i expr t l is e =
      let same : suc i ≡ i + 1 = omega arith in
      types_next earlier exprs i expr t l is e ∙ ap (λ j. all_typed_in scope (earlier ++ t ∷ []) (trees_of (drop j exprs))) same

  pub types_refused : (earlier : List Ty) (exprs : List Expr) (i : ℕ) (expr : Expr) (refusal : Refusal) → i < length exprs → expr ≡ get_or exprs i expr
      → typed_in scope (tree_of expr) ≡ Err refusal → all_typed_in scope earlier (trees_of (drop i exprs)) ≡ Err refusal
  types_refused earlier [] i expr refusal l is e = absurd (omega arith)
  types_refused earlier (x ∷ exprs) zero expr refusal l is e = ap (with_others earlier exprs) (ap (λ y. typed_in scope (tree_of y)) (sym is) ∙ e)
  types_refused earlier (x ∷ exprs) (suc i) expr refusal l is e = types_refused earlier exprs i expr refusal (omega arith) is e

  pub types_all : (earlier : List Ty) (exprs : List Expr) (i : ℕ) → length exprs ≤ i → all_typed_in scope earlier (trees_of (drop i exprs)) ≡ Ok earlier
  types_all earlier [] zero l = refl
  types_all earlier [] (suc i) l = refl
  types_all earlier (x ∷ exprs) zero l = absurd (omega arith)
  types_all earlier (x ∷ exprs) (suc i) l = types_all earlier exprs i (omega arith)

  -- the sequence of a binder is refused
  pub binders_refused : (earlier : List InputDeclaration) (binders : List Binder) (i : ℕ) (binder : Binder) (refusal : Refusal) → i < length binders → binder ≡ get_or binders i binder
      → typed_in scope (tree_of binder.source) ≡ Err refusal → binders_typed_in scope earlier (binders_of (drop i binders)) ≡ Err refusal
  binders_refused earlier [] i binder refusal l is e = absurd (omega arith)
  binders_refused earlier (x ∷ binders) zero binder refusal l is e =
      let here : typed_in scope (tree_of x.source) ≡ Err refusal = ap (λ (y : Binder). typed_in scope (tree_of y.source)) (sym is) ∙ e in
      rw here refl
  binders_refused earlier (x ∷ binders) (suc i) binder refusal l is e = binders_refused earlier binders i binder refusal (omega arith) is e

  pub binders_all : (earlier : List InputDeclaration) (binders : List Binder) (i : ℕ) → length binders ≤ i → binders_typed_in scope earlier (binders_of (drop i binders)) ≡ Ok earlier
  binders_all earlier [] zero l = refl
  binders_all earlier [] (suc i) l = refl
  binders_all earlier (x ∷ binders) zero l = absurd (omega arith)
  binders_all earlier (x ∷ binders) (suc i) l = binders_all earlier binders i (omega arith)
