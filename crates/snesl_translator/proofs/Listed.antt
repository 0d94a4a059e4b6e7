-- Makings of all items of a list, in order.
use Rattle.std.proofs.Common.{◌≡◌, ℕ, List, [], ◌∷◌, ◌++◌, refl, sym, ap, ◌∙◌, append_assoc, append-nil}
use Rattle.snesl_data.specs.declared.dialect.Dialect.{Dialect}
use Rattle.snesl_grammar.specs.declared.tree.expr.Expr.{Expr}
use Rattle.snesl_grammar.specs.declared.tree.expr.Binder.{Binder}
use Rattle.snesl_grammar.specs.tree.Spelling.{spelling}
use Rattle.snesl_grammar.specs.tree.View.{tree_of, trees_of, binders_of}
use Rattle.flow_nodes.specs.plans.Plans.{Step}
use Rattle.snesl_translation.specs.Wires.{Wires}
use Rattle.snesl_translation.specs.Makings.{Making, done, and_then}
use Rattle.snesl_translator.specs.declared.scopes.scope.Scope.{Scope}
use Rattle.snesl_translator.specs.declared.translator.ProgramContext.{ProgramContext}
use Rattle.snesl_translator.specs.Translated.{all_in, binders_in}
use Rattle.snesl_translator.proofs.Expressions.{tr_in}

abbrev pub made_all : {A B : Type 0} → (A → ℕ → Making B) → List A → ℕ → Making (List B)
made_all one [] next = done [] next
made_all one (x ∷ xs) next = and_then (one x next) (λ u k. and_then (made_all one xs k) (λ us k. done (u ∷ us) k))

-- the last step of the equation below, over lists of steps
regrouped : (x xs ys : List Step) → x ++ ((xs ++ (ys ++ [])) ++ []) ≡ (x ++ (xs ++ [])) ++ (ys ++ [])
regrouped x xs ys =
    ap (λ l. x ++ l) (append-nil (xs ++ (ys ++ [])) ∙ ap (λ l. l ++ (ys ++ [])) (sym (append-nil xs)))
    ∙ sym (append_assoc x (xs ++ []) (ys ++ []))

pub made_all-append : {A B : Type 0} (one : A → ℕ → Making B) (xs ys : List A) (next : ℕ)
    → made_all one (xs ++ ys) next ≡ and_then (made_all one xs next) (λ us k. and_then (made_all one ys k) (λ vs k. done (us ++ vs) k))
unfolding and_then
made_all-append one [] ys next =
    let m = made_all one ys next in
    ap (λ steps. record { steps = steps; given = m.given; next = m.next }) (sym (append-nil m.steps))
made_all-append {B = B} one (x ∷ xs) ys next =
    let first = one x next in
    let middle = made_all one xs first.next in
    let last = made_all one ys middle.next in
    ap (λ (m : Making (List B)). record { steps = first.steps ++ (m.steps ++ []); given = first.given ∷ m.given; next = m.next }) (made_all-append one xs ys first.next)
    ∙ ap (λ steps. record { steps = steps; given = first.given ∷ (middle.given ++ last.given); next = last.next }) (regrouped first.steps middle.steps last.steps)

module _ (dialect : Dialect) (context : ProgramContext) (scope : Scope) (control : ℕ) where
  -- arguments
  abbrev pub argument_in : Expr → ℕ → Making Wires
  argument_in expr next = tr_in dialect context scope (tree_of expr) control next

  pub arguments_listed : (exprs : List Expr) (next : ℕ) → made_all argument_in exprs next ≡ all_in dialect context scope (trees_of exprs) control next
  unfolding and_then
  arguments_listed [] next = refl
  arguments_listed (expr ∷ exprs) next =
      let first = argument_in expr next in
      ap (λ (m : Making (List Wires)). record { steps = first.steps ++ (m.steps ++ []); given = first.given ∷ m.given; next = m.next }) (arguments_listed exprs first.next)

  -- sequences of binders
  abbrev pub source_in : Binder → ℕ → Making (List ℕ × Wires)
  source_in binder next = and_then (tr_in dialect context scope (tree_of binder.source) control next) (λ u k. done (spelling context.text.now binder.name, u) k)

  pub sources_listed : (binders : List Binder) (next : ℕ) → made_all source_in binders next ≡ binders_in dialect context scope (binders_of binders) control next
  unfolding and_then
  sources_listed [] next = refl
  sources_listed (binder ∷ binders) next =
      let first = tr_in dialect context scope (tree_of binder.source) control next in
      let name = spelling context.text.now binder.name in
      let others = made_all source_in binders first.next in
      ap (λ steps. record { steps = steps ++ (others.steps ++ []); given = (name, first.given) ∷ others.given; next = others.next }) (append-nil first.steps)
      ∙ ap (λ (m : Making (List (List ℕ × Wires))). record { steps = first.steps ++ (m.steps ++ []); given = (name, first.given) ∷ m.given; next = m.next }) (sources_listed binders first.next)
