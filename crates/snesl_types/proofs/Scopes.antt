-- Expressions in the scope of a comprehension.
use Rattle.std.proofs.Common.{◌≡◌, ℕ, ◌⊎◌, List, [], ◌++◌, Some, None, Result, Ok, Err, Vec, Box, Global, refl, sym, ap, subst, ◌∙◌}
use Rattle.std.specs.Result.{IsErr, IsErrAnd}
use Rattle.snesl_data.specs.declared.refusal.Refusal.{Refusal}
use Rattle.snesl_data.specs.declared.refusal.Refusal.TheVariants.{NoMemory}
use Rattle.snesl_data.specs.declared.ty.Ty.{Ty as TyTree}
use Rattle.snesl_values.specs.Inputs.{InputDeclaration, declared}
use Rattle.snesl_data.specs.Types.{Ty, ty_of}
use Rattle.snesl_grammar.specs.declared.tree.expr.Expr.{Expr, Each}
use Rattle.snesl_grammar.specs.declared.tree.expr.Binder.{Binder}
use Rattle.snesl_grammar.specs.tree.Tree.{Tree, Binders, Condition, each, always, only_where}
use Rattle.snesl_grammar.specs.tree.View.{tree_of, binders_of}
use Rattle.snesl_grammar.proofs.OfTree.Arguments.{binders_row}
use Rattle.snesl_types.specs.declared.names.Scope.{Scope}
use Rattle.snesl_types.specs.Verdicts.{verdict, condition_verdict, IsVerdict, both_of, of_each}
use Rattle.snesl_types.specs.Contexts.{Context, names_context, inside}
use Rattle.snesl_types.specs.Programs.{and_then}
use Rattle.snesl_types.proofs.Passing.{refused_first, refused_left, refused_right, both_there, answered_second}
use Rattle.snesl_types.specs.Names.{context_of, signatures_in, typed_in, ruled_in, binders_typed_in, condition_typed_in, condition_in}

pub tree_of-Each : (at : ℕ) (body : Box Expr Global) (binders : Vec Binder Global) (condition : _)
    → tree_of (Each at body binders condition) ≡ each at (tree_of body.value) (binders_of binders.items) (condition_in condition)
tree_of-Each at body binders None = ap (λ b. each at (tree_of body.value) b always) (binders_row binders)
tree_of-Each at body binders (Some condition) = ap (λ b. each at (tree_of body.value) b (only_where (tree_of condition.value))) (binders_row binders)

-- the inner scope has the same dialect, text and functions, and its names are the context
pub record Within (inner scope : Scope) (context : Context) : Type 0 where
  pub dialect : inner.dialect ≡ scope.dialect
  pub text : inner.text.now ≡ scope.text.now
  pub functions : inner.functions.now ≡ scope.functions.now
  pub names : context_of inner.text.now inner.names.now ≡ context

-- a scope that has other names alone, as code makes it
pub within_names : (inner scope : Scope) (names : List ℕ → Context) → inner.dialect ≡ scope.dialect → inner.text.now ≡ scope.text.now
    → inner.functions.now ≡ scope.functions.now → context_of inner.text.now inner.names.now ≡ names inner.text.now → Within inner scope (names scope.text.now)
within_names inner scope names dialect text functions held = record { dialect = dialect; text = text; functions = functions; names = held ∙ ap names text }

-- the elements of binders, in both as code holds them
pub bound_items : (scope : Scope) {held binders : List Binder} {items given : List (Vec ℕ Global × TyTree)} → held ≡ binders
    → binders_typed_in scope [] (binders_of held) ≡ Ok (declared given) → items ≡ given → binders_typed_in scope [] (binders_of binders) ≡ Ok (declared items)
bound_items scope same is kept = ap (λ l. binders_typed_in scope [] (binders_of l)) (sym same) ∙ is ∙ ap (λ l. Ok (declared l)) (sym kept)

abbrev verdict_at : Scope → Context → Tree → Result Ty Refusal
verdict_at scope context tree = verdict scope.dialect scope.text.now (signatures_in scope.text.now scope.functions.now) context tree

abbrev condition_verdict_at : Scope → Context → Condition → Result Ty Refusal
condition_verdict_at scope context condition = condition_verdict scope.dialect scope.text.now (signatures_in scope.text.now scope.functions.now) context condition

module _ (inner scope : Scope) (context : Context) (within : Within inner scope context) where
  typed_within : (tree : Tree) → typed_in inner tree ≡ verdict_at scope context tree
  typed_within tree =
      ap (λ dialect. verdict dialect inner.text.now (signatures_in inner.text.now inner.functions.now) (context_of inner.text.now inner.names.now) tree) within.dialect
      ∙ ap (λ text. verdict scope.dialect text (signatures_in text inner.functions.now) (context_of inner.text.now inner.names.now) tree) within.text
      ∙ ap (λ functions. verdict scope.dialect scope.text.now (signatures_in scope.text.now functions) (context_of inner.text.now inner.names.now) tree) within.functions
      ∙ ap (λ c. verdict_at scope c tree) within.names

  condition_typed_within : (condition : Condition) → condition_typed_in inner condition ≡ condition_verdict_at scope context condition
  condition_typed_within always = refl
  condition_typed_within (only_where tree) = typed_within tree

module _ (inner scope : Scope) (items : List InputDeclaration)
    (within : Within inner scope (names_context items ++ inside (context_of scope.text.now scope.names.now)))
    (tree : Tree) {at : ℕ} (body : Tree) (binders : Binders) (condition : Condition)
    (is : tree ≡ each at body binders condition) (bound_by : binders_typed_in scope [] binders ≡ Ok items) where
  abbrev here : Context
  here = names_context items ++ inside (context_of scope.text.now scope.names.now)

  abbrev then_all : (List InputDeclaration) → Result Ty Refusal
  then_all all =
      and_then (both_of (condition_verdict_at scope (names_context all ++ inside (context_of scope.text.now scope.names.now)) condition)
      (verdict_at scope (names_context all ++ inside (context_of scope.text.now scope.names.now)) body)) (λ ts. of_each at binders ts.1 ts.0)

  whole : (r : Result TyTree Refusal) → IsVerdict ty_of (then_all items) r → IsVerdict ty_of (ruled_in scope tree) r
  whole r h = subst (λ x. IsVerdict ty_of (ruled_in scope x) r) (sym is)
      (answered_second ty_of (binders_typed_in scope [] binders) then_all items r bound_by h)

  pub each_condition_refused : (e : Refusal) (r : Result TyTree Refusal) → IsErr r × IsErrAnd r (λ g. g ≡ e)
      → (e ≡ NoMemory) ⊎ (condition_typed_in inner condition ≡ Err e) → IsVerdict ty_of (ruled_in scope tree) r
  each_condition_refused e r h v = whole r
      (refused_first ty_of (both_of (condition_verdict_at scope here condition) (verdict_at scope here body)) _ e r h
      (refused_left (condition_verdict_at scope here condition) (verdict_at scope here body) e
      (subst (λ z. (e ≡ NoMemory) ⊎ (z ≡ Err e)) (condition_typed_within inner scope here within condition) v)))

  pub each_body_refused : (t : Ty) (e : Refusal) (r : Result TyTree Refusal) → IsErr r × IsErrAnd r (λ g. g ≡ e)
      → condition_typed_in inner condition ≡ Ok t → (e ≡ NoMemory) ⊎ (typed_in inner body ≡ Err e) → IsVerdict ty_of (ruled_in scope tree) r
  each_body_refused t e r h there v = whole r
      (refused_first ty_of (both_of (condition_verdict_at scope here condition) (verdict_at scope here body)) _ e r h
      (refused_right (condition_verdict_at scope here condition) (verdict_at scope here body) t e
      (sym (condition_typed_within inner scope here within condition) ∙ there)
      (subst (λ z. (e ≡ NoMemory) ⊎ (z ≡ Err e)) (typed_within inner scope here within body) v)))

  pub each_answered : (t u : Ty) (r : Result TyTree Refusal)
      → condition_typed_in inner condition ≡ Ok t → typed_in inner body ≡ Ok u → IsVerdict ty_of (of_each at binders u t) r → IsVerdict ty_of (ruled_in scope tree) r
  each_answered t u r e f h = whole r
      (answered_second ty_of (both_of (condition_verdict_at scope here condition) (verdict_at scope here body)) _ (t, u) r
      (both_there _ _ t u (sym (condition_typed_within inner scope here within condition) ∙ e) (sym (typed_within inner scope here within body) ∙ f)) h)
