-- The first part of another type, past those that fit.
use Rattle.std.proofs.Common.{◌≡◌, ℕ, zero, suc, ◌+◌, ◌≤◌, ◌<◌, min, true, false, cond, List, [], ◌∷◌, map, drop, length, get_or, length-drop}
use Rattle.std.proofs.Common.{drop-cons, Option, Some, None, refl, sym, ap, subst, ◌∙◌, add-one, arith}
use Rattle.snesl_data.specs.declared.ty.Ty.{Ty as TyTree}
use Rattle.snesl_data.specs.Types.{ty_of, is_same}
use Rattle.snesl_grammar.specs.declared.tree.expr.Expr.{Expr}
use Rattle.snesl_grammar.specs.tree.Tree.{Tree, both}
use Rattle.snesl_grammar.specs.tree.View.{tree_of, trees_of}
use Rattle.snesl_grammar.specs.declared.tree.operator.Builtin.{Builtin}
use Rattle.snesl_grammar.specs.declared.tree.operator.Builtin.TheVariants.{Part}
use Rattle.snesl_types.specs.Clashes.{Clash}
use Rattle.snesl_advice.specs.culprits.Faults.{argument_at_fault, other_than}

-- what is left of a list from an item on
pub unrolled : {A : Type 0} (xs : List A) (i : ℕ) (one : A) → i < length xs → one ≡ get_or xs i one → drop i xs ≡ one ∷ drop (i + 1) xs
unrolled xs i one l is = drop-cons xs i one l ∙ ap (λ x. x ∷ drop (suc i) xs) (sym is) ∙ ap (λ k. one ∷ drop k xs) (sym (add-one i))

-- the first part of another type from this place on
abbrev pub rest : (us ts : List TyTree) → List Expr → ℕ → Option Tree
rest us ts parts i = other_than (map ty_of (drop i us)) (map ty_of (drop i ts)) (trees_of (drop i parts))

module _ (us ts : List TyTree) (parts : List Expr) (i : ℕ) (u t : TyTree) (part : Expr)
    (in_us : i < length us) (in_ts : i < length ts) (in_parts : i < length parts)
    (u_is : u ≡ get_or us i u) (t_is : t ≡ get_or ts i t) (part_is : part ≡ get_or parts i part) where
  at_place : rest us ts parts i ≡ cond (is_same (ty_of t) (ty_of u)) (rest us ts parts (i + 1)) (Some (tree_of part))
  at_place =
      ap (λ l. other_than (map ty_of l) (map ty_of (drop i ts)) (trees_of (drop i parts))) (unrolled us i u in_us u_is)
      ∙ ap (λ l. other_than (map ty_of (u ∷ drop (i + 1) us)) (map ty_of l) (trees_of (drop i parts))) (unrolled ts i t in_ts t_is)
      ∙ ap (λ l. other_than (map ty_of (u ∷ drop (i + 1) us)) (map ty_of (t ∷ drop (i + 1) ts)) (trees_of l)) (unrolled parts i part in_parts part_is)

  pub same_at : is_same (ty_of t) (ty_of u) ≡ true → rest us ts parts i ≡ rest us ts parts (i + 1)
  same_at e = at_place ∙ ap (λ b. cond b (rest us ts parts (i + 1)) (Some (tree_of part))) e

  pub other_at : is_same (ty_of t) (ty_of u) ≡ false → rest us ts parts i ≡ Some (tree_of part)
  other_at e = at_place ∙ ap (λ b. cond b (rest us ts parts (i + 1)) (Some (tree_of part))) e

over : (us ts : List TyTree) (parts : List Expr) → min (min (length us) (length ts)) (length parts) ≤ 0
    → other_than (map ty_of us) (map ty_of ts) (trees_of parts) ≡ None
over [] ts parts e = refl
over (u ∷ us) [] parts e = refl
over (u ∷ us) (t ∷ ts) [] e = refl
over (u ∷ us) (t ∷ ts) (part ∷ parts) e = absurd (omega arith)

-- nothing is left where one of the lists ends
pub none_left : (us ts : List TyTree) (parts : List Expr) (i : ℕ) → min (min (length us) (length ts)) (length parts) ≤ i → rest us ts parts i ≡ None
none_left us ts parts i e =
    let a = length-drop i us in
    let b = length-drop i ts in
    let c = length-drop i parts in
    over (drop i us) (drop i ts) (drop i parts) (omega arith)

-- there is one at each place
pub one_at : (parts : List Expr) (i : ℕ) → i < length parts → (part : Expr) × (part ≡ get_or parts i part)
one_at [] i l = absurd (omega arith)
one_at (part ∷ parts) zero l = (part, refl)
one_at (part ∷ parts) (suc i) l = one_at parts i (omega arith)

-- no built-in function takes three arguments
pub too_many : (clash : Clash) (function : Builtin) (all : List Expr) → 3 ≤ length all → argument_at_fault clash function (trees_of all) ≡ None
too_many clash function [] l = absurd (omega arith)
too_many clash function (first ∷ []) l = absurd (omega arith)
too_many clash function (first ∷ second ∷ []) l = absurd (omega arith)
too_many clash Part (first ∷ second ∷ third ∷ all) l = refl
too_many clash function (first ∷ second ∷ third ∷ all) l = refl
