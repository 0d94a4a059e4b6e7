-- Arguments and binders in vectors and in trees.
use Rattle.std.proofs.Common.{◌≡◌, ℕ, suc, max, List, [], ◌∷◌, ◌++◌, length, Vec, Global, refl, ap, ◌∙◌, arith}
use Rattle.snesl_grammar.specs.declared.tree.expr.Expr.{Expr}
use Rattle.snesl_grammar.specs.declared.tree.expr.Expr.TheBlock.{hidden-the_row-Binder-1}
use Rattle.snesl_grammar.specs.declared.tree.expr.Binder.{Binder}
use Rattle.snesl_grammar.specs.declared.tree.span.Span.{Span}
use Rattle.snesl_grammar.specs.tree.Tree.{Tree, Trees, Binders, Condition, none, both, none_bound, binder, each, depth, depth_of_all, depth_of_binders}
use Rattle.snesl_grammar.specs.tree.View.{tree_of, trees_of, binder_row, binders_of}
use Rattle.snesl_grammar.proofs.OfTree.Arguments.{binders_row}
use Rattle.snesl_grammar.specs.Expressions.{added, bound_also, binder_count}

depth-added : (args : Trees) (e : Tree) → depth_of_all (added args e) ≡ max (depth_of_all args) (depth e)
depth-added none e = omega arith
depth-added (both x others) e = let h : depth_of_all (added others e) ≡ max (depth_of_all others) (depth e) = depth-added others e in omega arith

depth-bound_also : (bs : Binders) (place : Span) (e : Tree) → depth_of_binders (bound_also bs place e) ≡ max (depth_of_binders bs) (depth e)
depth-bound_also none_bound place e = omega arith
depth-bound_also (binder p x others) place e =
    let h : depth_of_binders (bound_also others place e) ≡ max (depth_of_binders others) (depth e) = depth-bound_also others place e in
    omega arith

pub trees_of-push : (es : List Expr) (e : Expr) → trees_of (es ++ e ∷ []) ≡ added (trees_of es) (tree_of e)
trees_of-push [] e = refl
trees_of-push (x ∷ es) e = ap (both (tree_of x)) (trees_of-push es e)

pub depth-push : (es : List Expr) (e : Expr) → depth_of_all (trees_of (es ++ e ∷ [])) ≡ max (depth_of_all (trees_of es)) (depth (tree_of e))
depth-push es e = ap depth_of_all (trees_of-push es e) ∙ depth-added (trees_of es) (tree_of e)

pub binders_of-push : (bs : List Binder) (b : Binder) → binders_of (bs ++ b ∷ []) ≡ bound_also (binders_of bs) b.name (tree_of b.source)
binders_of-push [] b = refl
binders_of-push (x ∷ bs) b = ap (binder x.name (tree_of x.source)) (binders_of-push bs b)

pub depth_of_binders-push : (bs : List Binder) (b : Binder) → depth_of_binders (binders_of (bs ++ b ∷ [])) ≡ max (depth_of_binders (binders_of bs)) (depth (tree_of b.source))
depth_of_binders-push bs b = ap depth_of_binders (binders_of-push bs b) ∙ depth-bound_also (binders_of bs) b.name (tree_of b.source)

pub binder_count-binders_of : (bs : List Binder) → binder_count (binders_of bs) ≡ length bs
binder_count-binders_of [] = refl
binder_count-binders_of (b ∷ bs) = ap suc (binder_count-binders_of bs)

-- a comprehension's tree
pub each_listed : (at : ℕ) (body : Expr) (binders : Vec Binder Global) (condition : Condition)
    → each at (tree_of body) (binder_row (hidden-the_row-Binder-1 binders)) condition ≡ each at (tree_of body) (binders_of binders.items) condition
each_listed at body binders condition = ap (λ bs. each at (tree_of body) bs condition) (binders_row binders)
