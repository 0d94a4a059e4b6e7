-- Extents in lists, item by item.
use Rattle.std.proofs.Common.{◌≡◌, ◌∙◌, ℕ, Bool, true, false, suc, ◌+◌, ◌<◌, ◌≤◌, List, [], ◌∷◌, map, drop, length, get_or, drop-cons, drop_of_length-le, Option, Some, None, refl, sym, ap, add-one}
use Rattle.std.specs.Option.{is_some, option_or}
use Rattle.snesl_grammar.specs.declared.tree.declaration.Declaration.{Declaration}
use Rattle.snesl_grammar.specs.declared.tree.expr.Binder.{Binder}
use Rattle.snesl_grammar.specs.declared.tree.expr.Expr.{Expr}
use Rattle.snesl_grammar.specs.tree.View.{tree_of, trees_of, binders_of, declaration_of}
use Rattle.snesl_draw.specs.Forms.{extent_among, extent_in, extent_in_declaration, extent_in_declarations, extent_in_sources}
use Rattle.snesl_draw.specs.declared.extent.Extent.{Extent}

-- what is left of a list from an item on
pub unrolled : {A : Type 0} (xs : List A) (i : ℕ) (one : A) → i < length xs → one ≡ get_or xs i one → drop i xs ≡ one ∷ drop (i + 1) xs
unrolled xs i one l is = drop-cons xs i one l ∙ ap (λ x. x ∷ drop (suc i) xs) (sym is) ∙ ap (λ k. one ∷ drop k xs) (sym (add-one i))

or_none : (a b : Option Extent) → is_some a ≡ false → option_or a b ≡ b
or_none None b e = refl
or_none (Some extent) b e = cc

or_some : (a b : Option Extent) → is_some a ≡ true → option_or a b ≡ a
or_some (Some extent) b e = refl
or_some None b e = cc

-- a function of lists that takes its first value from the items in order
module _ {A : Type 0} (first : A → Option Extent) (whole : List A → Option Extent) (xs : List A) (i : ℕ) (one : A) (a : Option Extent)
    (by_items : (x : A) (others : List A) → whole (x ∷ others) ≡ option_or (first x) (whole others))
    (l : i < length xs) (is : one ≡ get_or xs i one) (h : a ≡ first one) where
  at_item : whole (drop i xs) ≡ option_or a (whole (drop (i + 1) xs))
  at_item = ap whole (unrolled xs i one l is) ∙ by_items one (drop (i + 1) xs) ∙ ap (λ x. option_or x (whole (drop (i + 1) xs))) (sym h)

  pub past_item : is_some a ≡ false → whole (drop (i + 1) xs) ≡ whole (drop i xs)
  past_item e = sym (at_item ∙ or_none a (whole (drop (i + 1) xs)) e)

  pub at_this : is_some a ≡ true → a ≡ whole (drop i xs)
  at_this e = sym (at_item ∙ or_some a (whole (drop (i + 1) xs)) e)

module _ (at : ℕ) where
  abbrev pub among_all : List Expr → Option Extent
  among_all all = extent_among at (trees_of all)

  abbrev pub bound_all : List Binder → Option Extent
  bound_all binders = extent_in_sources at (binders_of binders)

  abbrev pub declared_all : List Declaration → Option Extent
  declared_all declarations = extent_in_declarations at (map declaration_of declarations)

  pub among_items : (x : Expr) (others : List Expr) → among_all (x ∷ others) ≡ option_or (extent_in at (tree_of x)) (among_all others)
  among_items x others = refl

  pub bound_items : (x : Binder) (others : List Binder) → bound_all (x ∷ others) ≡ option_or (extent_in at (tree_of x.source)) (bound_all others)
  bound_items x others = refl

  pub declared_items : (x : Declaration) (others : List Declaration)
      → declared_all (x ∷ others) ≡ option_or (extent_in_declaration at (declaration_of x)) (declared_all others)
  declared_items x others = refl

  pub among_end : (all : List Expr) (i : ℕ) → length all ≤ i → None ≡ among_all (drop i all)
  among_end all i l = sym (ap among_all (drop_of_length-le all l))

  pub bound_end : (binders : List Binder) (i : ℕ) → length binders ≤ i → None ≡ bound_all (drop i binders)
  bound_end binders i l = sym (ap bound_all (drop_of_length-le binders l))

  pub declared_end : (declarations : List Declaration) (i : ℕ) → length declarations ≤ i → None ≡ declared_all (drop i declarations)
  declared_end declarations i l = sym (ap declared_all (drop_of_length-le declarations l))
