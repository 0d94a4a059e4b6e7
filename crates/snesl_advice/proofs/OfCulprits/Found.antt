-- What is found in parts is found in the whole.
use Rattle.std.proofs.Common.{◌≡◌, ℕ, Bool, true, false, suc, ◌+◌, ◌<◌, ◌≤◌, ◌⊎◌, inl, inr, List, [], ◌∷◌, map, drop, length, get_or, drop-cons}
use Rattle.std.proofs.Common.{drop_of_length-le, Option, Some, None, refl, sym, ap, subst, ◌∙◌, add-one}
use Rattle.std.specs.Option.{is_some, option_or, option_map}
use Rattle.snesl_grammar.specs.declared.tree.declaration.Declaration.{Declaration}
use Rattle.snesl_grammar.specs.declared.tree.expr.Binder.{Binder}
use Rattle.snesl_grammar.specs.declared.tree.expr.Expr.{Expr}
use Rattle.snesl_grammar.specs.tree.Tree.{Tree, Trees, Binders, Condition, each, none, both, none_bound, binder, DeclarationTree}
use Rattle.snesl_grammar.specs.declared.tree.span.Span.{Span}
use Rattle.snesl_grammar.specs.tree.View.{tree_of, trees_of, binders_of, declaration_of}
use Rattle.snesl_types.specs.Clashes.{Clash}
use Rattle.snesl_advice.specs.culprits.Offsets.{first_offset}
use Rattle.snesl_advice.proofs.OfCulprits.Others.{unrolled}
use Rattle.snesl_advice.specs.culprits.Culprits.{BeginsOne, IsCulprit, IsAmong, IsBound, IsDeclared, IsInside, IsOwnCulprit, of_itself, of_part, of_binder}
use Rattle.snesl_advice.specs.culprits.Culprits.{of_first, of_later, of_name, of_source, of_other, of_one, of_later_one, form_parts, condition_parts}
use Rattle.snesl_advice.specs.culprits.Culprits.{IsOfFunction, IsOfDeclaration}

neither : {A B : Type 0} → ¬ A → ¬ B → ¬ (A ⊎ B)
neither a b (inl x) = a x
neither a b (inr y) = b y

-- what begins one of the first or one of the others begins one of all
pub either_begins : (P Q R : Tree → Type 0) (a b : Option ℕ) → BeginsOne P a → BeginsOne Q b
    → ((part : Tree) → P part → R part) → ((part : Tree) → Q part → R part) → ((part : Tree) → R part → P part ⊎ Q part)
    → BeginsOne R (option_or a b)
either_begins P Q R (Some place) b h k p q r = (h.0, p h.0 h.1, h.2)
either_begins P Q R None (Some place) h k p q r = (k.0, q k.0 k.1, k.2)
either_begins P Q R None None h k p q r = λ part found. neither (h part) (k part) (r part found)

-- the part that an option has begins there
pub option_begins : (P : Tree → Type 0) (o : Option Tree) (r : Option ℕ) → r ≡ option_map first_offset o
    → ((part : Tree) → o ≡ Some part → P part) → ((part : Tree) → P part → o ≡ Some part) → BeginsOne P r
option_begins P None r e p q = subst (BeginsOne P) (sym e) (λ part found. let same = q part found in cc)
option_begins P (Some part) r e p q = subst (BeginsOne P) (sym e) (part, p part refl, refl)

module _ (at : ℕ) (clash : Clash) where
  abbrev In : Tree → Tree → Type 0
  In tree part = IsCulprit at clash part tree

  abbrev Among : Trees → Tree → Type 0
  Among trees part = IsAmong at clash part trees

  abbrev Bound : Binders → Tree → Type 0
  Bound binders part = IsBound at clash part binders

  abbrev Declares : List DeclarationTree → Tree → Type 0
  Declares declarations part = IsDeclared at clash part declarations

  among_cases : (first : Tree) (others : Trees) (part : Tree) → Among (both first others) part → In first part ⊎ Among others part
  among_cases first others part (of_first x) = inl x
  among_cases first others part (of_later x) = inr x

  not_among_none : (part : Tree) → ¬ Among none part
  not_among_none part x = elim x [ ]

  not_bound_by_none : (part : Tree) → ¬ Bound none_bound part
  not_bound_by_none part x = elim x [ ]

  pub among_none : BeginsOne (Among none) None
  among_none = not_among_none

  pub among_both : (first : Tree) (others : Trees) (a b : Option ℕ) → BeginsOne (In first) a → BeginsOne (Among others) b
      → BeginsOne (Among (both first others)) (option_or a b)
  among_both first others a b h k =
      either_begins (In first) (Among others) (Among (both first others)) a b h k (λ part x. of_first x) (λ part x. of_later x) (among_cases first others)

  or_none : (a : Option ℕ) → option_or a None ≡ a
  or_none None = refl
  or_none (Some place) = refl

  pub among_one : (first : Tree) (a : Option ℕ) → BeginsOne (In first) a → BeginsOne (Among (both first none)) a
  among_one first a h = subst (BeginsOne (Among (both first none))) (or_none a) (among_both first none a None h among_none)

  -- a comprehension
  pub inside_each : (start : ℕ) (within : Tree) (binders : Binders) (cond : Condition) (a b : Option ℕ) → BeginsOne (Among (both within (condition_parts cond))) a
      → BeginsOne (Bound binders) b → BeginsOne (IsInside at clash (each start within binders cond)) (option_or a b)
  inside_each start within binders cond a b h k =
      either_begins (Among (both within (condition_parts cond))) (Bound binders) (IsInside at clash (each start within binders cond)) a b h k (λ part x. inl x) (λ part x. inr x) (λ part x. x)

  of_inside : (tree part : Tree) → IsInside at clash tree part → In tree part
  of_inside (each start within binders cond) part (inl x) = of_part x
  of_inside (each start within binders cond) part (inr x) = of_binder x
  of_inside tree part x = of_part x

  inside_of_parts : (tree part : Tree) → Among (form_parts tree) part → IsInside at clash tree part
  inside_of_parts (each start within binders cond) part x = inl x
  inside_of_parts tree part x = x

  in_cases : (tree part : Tree) → In tree part → IsOwnCulprit at clash tree part ⊎ IsInside at clash tree part
  in_cases tree part (of_itself x) = inl x
  in_cases tree part (of_part x) = inr (inside_of_parts tree part x)
  in_cases tree part (of_binder x) = inr (inr x)

  pub in_tree : (tree : Tree) (a b : Option ℕ) → BeginsOne (IsOwnCulprit at clash tree) a → BeginsOne (IsInside at clash tree) b
      → BeginsOne (In tree) (option_or a b)
  in_tree tree a b h k = either_begins (IsOwnCulprit at clash tree) (IsInside at clash tree) (In tree) a b h k (λ part x. of_itself x) (of_inside tree) (in_cases tree)

  bound_cases : (place : Span) (over : Tree) (others : Binders) (part : Tree) → ¬ (place.at ≡ at) → Bound (binder place over others) part → In over part ⊎ Bound others part
  bound_cases place over others part other (of_name e) = absurd (other e)
  bound_cases place over others part other (of_source x) = inl x
  bound_cases place over others part other (of_other x) = inr x

  -- in a list, past one of its items

  is_none_of : (a : Option ℕ) → is_some a ≡ false → a ≡ None
  is_none_of None e = refl
  is_none_of (Some place) e = cc

  or_some : (a b : Option ℕ) → is_some a ≡ true → option_or a b ≡ a
  or_some (Some place) b e = refl
  or_some None b e = cc

  pub among_next : (all : List Expr) (i : ℕ) (one : Expr) (a r : Option ℕ) → i < length all → one ≡ get_or all i one
      → BeginsOne (In (tree_of one)) a → is_some a ≡ false → BeginsOne (Among (trees_of (drop (i + 1) all))) r
      → BeginsOne (Among (trees_of (drop i all))) r
  among_next all i one a r l is h other k =
      let whole = among_both (tree_of one) (trees_of (drop (i + 1) all)) a r h k in
      let at_rest : option_or a r ≡ r = ap (λ x. option_or x r) (is_none_of a other) in
      subst (λ x. BeginsOne (Among (trees_of x)) r) (sym (unrolled all i one l is)) (subst (BeginsOne (Among (trees_of (one ∷ drop (i + 1) all)))) at_rest whole)

  some_among : (first : Tree) (others : Trees) (a : Option ℕ) → BeginsOne (In first) a → is_some a ≡ true → BeginsOne (Among (both first others)) a
  some_among first others (Some place) h e = (h.0, of_first h.1, h.2)
  some_among first others None h e = cc

  pub among_here : (all : List Expr) (i : ℕ) (one : Expr) (a : Option ℕ) → i < length all → one ≡ get_or all i one
      → BeginsOne (In (tree_of one)) a → is_some a ≡ true → BeginsOne (Among (trees_of (drop i all))) a
  among_here all i one a l is h some =
      subst (λ x. BeginsOne (Among (trees_of x)) a) (sym (unrolled all i one l is)) (some_among (tree_of one) (trees_of (drop (i + 1) all)) a h some)

  bound_rest : (place : Span) (over : Tree) (others : Binders) (a r : Option ℕ) → ¬ (place.at ≡ at) → BeginsOne (In over) a → BeginsOne (Bound others) r
      → BeginsOne (Bound (binder place over others)) (option_or a r)
  bound_rest place over others a r other h k =
      either_begins (In over) (Bound others) (Bound (binder place over others)) a r h k (λ part x. of_source x) (λ part x. of_other x)
      (λ part x. bound_cases place over others part other x)

  pub bound_next : (binders : List Binder) (i : ℕ) (one : Binder) (a r : Option ℕ) → i < length binders → one ≡ get_or binders i one → ¬ (one.name.at ≡ at)
      → BeginsOne (In (tree_of one.source)) a → is_some a ≡ false → BeginsOne (Bound (binders_of (drop (i + 1) binders))) r
      → BeginsOne (Bound (binders_of (drop i binders))) r
  bound_next binders i one a r l is other h unfound k =
      let whole = bound_rest one.name (tree_of one.source) (binders_of (drop (i + 1) binders)) a r other h k in
      let at_rest : option_or a r ≡ r = ap (λ x. option_or x r) (is_none_of a unfound) in
      subst (λ x. BeginsOne (Bound (binders_of x)) r) (sym (unrolled binders i one l is)) (subst (BeginsOne (Bound (binders_of (one ∷ drop (i + 1) binders)))) at_rest whole)

  some_bound : (place : Span) (over : Tree) (others : Binders) (a : Option ℕ) → BeginsOne (In over) a → is_some a ≡ true
      → BeginsOne (Bound (binder place over others)) a
  some_bound place over others (Some begin) h e = (h.0, of_source h.1, h.2)
  some_bound place over others None h e = cc

  pub bound_here : (binders : List Binder) (i : ℕ) (one : Binder) (a : Option ℕ) → i < length binders → one ≡ get_or binders i one
      → BeginsOne (In (tree_of one.source)) a → is_some a ≡ true → BeginsOne (Bound (binders_of (drop i binders))) a
  bound_here binders i one a l is h some =
      subst (λ x. BeginsOne (Bound (binders_of x)) a) (sym (unrolled binders i one l is))
      (some_bound one.name (tree_of one.source) (binders_of (drop (i + 1) binders)) a h some)

  pub bound_by_name : (binders : List Binder) (i : ℕ) (one : Binder) (place : ℕ) → i < length binders → one ≡ get_or binders i one → one.name.at ≡ at
      → place ≡ first_offset (tree_of one.source) → BeginsOne (Bound (binders_of (drop i binders))) (Some place)
  bound_by_name binders i one place l is here begins =
      subst (λ x. BeginsOne (Bound (binders_of x)) (Some place)) (sym (unrolled binders i one l is)) (tree_of one.source, of_name here, begins)

  -- in declarations

  pub past_name : (place : Span) (within : Tree) (r : Option ℕ) → ¬ (place.at ≡ at) → BeginsOne (In within) r → BeginsOne (IsOfFunction at clash place within) r
  past_name place within r other h =
      either_begins (λ part. (place.at ≡ at) × (part ≡ within)) (In within) (IsOfFunction at clash place within) None r (λ part x. other x.0) h (λ part x. inl x) (λ part x. inr x) (λ part x. x)

  declared_cases : (first : DeclarationTree) (others : List DeclarationTree) (part : Tree) → Declares (first ∷ others) part → IsOfDeclaration at clash first part ⊎ Declares others part
  declared_cases first others part (of_one x) = inl x
  declared_cases first others part (of_later_one x) = inr x

  none_declared : (first : DeclarationTree) (others : List DeclarationTree) (a r : Option ℕ) → BeginsOne (IsOfDeclaration at clash first) a → is_some a ≡ false
      → BeginsOne (Declares others) r → BeginsOne (Declares (first ∷ others)) r
  none_declared first others a r h e k =
      subst (λ x. BeginsOne (Declares (first ∷ others)) (option_or x r)) (is_none_of a e)
      (either_begins (IsOfDeclaration at clash first) (Declares others) (Declares (first ∷ others)) a r h k (λ part x. of_one x) (λ part x. of_later_one x) (declared_cases first others))

  some_declared : (first : DeclarationTree) (others : List DeclarationTree) (a : Option ℕ) → BeginsOne (IsOfDeclaration at clash first) a → is_some a ≡ true
      → BeginsOne (Declares (first ∷ others)) a
  some_declared first others (Some begin) h e = (h.0, of_one h.1, h.2)
  some_declared first others None h e = cc

  pub declared_next : (all : List Declaration) (i : ℕ) (one : Declaration) (a r : Option ℕ) → i < length all → one ≡ get_or all i one
      → BeginsOne (IsOfDeclaration at clash (declaration_of one)) a → is_some a ≡ false → BeginsOne (Declares (map declaration_of (drop (i + 1) all))) r
      → BeginsOne (Declares (map declaration_of (drop i all))) r
  declared_next all i one a r l is h other k =
      subst (λ x. BeginsOne (Declares (map declaration_of x)) r) (sym (unrolled all i one l is)) (none_declared (declaration_of one) (map declaration_of (drop (i + 1) all)) a r h other k)

  pub declared_here : (all : List Declaration) (i : ℕ) (one : Declaration) (a : Option ℕ) → i < length all → one ≡ get_or all i one
      → BeginsOne (IsOfDeclaration at clash (declaration_of one)) a → is_some a ≡ true → BeginsOne (Declares (map declaration_of (drop i all))) a
  declared_here all i one a l is h some =
      subst (λ x. BeginsOne (Declares (map declaration_of x)) a) (sym (unrolled all i one l is)) (some_declared (declaration_of one) (map declaration_of (drop (i + 1) all)) a h some)

  -- past the last one

  pub among_end : (all : List Expr) (i : ℕ) → length all ≤ i → BeginsOne (Among (trees_of (drop i all))) None
  among_end all i l = subst (λ x. BeginsOne (Among (trees_of x)) None) (sym (drop_of_length-le all l)) not_among_none

  pub bound_end : (binders : List Binder) (i : ℕ) → length binders ≤ i → BeginsOne (Bound (binders_of (drop i binders))) None
  bound_end binders i l = subst (λ x. BeginsOne (Bound (binders_of x)) None) (sym (drop_of_length-le binders l)) not_bound_by_none

  not_declared_by_none : (part : Tree) → ¬ Declares [] part
  not_declared_by_none part x = elim x [ ]

  pub declared_end : (all : List Declaration) (i : ℕ) → length all ≤ i → BeginsOne (Declares (map declaration_of (drop i all))) None
  declared_end all i l = subst (λ x. BeginsOne (Declares (map declaration_of x)) None) (sym (drop_of_length-le all l)) not_declared_by_none
