-- Nodes that only move items do to encoded items what they do to the items themselves.
use Rattle.std.specs.Prelude.{◌≡◌, ℕ, zero, suc, Bool, true, false, List, [], ◌∷◌, ◌++◌, map, replicate, Option, Some, None, option_map, refl}
use Rattle.std.proofs.Common.{sym, ◌∙◌, ap}
use Rattle.std.proofs.Math.Path.{ap₂}
use Rattle.flow_segment.specs.Rows.{Sides, alternated}
use Rattle.flow_nodes.specs.functions.Lists.{bind, paired, front, cut, copied, dist, kept, pack, interleave}
use Rattle.flow_nodes.proofs.OfFunctions.Options.{map_append}

-- a function of what is there, and then another
pub map_some_map : {A B C : Type 0} (g : B → C) (h : A → B) (o : Option A) → option_map g (option_map h o) ≡ option_map (λ x. g (h x)) o
map_some_map g h None = refl
map_some_map g h (Some x) = refl

-- two functions of what is there, which give the same
pub map_some_same : {A B : Type 0} (g h : A → B) (o : Option A) → ((x : A) → g x ≡ h x) → option_map g o ≡ option_map h o
map_some_same g h None same = refl
map_some_same g h (Some x) same = ap Some (same x)

module _ {A B : Type 0} (f : A → B) where
  -- places

  abbrev beside : {C : Type 0} → C × A → C × B
  beside p = (p.0, f p.1)

  paired_beside : {C : Type 0} (ys : List C) (xs : List A) → paired ys (map f xs) ≡ option_map (map beside) (paired ys xs)
  paired_beside [] [] = refl
  paired_beside [] (x ∷ xs) = refl
  paired_beside (y ∷ ys) [] = refl
  paired_beside (y ∷ ys) (x ∷ xs) =
      ap (option_map (λ ps. (y, f x) ∷ ps)) (paired_beside ys xs)
      ∙ map_some_map (λ ps. (y, f x) ∷ ps) (map beside) (paired ys xs)
      ∙ sym (map_some_map (map beside) (λ ps. (y, x) ∷ ps) (paired ys xs))

  copies_map : (n : ℕ) (x : A) → map f (replicate n x) ≡ replicate n (f x)
  copies_map zero x = refl
  copies_map (suc n) x = ap (λ l. f x ∷ l) (copies_map n x)

  copied_map : (ps : List (ℕ × A)) → copied (map beside ps) ≡ map f (copied ps)
  copied_map [] = refl
  copied_map (p ∷ ps) = ap₂ (λ a b. a ++ b) (sym (copies_map p.0 p.1)) (copied_map ps) ∙ sym (map_append f (replicate p.0 p.1) (copied ps))

  pub dist_map : (ns : List ℕ) (xs : List A) → dist ns (map f xs) ≡ option_map (map f) (dist ns xs)
  dist_map ns xs =
      ap (option_map copied) (paired_beside ns xs) ∙ map_some_map copied (map beside) (paired ns xs)
      ∙ map_some_same (λ ps. copied (map beside ps)) (λ ps. map f (copied ps)) (paired ns xs) copied_map
      ∙ sym (map_some_map (map f) copied (paired ns xs))

  kept_map : (ps : List (Bool × A)) → kept (map beside ps) ≡ map f (kept ps)
  kept_map [] = refl
  kept_map ((true, x) ∷ ps) = ap (λ l. f x ∷ l) (kept_map ps)
  kept_map ((false, x) ∷ ps) = kept_map ps

  pub pack_map : (bs : List Bool) (xs : List A) → pack bs (map f xs) ≡ option_map (map f) (pack bs xs)
  pack_map bs xs =
      ap (option_map kept) (paired_beside bs xs) ∙ map_some_map kept (map beside) (paired bs xs)
      ∙ map_some_same (λ ps. kept (map beside ps)) (λ ps. map f (kept ps)) (paired bs xs) kept_map
      ∙ sym (map_some_map (map f) kept (paired bs xs))

  -- groups

  abbrev both_parts : List A × List A → List B × List B
  both_parts p = (map f p.0, map f p.1)

  front_map : (n : ℕ) (xs : List A) → front n (map f xs) ≡ option_map both_parts (front n xs)
  front_map zero xs = refl
  front_map (suc n) [] = refl
  front_map (suc n) (x ∷ xs) =
      ap (option_map (λ p. (f x ∷ p.0, p.1))) (front_map n xs)
      ∙ map_some_map (λ p. (f x ∷ p.0, p.1)) both_parts (front n xs)
      ∙ sym (map_some_map both_parts (λ p. (x ∷ p.0, p.1)) (front n xs))

  abbrev cut_after : {C : Type 0} → List ℕ → Option (List C × List C) → Option (List (List C))
  cut_after ns o = bind o (λ p. option_map (λ groups. p.0 ∷ groups) (cut ns p.1))

  after_map : (ns : List ℕ) (o : Option (List A × List A)) → ((xs : List A) → cut ns (map f xs) ≡ option_map (map (map f)) (cut ns xs)) →
      cut_after ns (option_map both_parts o) ≡ option_map (map (map f)) (cut_after ns o)
  after_map ns None ih = refl
  after_map ns (Some (l, rest)) ih =
      ap (option_map (λ groups. map f l ∷ groups)) (ih rest)
      ∙ map_some_map (λ groups. map f l ∷ groups) (map (map f)) (cut ns rest)
      ∙ sym (map_some_map (map (map f)) (λ groups. l ∷ groups) (cut ns rest))

  pub cut_map : (ns : List ℕ) (xs : List A) → cut ns (map f xs) ≡ option_map (map (map f)) (cut ns xs)
  cut_map [] [] = refl
  cut_map [] (x ∷ xs) = refl
  cut_map (n ∷ ns) xs = ap (cut_after ns) (front_map n xs) ∙ after_map ns (front n xs) (cut_map ns)

  paired_groups : (ls rs : List (List A)) → paired (map (map f) ls) (map (map f) rs) ≡ option_map (map both_parts) (paired ls rs)
  paired_groups [] [] = refl
  paired_groups [] (r ∷ rs) = refl
  paired_groups (l ∷ ls) [] = refl
  paired_groups (l ∷ ls) (r ∷ rs) =
      ap (option_map (λ ps. (map f l, map f r) ∷ ps)) (paired_groups ls rs)
      ∙ map_some_map (λ ps. (map f l, map f r) ∷ ps) (map both_parts) (paired ls rs)
      ∙ sym (map_some_map (map both_parts) (λ ps. (l, r) ∷ ps) (paired ls rs))

  alternated_map : (ps : Sides A) → alternated (map both_parts ps) ≡ map f (alternated ps)
  alternated_map [] = refl
  alternated_map ((u, v) ∷ ps) = ap (λ l. map f u ++ (map f v ++ l)) (alternated_map ps) ∙ sym (map_append f u (v ++ alternated ps) ∙ ap (λ l. map f u ++ l) (map_append f v (alternated ps)))

  abbrev alternated_both : {C : Type 0} → Option (List (List C)) → Option (List (List C)) → Option (List C)
  alternated_both o q = bind o (λ ls. bind q (λ rs. option_map alternated (paired ls rs)))

  both_map : (o q : Option (List (List A))) → alternated_both (option_map (map (map f)) o) (option_map (map (map f)) q) ≡ option_map (map f) (alternated_both o q)
  both_map None q = refl
  both_map (Some ls) None = refl
  both_map (Some ls) (Some rs) =
      ap (option_map alternated) (paired_groups ls rs) ∙ map_some_map alternated (map both_parts) (paired ls rs)
      ∙ map_some_same (λ ps. alternated (map both_parts ps)) (λ ps. map f (alternated ps)) (paired ls rs) alternated_map
      ∙ sym (map_some_map (map f) alternated (paired ls rs))

  pub interleave_map : (ns ms : List ℕ) (xs ys : List A) → interleave ns ms (map f xs) (map f ys) ≡ option_map (map f) (interleave ns ms xs ys)
  interleave_map ns ms xs ys = ap₂ alternated_both (cut_map ns xs) (cut_map ms ys) ∙ both_map (cut ns xs) (cut ms ys)
