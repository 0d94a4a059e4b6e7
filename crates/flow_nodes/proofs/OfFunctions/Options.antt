-- What partial functions on lists give, both ways.
use Rattle.std.specs.Prelude.{◌≡◌, ℕ, zero, suc, Bool, true, false, List, [], ◌∷◌, ◌++◌, map, length, Option, Some, None, option_map, Result, Ok, Err, refl}
use Rattle.std.specs.Result.{result_ok}
use Rattle.std.proofs.Common.{sym, ◌∙◌, ap}
use Rattle.std.proofs.Math.Path.{ap₂}
use Rattle.flow_base.specs.Flags.{concatenation, lengths}
use Rattle.flow_segment.specs.Rows.{Sides, lefts, rights, alternated}
use Rattle.flow_values.specs.laws.Kinds.{both_true}
use Rattle.flow_nodes.specs.functions.Lists.{bind, only_if, each, same_lists, paired, front, cut, interleave}

-- single steps

pub bind_gives : {A B : Type 0} (o : Option A) (next : A → Option B) {y : B} → bind o next ≡ Some y → (x : A) × (o ≡ Some x) × (next x ≡ Some y)
bind_gives None next e = absurd (cc)
bind_gives (Some x) next e = (x, refl, e)

pub map_gives : {A B : Type 0} (f : A → B) (o : Option A) {y : B} → option_map f o ≡ Some y → (x : A) × (o ≡ Some x) × (y ≡ f x)
map_gives f None e = absurd (cc)
map_gives f (Some x) {y = y} e = let same : y ≡ f x = cc in (x, refl, same)

pub only_if_gives : {A : Type 0} (test : Bool) (x : A) {y : A} → only_if test x ≡ Some y → (test ≡ true) × (y ≡ x)
only_if_gives true x {y = y} e = let same : y ≡ x = cc in (refl, same)
only_if_gives false x e = absurd (cc)

pub only_if_true : {A : Type 0} (test : Bool) (x : A) → test ≡ true → only_if test x ≡ Some x
only_if_true true x e = refl
only_if_true false x e = absurd (cc)

pub some_same : {A : Type 0} (x y : A) → Some x ≡ Some y → x ≡ y
some_same x y e = cc

pub ok_gives : {A E : Type 0} (r : Result A E) {x : A} → result_ok r ≡ Some x → r ≡ Ok x
ok_gives (Ok y) {x = x} e = let same : y ≡ x = cc in ap Ok same
ok_gives (Err kind) e = absurd (cc)

-- for each

pub each_forth : {A B Z : Type 0} (f : A → Option B) (l : Z → A) (r : Z → B) → ((z : Z) → f (l z) ≡ Some (r z)) → (zs : List Z) → each f (map l zs) ≡ Some (map r zs)
each_forth f l r h [] = refl
each_forth f l r h (z ∷ zs) = rw (h z, each_forth f l r h zs) refl

pub each_back : {A B Z : Type 0} (f : A → Option B) (l : Z → A) (r : Z → B) → ((a : A) (b : B) → f a ≡ Some b → (z : Z) × (a ≡ l z) × (b ≡ r z)) →
    (xs : List A) (ys : List B) → each f xs ≡ Some ys → (zs : List Z) × (xs ≡ map l zs) × (ys ≡ map r zs)
each_back f l r h [] ys e = let same : ys ≡ [] = cc in ([], refl, same)
each_back f l r h (x ∷ xs) ys e =
    let g = bind_gives (f x) (λ y. option_map (λ ys. y ∷ ys) (each f xs)) e in
    let k = map_gives (λ ys. g.0 ∷ ys) (each f xs) g.2 in
    let one = h x g.0 g.1 in
    let others = each_back f l r h xs k.0 k.1 in
    (one.0 ∷ others.0, ap₂ (λ x xs. x ∷ xs) one.1 others.1, k.2 ∙ ap₂ (λ x xs. x ∷ xs) one.2 others.2)

-- place by place

pub paired_forth : {A B : Type 0} (ps : List (A × B)) → paired (map (λ p. p.0) ps) (map (λ p. p.1) ps) ≡ Some ps
paired_forth [] = refl
paired_forth (p ∷ ps) = ap (option_map (λ ps. p ∷ ps)) (paired_forth ps)

pub paired_back : {A B : Type 0} (xs : List A) (ys : List B) (ps : List (A × B)) → paired xs ys ≡ Some ps → (xs ≡ map (λ p. p.0) ps) × (ys ≡ map (λ p. p.1) ps)
paired_back [] [] ps e = let same : [] ≡ ps = cc in (ap (map (λ p. p.0)) same, ap (map (λ p. p.1)) same)
paired_back (x ∷ xs) (y ∷ ys) ps e =
    let g = map_gives (λ ps. (x, y) ∷ ps) (paired xs ys) e in
    let others = paired_back xs ys g.0 g.1 in
    (ap (λ l. x ∷ l) others.0 ∙ ap (map (λ p. p.0)) (sym g.2), ap (λ l. y ∷ l) others.1 ∙ ap (map (λ p. p.1)) (sym g.2))
paired_back [] (y ∷ ys) ps e = absurd (cc)
paired_back (x ∷ xs) [] ps e = absurd (cc)

pub paired_map : {A B Z : Type 0} (l : Z → A) (r : Z → B) (zs : List Z) → paired (map l zs) (map r zs) ≡ Some (map (λ z. (l z, r z)) zs)
paired_map l r [] = refl
paired_map l r (z ∷ zs) = ap (option_map (λ ps. (l z, r z) ∷ ps)) (paired_map l r zs)

-- groups

pub front_forth : {A : Type 0} (l rest : List A) → front (length l) (l ++ rest) ≡ Some (l, rest)
front_forth [] rest = refl
front_forth (x ∷ l) rest = ap (option_map (λ p. (x ∷ p.0, p.1))) (front_forth l rest)

pub front_back : {A : Type 0} (n : ℕ) (xs : List A) (p : List A × List A) → front n xs ≡ Some p → (n ≡ length p.0) × (xs ≡ p.0 ++ p.1)
front_back zero xs p e = let same : ([], xs) ≡ p = some_same ([], xs) p e in (ap (λ p. length p.0) same, ap (λ p. p.0 ++ p.1) same)
front_back (suc n) [] p e = absurd (cc)
front_back (suc n) (x ∷ xs) p e =
    let g = map_gives (λ p. (x ∷ p.0, p.1)) (front n xs) e in
    let others = front_back n xs g.0 g.1 in
    (ap suc others.0 ∙ ap (λ p. length p.0) (sym g.2), ap (λ l. x ∷ l) others.1 ∙ ap (λ p. p.0 ++ p.1) (sym g.2))

pub cut_forth : {A : Type 0} (groups : List (List A)) → cut (lengths groups) (concatenation groups) ≡ Some groups
cut_forth [] = refl
cut_forth (l ∷ groups) = rw (front_forth l (concatenation groups), cut_forth groups) refl

pub cut_back : {A : Type 0} (ns : List ℕ) (xs : List A) (groups : List (List A)) → cut ns xs ≡ Some groups → (ns ≡ lengths groups) × (xs ≡ concatenation groups)
cut_back [] [] groups e = let same : [] ≡ groups = cc in (ap lengths same, ap concatenation same)
cut_back [] (x ∷ xs) groups e = absurd (cc)
cut_back (n ∷ ns) xs groups e =
    let g = bind_gives (front n xs) (λ p. option_map (λ groups. p.0 ∷ groups) (cut ns p.1)) e in
    let k = map_gives (λ groups. g.0.0 ∷ groups) (cut ns g.0.1) g.2 in
    let first = front_back n xs g.0 g.1 in
    let others = cut_back ns g.0.1 k.0 k.1 in
    (ap₂ (λ n ns. n ∷ ns) first.0 others.0 ∙ ap lengths (sym k.2), first.1 ∙ ap (λ l. g.0.0 ++ l) others.1 ∙ ap concatenation (sym k.2))

pub lengths_map : {A Z : Type 0} (f : Z → List A) (zs : List Z) → lengths (map f zs) ≡ map (λ z. length (f z)) zs
lengths_map f [] = refl
lengths_map f (z ∷ zs) = ap (λ l. length (f z) ∷ l) (lengths_map f zs)

pub map_map : {A B C : Type 0} (f : B → C) (g : A → B) (xs : List A) → map f (map g xs) ≡ map (λ x. f (g x)) xs
map_map f g [] = refl
map_map f g (x ∷ xs) = ap (λ l. f (g x) ∷ l) (map_map f g xs)

pub map_append : {A B : Type 0} (f : A → B) (xs ys : List A) → map f (xs ++ ys) ≡ map f xs ++ map f ys
map_append f [] ys = refl
map_append f (x ∷ xs) ys = ap (λ l. f x ∷ l) (map_append f xs ys)

pub map_joined : {A B : Type 0} (f : A → B) (ls : List (List A)) → map f (concatenation ls) ≡ concatenation (map (map f) ls)
map_joined f [] = refl
map_joined f (l ∷ ls) = map_append f l (concatenation ls) ∙ ap (λ m. map f l ++ m) (map_joined f ls)

-- what is taken alternately are the groups of both sides
pub interleave_forth : {A : Type 0} (xs : Sides A) → interleave (lengths (lefts xs)) (lengths (rights xs)) (concatenation (lefts xs)) (concatenation (rights xs)) ≡ Some (alternated xs)
interleave_forth xs = rw (cut_forth (lefts xs), cut_forth (rights xs), paired_forth xs) refl

pub record Interleaved {A : Type 0} (ns ms : List ℕ) (us vs r : List A) : Type 0 where
  pub sides : Sides A
  pub ns_are : ns ≡ lengths (lefts sides)
  pub ms_are : ms ≡ lengths (rights sides)
  pub us_are : us ≡ concatenation (lefts sides)
  pub vs_are : vs ≡ concatenation (rights sides)
  pub r_is : r ≡ alternated sides

pub interleave_back : {A : Type 0} (ns ms : List ℕ) (us vs r : List A) → interleave ns ms us vs ≡ Some r → Interleaved ns ms us vs r
interleave_back ns ms us vs r e =
    let s1 = bind_gives (cut ns us) _ e in
    let s2 = bind_gives (cut ms vs) _ s1.2 in
    let s3 = map_gives alternated (paired s1.0 s2.0) s2.2 in
    let both = paired_back s1.0 s2.0 s3.0 s3.1 in
    let c = cut_back ns us s1.0 s1.1 in
    let d = cut_back ms vs s2.0 s2.1 in
    record { sides = s3.0; ns_are = c.0 ∙ ap lengths both.0; ms_are = d.0 ∙ ap lengths both.1; us_are = c.1 ∙ ap concatenation both.0; vs_are = d.1 ∙ ap concatenation both.1; r_is = s3.2 }

-- the same lists

pub same_lists_forth : {A : Type 0} (same : A → A → Bool) → ((x : A) → same x x ≡ true) → (xs : List A) → same_lists same xs xs ≡ true
same_lists_forth same h [] = refl
same_lists_forth same h (x ∷ xs) = rw (h x) (same_lists_forth same h xs)

pub same_lists_back : {A : Type 0} (same : A → A → Bool) → ((x y : A) → same x y ≡ true → x ≡ y) → (xs ys : List A) → same_lists same xs ys ≡ true → xs ≡ ys
same_lists_back same h [] [] e = refl
same_lists_back same h [] (y ∷ ys) e = absurd (cc)
same_lists_back same h (x ∷ xs) [] e = absurd (cc)
same_lists_back same h (x ∷ xs) (y ∷ ys) e =
    let both = both_true (same x y) (same_lists same xs ys) e in
    ap₂ (λ x xs. x ∷ xs) (h x y both.0) (same_lists_back same h xs ys both.1)
