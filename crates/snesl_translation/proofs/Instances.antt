-- Answers at many instances at once.
use Rattle.std.specs.Prelude.{◌≡◌, suc, List, [], ◌∷◌, ◌++◌, map, length, zip, Option, Some, None, option_map, refl}
use Rattle.std.proofs.Common.{sym, ap, ◌∙◌}
use Rattle.flow_base.specs.Flags.{concatenation, lengths}
use Rattle.flow_nodes.specs.functions.Lists.{bind, each}
use Rattle.snesl_evaluation.specs.Answer.{Answer, gives, faults, go, go_all}
use Rattle.snesl_translation.specs.Carrying.{given_by}

pub given_go : {A B : Type 0} (answer : Answer A) (next : A → Answer B) → given_by (go answer next) ≡ bind (given_by answer) (λ x. given_by (next x))
given_go (gives x) next = refl
given_go (faults kind at) next = refl

pub each_same : {A B : Type 0} (f g : A → Option B) → ((x : A) → f x ≡ g x) → (xs : List A) → each f xs ≡ each g xs
each_same f g same [] = refl
each_same f g same (x ∷ xs) = ap (λ o. bind o (λ y. option_map (λ ys. y ∷ ys) (each f xs))) (same x) ∙ ap (λ o. bind (g x) (λ y. option_map (λ ys. y ∷ ys) o)) (each_same f g same xs)

-- a list of what there is, from one more and the others
more : {B : Type 0} → Option B → Option (List B) → Option (List B)
more o others = bind o (λ y. option_map (λ ys. y ∷ ys) others)

pub given_all : {A B : Type 0} (f : A → Answer B) (xs : List A) → given_by (go_all f xs) ≡ each (λ x. given_by (f x)) xs
given_all f [] = refl
given_all {B = B} f (x ∷ xs) = by_case (f x) (go_all f xs) ∙ ap (λ o. bind (given_by (f x)) (λ y. option_map (λ ys. y ∷ ys) o)) (given_all f xs)
  where
    by_case : (a : Answer B) (others : Answer (List B)) → given_by (go a (λ y. go others (λ ys. gives (y ∷ ys)))) ≡ bind (given_by a) (λ y. option_map (λ ys. y ∷ ys) (given_by others))
    by_case (gives y) (gives ys) = refl
    by_case (gives y) (faults kind at) = refl
    by_case (faults kind at) others = refl

pub nothing_left : {A B : Type 0} (o : Option A) → bind {B = B} o (λ x. None) ≡ None
nothing_left None = refl
nothing_left (Some x) = refl

-- two answers at each instance, and then one of both: all of the first, all of the second, and then of both place by place
pub each_two : {X A B C : Type 0} (f : X → Option A) (g : X → Option B) (h : A → B → Option C) (xs : List X)
    → each (λ x. bind (f x) (λ v. bind (g x) (h v))) xs ≡ bind (each f xs) (λ vs. bind (each g xs) (λ ws. each (λ p. h p.0 p.1) (zip vs ws)))
each_two f g h [] = refl
each_two {A = A} {B = B} f g h (x ∷ xs) =
    ap (λ o. bind (bind (f x) (λ v. bind (g x) (h v))) (λ y. option_map (λ ys. y ∷ ys) o)) (each_two f g h xs)
    ∙ by_case (f x) (g x) (each f xs) (each g xs)
  where
    by_case : (a : Option A) (b : Option B) (vs : Option (List A)) (ws : Option (List B))
        → bind (bind a (λ v. bind b (h v))) (λ y. option_map (λ ys. y ∷ ys) (bind vs (λ vs. bind ws (λ ws. each (λ p. h p.0 p.1) (zip vs ws)))))
        ≡ bind (bind a (λ v. option_map (λ vs. v ∷ vs) vs)) (λ vs. bind (bind b (λ w. option_map (λ ws. w ∷ ws) ws)) (λ ws. each (λ p. h p.0 p.1) (zip vs ws)))
    by_case None b vs ws = refl
    by_case (Some v) None None ws = refl
    by_case (Some v) None (Some vs) ws = refl
    by_case (Some v) (Some w) None ws = nothing_left (h v w)
    by_case (Some v) (Some w) (Some vs) None = nothing_left (h v w)
    by_case (Some v) (Some w) (Some vs) (Some ws) = refl

-- a first answer at each instance, and then one more that depends on it: all of the first, and then of the instances with them
pub each_then : {X A C : Type 0} (f : X → Option A) (h : X → A → Option C) (xs : List X)
    → each (λ x. bind (f x) (h x)) xs ≡ bind (each f xs) (λ vs. each (λ p. h p.0 p.1) (zip xs vs))
each_then f h [] = refl
each_then {A = A} f h (x ∷ xs) =
    ap (λ o. bind (bind (f x) (h x)) (λ y. option_map (λ ys. y ∷ ys) o)) (each_then f h xs) ∙ by_case (f x) (each f xs)
  where
    by_case : (a : Option A) (vs : Option (List A))
        → bind (bind a (h x)) (λ y. option_map (λ ys. y ∷ ys) (bind vs (λ vs. each (λ p. h p.0 p.1) (zip xs vs))))
        ≡ bind (bind a (λ v. option_map (λ vs. v ∷ vs) vs)) (λ vs. each (λ p. h p.0 p.1) (zip (x ∷ xs) vs))
    by_case None vs = refl
    by_case (Some v) None = nothing_left (h x v)
    by_case (Some v) (Some vs) = refl

-- an answer at what is made of each
pub each_map : {X Y B : Type 0} (f : Y → Option B) (make : X → Y) (xs : List X) → each f (map make xs) ≡ each (λ x. f (make x)) xs
each_map f make [] = refl
each_map f make (x ∷ xs) = ap (λ o. bind (f (make x)) (λ y. option_map (λ ys. y ∷ ys) o)) (each_map f make xs)

-- what is made of each answer
pub map_each : {X A B : Type 0} (f : X → Option A) (make : A → B) (xs : List X) → each (λ x. option_map make (f x)) xs ≡ option_map (map make) (each f xs)
map_each f make [] = refl
map_each {A = A} f make (x ∷ xs) = ap (λ o. bind (option_map make (f x)) (λ y. option_map (λ ys. y ∷ ys) o)) (map_each f make xs) ∙ by_case (f x) (each f xs)
  where
    by_case : (a : Option A) (vs : Option (List A)) → bind (option_map make a) (λ y. option_map (λ ys. y ∷ ys) (option_map (map make) vs))
        ≡ option_map (map make) (bind a (λ v. option_map (λ vs. v ∷ vs) vs))
    by_case None vs = refl
    by_case (Some v) None = refl
    by_case (Some v) (Some vs) = refl

-- as many answers as instances
pub each_length : {X A : Type 0} (f : X → Option A) (xs : List X) (vs : List A) → each f xs ≡ Some vs → length vs ≡ length xs
each_length f [] vs e = let same : [] ≡ vs = cc in ap length (sym same)
each_length {A = A} f (x ∷ xs) vs e = by_case (f x) (each f xs) (each_length f xs) e
  where
    by_case : (a : Option A) (others : Option (List A)) → ((ws : List A) → others ≡ Some ws → length ws ≡ length xs)
        → bind a (λ y. option_map (λ ys. y ∷ ys) others) ≡ Some vs → length vs ≡ suc (length xs)
    by_case None others long e = absurd (cc)
    by_case (Some v) None long e = absurd (cc)
    by_case (Some v) (Some ws) long e = let same : v ∷ ws ≡ vs = cc in ap length (sym same) ∙ ap suc (long ws refl)

-- groups

-- the answers of two lists, one after the other
pub each_append : {X A : Type 0} (f : X → Option A) (xs ys : List X) → each f (xs ++ ys) ≡ bind (each f xs) (λ vs. option_map (λ ws. vs ++ ws) (each f ys))
each_append {A = A} f [] ys = by_case (each f ys)
  where
    by_case : (o : Option (List A)) → o ≡ option_map (λ ws. [] ++ ws) o
    by_case None = refl
    by_case (Some ws) = refl
each_append {A = A} f (x ∷ xs) ys = ap (λ o. bind (f x) (λ y. option_map (λ ys. y ∷ ys) o)) (each_append f xs ys) ∙ by_case (f x) (each f xs) (each f ys)
  where
    by_case : (a : Option A) (vs ws : Option (List A)) → bind a (λ y. option_map (λ ys. y ∷ ys) (bind vs (λ vs. option_map (λ ws. vs ++ ws) ws)))
        ≡ bind (bind a (λ v. option_map (λ vs. v ∷ vs) vs)) (λ vs. option_map (λ ws. vs ++ ws) ws)
    by_case None vs ws = refl
    by_case (Some v) None ws = refl
    by_case (Some v) (Some vs) None = refl
    by_case (Some v) (Some vs) (Some ws) = refl

-- all answers of groups are those of the groups joined
pub each_joined : {X A : Type 0} (f : X → Option A) (groups : List (List X)) → option_map concatenation (each (each f) groups) ≡ each f (concatenation groups)
each_joined f [] = refl
each_joined {A = A} f (g ∷ groups) = by_case (each f g) (each (each f) groups)
    ∙ ap (λ o. bind (each f g) (λ vs. option_map (λ ws. vs ++ ws) o)) (each_joined f groups) ∙ sym (each_append f g (concatenation groups))
  where
    by_case : (vs : Option (List A)) (others : Option (List (List A))) → option_map concatenation (bind vs (λ v. option_map (λ o. v ∷ o) others))
        ≡ bind vs (λ vs. option_map (λ ws. vs ++ ws) (option_map concatenation others))
    by_case None others = refl
    by_case (Some vs) None = refl
    by_case (Some vs) (Some others) = refl

-- and they have the lengths of the groups
pub each_lengths : {X A : Type 0} (f : X → Option A) (groups : List (List X)) (all : List (List A)) → each (each f) groups ≡ Some all → lengths all ≡ lengths groups
each_lengths f [] all e = let same : [] ≡ all = cc in ap lengths (sym same)
each_lengths {A = A} f (g ∷ groups) all e = by_case (each f g) (each (each f) groups) (each_length f g) (each_lengths f groups) e
  where
    by_case : (vs : Option (List A)) (others : Option (List (List A))) → ((ws : List A) → vs ≡ Some ws → length ws ≡ length g)
        → ((all : List (List A)) → others ≡ Some all → lengths all ≡ lengths groups)
        → bind vs (λ v. option_map (λ o. v ∷ o) others) ≡ Some all → lengths all ≡ length g ∷ lengths groups
    by_case None others one rest e = absurd (cc)
    by_case (Some vs) None one rest e = absurd (cc)
    by_case (Some vs) (Some others) one rest e =
        let same : vs ∷ others ≡ all = cc in
        ap lengths (sym same) ∙ ap (λ n. n ∷ lengths others) (one vs refl) ∙ ap (λ l. length g ∷ l) (rest others refl)
