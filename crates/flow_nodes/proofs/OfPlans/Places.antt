-- What stands at a place of a list, of columns, and of the numbers of streams.
use Rattle.std.specs.Prelude.{◌≡◌, ℕ, zero, suc, ◌+◌, ◌<◌, List, [], ◌∷◌, ◌++◌, length, replicate, Option, Some, option_map, refl}
use Rattle.std.specs.List.{slice_get}
use Rattle.std.proofs.Common.{sym, ◌∙◌, ap, arith}
use Rattle.std.proofs.Math.Path.{ap₂}
use Rattle.flow_messages.specs.Cells.{Cell}
use Rattle.flow_messages.specs.declared.message.Kind.{Kind}
use Rattle.flow_base.specs.Lists.{Lists}
use Rattle.flow_base.specs.Columns.{Columns, columns}
use Rattle.flow_nodes.specs.functions.Lists.{bind, each}
use Rattle.flow_nodes.proofs.OfFunctions.Options.{bind_gives, map_gives, some_same}
use Rattle.flow_nodes.specs.plans.Layouts.{numbered}

pub get_left : {A : Type 0} (xs ys : List A) (k : ℕ) (x : A) → slice_get xs k ≡ Some x → slice_get (xs ++ ys) k ≡ Some x
get_left [] ys k x e = absurd (cc)
get_left (y ∷ xs) ys zero x e = e
get_left (y ∷ xs) ys (suc k) x e = get_left xs ys k x e

pub get_right : {A : Type 0} (xs ys : List A) (j k : ℕ) → j ≡ length xs + k → slice_get (xs ++ ys) j ≡ slice_get ys k
get_right [] ys j k e = let same : j ≡ k = omega (arith, e) in ap (slice_get ys) same
get_right (x ∷ xs) ys zero k e = absurd (omega arith)
get_right (x ∷ xs) ys (suc j) k e = get_right xs ys j k (omega arith)

pub get_there : {A : Type 0} (xs : List A) (k : ℕ) → k < length xs → (x : A) × (slice_get xs k ≡ Some x)
get_there [] k lt = absurd (omega arith)
get_there (x ∷ xs) zero lt = (x, refl)
get_there (x ∷ xs) (suc k) lt = get_there xs k (omega arith)

pub replicate_place : {A : Type 0} (n : ℕ) (x : A) (q : ℕ) → q < n → slice_get (replicate n x) q ≡ Some x
replicate_place zero x q lt = absurd (omega arith)
replicate_place (suc n) x zero lt = refl
replicate_place (suc n) x (suc q) lt = replicate_place n x q (omega arith)

pub numbered_place : (s : ℕ) (kinds : List Kind) (q : ℕ) → q < length kinds → slice_get (numbered s kinds) q ≡ Some (s + q)
numbered_place s [] q lt = absurd (omega arith)
numbered_place s (kind ∷ kinds) zero lt = let same : s ≡ s + zero = omega arith in ap Some same
numbered_place s (kind ∷ kinds) (suc q) lt = let same : suc s + q ≡ s + suc q = omega arith in numbered_place (suc s) kinds q (omega arith) ∙ ap Some same

-- what a function gives for each item stands at the item's place

pub each_length : {A B : Type 0} (f : A → Option B) (xs : List A) (ys : List B) → each f xs ≡ Some ys → length ys ≡ length xs
each_length f [] ys e = ap length (sym (some_same [] ys e))
each_length f (x ∷ xs) ys e =
    let g = bind_gives (f x) (λ y. option_map (λ ys. y ∷ ys) (each f xs)) e in
    let k = map_gives (λ ys. g.0 ∷ ys) (each f xs) g.2 in
    ap length k.2 ∙ ap suc (each_length f xs k.0 k.1)

pub each_place : {A B : Type 0} (f : A → Option B) (xs : List A) (ys : List B) → each f xs ≡ Some ys → (p : ℕ) → p < length xs → bind (slice_get xs p) f ≡ slice_get ys p
each_place f [] ys e p lt = absurd (omega arith)
each_place f (x ∷ xs) ys e zero lt =
    let g = bind_gives (f x) (λ y. option_map (λ ys. y ∷ ys) (each f xs)) e in
    let k = map_gives (λ ys. g.0 ∷ ys) (each f xs) g.2 in
    g.1 ∙ ap (λ l. slice_get l zero) (sym k.2)
each_place f (x ∷ xs) ys e (suc p) lt =
    let g = bind_gives (f x) (λ y. option_map (λ ys. y ∷ ys) (each f xs)) e in
    let k = map_gives (λ ys. g.0 ∷ ys) (each f xs) g.2 in
    each_place f xs k.0 k.1 p (omega arith) ∙ ap (λ l. slice_get l (suc p)) (sym k.2)

pub each_more : {A B : Type 0} (f g : A → Option B) → ((x : A) (y : B) → f x ≡ Some y → g x ≡ Some y) → (xs : List A) (ys : List B) → each f xs ≡ Some ys → each g xs ≡ Some ys
each_more f g more [] ys e = e
each_more f g more (x ∷ xs) ys e =
    let s = bind_gives (f x) (λ y. option_map (λ ys. y ∷ ys) (each f xs)) e in
    let k = map_gives (λ ys. s.0 ∷ ys) (each f xs) s.2 in
    rw (more x s.0 s.1, each_more f g more xs k.0 k.1) (ap Some (sym k.2))

-- columns, port by port

pub columns_place : (n : ℕ) (i : Lists Cell) (p : ℕ) → p < n → slice_get (columns n i) p ≡ Some (i p)
columns_place zero i p lt = absurd (omega arith)
columns_place (suc n) i zero lt = refl
columns_place (suc n) i (suc p) lt = columns_place n (λ q. i (suc q)) p (omega arith)

pub columns_are : (cs : Columns) (i : Lists Cell) → ((p : ℕ) → p < length cs → slice_get cs p ≡ Some (i p)) → cs ≡ columns (length cs) i
columns_are [] i h = refl
columns_are (c ∷ cs) i h = ap₂ (λ l r. l ∷ r) (some_same c (i 0) (h 0 (omega arith))) (columns_are cs (λ q. i (suc q)) (λ p lt. h (suc p) (omega arith)))

-- the streams of these numbers, where those at all their places are there
pub each_columns : (streams : Columns) (numbers : List ℕ) (i : Lists Cell)
    → ((p : ℕ) → p < length numbers → bind (slice_get numbers p) (slice_get streams) ≡ Some (i p)) → each (slice_get streams) numbers ≡ Some (columns (length numbers) i)
each_columns streams [] i h = refl
each_columns streams (n ∷ numbers) i h =
    let first : slice_get streams n ≡ Some (i 0) = h 0 (omega arith) in
    rw (first, each_columns streams numbers (λ q. i (suc q)) (λ p lt. h (suc p) (omega arith))) refl

-- columns that are one list, at each port

pub replicate_columns : (n : ℕ) (o : Lists Cell) (x : List Cell) → ((q : ℕ) → q < n → o q ≡ x) → replicate n x ≡ columns n o
replicate_columns zero o x h = refl
replicate_columns (suc n) o x h = ap₂ (λ l r. l ∷ r) (sym (h 0 (omega arith))) (replicate_columns n (λ q. o (suc q)) x (λ q lt. h (suc q) (omega arith)))

pub columns_replicate : (n : ℕ) (o : Lists Cell) (x : List Cell) → columns n o ≡ replicate n x → (q : ℕ) → q < n → o q ≡ x
columns_replicate n o x e q lt = some_same (o q) x (sym (columns_place n o q lt) ∙ ap (λ l. slice_get l q) e ∙ replicate_place n x q lt)
