-- The streams at the ports of a transducer are of its kinds.
use Rattle.std.specs.Prelude.{◌≡◌, ℕ, zero, suc, ◌<◌, List, [], ◌∷◌, length, Option, Some, None, option_map, Result, Ok, Err, refl}
use Rattle.std.specs.List.{slice_get}
use Rattle.std.specs.Result.{IsErrAnd}
use Rattle.std.proofs.Common.{sym, ◌∙◌, ap, subst, arith}
use Rattle.flow_messages.specs.declared.message.Kind.{Kind}
use Rattle.flow_nodes.specs.functions.Lists.{bind, each}
use Rattle.flow_nodes.specs.plans.Ports.{kinds_read, kinds_written}
use Rattle.flow_nodes.specs.plans.Layouts.{Placed}
use Rattle.flow_assembly.specs.Openings.{IsUsable}

-- Of streams of these kinds each port of the transducer has one of its kind.
pub record FitsKinds (kinds : List Kind) (placed : Placed) : Type 0 where
  pub usable : IsUsable placed.operation
  pub reads : each (slice_get kinds) placed.reads ≡ Some (kinds_read placed.operation)
  pub writes : each (slice_get kinds) placed.writes ≡ Some (kinds_written placed.operation)

pub some_same : {A : Type 0} {a b : A} → Some a ≡ Some b → a ≡ b
some_same e = cc

-- what a step that gave something went on from
pub bound : {A B : Type 0} (o : Option A) (f : A → Option B) (b : B) → bind o f ≡ Some b → (a : A) × (o ≡ Some a) × (f a ≡ Some b)
bound None f b e = absurd (cc)
bound (Some a) f b e = (a, refl, e)

-- and what one gave that was only changed
pub changed : {A B : Type 0} (o : Option A) (f : A → B) (b : B) → option_map f o ≡ Some b → (a : A) × (o ≡ Some a) × (f a ≡ b)
changed None f b e = absurd (cc)
changed (Some a) f b e = (a, refl, some_same e)

-- a place of a list has an element
pub stands_at : {A : Type 0} (xs : List A) (k : ℕ) → k < length xs → (x : A) × (slice_get xs k ≡ Some x)
stands_at [] k lt = absurd (omega arith)
stands_at (x ∷ xs) zero lt = (x, refl)
stands_at (x ∷ xs) (suc k) lt = stands_at xs k (omega arith)

-- what stands at a place of the results, and how many there are
pub each_at : {A B : Type 0} (f : A → Option B) (xs : List A) (ys : List B) → each f xs ≡ Some ys → (q : ℕ) (x : A) → slice_get xs q ≡ Some x → slice_get ys q ≡ f x
each_at f [] ys e q x at = absurd (cc)
each_at f (y ∷ xs) ys e zero x at =
    let s0 = bound (f y) (λ z. option_map (λ zs. z ∷ zs) (each f xs)) ys e in
    let s1 = changed (each f xs) (λ zs. s0.0 ∷ zs) ys s0.2 in
    let first : slice_get ys zero ≡ Some s0.0 = subst (λ l. slice_get l zero ≡ Some s0.0) s1.2 refl in
    let same : y ≡ x = some_same at in
    first ∙ sym s0.1 ∙ ap f same
each_at f (y ∷ xs) ys e (suc q) x at =
    let s0 = bound (f y) (λ z. option_map (λ zs. z ∷ zs) (each f xs)) ys e in
    let s1 = changed (each f xs) (λ zs. s0.0 ∷ zs) ys s0.2 in
    subst (λ l. slice_get l (suc q) ≡ f x) s1.2 (each_at f xs s1.0 s1.1 q x at)

pub each_length : {A B : Type 0} (f : A → Option B) (xs : List A) (ys : List B) → each f xs ≡ Some ys → length ys ≡ length xs
each_length f [] ys e = ap length (sym (some_same e))
each_length f (y ∷ xs) ys e =
    let s0 = bound (f y) (λ z. option_map (λ zs. z ∷ zs) (each f xs)) ys e in
    let s1 = changed (each f xs) (λ zs. s0.0 ∷ zs) ys s0.2 in
    ap length (sym s1.2) ∙ ap suc (each_length f xs s1.0 s1.1)

-- a refusal that is passed on is the same
err_same : {A E : Type 0} (x y : E) → (let here : Result A E = Err x in here) ≡ Err y → x ≡ y
err_same x y e = cc

pub passed_on : {A B E : Type 0} (r : Result A E) (x y : E) → IsErrAnd r (λ e. e ≡ x) → r ≡ Err y → ◌≡◌ {A = Result B E} (Err x) (Err y)
passed_on (Ok a) x y is same = absurd (cc)
passed_on {A = A} (Err e) x y is same = ap Err (sym is ∙ err_same {A = A} e y same)
