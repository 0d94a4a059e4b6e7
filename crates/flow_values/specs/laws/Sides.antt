-- Lists side by side: what is at the front of one, and what a value puts beyond its edges.
use Rattle.std.specs.Prelude.{◌≡◌, ℕ, ◌+◌, ◌<◌, ◌≤◌, ◌≢◌, List, [], ◌∷◌, ◌++◌, length, refl}
use Rattle.std.proofs.Common.{inl, inr, sym, ◌∙◌, ap, arith, append_assoc, append-nil, length-append}
use Rattle.std.proofs.Math.Path.{fun_ext, ap₂}
use Rattle.std.proofs.lemmas.Bool.Decides.{eqb_tells}
use Rattle.snesl_data.specs.Types.{Ty, int, bool, pair, vec, seq}
use Rattle.snesl_data.specs.Values.{Value}
use Rattle.flow_base.specs.Lists.{Lists, push}
use Rattle.flow_base.specs.Ports.{at_port, off_port, by_port}
use Rattle.flow_base.specs.Flags.{T, elements}
use Rattle.flow_values.specs.Shapes.{kinds_of, first_of, second_of, elements_of}
use Rattle.flow_values.specs.Flats.{no_cells, only_at, ◌⊕◌, width, spread, spread_all}

pub only_here : {A : Type 0} (p : ℕ) (xs : List A) → only_at p xs p ≡ xs
only_here p xs = elim (eqb_tells p p) [ inl h ↦ rw h.0 refl | inr h ↦ absurd (h.1 refl) ]

pub only_there : {A : Type 0} (p q : ℕ) (xs : List A) → q ≢ p → only_at p xs q ≡ []
only_there p q xs n = elim (eqb_tells q p) [ inl h ↦ absurd (n h.1) | inr h ↦ rw h.0 refl ]

pub sides_assoc : {A : Type 0} (xs ys zs : Lists A) → (xs ⊕ ys) ⊕ zs ≡ xs ⊕ (ys ⊕ zs)
sides_assoc xs ys zs = fun_ext (λ q. append_assoc (xs q) (ys q) (zs q))

pub nothing_more : {A : Type 0} (xs : Lists A) → xs ⊕ no_cells ≡ xs
nothing_more xs = fun_ext (λ q. append-nil (xs q))

-- one item in front of the others
pub push_is : {A : Type 0} (p : ℕ) (x : A) (xs : Lists A) → only_at p (x ∷ []) ⊕ xs ≡ push p x xs
push_is p x xs =
    let one = only_at p (x ∷ []) ⊕ xs in
    fun_ext (by_port (λ q. one q ≡ push p x xs q) p
    (ap (λ l. l ++ xs p) (only_here p (x ∷ [])) ∙ sym (at_port p (x ∷ xs p) xs))
    (λ q n. ap (λ l. l ++ xs q) (only_there p q (x ∷ []) n) ∙ sym (off_port p q (x ∷ xs p) xs n)))

-- the same in front of the same
pub push_same : {A : Type 0} (p : ℕ) (x y : A) (xs ys : Lists A) → push p x xs ≡ push p y ys → (x ≡ y) × (xs ≡ ys)
push_same p x y xs ys e =
    let here : x ∷ xs p ≡ y ∷ ys p = sym (at_port p (x ∷ xs p) xs) ∙ ap (λ l. l p) e ∙ at_port p (y ∷ ys p) ys in
    let head : x ≡ y = cc in
    let tail : xs p ≡ ys p = cc in
    (head, fun_ext (by_port (λ q. xs q ≡ ys q) p tail (λ q n. sym (off_port p q (x ∷ xs p) xs n) ∙ ap (λ l. l q) e ∙ off_port p q (y ∷ ys p) ys n)))

-- the first of several at a port is in front of all
pub first_only : {A : Type 0} (p : ℕ) (x : A) (xs : List A) (ys : Lists A) → only_at p (x ∷ xs) ⊕ ys ≡ push p x (only_at p xs ⊕ ys)
first_only p x xs ys =
    let less = only_at p xs ⊕ ys in
    let all = only_at p (x ∷ xs) ⊕ ys in
    fun_ext (by_port (λ q. all q ≡ push p x less q) p
    (ap (λ l. l ++ ys p) (only_here p (x ∷ xs)) ∙ ap (λ l. x ∷ (l ++ ys p)) (sym (only_here p xs)) ∙ sym (at_port p (x ∷ less p) less))
    (λ q n. ap (λ l. l ++ ys q) (only_there p q (x ∷ xs) n ∙ sym (only_there p q xs n)) ∙ sym (off_port p q (x ∷ less p) less n)))

-- what is at one port alone may stand after what has nothing there
pub only_moves : {A : Type 0} (p : ℕ) (xs : List A) (ys : Lists A) → ys p ≡ [] → only_at p xs ⊕ ys ≡ ys ⊕ only_at p xs
only_moves p xs ys none =
    let here = only_at p xs in
    fun_ext (by_port (λ q. here q ++ ys q ≡ ys q ++ here q) p
    (ap (λ l. here p ++ l) none ∙ append-nil (here p) ∙ sym (ap (λ l. l ++ here p) none))
    (λ q n. ap (λ l. l ++ ys q) (only_there p q xs n) ∙ sym (append-nil (ys q)) ∙ ap (λ l. ys q ++ l) (sym (only_there p q xs n))))

pub both_empty : {A : Type 0} (xs ys : List A) → xs ≡ [] → ys ≡ [] → xs ++ ys ≡ []
both_empty xs ys e f = ap₂ (λ a b. a ++ b) e f

-- values none of which puts anything there
pub all_none : (ty : Ty) (p q : ℕ) → ((v : Value) → spread ty p v q ≡ []) → (vs : List Value) → spread_all ty p vs q ≡ []
all_none ty p q h [] = refl
all_none ty p q h (v ∷ vs) = both_empty (spread ty p v q) (spread_all ty p vs q) (h v) (all_none ty p q h vs)

-- a value puts nothing on the ports below its first edge
pub spread_below : (ty : Ty) (p : ℕ) (v : Value) (q : ℕ) → q < p → spread ty p v q ≡ []
spread_below int p v q lt = let n : q ≢ p = omega arith in only_there p q _ n
spread_below bool p v q lt = let n : q ≢ p = omega arith in only_there p q _ n
spread_below (vec item) p v q lt = let n : q ≢ p = omega arith in only_there p q _ n
spread_below (pair first second) p v q lt =
    both_empty (spread first p (first_of v) q) (spread second (p + width first) (second_of v) q) (spread_below first p (first_of v) q lt)
    (spread_below second (p + width first) (second_of v) q (omega arith))
spread_below (seq item) p v q lt =
    let n : q ≢ p = omega arith in
    both_empty (only_at p (elements (length (elements_of v)) (T ∷ [])) q) (spread_all item (p + 1) (elements_of v) q) (only_there p q _ n)
    (all_none item (p + 1) q (λ e. spread_below item (p + 1) e q (omega arith)) (elements_of v))

pub all_below : (ty : Ty) (p : ℕ) (vs : List Value) (q : ℕ) → q < p → spread_all ty p vs q ≡ []
all_below ty p vs q lt = all_none ty p q (λ v. spread_below ty p v q lt) vs

-- nor after its last
pub spread_above : (ty : Ty) (p : ℕ) (v : Value) (q : ℕ) → p + width ty ≤ q → spread ty p v q ≡ []
spread_above int p v q le = let n : q ≢ p = omega arith in only_there p q _ n
spread_above bool p v q le = let n : q ≢ p = omega arith in only_there p q _ n
spread_above (vec item) p v q le = let n : q ≢ p = omega arith in only_there p q _ n
spread_above (pair first second) p v q le =
    let size = length-append (kinds_of first) (kinds_of second) in
    both_empty (spread first p (first_of v) q) (spread second (p + width first) (second_of v) q)
    (spread_above first p (first_of v) q (omega (arith, size))) (spread_above second (p + width first) (second_of v) q (omega (arith, size)))
spread_above (seq item) p v q le =
    let n : q ≢ p = omega arith in
    both_empty (only_at p (elements (length (elements_of v)) (T ∷ [])) q) (spread_all item (p + 1) (elements_of v) q) (only_there p q _ n)
    (all_none item (p + 1) q (λ e. spread_above item (p + 1) e q (omega arith)) (elements_of v))
