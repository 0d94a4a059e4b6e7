-- The text of the last state, where it has one.
use Rattle.std.proofs.Common.{◌≡◌, ℕ, zero, suc, List, [], ◌∷◌, length, get_or, Option, Some, None, ap, arith}
use Rattle.std.specs.List.{filter_map, last_or, cons_option}
use Rattle.std.specs.Option.{unwrap_or}
use Rattle.flow_drives.specs.Texts.{last_text}

behind_one : {B : Type 0} (one o : Option B) (others : List B) (t : B) → ((before : Option B) → last_or before others ≡ Some t) → last_or o (cons_option one others) ≡ Some t
behind_one None o others t h = h o
behind_one (Some x) o others t h = h (Some x)

last_has : {A B : Type 0} (f : A → Option B) (xs : List A) (o : Option B) (k : ℕ) (d : A) (t : B) → suc k ≡ length xs → f (get_or xs k d) ≡ Some t → last_or o (filter_map f xs) ≡ Some t
last_has f [] o k d t e h = absurd (omega arith)
last_has f (x ∷ []) o zero d t e h = ap (λ one. last_or o (cons_option one [])) h
last_has f (x ∷ []) o (suc k) d t e h = absurd (omega arith)
last_has f (x ∷ y ∷ xs) o zero d t e h = absurd (omega arith)
last_has f (x ∷ y ∷ xs) o (suc k) d t e h = behind_one (f x) o (filter_map f (y ∷ xs)) t (λ before. last_has f (y ∷ xs) before k d t (omega arith) h)

pub last_is : {S : Type 0} (text_in : S → Option (List ℕ)) (states : List S) (k : ℕ) (d : S) (t : List ℕ) → suc k ≡ length states → text_in (get_or states k d) ≡ Some t → last_text text_in states ≡ t
last_is text_in states k d t e h = ap (λ o. unwrap_or o []) (last_has text_in states None k d t e h)
