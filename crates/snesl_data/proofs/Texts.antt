-- The text of items, one more at a time.
use Rattle.std.proofs.Common.{◌≡◌, ℕ, zero, suc, ◌+◌, ◌<◌, false, List, [], ◌∷◌, ◌++◌, length, take, map, get_or, codes, refl, sym, ap, ◌∙◌}
use Rattle.std.proofs.Common.{append-nil, append_assoc, arith, if◌then◌else◌, Result, Ok, Err, OnOk, is_ok}
use Rattle.std.specs.Prelude.{◌==◌}
use Rattle.std.proofs.lemmas.Bool.Decides.{nat_tests}
use Rattle.std.proofs.lemmas.List.{map_more}
use Rattle.snesl_data.specs.Values.{Value, values_of}
use Rattle.snesl_data.specs.Text.{text, items_text, further_text, comma_before}

regroup : (a b c d : List ℕ) → a ++ (b ++ c ++ d) ≡ a ++ b ++ c ++ d
regroup a b c d = simp append_assoc

further_text-push : (vs : List Value) (v : Value) → further_text (values_of (vs ++ v ∷ [])) ≡ further_text (values_of vs) ++ codes "," ++ text v
further_text-push [] v = ap (λ l. codes "," ++ l) (append-nil (text v))
further_text-push (x ∷ vs) v =
    ap (λ l. codes "," ++ text x ++ l) (further_text-push vs v)
    ∙ ap (λ l. codes "," ++ l) (regroup (text x) (further_text (values_of vs)) (codes ",") (text v))

-- what stands between these items and the next
abbrev separator : List Value → List ℕ
separator [] = []
separator (v ∷ vs) = codes ","

items_text-push : (vs : List Value) (v : Value) → items_text (values_of (vs ++ v ∷ [])) ≡ items_text (values_of vs) ++ separator vs ++ text v
items_text-push [] v = append-nil (text v)
items_text-push (x ∷ vs) v =
    ap (λ l. text x ++ l) (further_text-push vs v) ∙ regroup (text x) (further_text (values_of vs)) (codes ",") (text v)

separator-take : {X : Type 0} (f : X → Value) (xs : List X) (i : ℕ) → i < length xs → separator (map f (take i xs)) ≡ comma_before i
separator-take f [] i inside = absurd (omega arith)
separator-take f (x ∷ xs) zero inside = refl
separator-take f (x ∷ xs) (suc i) inside =
    let some : (suc i == 0) ≡ false = grind (arith, nat_tests) in
    ap (λ b. if b then [] else codes ",") (sym some)

-- the text of the first i items
abbrev pub text_of_first : {X : Type 0} → (X → Value) → ℕ → List X → List ℕ
text_of_first f i xs = items_text (values_of (map f (take i xs)))

text_of_first-more : {X : Type 0} (f : X → Value) (xs : List X) (i : ℕ) (x : X) → i < length xs → x ≡ get_or xs i x
    → text_of_first f (i + 1) xs ≡ text_of_first f i xs ++ comma_before i ++ text (f x)
text_of_first-more f xs i x inside is =
    ap (λ l. items_text (values_of l)) (map_more f xs i x inside)
    ∙ items_text-push (map f (take i xs)) (f (get_or xs i x))
    ∙ ap (λ s. text_of_first f i xs ++ s ++ text (f (get_or xs i x))) (separator-take f xs i inside)
    ∙ ap (λ y. text_of_first f i xs ++ comma_before i ++ text (f y)) (sym is)

-- a turn of a loop: a comma, if one stands there, and the next item
pub one_turn : {X : Type 0} (f : X → Value) (xs : List X) (i : ℕ) (x : X) → i < length xs → x ≡ get_or xs i x
    → (before out between after : List ℕ) → out ≡ before ++ text_of_first f i xs → between ≡ out ++ comma_before i → after ≡ between ++ text (f x)
    → after ≡ before ++ text_of_first f (i + 1) xs
one_turn f xs i x inside is before out between after was comma now =
    now
    ∙ ap (λ l. l ++ text (f x)) (comma ∙ ap (λ l. l ++ comma_before i) was)
    ∙ sym (regroup before (text_of_first f i xs) (comma_before i) (text (f x)))
    ∙ ap (λ l. before ++ l) (sym (text_of_first-more f xs i x inside is))

-- text between two brackets, where the right one was appended
pub bracketed : {E : Type 0} (r : Result (Unit {0}) E) (before opened filled closed left inner right : List ℕ)
    → opened ≡ before ++ left → filled ≡ opened ++ inner → closed ≡ (if is_ok r then filled ++ right else filled)
    → OnOk r (closed ≡ before ++ (left ++ inner ++ right))
bracketed (Ok u) before opened filled closed left inner right e f g =
    g ∙ ap (λ l. l ++ right) (f ∙ ap (λ l. l ++ inner) e) ∙ sym (regroup before left inner right)
bracketed (Err x) before opened filled closed left inner right e f g = tt
