-- What stands first in bytes, and single tokens of an input text.
use Rattle.std.proofs.Common.{◌≡◌, ℕ, suc, ℤ, pos, ◌+◌, ◌-◌, ◌*◌, ◌≤◌, ◌<◌, Bool, true, false, cond, eqb, List, [], ◌∷◌, length, take, drop, get_or}
use Rattle.std.proofs.Common.{IsTrue, Option, Some, None, option_map, IfSome, IfNone, refl, sym, ap, ◌∙◌, subst, arith, drop-cons, length-drop}
use Rattle.std.proofs.Common.{take_all, ⊎_elim, ◌⊎◌, inl, inr, leb, one-add, add-one}
use Rattle.std.proofs.lemmas.Bool.{lt-leb, cond-true, cond-false, eqb-true, cases_lt}
use Rattle.std.specs.List.{AllByRecursion, prefix_len, take_while}
use Rattle.std.proofs.lemmas.List.Sums.{prefix_len-le-length}
use Rattle.std.proofs.lemmas.List.Folds.{length-prefix_len}
use Rattle.std.specs.Char.{is_ascii_digit, is_ascii_alphabetic}
use Rattle.std.proofs.lemmas.Bool.Decides.{nat_tests}
use Rattle.snesl_data.specs.Blanks.{is_blank}
use Rattle.snesl_data.specs.declared.dialect.Dialect.{Dialect}
use Rattle.snesl_data.specs.declared.dialect.Dialect.TheVariants.{Two}
use Rattle.snesl_data.specs.Integers.{greatest_integer, IsInteger}
use Rattle.snesl_data.specs.Characters.{is_word, value_from}
use Rattle.snesl_values.specs.InputTokens.{Token, SizedToken, word, integer, sign, bad, is_sign, negated, minus_lexeme, first, next_lexeme, next_at}
use Rattle.snesl_values.specs.InputTokens.{next_token, HasTokens, none, more, IsNextToken, digits_at, number_of, IsNumber}

abbrev pub rest_of : List ℕ → ℕ → List ℕ
rest_of text at = take (length text - at) (drop at text)

pub rest_is : (text : List ℕ) (at : ℕ) → rest_of text at ≡ drop at text
rest_is text at = take_all (length text - at) (drop at text) (omega (arith, length-drop at text))

pub next_at-is : (text : List ℕ) (at : ℕ) → next_at text at ≡ at + prefix_len is_blank (drop at text)
unfolding next_at
next_at-is text at = refl

next-is : (text : List ℕ) (at start : ℕ) → start ≡ next_at text at → next_lexeme text at ≡ first (drop start text)
unfolding next_lexeme
next-is text at start e = ap (λ n. first (drop n text)) (sym e)

-- what stands first, by the first byte
data Stands (b : ℕ) (bs : List ℕ) : Option SizedToken → Type 0 where
  letters : is_ascii_alphabetic b ≡ true → Stands b bs (Some (word (take_while is_word (b ∷ bs)), length (take_while is_word (b ∷ bs))))
  digits : is_ascii_digit b ≡ true
      → Stands b bs (Some (integer (pos (value_from 0 (take_while is_ascii_digit (b ∷ bs)))), length (take_while is_ascii_digit (b ∷ bs))))
  minus : b ≡ 45 → Stands b bs (Some (minus_lexeme (take_while is_ascii_digit bs)))
  a_sign : is_sign b ≡ true → Stands b bs (Some (sign b, 1))
  other : Stands b bs (Some (bad, 1))

stands : (b : ℕ) (bs : List ℕ) → Stands b bs (first (b ∷ bs))
unfolding first
stands b bs = by_class (is_ascii_alphabetic b) refl (is_ascii_digit b) refl (eqb b 45) refl (is_sign b) refl
  where
    by_class : (t : Bool) → is_ascii_alphabetic b ≡ t → (u : Bool) → is_ascii_digit b ≡ u → (v : Bool) → eqb b 45 ≡ v → (w : Bool) → is_sign b ≡ w
        → Stands b bs (cond t (Some (word (take_while is_word (b ∷ bs)), length (take_while is_word (b ∷ bs))))
        (cond u (Some (integer (pos (value_from 0 (take_while is_ascii_digit (b ∷ bs)))), length (take_while is_ascii_digit (b ∷ bs))))
        (cond v (Some (minus_lexeme (take_while is_ascii_digit bs))) (cond w (Some (sign b, 1)) (Some (bad, 1))))))
    by_class true e u f v g w h = letters e
    by_class false e true f v g w h = digits f
    by_class false e false f true g w h = minus (eqb-true b 45 g)
    by_class false e false f false g true h = a_sign h
    by_class false e false f false g false h = other

first-letters : (b : ℕ) (bs : List ℕ) → is_ascii_alphabetic b ≡ true
    → first (b ∷ bs) ≡ Some (word (take_while is_word (b ∷ bs)), length (take_while is_word (b ∷ bs)))
unfolding first
first-letters b bs e = cond-true _ _ _ e

digit_no_letter : (b : ℕ) → is_ascii_digit b ≡ true → is_ascii_alphabetic b ≡ false
digit_no_letter b h = grind (arith, nat_tests)

first-digits : (b : ℕ) (bs : List ℕ) → is_ascii_digit b ≡ true
    → first (b ∷ bs) ≡ Some (integer (pos (value_from 0 (take_while is_ascii_digit (b ∷ bs)))), length (take_while is_ascii_digit (b ∷ bs)))
unfolding first
first-digits b bs e = cond-false _ _ _ (digit_no_letter b e) ∙ cond-true _ _ _ e

first-minus : (bs : List ℕ) → first (45 ∷ bs) ≡ Some (minus_lexeme (take_while is_ascii_digit bs))
unfolding first
first-minus bs = refl

-- the classes of the signs
record IsMark (b : ℕ) : Type 0 where
  no_letter : is_ascii_alphabetic b ≡ false
  no_digit : is_ascii_digit b ≡ false
  no_minus : eqb b 45 ≡ false

marks : (b : ℕ) → is_sign b ≡ true → IsMark b
marks b h = record { no_letter = grind (arith, nat_tests); no_digit = grind (arith, nat_tests); no_minus = grind (arith, nat_tests) }

first-sign : (b : ℕ) (bs : List ℕ) → is_sign b ≡ true → first (b ∷ bs) ≡ Some (sign b, 1)
unfolding first
first-sign b bs e =
    let m = marks b e in
    cond-false _ _ _ m.no_letter ∙ cond-false _ _ _ m.no_digit ∙ cond-false _ _ _ m.no_minus ∙ cond-true _ _ _ e

-- a token that was found
taken : (text : List ℕ) (at start len : ℕ) (t : Token) → start ≡ next_at text at → at ≤ start → first (drop start text) ≡ Some (t, len)
    → 0 < len → start + len ≤ length text → IsNextToken text at t (start + len)
taken text at start len t e from found some within = record {
  reads = subst (λ n. HasTokens text at (t ∷ []) (n + len)) (sym e) (more t len (next-is text at start e ∙ found) none);
  moves = omega arith;
  within = within;
}

next_token-is : (text : List ℕ) (at start : ℕ) → start ≡ next_at text at → start < length text
    → next_token text at ≡ option_map (λ (lexeme : SizedToken). lexeme.0) (first (get_or text start 0 ∷ drop (suc start) text))
next_token-is text at start e h =
    ap (option_map (λ (lexeme : SizedToken). lexeme.0)) (next-is text at start e ∙ ap first (drop-cons text start 0 h))

first-nothing : first [] ≡ None
unfolding first
first-nothing = refl

pub no_next : (text : List ℕ) (at start : ℕ) → start ≡ next_at text at → length text ≤ start → next_token text at ≡ None
no_next text at start e h = ap (option_map (λ (lexeme : SizedToken). lexeme.0)) (next-is text at start e ∙ by_cases (drop start text) (omega (arith, length-drop start text)))
  where
    by_cases : (bs : List ℕ) → length bs ≡ 0 → first bs ≡ None
    by_cases [] e = first-nothing
    by_cases (b ∷ bs) e = absurd (omega arith)

-- a sign
pub sign_taken : (text : List ℕ) (at start byte : ℕ) → start ≡ next_at text at → at ≤ start → start < length text → get_or text start 0 ≡ byte
    → is_sign byte ≡ true → IsNextToken text at (sign byte) (start + 1)
sign_taken text at start byte e from h is lawful =
    taken text at start 1 (sign byte) e from
    (ap first (drop-cons text start 0 h) ∙ first-sign (get_or text start 0) (drop (suc start) text) (ap is_sign is ∙ lawful) ∙ ap (λ b. Some (sign b, 1)) is)
    (omega arith) (omega arith)

no_minus_sign : (digits : List ℕ) (c : ℕ) → (minus_lexeme digits).0 ≡ sign c → ⊥
no_minus_sign [] c e = cc
no_minus_sign (d ∷ ds) c e = cc

sign_only : (b : ℕ) (bs : List ℕ) (c : ℕ) (o : Option SizedToken) → Stands b bs o → option_map (λ (lexeme : SizedToken). lexeme.0) o ≡ Some (sign c) → b ≡ c
sign_only b bs c o (letters h) e = cc
sign_only b bs c o (digits h) e = cc
sign_only b bs c o (minus h) e = absurd (no_minus_sign (take_while is_ascii_digit bs) c (let f : (minus_lexeme (take_while is_ascii_digit bs)).0 ≡ sign c = cc in f))
sign_only b bs c o (a_sign h) e = cc
sign_only b bs c o other e = cc

pub another_sign : (text : List ℕ) (at start byte : ℕ) → start ≡ next_at text at → (start < length text → get_or text start 0 ≡ byte → ⊥)
    → next_token text at ≡ Some (sign byte) → ⊥
another_sign text at start byte e unlike found = ⊎_elim
    (λ h. unlike h (sign_only (get_or text start 0) (drop (suc start) text) byte _ (stands (get_or text start 0) (drop (suc start) text))
    (sym (next_token-is text at start e h) ∙ found)))
    (λ h. let f = no_next text at start e h in absurd (let g : None ≡ Some (sign byte) = sym f ∙ found in cc))
    (cases_lt start (length text))

-- a word
letter_in_word : (b : ℕ) → is_ascii_alphabetic b ≡ true → is_word b ≡ true
letter_in_word b l = grind (arith, nat_tests)

pub word_taken : (text : List ℕ) (at start len : ℕ) (expected : List ℕ) → start ≡ next_at text at → at ≤ start → start < length text
    → is_ascii_alphabetic (get_or text start 0) ≡ true → len ≡ prefix_len is_word (drop start text) → take len (drop start text) ≡ expected
    → IsNextToken text at (word expected) (start + len)
word_taken text at start len expected e from h letter count same =
    let counted : len ≡ 1 + prefix_len is_word (drop (suc start) text) =
    count ∙ ap (prefix_len is_word) (drop-cons text start 0 h) ∙ cond-true _ (1 + prefix_len is_word (drop (suc start) text)) 0 (letter_in_word (get_or text start 0) letter) in
    let some : 0 < len = omega arith in
    let most : len ≤ length (drop start text) = subst (λ n. n ≤ length (drop start text)) (sym count) (prefix_len-le-length is_word (drop start text)) in
    let lens : length (take_while is_word (drop start text)) ≡ len = length-prefix_len is_word (drop start text) ∙ sym count in
    let word_is : take_while is_word (drop start text) ≡ expected = ap (λ n. take n (drop start text)) (sym count) ∙ same in
    taken text at start len (word expected) e from
    (subst (λ bs. first bs ≡ Some (word (take_while is_word bs), length (take_while is_word bs))) (sym (drop-cons text start 0 h))
    (first-letters (get_or text start 0) (drop (suc start) text) letter)
    ∙ ap (λ n. Some (word (take_while is_word (drop start text)), n)) lens ∙ ap (λ w. Some (word w, len)) word_is)
    some (omega (arith, length-drop start text))

no_minus_word : (digits : List ℕ) (w : List ℕ) → (minus_lexeme digits).0 ≡ word w → ⊥
no_minus_word [] w e = cc
no_minus_word (d ∷ ds) w e = cc

word_only : (b : ℕ) (bs w : List ℕ) (o : Option SizedToken) → Stands b bs o → option_map (λ (lexeme : SizedToken). lexeme.0) o ≡ Some (word w)
    → (is_ascii_alphabetic b ≡ true) × (take_while is_word (b ∷ bs) ≡ w)
word_only b bs w o (letters h) e = (h, cc)
word_only b bs w o (digits h) e = cc
word_only b bs w o (minus h) e = absurd (no_minus_word (take_while is_ascii_digit bs) w (let f : (minus_lexeme (take_while is_ascii_digit bs)).0 ≡ word w = cc in f))
word_only b bs w o (a_sign h) e = cc
word_only b bs w o other e = cc

pub another_word : (text : List ℕ) (at start : ℕ) (expected : List ℕ) → start ≡ next_at text at
    → (start < length text → is_ascii_alphabetic (get_or text start 0) ≡ true → take_while is_word (drop start text) ≡ expected → ⊥)
    → next_token text at ≡ Some (word expected) → ⊥
another_word text at start expected e unlike found = ⊎_elim
    (λ h. let only = word_only (get_or text start 0) (drop (suc start) text) expected _ (stands (get_or text start 0) (drop (suc start) text))
    (sym (next_token-is text at start e h) ∙ found) in
    unlike h only.0 (ap (take_while is_word) (drop-cons text start 0 h) ∙ only.1))
    (λ h. let f = no_next text at start e h in absurd (let g : None ≡ Some (word expected) = sym f ∙ found in cc))
    (cases_lt start (length text))

-- a number that is over the limit before its last digit
value_from-grows : (n : ℕ) (cs : List ℕ) → n ≤ value_from n cs
value_from-grows n [] = omega arith
value_from-grows n (c ∷ cs) = let h : 10 * n + (c - 48) ≤ value_from (10 * n + (c - 48)) cs = value_from-grows (10 * n + (c - 48)) cs in omega arith

too_large : (v : ℕ) → (suc (greatest_integer Two)) < v → None ≡ cond (leb v (suc (greatest_integer Two))) (Some v) None
too_large v h = sym (ap (λ b. cond b (Some v) None) (lt-leb v (suc (greatest_integer Two)) h))

pub early : (n : ℕ) (cs : List ℕ) (i v : ℕ) → i < length cs → value_from v (drop i cs) ≡ value_from n cs
    → suc (greatest_integer Two) < 10 * v + (get_or cs i 0 - 48) → None ≡ cond (leb (value_from n cs) (suc (greatest_integer Two))) (Some (value_from n cs)) None
early n cs i v h same over =
    let d : ℕ = get_or cs i 0 - 48 in
    let next : value_from v (drop i cs) ≡ value_from (10 * v + (get_or cs i 0 - 48)) (drop (suc i) cs) = ap (value_from v) (drop-cons cs i 0 h) in
    let grows : 10 * v + (get_or cs i 0 - 48) ≤ value_from (10 * v + (get_or cs i 0 - 48)) (drop (suc i) cs) =
    value_from-grows (10 * v + (get_or cs i 0 - 48)) (drop (suc i) cs) in
    too_large (value_from n cs) (omega arith)

-- digits
pub prefix_passes : (p : ℕ → Bool) (xs : List ℕ) → AllByRecursion (λ x. IsTrue (p x)) (take_while p xs)
prefix_passes p [] = tt
prefix_passes p (x ∷ xs) = by_test (p x) refl (prefix_passes p xs)
  where
    by_test : (b : Bool) → p x ≡ b → AllByRecursion (λ y. IsTrue (p y)) (take (prefix_len p xs) xs)
        → AllByRecursion (λ y. IsTrue (p y)) (take (cond b (1 + prefix_len p xs) 0) (x ∷ xs))
    by_test true e h = rw one-add (e, h)
    by_test false e h = tt

pub cut_digits : (text : List ℕ) (from len : ℕ) → len ≡ prefix_len is_ascii_digit (rest_of text from)
    → (take (from + len - from) (drop from text) ≡ digits_at text from) × (length (digits_at text from) ≡ len)
cut_digits text from len e =
    let size : from + len - from ≡ len = omega arith in
    let count : len ≡ prefix_len is_ascii_digit (drop from text) = e ∙ ap (prefix_len is_ascii_digit) (rest_is text from) in
    (ap (λ n. take n (drop from text)) (size ∙ count), length-prefix_len is_ascii_digit (drop from text) ∙ sym count)

-- an integer
starts_with_digit : (bs : List ℕ) → 0 < length (take_while is_ascii_digit bs) → (b : ℕ) × (rest : List ℕ) × (bs ≡ b ∷ rest) × (is_ascii_digit b ≡ true)
starts_with_digit [] h = absurd (omega arith)
starts_with_digit (b ∷ rest) h = by_test (is_ascii_digit b) refl h
  where
    by_test : (t : Bool) → is_ascii_digit b ≡ t → 0 < length (take (cond t (1 + prefix_len is_ascii_digit rest) 0) (b ∷ rest))
        → (c : ℕ) × (others : List ℕ) × (b ∷ rest ≡ c ∷ others) × (is_ascii_digit c ≡ true)
    by_test true e k = (b, rest, refl, e)
    by_test false e k = absurd (omega arith)

pub positive_taken : (dialect : Dialect) (text : List ℕ) (at start : ℕ) (found : ℤ × ℕ) → start ≡ next_at text at → at ≤ start → start ≤ length text
    → IsNumber dialect text start false found → IsNextToken text at (integer found.0) found.1
positive_taken dialect text at start found e from within number =
    let ds = digits_at text start in
    let w = starts_with_digit (drop start text) number.some in
    let token : integer (pos (value_from 0 ds)) ≡ integer found.0 = ap integer (sym number.value) in
    let most : length ds ≤ length (drop start text) =
    subst (λ n. n ≤ length (drop start text)) (sym (length-prefix_len is_ascii_digit (drop start text))) (prefix_len-le-length is_ascii_digit (drop start text)) in
    subst (IsNextToken text at (integer found.0)) (sym number.end)
    (taken text at start (length ds) (integer found.0) e from
    (subst (λ bs. first bs ≡ Some (integer (pos (value_from 0 (take_while is_ascii_digit bs))), length (take_while is_ascii_digit bs))) (sym w.2)
    (first-digits w.0 w.1 w.3) ∙ ap (λ t. Some (t, length ds)) token)
    number.some (omega (arith, length-drop start text)))

minus_digits : (digits : List ℕ) → 0 < length digits → minus_lexeme digits ≡ (integer (negated (value_from 0 digits)), suc (length digits))
minus_digits [] h = absurd (omega arith)
minus_digits (d ∷ ds) h = refl

pub negative_taken : (dialect : Dialect) (text : List ℕ) (at start : ℕ) (found : ℤ × ℕ) → start ≡ next_at text at → at ≤ start → start < length text
    → get_or text start 0 ≡ 45 → IsNumber dialect text (start + 1) true found → IsNextToken text at (integer found.0) found.1
negative_taken dialect text at start found e from below is number =
    let ds = digits_at text (start + 1) in
    let token : integer (negated (value_from 0 ds)) ≡ integer found.0 = ap integer (sym number.value) in
    let most : length ds ≤ length (drop (start + 1) text) =
    subst (λ n. n ≤ length (drop (start + 1) text)) (sym (length-prefix_len is_ascii_digit (drop (start + 1) text)))
    (prefix_len-le-length is_ascii_digit (drop (start + 1) text)) in
    let bytes : drop start text ≡ 45 ∷ drop (start + 1) text = drop-cons text start 0 below ∙ ap (λ b. b ∷ drop (suc start) text) is ∙ ap (λ n. 45 ∷ drop n text) (sym (add-one start)) in
    let end : start + suc (length ds) ≡ found.1 = omega (arith, number.end) in
    subst (IsNextToken text at (integer found.0)) end
    (taken text at start (suc (length ds)) (integer found.0) e from
    (ap first bytes ∙ first-minus (drop (start + 1) text) ∙ ap (λ x. Some x) (minus_digits ds number.some) ∙ ap (λ t. Some (t, suc (length ds))) token)
    (omega arith) (omega (arith, length-drop (start + 1) text)))

-- where no integer is written
the_same : {m n : ℤ} → integer m ≡ integer n → m ≡ n
the_same e = cc

minus_written : (digits : List ℕ) (n : ℤ) → (minus_lexeme digits).0 ≡ integer n → (0 < length digits) × (negated (value_from 0 digits) ≡ n)
minus_written [] n e = cc
minus_written (d ∷ ds) n e = (omega arith, the_same e)

take_while_some : (p : ℕ → Bool) (b : ℕ) (bs : List ℕ) → p b ≡ true → 0 < length (take_while p (b ∷ bs))
take_while_some p b bs e =
    let count : length (take_while p (b ∷ bs)) ≡ 1 + prefix_len p bs = length-prefix_len p (b ∷ bs) ∙ cond-true (p b) (1 + prefix_len p bs) 0 e in
    omega arith

integer_only : (b : ℕ) (bs : List ℕ) (n : ℤ) (o : Option SizedToken) → Stands b bs o → option_map (λ (lexeme : SizedToken). lexeme.0) o ≡ Some (integer n)
    → ((0 < length (take_while is_ascii_digit (b ∷ bs))) × (pos (value_from 0 (take_while is_ascii_digit (b ∷ bs))) ≡ n))
    ⊎ ((b ≡ 45) × (0 < length (take_while is_ascii_digit bs)) × (negated (value_from 0 (take_while is_ascii_digit bs)) ≡ n))
integer_only b bs n o (letters h) e = cc
integer_only b bs n o (digits h) e =
    inl (take_while_some is_ascii_digit b bs h, the_same (let f : integer (pos (value_from 0 (take_while is_ascii_digit (b ∷ bs)))) ≡ integer n = cc in f))
integer_only b bs n o (minus h) e =
    let r = minus_written (take_while is_ascii_digit bs) n (let f : (minus_lexeme (take_while is_ascii_digit bs)).0 ≡ integer n = cc in f) in inr (h, r.0, r.1)
integer_only b bs n o (a_sign h) e = cc
integer_only b bs n o other e = cc

-- some digits write an integer of the dialect with this sign
abbrev Written : Dialect → Bool → List ℕ → Type 0
Written dialect is_negative ds = (0 < length ds) × IsInteger dialect (number_of is_negative ds)

pub another_integer : (dialect : Dialect) (text : List ℕ) (at start : ℕ) (n : ℤ) → start ≡ next_at text at → IsInteger dialect n
    → ((0 < length (digits_at text start)) × IsInteger dialect (number_of false (digits_at text start)) → ⊥)
    → (start < length text → get_or text start 0 ≡ 45
    → (0 < length (digits_at text (start + 1))) × IsInteger dialect (number_of true (digits_at text (start + 1))) → ⊥)
    → next_token text at ≡ Some (integer n) → ⊥
another_integer dialect text at start n e ranged plain minus_case found = ⊎_elim by_byte
    (λ h. let f = no_next text at start e h in absurd (let g : None ≡ Some (integer n) = sym f ∙ found in cc))
    (cases_lt start (length text))
  where
    by_byte : start < length text → ⊥
    by_byte h =
        let bytes : get_or text start 0 ∷ drop (suc start) text ≡ drop start text = sym (drop-cons text start 0 h) in
        let later : drop (suc start) text ≡ drop (start + 1) text = ap (λ k. drop k text) (sym (add-one start)) in
        ⊎_elim
        (λ w. plain (subst (λ bs. Written dialect false (take_while is_ascii_digit bs)) bytes (w.0, subst (IsInteger dialect) (sym w.1) ranged)))
        (λ w. minus_case h w.0 (subst (λ bs. Written dialect true (take_while is_ascii_digit bs)) later (w.1, subst (IsInteger dialect) (sym w.2) ranged)))
        (integer_only (get_or text start 0) (drop (suc start) text) n _ (stands (get_or text start 0) (drop (suc start) text)) (sym (next_token-is text at start e h) ∙ found))

-- what holds of an answer that is there, and of one that is not
pub if_some : {A : Type 0} {P Q : A → Type 0} (o : Option A) → ((x : A) → P x → Q x) → IfSome o P → IfSome o Q
if_some None f h = h
if_some (Some x) f h = f x h

pub if_none : {A P Q : Type 0} (o : Option A) → (P → Q) → IfNone o P → IfNone o Q
if_none None f h = f h
if_none (Some x) f h = h

-- a minus is no digit
pub minus_no_digits : (text : List ℕ) (start : ℕ) → start < length text → get_or text start 0 ≡ 45 → 0 < length (digits_at text start) → ⊥
minus_no_digits text start below is h =
    let bytes : drop start text ≡ 45 ∷ drop (suc start) text = drop-cons text start 0 below ∙ ap (λ b. b ∷ drop (suc start) text) is in
    none_there (drop (suc start) text) (subst (λ bs. 0 < length (take_while is_ascii_digit bs)) bytes h)
  where
    none_there : (rest : List ℕ) → 0 < length (take_while is_ascii_digit (45 ∷ rest)) → ⊥
    none_there rest h = omega arith

-- some token comes next where a byte is left
something : (b : ℕ) (bs : List ℕ) (o : Option SizedToken) → Stands b bs o → option_map (λ (lexeme : SizedToken). lexeme.0) o ≡ None → ⊥
something b bs o (letters h) e = cc
something b bs o (digits h) e = cc
something b bs o (minus h) e = cc
something b bs o (a_sign h) e = cc
something b bs o other e = cc

pub some_next : (text : List ℕ) (at start : ℕ) → start ≡ next_at text at → start < length text → next_token text at ≡ None → ⊥
some_next text at start e h nothing =
    something (get_or text start 0) (drop (suc start) text) _ (stands (get_or text start 0) (drop (suc start) text)) (sym (next_token-is text at start e h) ∙ nothing)

-- what comes next: nothing, or a token
pub data Coming (text : List ℕ) (at : ℕ) : Type 0 where
  nothing_comes : next_token text at ≡ None → Coming text at
  comes : (token : Token) (end : ℕ) → IsNextToken text at token end → Coming text at

-- a lexeme that ends in these bytes
record IsWithin (bytes : ℕ) (o : Option SizedToken) : Type 0 where
  token : Token
  len : ℕ
  is : o ≡ Some (token, len)
  some : 0 < len
  most : len ≤ bytes

take_while_most : (p : ℕ → Bool) (bs : List ℕ) → length (take_while p bs) ≤ length bs
take_while_most p bs = subst (λ n. n ≤ length bs) (sym (length-prefix_len p bs)) (prefix_len-le-length p bs)

minus_within : (bs digits : List ℕ) → length digits ≤ length bs → IsWithin (suc (length bs)) (Some (minus_lexeme digits))
minus_within bs [] h = record { token = bad; len = 1; is = refl; some = omega arith; most = omega arith }
minus_within bs (d ∷ ds) h = record {
  token = integer (negated (value_from 0 (d ∷ ds)));
  len = suc (length (d ∷ ds));
  is = refl;
  some = omega arith;
  most = omega arith;
}

found_within : (b : ℕ) (bs : List ℕ) (o : Option SizedToken) → Stands b bs o → IsWithin (suc (length bs)) o
found_within b bs o (letters h) = record {
  token = word (take_while is_word (b ∷ bs));
  len = length (take_while is_word (b ∷ bs));
  is = refl;
  some = take_while_some is_word b bs (letter_in_word b h);
  most = take_while_most is_word (b ∷ bs);
}
found_within b bs o (digits h) = record {
  token = integer (pos (value_from 0 (take_while is_ascii_digit (b ∷ bs))));
  len = length (take_while is_ascii_digit (b ∷ bs));
  is = refl;
  some = take_while_some is_ascii_digit b bs h;
  most = take_while_most is_ascii_digit (b ∷ bs);
}
found_within b bs o (minus h) = minus_within bs (take_while is_ascii_digit bs) (take_while_most is_ascii_digit bs)
found_within b bs o (a_sign h) = record { token = sign b; len = 1; is = refl; some = omega arith; most = omega arith }
found_within b bs o other = record { token = bad; len = 1; is = refl; some = omega arith; most = omega arith }

pub coming : (text : List ℕ) (at : ℕ) → at ≤ length text → Coming text at
coming text at within = by_length (cases_lt (next_at text at) (length text))
  where
    by_length : (next_at text at < length text) ⊎ (length text ≤ next_at text at) → Coming text at
    by_length (inl below) =
        let start : ℕ = next_at text at in
        let b : ℕ = get_or text start 0 in
        let behind : List ℕ = drop (suc start) text in
        let found = found_within b behind (first (b ∷ behind)) (stands b behind) in
        comes found.token (start + found.len)
        (taken text at start found.len found.token refl (omega (arith, next_at-is text at)) (ap first (drop-cons text start 0 below) ∙ found.is) found.some
        (omega (arith, found.most, length-drop (suc start) text)))
    by_length (inr over) = nothing_comes (no_next text at (next_at text at) refl over)
