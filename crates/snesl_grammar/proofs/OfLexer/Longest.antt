-- What stands first is the longest lexeme.
use Rattle.std.proofs.Common.{◌≡◌, ℕ, zero, suc, pos, ◌+◌, ◌≤◌, ◌<◌, Bool, true, false, not, cond, ◌&&◌, eqb, leb, List, [], ◌∷◌, length, take}
use Rattle.std.proofs.Common.{get_or, take_all, Option, Some, None, refl, sym, ap, subst, ◌∙◌, ◌⊎◌, inl, inr, arith, one-add}
use Rattle.std.specs.List.{list_all, prefix_len, take_while}
use Rattle.std.specs.Char.{is_ascii_digit, is_ascii_alphabetic}
use Rattle.std.proofs.lemmas.Bool.{and_parts, and_from, not-true, eqb-true, or_left, cond-true, cond-false, le-leb, lt-leb, cases_order, leb-true, leb-false, both_ways, cases_lt}
use Rattle.std.proofs.lemmas.Bool.Decides.{nat_tests}
use Rattle.std.proofs.lemmas.List.Sums.{prefix_len-le-length}
use Rattle.std.proofs.Math.Seq.{take-nil}
use Rattle.std.proofs.lemmas.List.{length-take-le}
use Rattle.std.proofs.lemmas.List.Folds.{length-prefix_len}
use Rattle.snesl_data.specs.declared.dialect.Dialect.{Dialect}
use Rattle.snesl_data.specs.Integers.{greatest_integer}
use Rattle.snesl_grammar.specs.declared.lexer.token.TokenKind.{TokenKind}
use Rattle.snesl_grammar.specs.declared.lexer.token.TokenKind.TheVariants.{Integer}
use Rattle.snesl_grammar.specs.declared.lexer.lexer.Foremost.{Foremost}
use Rattle.snesl_grammar.specs.declared.lexer.lexer.Foremost.TheVariants.{Blank, Found, Bad}
use Rattle.snesl_grammar.specs.lexer.Tables.{kind_in}
use Rattle.snesl_grammar.specs.lexer.Words.{word_kind}
use Rattle.snesl_grammar.specs.lexer.Signs.{one_byte_signs, two_byte_signs, longer_sign, sign_token}
use Rattle.snesl_data.specs.Blanks.{is_blank}
use Rattle.snesl_data.specs.Characters.{is_word, value_from}
use Rattle.snesl_grammar.specs.lexer.Lexical.{number, head_or, first}
use Rattle.snesl_grammar.specs.lexer.Lexemes.{IsWord, IsDigits, LexemeMeaning, token, too_great, Lexeme, a_word, an_integer, an_excess, a_sign, a_long_sign}
use Rattle.snesl_grammar.specs.lexer.Lexemes.{IsLongest, BeginsWithNone, StandsFirst, FirstIsLongest}
use Rattle.snesl_grammar.proofs.OfLexer.Tables.{kind_in_passes}

-- a byte that is no blank, no letter and no digit
abbrev is_mark : ℕ → Bool
is_mark b = not (is_blank b) && (not (is_ascii_alphabetic b) && not (is_ascii_digit b))

record IsMark (b : ℕ) : Type 0 where
  no_blank : is_blank b ≡ false
  no_letter : is_ascii_alphabetic b ≡ false
  no_digit : is_ascii_digit b ≡ false

is_mark-true : (b : ℕ) → is_mark b ≡ true → IsMark b
is_mark-true b h =
    let parts = and_parts (not (is_blank b)) (not (is_ascii_alphabetic b) && not (is_ascii_digit b)) h in
    let rest = and_parts (not (is_ascii_alphabetic b)) (not (is_ascii_digit b)) parts.1 in
    record { no_blank = not-true _ parts.0; no_letter = not-true _ rest.0; no_digit = not-true _ rest.1 }

letter_no_blank : (b : ℕ) → is_ascii_alphabetic b ≡ true → is_blank b ≡ false
letter_no_blank b h = grind (arith, nat_tests)

digit_no_blank : (b : ℕ) → is_ascii_digit b ≡ true → is_blank b ≡ false
digit_no_blank b h = grind (arith, nat_tests)

digit_no_letter : (b : ℕ) → is_ascii_digit b ≡ true → is_ascii_alphabetic b ≡ false
digit_no_letter b h = grind (arith, nat_tests)

-- the row of the table that a text stands in, by its first byte
data Row : List ℕ → LexemeMeaning → Type 0 where
  word_row : {b : ℕ} {bs : List ℕ} {m : LexemeMeaning} → is_ascii_alphabetic b ≡ true → list_all is_word bs ≡ true → Row (b ∷ bs) m
  digits_row : {b : ℕ} {bs : List ℕ} {m : LexemeMeaning} → is_ascii_digit b ≡ true → list_all is_ascii_digit bs ≡ true → Row (b ∷ bs) m
  one_row : {b : ℕ} {kind : TokenKind} → IsMark b → kind_in one_byte_signs (b ∷ []) ≡ Some kind → Row (b ∷ []) (token kind)
  two_row : {b c : ℕ} {kind : TokenKind} → IsMark b → kind_in two_byte_signs (b ∷ c ∷ []) ≡ Some kind → Row (b ∷ c ∷ []) (token kind)

-- a sign of one byte, and one of two
data IsOneMark : List ℕ → Type 0 where
  one_mark : {b : ℕ} → IsMark b → IsOneMark (b ∷ [])

data IsTwoMarks : List ℕ → Type 0 where
  two_marks : {b c : ℕ} → IsMark b → IsTwoMarks (b ∷ c ∷ [])

abbrev is_sign_of : ℕ → List ℕ → Bool
is_sign_of n text = eqb (length text) n && is_mark (head_or text)

one_byte : (text : List ℕ) (kind : TokenKind) → kind_in one_byte_signs text ≡ Some kind → IsOneMark text
one_byte text kind e = by_cases text (and_parts (eqb (length text) 1) (is_mark (head_or text)) (kind_in_passes (is_sign_of 1) one_byte_signs text kind refl e))
  where
    by_cases : (t : List ℕ) → (eqb (length t) 1 ≡ true) × (is_mark (head_or t) ≡ true) → IsOneMark t
    by_cases [] p = absurd (omega (arith, eqb-true 0 1 p.0))
    by_cases (b ∷ []) p = one_mark (is_mark-true b p.1)
    by_cases (b ∷ c ∷ cs) p = absurd (omega (arith, eqb-true (suc (suc (length cs))) 1 p.0))

two_bytes : (text : List ℕ) (kind : TokenKind) → kind_in two_byte_signs text ≡ Some kind → IsTwoMarks text
two_bytes text kind e = by_cases text (and_parts (eqb (length text) 2) (is_mark (head_or text)) (kind_in_passes (is_sign_of 2) two_byte_signs text kind refl e))
  where
    by_cases : (t : List ℕ) → (eqb (length t) 2 ≡ true) × (is_mark (head_or t) ≡ true) → IsTwoMarks t
    by_cases [] p = absurd (omega (arith, eqb-true 0 2 p.0))
    by_cases (b ∷ []) p = absurd (omega (arith, eqb-true 1 2 p.0))
    by_cases (b ∷ c ∷ []) p = two_marks (is_mark-true b p.1)
    by_cases (b ∷ c ∷ d ∷ cs) p = absurd (omega (arith, eqb-true (suc (suc (suc (length cs)))) 2 p.0))

row_of_one : (text : List ℕ) (kind : TokenKind) → IsOneMark text → kind_in one_byte_signs text ≡ Some kind → Row text (token kind)
row_of_one text kind (one_mark mark) e = one_row mark e

row_of_two : (text : List ℕ) (kind : TokenKind) → IsTwoMarks text → kind_in two_byte_signs text ≡ Some kind → Row text (token kind)
row_of_two text kind (two_marks mark) e = two_row mark e

row_of : (dialect : Dialect) → (text : List ℕ) (m : LexemeMeaning) → Lexeme dialect text m → Row text m
row_of dialect [] m (a_word h) = absurd h
row_of dialect [] m (an_integer h within) = absurd h
row_of dialect [] m (an_excess h over) = absurd h
row_of dialect (b ∷ bs) m (a_word h) = word_row h.0 h.1
row_of dialect (b ∷ bs) m (an_integer h within) = digits_row (and_parts _ _ h).0 (and_parts _ _ h).1
row_of dialect (b ∷ bs) m (an_excess h over) = digits_row (and_parts _ _ h).0 (and_parts _ _ h).1
row_of dialect text m (a_sign {kind = kind} e) = row_of_one text kind (one_byte text kind e) e
row_of dialect text m (a_long_sign {kind = kind} e) = row_of_two text kind (two_bytes text kind e) e

-- the longest beginning whose bytes pass a test: they do, no longer one does, and it is not empty where the first byte passes
run_passes : (p : ℕ → Bool) (xs : List ℕ) → list_all p (take (prefix_len p xs) xs) ≡ true
run_passes p [] = refl
run_passes p (x ∷ xs) = by_test (p x) refl (run_passes p xs)
  where
    by_test : (t : Bool) → p x ≡ t → list_all p (take (prefix_len p xs) xs) ≡ true
        → list_all p (take (cond t (1 + prefix_len p xs) 0) (x ∷ xs)) ≡ true
    by_test true e h = rw one-add (and_from (p x) (list_all p (take (prefix_len p xs) xs)) e h)
    by_test false e h = refl

run_within : (p : ℕ → Bool) (xs : List ℕ) (n : ℕ) → n ≤ length xs → list_all p (take n xs) ≡ true → n ≤ prefix_len p xs
run_within p [] n below all = below
run_within p (x ∷ xs) zero below all = omega arith
run_within p (x ∷ xs) (suc n) below all =
    let parts = and_parts (p x) (list_all p (take n xs)) all in
    let rest : n ≤ prefix_len p xs = run_within p xs n (omega arith) parts.1 in
    rw (cond-true (p x) (1 + prefix_len p xs) 0 parts.0) (omega arith)

run_of : (p : ℕ → Bool) (x : ℕ) (xs : List ℕ) → p x ≡ true → take_while p (x ∷ xs) ≡ x ∷ take (prefix_len p xs) xs
run_of p x xs h = ap (λ n. take n (x ∷ xs)) (cond-true (p x) (1 + prefix_len p xs) 0 h ∙ one-add (prefix_len p xs))

-- what each class of first byte leaves of the table
no_row : (m : LexemeMeaning) → Row [] m → ⊥
no_row m h = elim h [ ]

blank_row : (b : ℕ) (bs : List ℕ) (m : LexemeMeaning) → is_blank b ≡ true → Row (b ∷ bs) m → ⊥
blank_row b bs m t (word_row h all) = both_ways _ (letter_no_blank b h) t
blank_row b bs m t (digits_row h all) = both_ways _ (digit_no_blank b h) t
blank_row b bs m t (one_row mark e) = both_ways _ mark.no_blank t
blank_row b bs m t (two_row mark e) = both_ways _ mark.no_blank t

letter_row : (b : ℕ) (bs : List ℕ) (m : LexemeMeaning) → is_ascii_alphabetic b ≡ true → Row (b ∷ bs) m → list_all is_word bs ≡ true
letter_row b bs m t (word_row h all) = all
letter_row b bs m t (digits_row h all) = absurd (both_ways _ (digit_no_letter b h) t)
letter_row b bs m t (one_row mark e) = absurd (both_ways _ mark.no_letter t)
letter_row b bs m t (two_row mark e) = absurd (both_ways _ mark.no_letter t)

digit_row : (b : ℕ) (bs : List ℕ) (m : LexemeMeaning) → is_ascii_digit b ≡ true → Row (b ∷ bs) m → list_all is_ascii_digit bs ≡ true
digit_row b bs m t (word_row h all) = absurd (both_ways _ (digit_no_letter b t) h)
digit_row b bs m t (digits_row h all) = all
digit_row b bs m t (one_row mark e) = absurd (both_ways _ mark.no_digit t)
digit_row b bs m t (two_row mark e) = absurd (both_ways _ mark.no_digit t)

-- the signs that bytes may begin with: one byte, or the byte after it too
Signs : ℕ → List ℕ → Type 0
Signs b bs =
    ((bs ≡ []) × (kind : TokenKind) × (kind_in one_byte_signs (b ∷ []) ≡ Some kind))
    ⊎ ((length bs ≡ 1) × (kind : TokenKind) × (kind_in two_byte_signs (b ∷ head_or bs ∷ []) ≡ Some kind))

mark_row : (b : ℕ) (bs : List ℕ) (m : LexemeMeaning) → IsMark b → Row (b ∷ bs) m → Signs b bs
unfolding Signs
mark_row b bs m t (word_row h all) = absurd (both_ways _ t.no_letter h)
mark_row b bs m t (digits_row h all) = absurd (both_ways _ t.no_digit h)
mark_row b bs m t (one_row {kind = kind} mark e) = inl (refl, kind, e)
mark_row b bs m t (two_row {kind = kind} mark e) = inr (refl, kind, e)

-- bytes begin with no lexeme, where no beginning stands in a row
none_from : (dialect : Dialect) → (b : ℕ) (bs : List ℕ) → ((n : ℕ) (m : LexemeMeaning) → n ≤ length bs → Row (b ∷ take n bs) m → ⊥) → BeginsWithNone dialect (b ∷ bs)
none_from dialect b bs h zero m l = no_row m (row_of dialect [] m l)
none_from dialect b bs h (suc n) m l = elim (cases_lt (length bs) n) [
  | inl more ↦ h (length bs) m (omega arith) (subst (λ cs. Row (b ∷ cs) m) (take_all n bs (omega arith) ∙ sym (take_all (length bs) bs (omega arith))) (row_of dialect (b ∷ take n bs) m l))
  | inr less ↦ h n m less (row_of dialect (b ∷ take n bs) m l)
]

-- no beginning is a longer lexeme, where those in a row are at most this long
no_longer_from : (dialect : Dialect) → (b : ℕ) (bs : List ℕ) (k : ℕ) → ((n : ℕ) (m : LexemeMeaning) → n ≤ length bs → Row (b ∷ take n bs) m → n ≤ k)
    → (n : ℕ) (m : LexemeMeaning) → suc k < n → n ≤ suc (length bs) → ¬ Lexeme dialect (take n (b ∷ bs)) m
no_longer_from dialect b bs k h zero m over below l = omega arith
no_longer_from dialect b bs k h (suc n) m over below l =
    let most : n ≤ k = h n m (omega arith) (row_of dialect (b ∷ take n bs) m l) in absurd (omega arith)

-- what stands first, by the class of the first byte
word_first : (dialect : Dialect) → (b : ℕ) (bs : List ℕ) → is_ascii_alphabetic b ≡ true
    → (word : List ℕ) → word ≡ b ∷ take (prefix_len is_word bs) bs → IsLongest dialect (b ∷ bs) (length word) (token (word_kind word))
word_first dialect b bs h word e =
    let len : suc (prefix_len is_word bs) ≡ length word = sym (ap length e ∙ ap suc (length-prefix_len is_word bs)) in
    let reads : Lexeme dialect (b ∷ take (prefix_len is_word bs) bs) (token (word_kind (b ∷ take (prefix_len is_word bs) bs))) =
    a_word (h, run_passes is_word bs) in
    subst (λ n. IsLongest dialect (b ∷ bs) n (token (word_kind word))) len (record {
      within = omega (arith, prefix_len-le-length is_word bs);
      reads = subst (λ text. Lexeme dialect (b ∷ take (prefix_len is_word bs) bs) (token (word_kind text))) (sym e) reads;
      no_longer = no_longer_from dialect b bs (prefix_len is_word bs) (λ n m below r. run_within is_word bs n below (letter_row b (take n bs) m h r));
    })

digits_first : (dialect : Dialect) → (b : ℕ) (bs : List ℕ) → is_ascii_digit b ≡ true
    → (digits : List ℕ) → digits ≡ b ∷ take (prefix_len is_ascii_digit bs) bs → StandsFirst dialect (b ∷ bs) (number dialect digits)
digits_first dialect b bs h digits e = by_value (leb (value_from 0 digits) (greatest_integer dialect)) refl
  where
    k : ℕ
    k = prefix_len is_ascii_digit bs

    len : length digits ≡ suc (prefix_len is_ascii_digit bs)
    len = ap length e ∙ ap suc (length-prefix_len is_ascii_digit bs)

    all : IsDigits (b ∷ take (prefix_len is_ascii_digit bs) bs)
    all = and_from (is_ascii_digit b) (list_all is_ascii_digit (take (prefix_len is_ascii_digit bs) bs)) h (run_passes is_ascii_digit bs)

    longest : (m : LexemeMeaning) → Lexeme dialect (b ∷ take (prefix_len is_ascii_digit bs) bs) m → IsLongest dialect (b ∷ bs) (suc (prefix_len is_ascii_digit bs)) m
    longest m reads = record {
      within = omega (arith, prefix_len-le-length is_ascii_digit bs);
      reads = reads;
      no_longer = no_longer_from dialect b bs (prefix_len is_ascii_digit bs) (λ n other below r. run_within is_ascii_digit bs n below (digit_row b (take n bs) other h r));
    }

    by_value : (t : Bool) → leb (value_from 0 digits) (greatest_integer dialect) ≡ t
        → StandsFirst dialect (b ∷ bs) (cond t (Found (Integer (pos (value_from 0 digits))) (length digits)) Bad)
    by_value true f =
        let reads = an_integer (subst IsDigits (sym e) all) (leb-true _ _ f) in
        rw len (longest (token (Integer (pos (value_from 0 digits)))) (subst (λ text. Lexeme dialect text (token (Integer (pos (value_from 0 digits))))) e reads))
    by_value false f = inr (suc (prefix_len is_ascii_digit bs), longest too_great (subst (λ text. Lexeme dialect text too_great) e (an_excess (subst IsDigits (sym e) all) (leb-false _ _ f))))

head_take : (n : ℕ) (bs : List ℕ) → 0 < length (take n bs) → head_or (take n bs) ≡ head_or bs
head_take zero bs some = absurd (omega arith)
head_take (suc n) [] some = refl
head_take (suc n) (b ∷ bs) some = refl

-- no sign ends in a byte 0, which stands for no byte
no_zero : (b : ℕ) (kind : TokenKind) → kind_in two_byte_signs (b ∷ 0 ∷ []) ≡ Some kind → ⊥
no_zero b kind e =
    let ends : false ≡ true = kind_in_passes (λ text. not (eqb (get_or text 1 1) 0)) two_byte_signs (b ∷ 0 ∷ []) kind refl e in cc

-- a sign at the front is that of the byte after the first one, or of the first one alone
data Standing (b : ℕ) (bs : List ℕ) : ℕ → Type 0 where
  alone : {kind : TokenKind} → kind_in one_byte_signs (b ∷ []) ≡ Some kind → Standing b bs 0
  with_next : {kind : TokenKind} → kind_in two_byte_signs (b ∷ head_or bs ∷ []) ≡ Some kind → Standing b bs 1

standing : (b : ℕ) (bs : List ℕ) (n : ℕ) (m : LexemeMeaning) → IsMark b → n ≤ length bs → Row (b ∷ take n bs) m → Standing b bs n
unfolding Signs
standing b bs n m mark below r = by_signs (mark_row b (take n bs) m mark r)
  where
    len : length (take n bs) ≡ n
    len = length-take-le n bs below

    by_signs : Signs b (take n bs) → Standing b bs n
    by_signs (inl (none, kind, e)) = subst (Standing b bs) (sym (ap length none) ∙ len) (alone e)
    by_signs (inr (one, kind, e)) =
        subst (Standing b bs) (sym one ∙ len)
        (with_next (subst (λ c. kind_in two_byte_signs (b ∷ c ∷ []) ≡ Some kind) (head_take n bs (omega arith)) e))

standing_below : {b n : ℕ} {bs : List ℕ} → Standing b bs n → n ≤ 1
standing_below (alone e) = omega arith
standing_below (with_next e) = omega arith

alone_below : {b n : ℕ} {bs : List ℕ} → kind_in two_byte_signs (b ∷ head_or bs ∷ []) ≡ None → Standing b bs n → n ≤ 0
alone_below none (alone e) = omega arith
alone_below none (with_next e) = cc

none_standing : {b n : ℕ} {bs : List ℕ} → kind_in two_byte_signs (b ∷ head_or bs ∷ []) ≡ None → kind_in one_byte_signs (b ∷ []) ≡ None
    → Standing b bs n → ⊥
none_standing none nor (alone e) = cc
none_standing none nor (with_next e) = cc

two_first : (dialect : Dialect) → (b : ℕ) (bs : List ℕ) (kind : TokenKind) → IsMark b → kind_in two_byte_signs (b ∷ head_or bs ∷ []) ≡ Some kind
    → IsLongest dialect (b ∷ bs) 2 (token kind)
two_first dialect b [] kind mark e = absurd (no_zero b kind e)
two_first dialect b (c ∷ bs) kind mark e = record {
  within = omega arith;
  reads = a_long_sign e;
  no_longer = no_longer_from dialect b (c ∷ bs) 1 (λ n m below r. standing_below (standing b (c ∷ bs) n m mark below r));
}

sign_first : (dialect : Dialect) → (b : ℕ) (bs : List ℕ) → IsMark b → StandsFirst dialect (b ∷ bs) (sign_token b (head_or bs))
sign_first dialect b bs mark = by_signs (kind_in two_byte_signs (b ∷ head_or bs ∷ [])) refl (kind_in one_byte_signs (b ∷ [])) refl
  where
    by_signs : (two : Option TokenKind) → kind_in two_byte_signs (b ∷ head_or bs ∷ []) ≡ two
        → (one : Option TokenKind) → kind_in one_byte_signs (b ∷ []) ≡ one → StandsFirst dialect (b ∷ bs) (longer_sign two one)
    by_signs (Some kind) e one f = two_first dialect b bs kind mark e
    by_signs None e (Some kind) f = record {
      within = omega arith;
      reads = a_sign f;
      no_longer = no_longer_from dialect b bs 0 (λ n m below r. alone_below e (standing b bs n m mark below r));
    }
    by_signs None e None f =
        inl (λ t. both_ways _ mark.no_blank t, none_from dialect b bs (λ n m below r. none_standing e f (standing b bs n m mark below r)))

pub stands_first : (dialect : Dialect) → (bytes : List ℕ) → StandsFirst dialect bytes (first dialect bytes)
stands_first dialect [] = inl (λ h. h, λ n m l. no_row m (row_of dialect [] m (subst (λ text. Lexeme dialect text m) (take-nil n) l)))
stands_first dialect (b ∷ bs) = by_class (is_blank b) refl (is_ascii_alphabetic b) refl (is_ascii_digit b) refl
  where
    by_class : (t : Bool) → is_blank b ≡ t → (u : Bool) → is_ascii_alphabetic b ≡ u → (v : Bool) → is_ascii_digit b ≡ v
        → StandsFirst dialect (b ∷ bs) (cond t Blank (cond u (let word = take_while is_word (b ∷ bs) in Found (word_kind word) (length word))
        (cond v (number dialect (take_while is_ascii_digit (b ∷ bs))) (sign_token b (head_or bs)))))
    by_class true e u f v g = (e, none_from dialect b bs (λ n m below r. blank_row b (take n bs) m e r))
    by_class false e true f v g = word_first dialect b bs f _ (run_of is_word b bs (or_left _ (eqb b 95) (or_left _ (is_ascii_digit b) f)))
    by_class false e false f true g = digits_first dialect b bs g _ (run_of is_ascii_digit b bs g)
    by_class false e false f false g = sign_first dialect b bs (record { no_blank = e; no_letter = f; no_digit = g })

-- what the lexer finds in a lexeme alone
abbrev alone_is : ℕ → LexemeMeaning → Foremost
alone_is len (token kind) = Found kind len
alone_is len too_great = Bad

-- a lexeme alone is found whole, so it has one meaning
whole_run : (p : ℕ → Bool) (b : ℕ) (bs : List ℕ) → p b ≡ true → list_all p bs ≡ true → take_while p (b ∷ bs) ≡ b ∷ bs
whole_run p b bs h all =
    let whole : take (length bs) bs ≡ bs = take_all (length bs) bs (omega arith) in
    let most : length bs ≤ prefix_len p bs = run_within p bs (length bs) (omega arith) (ap (list_all p) whole ∙ all) in
    run_of p b bs h ∙ ap (λ cs. b ∷ cs) (take_all (prefix_len p bs) bs most)

first_letter : (dialect : Dialect) → (b : ℕ) (bs : List ℕ) → is_ascii_alphabetic b ≡ true
    → first dialect (b ∷ bs) ≡ (let word = take_while is_word (b ∷ bs) in Found (word_kind word) (length word))
first_letter dialect b bs h = cond-false _ _ _ (letter_no_blank b h) ∙ cond-true _ _ _ h

first_digit : (dialect : Dialect) → (b : ℕ) (bs : List ℕ) → is_ascii_digit b ≡ true → first dialect (b ∷ bs) ≡ number dialect (take_while is_ascii_digit (b ∷ bs))
first_digit dialect b bs h = cond-false _ _ _ (digit_no_blank b h) ∙ cond-false _ _ _ (digit_no_letter b h) ∙ cond-true _ _ _ h

first_mark : (dialect : Dialect) → (b : ℕ) (bs : List ℕ) → IsMark b → first dialect (b ∷ bs) ≡ sign_token b (head_or bs)
first_mark dialect b bs h = cond-false _ _ _ h.no_blank ∙ cond-false _ _ _ h.no_letter ∙ cond-false _ _ _ h.no_digit

word_alone : (dialect : Dialect) → (text : List ℕ) → IsWord text → first dialect text ≡ Found (word_kind text) (length text)
word_alone dialect [] h = absurd h
word_alone dialect (b ∷ bs) h =
    first_letter dialect b bs h.0
    ∙ ap (λ word. Found (word_kind word) (length word)) (whole_run is_word b bs (or_left _ (eqb b 95) (or_left _ (is_ascii_digit b) h.0)) h.1)

digits_alone : (dialect : Dialect) → (text : List ℕ) → IsDigits text → first dialect text ≡ number dialect text
digits_alone dialect [] h = absurd h
digits_alone dialect (b ∷ bs) h =
    let parts = and_parts (is_ascii_digit b) (list_all is_ascii_digit bs) h in
    first_digit dialect b bs parts.0 ∙ ap (number dialect) (whole_run is_ascii_digit b bs parts.0 parts.1)

no_next : (b : ℕ) (two : Option TokenKind) → kind_in two_byte_signs (b ∷ 0 ∷ []) ≡ two → two ≡ None
no_next b None e = refl
no_next b (Some kind) e = absurd (no_zero b kind e)

one_alone : (dialect : Dialect) → (text : List ℕ) (kind : TokenKind) → IsOneMark text → kind_in one_byte_signs text ≡ Some kind → first dialect text ≡ Found kind (length text)
one_alone dialect text kind (one_mark {b = b} mark) e =
    first_mark dialect b [] mark
    ∙ ap (λ two. longer_sign two (kind_in one_byte_signs (b ∷ []))) (no_next b (kind_in two_byte_signs (b ∷ 0 ∷ [])) refl)
    ∙ ap (longer_sign None) e

two_alone : (dialect : Dialect) → (text : List ℕ) (kind : TokenKind) → IsTwoMarks text → kind_in two_byte_signs text ≡ Some kind → first dialect text ≡ Found kind (length text)
two_alone dialect text kind (two_marks {b = b} {c = c} mark) e =
    first_mark dialect b (c ∷ []) mark ∙ ap (λ two. longer_sign two (kind_in one_byte_signs (b ∷ []))) e

lexeme_alone : (dialect : Dialect) → (text : List ℕ) (m : LexemeMeaning) → Lexeme dialect text m → first dialect text ≡ alone_is (length text) m
lexeme_alone dialect text m (a_word h) = word_alone dialect text h
lexeme_alone dialect text m (an_integer h most) = digits_alone dialect text h ∙ cond-true _ _ _ (le-leb _ _ most)
lexeme_alone dialect text m (an_excess h over) = digits_alone dialect text h ∙ cond-false _ _ _ (lt-leb _ _ over)
lexeme_alone dialect text m (a_sign {kind = kind} e) = one_alone dialect text kind (one_byte text kind e) e
lexeme_alone dialect text m (a_long_sign {kind = kind} e) = two_alone dialect text kind (two_bytes text kind e) e

same_alone : (len : ℕ) (m n : LexemeMeaning) → alone_is len m ≡ alone_is len n → m ≡ n
same_alone len (token k) (token l) e = cc
same_alone len (token k) too_great e = cc
same_alone len too_great (token l) e = cc
same_alone len too_great too_great e = refl

-- a text is one lexeme at most
one_meaning : (dialect : Dialect) → (text : List ℕ) (m n : LexemeMeaning) → Lexeme dialect text m → Lexeme dialect text n → m ≡ n
one_meaning dialect text m n h k = same_alone (length text) m n (sym (lexeme_alone dialect text m h) ∙ lexeme_alone dialect text n k)

-- there is one longest lexeme at most
one_length : (dialect : Dialect) → {bytes : List ℕ} {k l : ℕ} {m n : LexemeMeaning} → IsLongest dialect bytes k m → IsLongest dialect bytes l n → k ≡ l
one_length dialect {k = k} {l = l} {m = m} {n = n} h j = elim (cases_order k l) [
  | inl same ↦ same
  | inr (inl less) ↦ absurd (h.no_longer l n less j.within j.reads)
  | inr (inr more) ↦ absurd (j.no_longer k m more h.within h.reads)
]

one_longest : (dialect : Dialect) → {bytes : List ℕ} {k l : ℕ} {m n : LexemeMeaning} → IsLongest dialect bytes k m → IsLongest dialect bytes l n → m ≡ n
one_longest dialect {bytes = bytes} {k = k} {l = l} {m = m} {n = n} h j =
    one_meaning dialect (take k bytes) m n h.reads (subst (λ i. Lexeme dialect (take i bytes) n) (sym (one_length dialect h j)) j.reads)

-- one thing stands first at most
only_one : (dialect : Dialect) → (bytes : List ℕ) (x y : Foremost) → StandsFirst dialect bytes x → StandsFirst dialect bytes y → x ≡ y
only_one dialect bytes Blank Blank h j = refl
only_one dialect bytes Blank (Found k len) h j = absurd (h.1 len (token k) j.reads)
only_one dialect bytes Blank Bad h (inl j) = absurd (j.0 h.0)
only_one dialect bytes Blank Bad h (inr j) = absurd (h.1 j.0 too_great j.1.reads)
only_one dialect bytes (Found k len) Blank h j = absurd (j.1 len (token k) h.reads)
only_one dialect bytes (Found k len) (Found l other) h j =
    let lens : len ≡ other = one_length dialect h j in
    let kinds : token k ≡ token l = one_longest dialect h j in cc
only_one dialect bytes (Found k len) Bad h (inl j) = absurd (j.1 len (token k) h.reads)
only_one dialect bytes (Found k len) Bad h (inr j) = let same : token k ≡ too_great = one_longest dialect h j.1 in cc
only_one dialect bytes Bad Blank (inl h) j = absurd (h.0 j.0)
only_one dialect bytes Bad Blank (inr h) j = absurd (j.1 h.0 too_great h.1.reads)
only_one dialect bytes Bad (Found k len) (inl h) j = absurd (h.1 len (token k) j.reads)
only_one dialect bytes Bad (Found k len) (inr h) j = let same : too_great ≡ token k = one_longest dialect h.1 j in cc
only_one dialect bytes Bad Bad h j = refl

pub first_is_longest : FirstIsLongest
first_is_longest dialect bytes it =
    (λ e. subst (StandsFirst dialect bytes) e (stands_first dialect bytes), λ h. only_one dialect bytes (first dialect bytes) it (stands_first dialect bytes) h)

-- a token has at least one byte
pub found_some : (dialect : Dialect) → (bytes : List ℕ) (kind : TokenKind) (len : ℕ) → first dialect bytes ≡ Found kind len → 0 < len
found_some dialect bytes kind len e = by_len len (subst (StandsFirst dialect bytes) e (stands_first dialect bytes))
  where
    by_len : (n : ℕ) → IsLongest dialect bytes n (token kind) → 0 < n
    by_len zero h = absurd (no_row (token kind) (row_of dialect [] (token kind) h.reads))
    by_len (suc n) h = omega arith
