-- The words of a text's tokens are the lexemes that were read, which name their kinds.
use Rattle.std.proofs.Common.{◌≡◌, ℕ, zero, suc, pos, ◌+◌, ◌-◌, ◌≤◌, ◌<◌, Bool, true, false, not, cond, leb, List, [], ◌∷◌, length, take, drop}
use Rattle.std.proofs.Common.{Option, Some, None, ◌⊎◌, inl, inr, refl, sym, ap, subst, ◌∙◌, arith, one-add, length-drop, drop-drop}
use Rattle.std.specs.List.{list_all, prefix_len, take_while}
use Rattle.std.specs.Option.{unwrap_or}
use Rattle.std.specs.Str.{bytes_eq}
use Rattle.std.specs.Char.{is_ascii_digit, is_ascii_alphabetic}
use Rattle.std.proofs.lemmas.Bool.{and_parts, and_from, cond-true, cond-false}
use Rattle.std.proofs.lemmas.Bool.Decides.{nat_tests}
use Rattle.std.proofs.lemmas.List.{length-take-le, take-take, drop-take}
use Rattle.std.proofs.Math.Seq.{take-nil}
use Rattle.snesl_data.specs.declared.dialect.Dialect.{Dialect}
use Rattle.snesl_data.specs.Integers.{greatest_integer}
use Rattle.snesl_data.specs.Blanks.{is_blank}
use Rattle.snesl_data.specs.Characters.{is_word, value_from}
use Rattle.snesl_grammar.specs.declared.lexer.token.TokenKind.{TokenKind}
use Rattle.snesl_grammar.specs.declared.lexer.token.TokenKind.TheVariants.{Name, Integer}
use Rattle.snesl_grammar.specs.declared.lexer.token.Token.{Token}
use Rattle.snesl_grammar.specs.declared.lexer.lexer.Foremost.{Foremost}
use Rattle.snesl_grammar.specs.declared.lexer.lexer.Foremost.TheVariants.{Blank, Found, Bad}
use Rattle.snesl_grammar.specs.lexer.Tables.{kind_in}
use Rattle.snesl_grammar.specs.lexer.Words.{word_kind, reserved_words}
use Rattle.snesl_grammar.specs.lexer.Signs.{one_byte_signs, two_byte_signs, longer_sign, sign_token}
use Rattle.snesl_grammar.specs.lexer.Lexical.{number, head_or, first, Tokens, none_left, skips, takes}
use Rattle.snesl_grammar.specs.lexer.Lexemes.{token, LexemeMeaning, Lexeme, a_word, an_integer, an_excess, a_sign, a_long_sign, StandsFirst, IsLongest}
use Rattle.snesl_grammar.proofs.OfLexer.Longest.{stands_first, first_is_longest}
use Rattle.snesl_grammar.proofs.OfLexer.Tables.{kind_in_passes}
use Rattle.snesl_layout.specs.Spacing.{is_printed, next_at, token_bytes}

-- what stands first in bytes is all that stands in its own bytes
longest_at : (dialect : Dialect) (bytes : List ℕ) (kind : TokenKind) (len : ℕ) → first dialect bytes ≡ Found kind len
    → IsLongest dialect bytes len (token kind)
longest_at dialect bytes kind len e = (first_is_longest dialect bytes (Found kind len)).0 e

reads_alone : (dialect : Dialect) (bytes : List ℕ) (kind : TokenKind) (len : ℕ) → first dialect bytes ≡ Found kind len
    → first dialect (take len bytes) ≡ Found kind len
reads_alone dialect bytes kind len e =
    let longest = longest_at dialect bytes kind len e in
    let within : len ≤ length bytes = longest.within in
    let size : length (take len bytes) ≡ len = length-take-le len bytes within in
    (first_is_longest dialect (take len bytes) (Found kind len)).1 (record {
      within = omega arith;
      reads = subst (λ word. Lexeme dialect word (token kind)) (sym (take-take len len bytes (omega arith))) longest.reads;
      no_longer = λ n other longer below. absurd (omega arith);
    })

-- a lexeme has no blanks
all_pass : (p q : ℕ → Bool) → ((b : ℕ) → p b ≡ true → q b ≡ true) → (bs : List ℕ) → list_all p bs ≡ true → list_all q bs ≡ true
all_pass p q more [] h = refl
all_pass p q more (b ∷ bs) h =
    let parts = and_parts (p b) (list_all p bs) h in
    and_from (q b) (list_all q bs) (more b parts.0) (all_pass p q more bs parts.1)

letter_no_blank : (b : ℕ) → is_ascii_alphabetic b ≡ true → is_blank b ≡ false
letter_no_blank b h = grind (arith, nat_tests)

digit_no_blank : (b : ℕ) → is_ascii_digit b ≡ true → is_blank b ≡ false
digit_no_blank b h = grind (arith, nat_tests)

word_no_blank : (b : ℕ) → is_word b ≡ true → is_blank b ≡ false
word_no_blank b h = grind (arith, nat_tests)

lexeme_printed : (dialect : Dialect) (text : List ℕ) (meaning : LexemeMeaning) → Lexeme dialect text meaning → list_all is_printed text ≡ true
lexeme_printed dialect [] meaning l = refl
lexeme_printed dialect (b ∷ bs) meaning (a_word h) =
    and_from (is_printed b) (list_all is_printed bs) (ap not (letter_no_blank b h.0)) (all_pass is_word is_printed (λ c h. ap not (word_no_blank c h)) bs h.1)
lexeme_printed dialect (b ∷ bs) meaning (an_integer h within) = all_pass is_ascii_digit is_printed (λ c h. ap not (digit_no_blank c h)) (b ∷ bs) h
lexeme_printed dialect (b ∷ bs) meaning (an_excess h over) = all_pass is_ascii_digit is_printed (λ c h. ap not (digit_no_blank c h)) (b ∷ bs) h
lexeme_printed dialect (b ∷ bs) meaning (a_sign {kind = kind} e) = kind_in_passes (list_all is_printed) one_byte_signs (b ∷ bs) kind refl e
lexeme_printed dialect (b ∷ bs) meaning (a_long_sign {kind = kind} e) = kind_in_passes (list_all is_printed) two_byte_signs (b ∷ bs) kind refl e

-- a word has one kind in all dialects
number_kind : (dialect : Dialect) (digits : List ℕ) (kind : TokenKind) (len : ℕ) → number dialect digits ≡ Found kind len
    → kind ≡ Integer (pos (value_from 0 digits))
number_kind dialect digits kind len e = by_test (leb (value_from 0 digits) (greatest_integer dialect)) e
  where
    by_test : (t : Bool) → cond t (Found (Integer (pos (value_from 0 digits))) (length digits)) Bad ≡ Found kind len
        → kind ≡ Integer (pos (value_from 0 digits))
    by_test true f = cc
    by_test false f = cc

pub one_kind : (dialect its_dialect : Dialect) (word : List ℕ) (kind its_kind : TokenKind) (len its_len : ℕ)
    → first dialect word ≡ Found kind len → first its_dialect word ≡ Found its_kind its_len → kind ≡ its_kind
one_kind dialect its_dialect [] kind its_kind len its_len e f = cc
one_kind dialect its_dialect (b ∷ bs) kind its_kind len its_len e f = by_class (is_blank b) (is_ascii_alphabetic b) (is_ascii_digit b) e f
  where
    word : Foremost
    word = let word = take_while is_word (b ∷ bs) in Found (word_kind word) (length word)

    digits : List ℕ
    digits = take_while is_ascii_digit (b ∷ bs)

    by_class : (t u v : Bool) → cond t Blank (cond u word (cond v (number dialect digits) (sign_token b (head_or bs)))) ≡ Found kind len
        → cond t Blank (cond u word (cond v (number its_dialect digits) (sign_token b (head_or bs)))) ≡ Found its_kind its_len → kind ≡ its_kind
    by_class true u v g h = cc
    by_class false true v g h = cc
    by_class false false true g h = number_kind dialect digits kind len g ∙ sym (number_kind its_dialect digits its_kind its_len h)
    by_class false false false g h = cc

-- a name is as long as its word
abbrev is_no_name : TokenKind → Bool
is_no_name (Name len) = false
is_no_name _ = true

kinds_pass : (p : TokenKind → Bool) (rows : List (List ℕ × TokenKind)) (text : List ℕ) (kind : TokenKind)
    → list_all (λ (row : List ℕ × TokenKind). p row.1) rows ≡ true → kind_in rows text ≡ Some kind → p kind ≡ true
kinds_pass p [] text kind all found = cc
kinds_pass p (row ∷ rows) text kind all found =
    let parts = and_parts (p row.1) (list_all (λ (r : List ℕ × TokenKind). p r.1) rows) all in
    by_test (bytes_eq text row.0) parts.0 (kinds_pass p rows text kind parts.1) found
  where
    by_test : (b : Bool) → p row.1 ≡ true → (kind_in rows text ≡ Some kind → p kind ≡ true)
        → cond b (Some row.1) (kind_in rows text) ≡ Some kind → p kind ≡ true
    by_test true here later found = let same : row.1 ≡ kind = cc in ap p (sym same) ∙ here
    by_test false here later found = later found

no_name : (rows : List (List ℕ × TokenKind)) (text : List ℕ) (len : ℕ)
    → list_all (λ (row : List ℕ × TokenKind). is_no_name row.1) rows ≡ true → kind_in rows text ≡ Some (Name len) → ⊥
no_name rows text len all found = let none : is_no_name (Name len) ≡ true = kinds_pass is_no_name rows text (Name len) all found in cc

word_len : (word : List ℕ) (len : ℕ) → word_kind word ≡ Name len → len ≡ length word
word_len word len e = by_row (kind_in reserved_words word) refl e
  where
    by_row : (row : Option TokenKind) → kind_in reserved_words word ≡ row → unwrap_or row (Name (length word)) ≡ Name len → len ≡ length word
    by_row (Some kind) f g = absurd (no_name reserved_words word len refl (f ∙ ap Some g))
    by_row None f g = cc

no_sign_name : (b next len n : ℕ) → sign_token b next ≡ Found (Name len) n → ⊥
no_sign_name b next len n e = by_signs (kind_in two_byte_signs (b ∷ next ∷ [])) refl (kind_in one_byte_signs (b ∷ [])) refl e
  where
    by_signs : (two : Option TokenKind) → kind_in two_byte_signs (b ∷ next ∷ []) ≡ two
        → (one : Option TokenKind) → kind_in one_byte_signs (b ∷ []) ≡ one → longer_sign two one ≡ Found (Name len) n → ⊥
    by_signs (Some kind) f one g h = let same : kind ≡ Name len = cc in no_name two_byte_signs (b ∷ next ∷ []) len refl (f ∙ ap Some same)
    by_signs None f (Some kind) g h = let same : kind ≡ Name len = cc in no_name one_byte_signs (b ∷ []) len refl (g ∙ ap Some same)
    by_signs None f None g h = cc

pub name_len : (dialect : Dialect) (word : List ℕ) (len n : ℕ) → first dialect word ≡ Found (Name len) n → len ≡ n
name_len dialect [] len n e = cc
name_len dialect (b ∷ bs) len n e = by_class (is_blank b) (is_ascii_alphabetic b) (is_ascii_digit b) e
  where
    text : List ℕ
    text = take_while is_word (b ∷ bs)

    digits : List ℕ
    digits = take_while is_ascii_digit (b ∷ bs)

    by_class : (t u v : Bool) → cond t Blank (cond u (Found (word_kind text) (length text)) (cond v (number dialect digits) (sign_token b (head_or bs)))) ≡ Found (Name len) n
        → len ≡ n
    by_class true u v f = cc
    by_class false true v f =
        let kind : word_kind text ≡ Name len = cc in
        let size : length text ≡ n = cc in
        word_len text len kind ∙ size
    by_class false false true f = let e : Name len ≡ Integer (pos (value_from 0 digits)) = number_kind dialect digits (Name len) n f in cc
    by_class false false false f = absurd (no_sign_name b (head_or bs) len n f)

-- bytes that pass, up to a place where one fails or where they are cut, are taken
abbrev HeadFails : (ℕ → Bool) → List ℕ → Type 0
HeadFails p [] = Unit {0}
HeadFails p (b ∷ bs) = p b ≡ false

run_len : (p : ℕ → Bool) (bs : List ℕ) (len m : ℕ) → list_all p (take len bs) ≡ true → len ≤ length bs → len ≤ m
    → (m ≡ len) ⊎ HeadFails p (drop len bs) → prefix_len p (take m bs) ≡ len
run_len p [] len m all within below stops = ap (prefix_len p) (take-nil m) ∙ (let e : 0 ≡ len = omega arith in e)
run_len p (b ∷ bs) zero zero all within below stops = refl
run_len p (b ∷ bs) zero (suc m) all within below (inl cut) = absurd (omega arith)
run_len p (b ∷ bs) zero (suc m) all within below (inr fails) = cond-false (p b) (1 + prefix_len p (take m bs)) 0 fails
run_len p (b ∷ bs) (suc len) zero all within below stops = absurd (omega arith)
run_len p (b ∷ bs) (suc len) (suc m) all within below stops =
    let parts = and_parts (p b) (list_all p (take len bs)) all in
    let rest : prefix_len p (take m bs) ≡ len = run_len p bs len m parts.1 (omega arith) (omega arith) (on stops) in
    cond-true (p b) (1 + prefix_len p (take m bs)) 0 parts.0 ∙ (one-add (prefix_len p (take m bs)) ∙ ap suc rest)
  where
    on : (suc m ≡ suc len) ⊎ HeadFails p (drop len bs) → (m ≡ len) ⊎ HeadFails p (drop len bs)
    on (inl cut) = inl (omega arith)
    on (inr fails) = inr fails

run_taken : (p : ℕ → Bool) (bs : List ℕ) (len m : ℕ) → list_all p (take len bs) ≡ true → len ≤ length bs → len ≤ m
    → (m ≡ len) ⊎ HeadFails p (drop len bs) → take_while p (take m bs) ≡ take len bs
run_taken p bs len m all within below stops =
    ap (λ n. take n (take m bs)) (run_len p bs len m all within below stops) ∙ take-take len m bs below

-- a token's word ends where the next one begins, or at a blank
some_byte : (dialect : Dialect) (bs : List ℕ) → first dialect bs ≡ Blank → 0 < length bs
some_byte dialect [] e = cc
some_byte dialect (b ∷ bs) e = omega arith

blank_head : (dialect : Dialect) (bs : List ℕ) → first dialect bs ≡ Blank → HeadFails is_printed bs
blank_head dialect [] e = tt
blank_head dialect (b ∷ bs) e =
    let blank : is_blank b ≡ true = (subst (StandsFirst dialect (b ∷ bs)) e (stands_first dialect (b ∷ bs))).0 in ap not blank

next_within : (dialect : Dialect) (text : List ℕ) {at : ℕ} {bs : List ℕ} {ts : List Token} → Tokens dialect at bs ts → bs ≡ drop at text → at ≤ length text
    → at ≤ next_at text ts
next_within dialect text none_left same within = within
next_within dialect text (skips {at = at} {bs = bs} {ts = ts} e h) same within =
    let some : 0 < length bs = some_byte dialect bs e in
    let size : length bs ≡ length text - at = ap length same ∙ length-drop at text in
    let on : at + 1 ≤ next_at text ts = next_within dialect text h (ap (drop 1) same ∙ drop-drop 1 at text) (omega arith) in
    omega arith
next_within dialect text (takes kind len e h) same within = omega arith

next_stops : (dialect : Dialect) (text : List ℕ) {at : ℕ} {bs : List ℕ} {ts : List Token} → Tokens dialect at bs ts
    → (next_at text ts ≡ at) ⊎ HeadFails is_printed bs
next_stops dialect text none_left = inr tt
next_stops dialect text (skips {bs = bs} e h) = inr (blank_head dialect bs e)
next_stops dialect text (takes kind len e h) = inl refl

-- the word of a token: the lexeme that stands where the token does, and names its kind
pub record IsWordOf (dialect : Dialect) (text : List ℕ) (it : Token) (word : List ℕ) : Type 0 where
  pub reads : first dialect word ≡ Found it.kind (length word)
  pub stands : take (length word) (drop it.at text) ≡ word

word_of : (dialect : Dialect) (text : List ℕ) {ts : List Token} (at len : ℕ) (kind : TokenKind) → at ≤ length text
    → first dialect (drop at text) ≡ Found kind len → Tokens dialect (at + len) (drop len (drop at text)) ts
    → IsWordOf dialect text (record { kind = kind; at = at }) (token_bytes text (record { kind = kind; at = at }) ts)
word_of dialect text {ts = ts} at len kind within e h =
    let bs : List ℕ = drop at text in
    let longest = longest_at dialect bs kind len e in
    let size : length (drop at text) ≡ length text - at = length-drop at text in
    let fits : len ≤ length (drop at text) = longest.within in
    let next : at + len ≤ next_at text ts = next_within dialect text h (drop-drop len at text) (omega arith) in
    let span : at + (next_at text ts - at) ≡ next_at text ts = omega arith in
    let cut : drop at (take (next_at text ts) text) ≡ take (next_at text ts - at) (drop at text) =
    ap (λ n. drop at (take n text)) (sym span) ∙ drop-take at (next_at text ts - at) text in
    let printed = lexeme_printed dialect (take len bs) (token kind) longest.reads in
    let same : token_bytes text (record { kind = kind; at = at }) ts ≡ take len (drop at text) =
    ap (take_while is_printed) cut ∙ run_taken is_printed bs len (next_at text ts - at) printed fits (omega arith) (ends (next_stops dialect text h)) in
    let long : len ≡ length (take len (drop at text)) = sym (length-take-le len (drop at text) fits) in
    subst (IsWordOf dialect text (record { kind = kind; at = at })) (sym same)
    (record {
      reads = reads_alone dialect bs kind len e ∙ ap (Found kind) long;
      stands = ap (λ n. take n (drop at text)) (sym long);
    })
  where
    ends : (next_at text ts ≡ at + len) ⊎ HeadFails is_printed (drop len (drop at text))
        → (next_at text ts - at ≡ len) ⊎ HeadFails is_printed (drop len (drop at text))
    ends (inl f) = inl (omega arith)
    ends (inr f) = inr f

-- the words of tokens are words of them
abbrev pub HaveWords : Dialect → List ℕ → List Token → Type 0
HaveWords dialect text [] = Unit {0}
HaveWords dialect text (it ∷ after) = IsWordOf dialect text it (token_bytes text it after) × HaveWords dialect text after

pub have_words : (dialect : Dialect) (text : List ℕ) {at : ℕ} {bs : List ℕ} {ts : List Token} → Tokens dialect at bs ts → bs ≡ drop at text → at ≤ length text
    → HaveWords dialect text ts
have_words dialect text none_left same within = tt
have_words dialect text (skips {at = at} {bs = bs} e h) same within =
    let some : 0 < length bs = some_byte dialect bs e in
    let size : length bs ≡ length text - at = ap length same ∙ length-drop at text in
    have_words dialect text h (ap (drop 1) same ∙ drop-drop 1 at text) (omega arith)
have_words dialect text (takes {at = at} {bs = bs} {ts = ts} kind len e h) same within =
    let here : first dialect (drop at text) ≡ Found kind len = subst (λ x. first dialect x ≡ Found kind len) same e in
    let further : Tokens dialect (at + len) (drop len (drop at text)) ts = subst (λ x. Tokens dialect (at + len) (drop len x) ts) same h in
    let longest = longest_at dialect (drop at text) kind len here in
    let size : length (drop at text) ≡ length text - at = length-drop at text in
    let fits : len ≤ length (drop at text) = longest.within in (
      word_of dialect text at len kind within here further,
      have_words dialect text h (ap (drop len) same ∙ drop-drop len at text) (omega arith),
    )
