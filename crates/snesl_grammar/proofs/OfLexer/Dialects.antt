-- The tokens of a text name the dialect that the text names.
use Rattle.std.proofs.Common.{◌≡◌, ℕ, zero, suc, pos, ◌+◌, ◌≤◌, Bool, true, false, cond, leb, List, [], ◌∷◌, length, take, drop, map, refl, sym, ap, subst, ◌∙◌, arith, one-add}
use Rattle.std.specs.List.{prefix_len}
use Rattle.std.specs.Char.{is_ascii_digit, is_ascii_alphabetic}
use Rattle.std.proofs.lemmas.Bool.{cond-true, le-leb, leb-true}
use Rattle.snesl_data.specs.declared.dialect.Dialect.{Dialect}
use Rattle.snesl_data.specs.declared.dialect.Dialect.TheVariants.{One, Two}
use Rattle.snesl_data.specs.Integers.{greatest_integer}
use Rattle.snesl_data.specs.Blanks.{is_blank}
use Rattle.snesl_data.specs.Characters.{is_word, value_from}
use Rattle.snesl_grammar.specs.declared.lexer.token.TokenKind.{TokenKind}
use Rattle.snesl_grammar.specs.declared.lexer.token.TokenKind.TheVariants as kinds
use Rattle.snesl_grammar.specs.declared.lexer.token.Token.{Token}
use Rattle.snesl_grammar.specs.declared.lexer.lexer.Foremost.{Foremost}
use Rattle.snesl_grammar.specs.declared.lexer.lexer.Foremost.TheVariants.{Blank, Found, Bad}
use Rattle.snesl_grammar.specs.lexer.Words.{word_kind}
use Rattle.snesl_grammar.specs.lexer.Signs.{sign_token}
use Rattle.snesl_grammar.specs.lexer.Lexical.{number, head_or, first, after_blanks, kind_found, kinds_from, first_kinds, dialect_named, dialect_of, Tokens, none_left, skips, takes}
use Rattle.snesl_grammar.specs.lexer.Lexemes.{StandsFirst}
use Rattle.snesl_grammar.specs.lexer.Readings.{TokensNameTheirDialect}
use Rattle.snesl_grammar.proofs.OfLexer.Longest.{stands_first}

-- a token that the first dialect finds is found in each
number_kept : (dialect : Dialect) (cs : List ℕ) (kind : TokenKind) (len : ℕ) → number One cs ≡ Found kind len → number dialect cs ≡ Found kind len
number_kept One cs kind len e = e
number_kept Two cs kind len e = by_test (leb (value_from 0 cs) (greatest_integer One)) refl e
  where
    by_test : (t : Bool) → leb (value_from 0 cs) (greatest_integer One) ≡ t
        → cond t (Found (kinds.Integer (pos (value_from 0 cs))) (length cs)) Bad ≡ Found kind len → number Two cs ≡ Found kind len
    by_test true f g =
        let low : value_from 0 cs ≤ greatest_integer One = leb-true _ _ f in
        let wider : value_from 0 cs ≤ greatest_integer Two = omega arith in
        cond-true _ _ _ (le-leb _ _ wider) ∙ g
    by_test false f g = cc

found_kept : (dialect : Dialect) (bytes : List ℕ) (kind : TokenKind) (len : ℕ) → first One bytes ≡ Found kind len → first dialect bytes ≡ Found kind len
found_kept dialect [] kind len e = e
found_kept dialect (b ∷ bs) kind len e = by_class (is_blank b) (is_ascii_alphabetic b) (is_ascii_digit b) e
  where
    word : Foremost
    word = let word = take (prefix_len is_word (b ∷ bs)) (b ∷ bs) in Found (word_kind word) (length word)

    digits : List ℕ
    digits = take (prefix_len is_ascii_digit (b ∷ bs)) (b ∷ bs)

    by_class : (t u v : Bool) → cond t Blank (cond u word (cond v (number One digits) (sign_token b (head_or bs)))) ≡ Found kind len
        → cond t Blank (cond u word (cond v (number dialect digits) (sign_token b (head_or bs)))) ≡ Found kind len
    by_class true u v f = f
    by_class false true v f = f
    by_class false false true f = number_kept dialect digits kind len f
    by_class false false false f = f

-- bytes that begin with no blank are no tokens, or a token and those after it
data Next (dialect : Dialect) : List ℕ → List Token → Type 0 where
  ends : Next dialect [] []
  comes : {bs : List ℕ} {ts : List Token} (at : ℕ) (kind : TokenKind) (len : ℕ) → first dialect bs ≡ Found kind len
      → Tokens dialect (at + len) (drop len bs) ts → Next dialect bs (record { kind = kind; at = at } ∷ ts)

-- the tokens of bytes are those after their blanks
next_token : (dialect : Dialect) → {at : ℕ} {bs : List ℕ} {ts : List Token} → Tokens dialect at bs ts → Next dialect (after_blanks bs) ts
next_token dialect none_left = ends
next_token dialect (skips {bs = []} e h) = cc
next_token dialect (skips {bs = b ∷ bs} {ts = ts} e h) =
    let blank : is_blank b ≡ true = (subst (StandsFirst dialect (b ∷ bs)) e (stands_first dialect (b ∷ bs))).0 in
    subst (λ n. Next dialect (drop n (b ∷ bs)) ts) (sym (cond-true _ _ 0 blank ∙ one-add _)) (next_token dialect h)
next_token dialect (takes {bs = []} kind len e h) = cc
next_token dialect (takes {at = at} {bs = b ∷ bs} {ts = ts} kind len e h) = by_test (is_blank b) refl
  where
    by_test : (t : Bool) → is_blank b ≡ t → Next dialect (drop (cond t (1 + prefix_len is_blank bs) 0) (b ∷ bs)) (record { kind = kind; at = at } ∷ ts)
    by_test true f = let blank : first dialect (b ∷ bs) ≡ Blank = cond-true _ _ _ f in cc
    by_test false f = comes at kind len e h

abbrev kinds_of : List Token → List TokenKind
kinds_of ts = map (λ (t : Token). t.kind) ts

-- the first tokens of the first dialect are of the first kinds
of_first_kinds : (n at : ℕ) (bs : List ℕ) (ts : List Token) → Tokens One at bs ts → kinds_of (take n ts) ≡ first_kinds n bs
of_first_kinds zero at bs ts h = refl
of_first_kinds (suc n) at bs ts h = by_next (of_first_kinds n) (after_blanks bs) ts (next_token One h)
  where
    by_next : ((at : ℕ) (bs : List ℕ) (ts : List Token) → Tokens One at bs ts → kinds_of (take n ts) ≡ first_kinds n bs)
        → (rest : List ℕ) (us : List Token) → Next One rest us
        → kinds_of (take (suc n) us) ≡ kinds_from (kind_found rest (first One rest)) (first_kinds n)
    by_next others rest us ends = refl
    by_next others rest us (comes {ts = vs} at kind len e more) =
        ap (λ ks. kind ∷ ks) (others (at + len) (drop len rest) vs more) ∙ ap (λ it. kinds_from (kind_found rest it) (first_kinds n)) (sym e)

-- and so are those of each dialect, where there are as many kinds
abbrev AreOfKinds : Dialect → ℕ → Type 0
AreOfKinds dialect n =
    (at : ℕ) (bs : List ℕ) (ts : List Token) → Tokens dialect at bs ts → length (first_kinds n bs) ≡ n → kinds_of (take n ts) ≡ first_kinds n bs

of_all_kinds : (dialect : Dialect) (n : ℕ) → AreOfKinds dialect n
of_all_kinds dialect zero at bs ts h all = refl
of_all_kinds dialect (suc n) at bs ts h all = by_next (of_all_kinds dialect n) (after_blanks bs) ts (next_token dialect h) all
  where
    by_first : AreOfKinds dialect n → (rest : List ℕ) (at : ℕ) (us : List Token) (kind : TokenKind) (len : ℕ) → first dialect rest ≡ Found kind len
        → Tokens dialect (at + len) (drop len rest) us → (it : Foremost) → first One rest ≡ it
        → length (kinds_from (kind_found rest it) (first_kinds n)) ≡ suc n
        → kind ∷ kinds_of (take n us) ≡ kinds_from (kind_found rest it) (first_kinds n)
    by_first others rest at us kind len e more Blank f many = absurd (omega arith)
    by_first others rest at us kind len e more Bad f many = absurd (omega arith)
    by_first others rest at us kind len e more (Found other size) f many =
        let same : Found kind len ≡ Found other size = sym e ∙ found_kept dialect rest other size f in
        let kinds_same : kind ≡ other = cc in
        let lens : len ≡ size = cc in
        let behind : first_kinds n (drop len rest) ≡ first_kinds n (drop size rest) = ap (λ m. first_kinds n (drop m rest)) lens in
        let as_many : length (first_kinds n (drop size rest)) ≡ n = omega arith in
        let kinds_more : kinds_of (take n us) ≡ first_kinds n (drop len rest) = others (at + len) (drop len rest) us more (ap length behind ∙ as_many) in
        ap (λ k. k ∷ kinds_of (take n us)) kinds_same ∙ ap (λ ks. other ∷ ks) (kinds_more ∙ behind)

    by_next : AreOfKinds dialect n → (rest : List ℕ) (us : List Token) → Next dialect rest us
        → length (kinds_from (kind_found rest (first One rest)) (first_kinds n)) ≡ suc n
        → kinds_of (take (suc n) us) ≡ kinds_from (kind_found rest (first One rest)) (first_kinds n)
    by_next others rest us ends many = refl
    by_next others rest us (comes {ts = vs} at kind len e more) many = by_first others rest at vs kind len e more (first One rest) refl many

-- three kinds name the second dialect
three_named : (ks : List TokenKind) → dialect_named ks ≡ Two → length ks ≡ 3
three_named (kinds.Dialect ∷ kinds.Integer (pos number) ∷ kinds.Semicolon ∷ []) e = refl
three_named ks e = cc

pub names_its_dialect : TokensNameTheirDialect
names_its_dialect text tokens h = by_dialect (dialect_of text) refl h
  where
    by_dialect : (dialect : Dialect) → dialect_of text ≡ dialect → Tokens dialect 0 text tokens
        → dialect_named (kinds_of (take 3 tokens)) ≡ dialect_of text
    by_dialect One e reads = ap dialect_named (of_first_kinds 3 0 text tokens reads)
    by_dialect Two e reads = ap dialect_named (of_all_kinds Two 3 0 text tokens reads (three_named (first_kinds 3 text) e))
