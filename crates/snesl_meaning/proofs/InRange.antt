-- The integers of a program that a text is are integers of its dialect: the lexer refuses those over the limit.
use Rattle.std.proofs.Common.{◌≡◌, ℕ, Bool, true, false, cond, List, [], ◌∷◌, ◌++◌, length, Option, Some, None, Ok, refl, sym, ◌∙◌, subst, map, take, append_assoc}
use Rattle.std.specs.List.{list_all, AllByRecursion}
use Rattle.std.specs.Option.{unwrap_or}
use Rattle.std.specs.Str.{bytes_eq}
use Rattle.std.proofs.lemmas.Bool.{le-leb, and_parts}
use Rattle.snesl_data.specs.declared.dialect.Dialect.{Dialect}
use Rattle.snesl_data.specs.declared.dialect.Dialect.TheVariants.{One, Two}
use Rattle.snesl_data.specs.Integers.{is_integer}
use Rattle.snesl_grammar.specs.declared.lexer.token.TokenKind.{TokenKind}
use Rattle.snesl_grammar.specs.declared.lexer.token.TokenKind.TheVariants as kinds
use Rattle.snesl_grammar.specs.declared.lexer.token.Token.{Token}
use Rattle.snesl_grammar.specs.declared.lexer.lexer.Foremost.TheVariants.{Found}
use Rattle.snesl_grammar.specs.lexer.Tables.{kind_in}
use Rattle.snesl_grammar.specs.lexer.Words.{reserved_words}
use Rattle.snesl_grammar.specs.lexer.Signs.{one_byte_signs, two_byte_signs}
use Rattle.snesl_grammar.specs.lexer.Lexical.{first, dialect_named, dialect_of, Tokens, none_left, skips, takes}
use Rattle.snesl_grammar.specs.lexer.Lexemes.{LexemeMeaning, token as stands_for, too_great, Lexeme, a_word, an_integer, an_excess, a_sign, a_long_sign}
use Rattle.snesl_grammar.proofs.OfLexer.Longest.{first_is_longest}
use Rattle.snesl_grammar.proofs.OfLexer.Dialects.{names_its_dialect}
use Rattle.snesl_grammar.specs.declared.tree.operator.Builtin.{Builtin}
use Rattle.snesl_grammar.specs.declared.tree.operator.Builtin.TheVariants.{Iota, ScanAdd, ReduceAdd, ReduceMax, ReduceAnd, ReduceOr, Length, Concat, Part, The, Tab, Seq, Fst, Snd}
use Rattle.snesl_grammar.specs.declared.tree.operator.Prefix.{Prefix}
use Rattle.snesl_grammar.specs.declared.tree.operator.Prefix.TheVariants.{Negate, Not}
use Rattle.snesl_grammar.specs.declared.tree.span.Span.{Span}
use Rattle.snesl_grammar.specs.tree.Tree.{Tree, Trees, Binders, none, both, none_bound, binder, DeclarationTree, ProgramTree}
use Rattle.snesl_grammar.specs.Operators.{sign, prefix_sign, truth_word, word}
use Rattle.snesl_grammar.specs.Expressions.{token, added, bound_also, Whole, integer_rule, truth_rule, name_rule, binary_rule, prefix_rule, call_rule}
use Rattle.snesl_grammar.specs.Expressions.{apply_rule, group_rule, pair_rule, let_rule, if_rule, literal_rule, filter_rule, each_rule}
use Rattle.snesl_grammar.specs.Expressions.{each_where_rule, WholeArguments, one_rule, more_rule, WholeBinders, one_binder, more_binders}
use Rattle.snesl_grammar.specs.Programs.{WholeDeclaration, input_rule, function_rule, WholeDeclarations, no_declarations, more_declarations}
use Rattle.snesl_grammar.specs.Programs.{WholeDialect, no_dialect, dialect_rule, WholeProgram, program_rule}
use Rattle.snesl_syntax.specs.Parse.{Parses, read, AnswersTokens, accepted}
use Rattle.snesl_types.specs.Ranges.{IsInRange, AreInRange, BindersInRange, DeclarationInRange, DeclarationsInRange, ProgramInRange}

module _ (dialect : Dialect) where
  -- an integer of a token is one of the dialect
  abbrev fits : TokenKind → Bool
  fits (kinds.Integer value) = is_integer dialect value
  fits kind = true

  abbrev Fit : List Token → Type 0
  Fit = AllByRecursion (λ (t : Token). fits t.kind ≡ true)

  -- what a table holds fits where all its kinds do
  row_fits : (rows : List (List ℕ × TokenKind)) (text : List ℕ) (kind : TokenKind)
      → list_all (λ (row : List ℕ × TokenKind). fits row.1) rows ≡ true → kind_in rows text ≡ Some kind → fits kind ≡ true
  row_fits [] text kind all found = cc
  row_fits (row ∷ rows) text kind all found =
      let parts = and_parts (fits row.1) (list_all (λ (r : List ℕ × TokenKind). fits r.1) rows) all in
      by_test (bytes_eq text row.0) parts.0 (row_fits rows text kind parts.1) found
    where
      by_test : (b : Bool) → fits row.1 ≡ true → (kind_in rows text ≡ Some kind → fits kind ≡ true)
          → cond b (Some row.1) (kind_in rows text) ≡ Some kind → fits kind ≡ true
      by_test true here later found = let same : row.1 ≡ kind = cc in subst (λ k. fits k ≡ true) same here
      by_test false here later found = later found

  abbrev MeaningFits : LexemeMeaning → Type 0
  MeaningFits (stands_for kind) = fits kind ≡ true
  MeaningFits too_great = Unit {0}

  lexeme_fits : (text : List ℕ) (m : LexemeMeaning) → Lexeme dialect text m → MeaningFits m
  lexeme_fits text m (a_word w) = by_row (kind_in reserved_words text) refl
    where
      by_row : (found : Option TokenKind) → kind_in reserved_words text ≡ found → fits (unwrap_or found (kinds.Name (length text))) ≡ true
      by_row (Some kind) e = row_fits reserved_words text kind refl e
      by_row None e = refl
  lexeme_fits text m (an_integer digits within) = le-leb _ _ within
  lexeme_fits text m (an_excess digits over) = tt
  lexeme_fits text m (a_sign {kind = kind} e) = row_fits one_byte_signs text kind refl e
  lexeme_fits text m (a_long_sign {kind = kind} e) = row_fits two_byte_signs text kind refl e

  -- the tokens of bytes fit
  tokens_fit : {at : ℕ} {bs : List ℕ} {ts : List Token} → Tokens dialect at bs ts → Fit ts
  tokens_fit none_left = tt
  tokens_fit (skips e h) = tokens_fit h
  tokens_fit (takes {bs = bs} k len e h) =
      let longest = (first_is_longest dialect bs (Found k len)).0 e in
      (lexeme_fits _ (stands_for k) longest.reads, tokens_fit h)

  -- both parts of what fits fit
  parts : (ts us : List Token) → Fit (ts ++ us) → Fit ts × Fit us
  parts [] us fit = (tt, fit)
  parts (t ∷ ts) us fit = let rest = parts ts us fit.1 in ((fit.0, rest.0), rest.1)

  added_fits : (arguments : Trees) (last : Tree) → AreInRange dialect arguments → IsInRange dialect last → AreInRange dialect (added arguments last)
  added_fits none last given h = (h, tt)
  added_fits (both first others) last given h = (given.0, added_fits others last given.1 h)

  bound_fits : (binders : Binders) (place : Span) (source : Tree) → BindersInRange dialect binders → IsInRange dialect source
      → BindersInRange dialect (bound_also binders place source)
  bound_fits none_bound place source given h = (h, tt)
  bound_fits (binder first its_source others) place source given h = (given.0, bound_fits others place source given.1 h)

  mutual
    whole_fits : {here : ℕ} {ts : List Token} {tree : Tree} → Whole here ts tree → Fit ts → IsInRange dialect tree
    whole_fits integer_rule fit = fit.0
    whole_fits truth_rule fit = tt
    whole_fits (name_rule place) fit = tt
    whole_fits (binary_rule {at = at} {operator = o} {ts = ts} {us = us} below wl wr) fit =
        let p = parts ts (token (sign o) at ∷ us) fit in (whole_fits wl p.0, whole_fits wr p.1.1)
    whole_fits (prefix_rule below w) fit = whole_fits w fit.1
    whole_fits (call_rule closed {ts = ts} w) fit = arguments_fit w (parts ts _ fit.1.1).0
    whole_fits (apply_rule function closed {ts = ts} w) fit = arguments_fit w (parts ts _ fit.1.1).0
    whole_fits (group_rule closed {ts = ts} w) fit = whole_fits w (parts ts _ fit.1).0
    whole_fits (pair_rule comma closed {ts = ts} {us = us} wf ws) fit =
        let p = parts ts _ fit.1 in (whole_fits wf p.0, whole_fits ws (parts us _ p.1.1).0)
    whole_fits (let_rule place within {ts = ts} wv wb) fit =
        let p = parts ts _ fit.1.1.1 in (whole_fits wv p.0, whole_fits wb p.1.1)
    whole_fits (if_rule next last {ts = ts} {us = us} wc wp wn) fit =
        let p = parts ts _ fit.1 in let q = parts us _ p.1.1 in (whole_fits wc p.0, whole_fits wp q.0, whole_fits wn q.1.1)
    whole_fits (literal_rule closed {ts = ts} w) fit = arguments_fit w (parts ts _ fit.1).0
    whole_fits (filter_rule bar closed {ts = ts} {us = us} wi wc) fit =
        let p = parts ts _ fit.1 in (whole_fits wi p.0, whole_fits wc (parts us _ p.1.1).0)
    whole_fits (each_rule colon closed {ts = ts} {us = us} w wb) fit =
        let p = parts ts _ fit.1 in (binders_fit wb (parts us _ p.1.1).0, tt, whole_fits w p.0)
    whole_fits (each_where_rule colon bar closed {ts = ts} {us = us} {vs = vs} w wb wc) fit =
        let p = parts ts _ fit.1 in
        let q = parts us _ p.1.1 in
        (binders_fit wb q.0, whole_fits wc (parts vs _ q.1.1).0, whole_fits w p.0)

    arguments_fit : {ts : List Token} {arguments : Trees} → WholeArguments ts arguments → Fit ts → AreInRange dialect arguments
    arguments_fit (one_rule w) fit = (whole_fits w fit, tt)
    arguments_fit (more_rule comma {ts = ts} {arguments = arguments} {last = last} wa w) fit =
        let p = parts ts _ fit in added_fits arguments last (arguments_fit wa p.0) (whole_fits w p.1.1)

    binders_fit : {ts : List Token} {binders : Binders} → WholeBinders ts binders → Fit ts → BindersInRange dialect binders
    binders_fit (one_binder place within w) fit = (whole_fits w fit.1.1, tt)
    binders_fit (more_binders semicolon place within {ts = ts} {binders = binders} {source = source} wb few w) fit =
        let p = parts ts _ fit in bound_fits binders place source (binders_fit wb p.0) (whole_fits w p.1.1.1.1)

  declaration_fits : {ts : List Token} {declaration : DeclarationTree} → WholeDeclaration ts declaration → Fit ts → DeclarationInRange dialect declaration
  declaration_fits (input_rule at place colon semicolon w) fit = tt
  declaration_fits (function_rule at place opened closed colon equals semicolon {ts = ts} {us = us} {vs = vs} wp wr wb) fit =
      let p = parts ts _ fit.1.1.1 in
      let q = parts us _ p.1.1.1 in
      whole_fits wb (parts vs _ q.1.1).0

  with_last : (given : List DeclarationTree) (last : DeclarationTree) → DeclarationsInRange dialect given → DeclarationInRange dialect last
      → DeclarationsInRange dialect (given ++ last ∷ [])
  with_last [] last all h = (h, tt)
  with_last (first ∷ others) last all h = (all.0, with_last others last all.1 h)

  declarations_fit : {ts : List Token} {declarations : List DeclarationTree} → WholeDeclarations ts declarations → Fit ts
      → DeclarationsInRange dialect declarations
  declarations_fit no_declarations fit = tt
  declarations_fit (more_declarations {ts = ts} {us = us} {given = given} {last = last} wd w) fit =
      let p = parts ts us fit in with_last given last (declarations_fit wd p.0) (declaration_fits w p.1)

-- the word that begins the naming of a dialect
abbrev is_dialect_word : TokenKind → Bool
is_dialect_word kinds.Dialect = true
is_dialect_word _ = false

-- the tokens begin with another
abbrev BeginsOtherwise : List Token → Type 0
BeginsOtherwise [] = ⊥
BeginsOtherwise (t ∷ ts) = is_dialect_word t.kind ≡ false

longer_begins : (ts us : List Token) → BeginsOtherwise ts → BeginsOtherwise (ts ++ us)
longer_begins [] us h = absurd h
longer_begins (t ∷ ts) us h = h

truth_otherwise : (b : Bool) → is_dialect_word (truth_word b) ≡ false
truth_otherwise true = refl
truth_otherwise false = refl

prefix_otherwise : (operator : Prefix) → is_dialect_word (prefix_sign operator) ≡ false
prefix_otherwise Negate = refl
prefix_otherwise Not = refl

word_otherwise : (function : Builtin) → is_dialect_word (word function) ≡ false
word_otherwise Iota = refl
word_otherwise ScanAdd = refl
word_otherwise ReduceAdd = refl
word_otherwise ReduceMax = refl
word_otherwise ReduceAnd = refl
word_otherwise ReduceOr = refl
word_otherwise Length = refl
word_otherwise Concat = refl
word_otherwise Part = refl
word_otherwise The = refl
word_otherwise Tab = refl
word_otherwise Seq = refl
word_otherwise Fst = refl
word_otherwise Snd = refl

whole_begins : {here : ℕ} {ts : List Token} {tree : Tree} → Whole here ts tree → BeginsOtherwise ts
whole_begins (truth_rule {value = b}) = truth_otherwise b
whole_begins (binary_rule {ts = ts} below wl wr) = longer_begins ts _ (whole_begins wl)
whole_begins (prefix_rule {operator = o} below w) = prefix_otherwise o
whole_begins (call_rule closed {function = f} w) = word_otherwise f
whole_begins integer_rule = refl
whole_begins (name_rule place) = refl
whole_begins (apply_rule function closed w) = refl
whole_begins (group_rule closed w) = refl
whole_begins (pair_rule comma closed wf ws) = refl
whole_begins (let_rule place within wv wb) = refl
whole_begins (if_rule next last wc wp wn) = refl
whole_begins (literal_rule closed w) = refl
whole_begins (filter_rule bar closed wi wc) = refl
whole_begins (each_rule colon closed w wb) = refl
whole_begins (each_where_rule colon bar closed w wb wc) = refl

declaration_begins : {ts : List Token} {declaration : DeclarationTree} → WholeDeclaration ts declaration → BeginsOtherwise ts
declaration_begins (input_rule at place colon semicolon w) = refl
declaration_begins (function_rule at place opened closed colon equals semicolon wp wr wb) = refl

-- declarations before tokens that begin otherwise
declarations_begin : {ts : List Token} {declarations : List DeclarationTree} → WholeDeclarations ts declarations → (us : List Token) → BeginsOtherwise us
    → BeginsOtherwise (ts ++ us)
declarations_begin no_declarations us h = h
declarations_begin (more_declarations {ts = ts} {us = vs} wd w) us h =
    subst BeginsOtherwise (sym (append_assoc ts vs us)) (declarations_begin wd (vs ++ us) (longer_begins vs us (declaration_begins w)))

abbrev kinds_of : List Token → List TokenKind
kinds_of tokens = map (λ (t : Token). t.kind) (take 3 tokens)

-- such tokens name the first dialect
names_the_first : (ts : List Token) → BeginsOtherwise ts → dialect_named (kinds_of ts) ≡ One
names_the_first [] h = refl
names_the_first (t ∷ ts) h = by_kind t.kind (kinds_of_rest ts) h
  where
    kinds_of_rest : List Token → List TokenKind
    kinds_of_rest us = map (λ (u : Token). u.kind) (take 2 us)

    by_kind : (kind : TokenKind) (others : List TokenKind) → is_dialect_word kind ≡ false → dialect_named (kind ∷ others) ≡ One
    by_kind kinds.Dialect others other = cc
    by_kind _ others other = refl

-- the dialect of a program is that which its tokens name
program_names : {ts : List Token} {program : ProgramTree} → WholeProgram ts program → dialect_named (kinds_of ts) ≡ program.dialect
program_names (program_rule {ts = ts} {us = us} no_dialect wd w) = names_the_first (ts ++ us) (declarations_begin wd us (whole_begins w))
program_names (program_rule (dialect_rule at number semicolon) wd w) = refl

whole_program_fits : {ts : List Token} {program : ProgramTree} → WholeProgram ts program → Fit program.dialect ts → ProgramInRange program
whole_program_fits (program_rule {named = named} {ts = ts} {us = us} {dialect = dialect} names wd w) fit =
    let p = parts dialect ts us (parts dialect named (ts ++ us) fit).1 in
    record { declarations = declarations_fit dialect wd p.0; expression = whole_fits dialect w p.1 }

accepted_fits : {deep len : ℕ} {ts : List Token} {program : ProgramTree} (text : List ℕ) → Tokens (dialect_of text) 0 text ts
    → AnswersTokens deep len ts (Ok program) → ProgramInRange program
accepted_fits {ts = ts} {program = program} text tokens (accepted w h) =
    let same : program.dialect ≡ dialect_of text = sym (program_names w) ∙ names_its_dialect text ts tokens in
    whole_program_fits w (subst (λ d. Fit d ts) (sym same) (tokens_fit (dialect_of text) tokens))

-- the integers of a program that a text is are integers of its dialect
pub program_in_range : {text : List ℕ} {program : ProgramTree} → Parses text (Ok program) → ProgramInRange program
program_in_range {text = text} (read h tokens answers) = accepted_fits text tokens answers
