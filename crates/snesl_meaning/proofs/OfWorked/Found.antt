-- The meaning of a program without inputs, found by computing.
use Rattle.std.proofs.Common.{◌≡◌, ℕ, zero, suc, ◌+◌, ◌≤◌, leb, true, List, [], ◌∷◌, ◌++◌, length, drop, map, Option, Some, None, Result, Ok, Err, inl, inr, refl, sym, subst, arith, codes}
use Rattle.std.proofs.lemmas.Bool.{leb-true}
use Rattle.snesl_data.specs.declared.dialect.Dialect.{Dialect}
use Rattle.snesl_data.specs.declared.refusal.Refusal.{Refusal}
use Rattle.snesl_data.specs.declared.refusal.Refusal.TheVariants as refusals
use Rattle.snesl_data.specs.Types.{Ty}
use Rattle.snesl_values.specs.Inputs.{InputDeclaration, InputAnswer, InputMeans, spells, refused_at, lawful}
use Rattle.snesl_values.specs.InputTokens.{none, next_lexeme, next_at, next_token, first as first_token}
use Rattle.snesl_grammar.specs.declared.lexer.token.TokenKind.{TokenKind}
use Rattle.snesl_grammar.specs.declared.lexer.token.Token.{Token}
use Rattle.snesl_grammar.specs.declared.lexer.lexer.Foremost.{Foremost}
use Rattle.snesl_grammar.specs.declared.lexer.lexer.Foremost.TheVariants.{Blank, Found, Bad}
use Rattle.snesl_grammar.specs.lexer.Lexical.{first, dialect_of, Tokens, none_left, skips, takes, BadAt, bad_here, bad_later, bad_after}
use Rattle.snesl_grammar.specs.tree.Tree.{ProgramTree}
use Rattle.snesl_grammar.specs.Limits.{greatest_depth, greatest_length}
use Rattle.snesl_syntax.specs.Answer.{parse_rest}
use Rattle.snesl_syntax.specs.DialectMachine.{reader}
use Rattle.snesl_syntax.specs.Parse.{Parses, read, bad_byte}
use Rattle.snesl_syntax.proofs.Verdicts.{programs_answer}
use Rattle.snesl_evaluation.specs.Eval.{program_value}
use Rattle.snesl_types.specs.Programs.{Declared}
use Rattle.snesl_types.specs.Verdicts.{program_verdict}
use Rattle.snesl_meaning.specs.Meaning.{Meaning, Means, meaning_of, no_program, ill_typed, bad_input, evaluated, is_refused}
use Rattle.snesl_meaning.specs.worked.Rows.{Row, Holds, Hold}

-- Tokens, or the first bad byte.

-- a token before these, or the bad byte after it
abbrev pub with_token : Token → Option (Result (List Token) ℕ) → Option (Result (List Token) ℕ)
with_token token (Some (Ok tokens)) = Some (Ok (token ∷ tokens))
with_token token other = other

-- the reading of bytes by what stands first
abbrev pub by_first : Foremost → ℕ → (ℕ → Option (Result (List Token) ℕ)) → Option (Result (List Token) ℕ)
by_first Blank at rest = rest 1
by_first (Found kind len) at rest = with_token (record { kind = kind; at = at }) (rest len)
by_first Bad at rest = Some (Err at)

-- the reading of bytes in so many steps at most
abbrev pub reading : ℕ → Dialect → ℕ → List ℕ → Option (Result (List Token) ℕ)
reading n dialect at [] = Some (Ok [])
reading zero dialect at (b ∷ bs) = None
reading (suc n) dialect at (b ∷ bs) = by_first (first dialect (b ∷ bs)) at (λ len. reading n dialect (at + len) (drop len (b ∷ bs)))

-- bytes that begin at this offset read so
abbrev ReadsFrom : Dialect → ℕ → List ℕ → Option (Result (List Token) ℕ) → Type 0
ReadsFrom dialect at bs (Some (Ok tokens)) = Tokens dialect at bs tokens
ReadsFrom dialect at bs (Some (Err bad)) = BadAt dialect at bs bad
ReadsFrom dialect at bs None = Unit {0}

after_blank : (dialect : Dialect) (at : ℕ) (bs : List ℕ) → first dialect bs ≡ Blank → (found : Option (Result (List Token) ℕ))
    → ReadsFrom dialect (at + 1) (drop 1 bs) found → ReadsFrom dialect at bs found
after_blank dialect at bs e (Some (Ok tokens)) h = skips e h
after_blank dialect at bs e (Some (Err bad)) h = bad_later e h
after_blank dialect at bs e None h = tt

reads : (n : ℕ) (dialect : Dialect) (at : ℕ) (bs : List ℕ) → ReadsFrom dialect at bs (reading n dialect at bs)
reads n dialect at [] = none_left
reads zero dialect at (b ∷ bs) = tt
reads (suc n) dialect at (b ∷ bs) =
    of_first (first dialect (b ∷ bs)) refl (λ len. reads n dialect (at + len) (drop len (b ∷ bs)))
  where
    of_token : (kind : TokenKind) (len : ℕ) → first dialect (b ∷ bs) ≡ Found kind len → (it : Option (Result (List Token) ℕ))
        → ReadsFrom dialect (at + len) (drop len (b ∷ bs)) it → ReadsFrom dialect at (b ∷ bs) (with_token (record { kind = kind; at = at }) it)
    of_token kind len e (Some (Ok tokens)) h = takes kind len e h
    of_token kind len e (Some (Err bad)) h = bad_after kind len e h
    of_token kind len e None h = tt

    of_first : (it : Foremost) → first dialect (b ∷ bs) ≡ it
        → ((len : ℕ) → ReadsFrom dialect (at + len) (drop len (b ∷ bs)) (reading n dialect (at + len) (drop len (b ∷ bs))))
        → ReadsFrom dialect at (b ∷ bs) (by_first it at (λ len. reading n dialect (at + len) (drop len (b ∷ bs))))
    of_first Blank e rest = after_blank dialect at (b ∷ bs) e (reading n dialect (at + 1) (drop 1 (b ∷ bs))) (rest 1)
    of_first (Found kind len) e rest = of_token kind len e (reading n dialect (at + len) (drop len (b ∷ bs))) (rest len)
    of_first Bad e rest = bad_here b bs e

-- Meanings.

-- a program that declares no inputs
abbrev pub by_inputs : List ℕ → ProgramTree → List InputDeclaration → Option Meaning
by_inputs text program [] = Some (meaning_of (program_value text program []))
by_inputs text program (declaration ∷ declarations) = None

abbrev pub by_verdict : List ℕ → ProgramTree → Result (Declared × Ty) Refusal → Option Meaning
by_verdict text program (Ok found) = by_inputs text program found.0.inputs
by_verdict text program (Err (refusals.Name at)) = Some (is_refused (refusals.Name at))
by_verdict text program (Err (refusals.Mismatch at)) = Some (is_refused (refusals.Mismatch at))
by_verdict text program (Err (refusals.Streamed at)) = Some (is_refused (refusals.Streamed at))
by_verdict text program (Err refusals.TooBig) = Some (is_refused refusals.TooBig)
by_verdict text program (Err other) = None

abbrev pub by_answer : List ℕ → Result ProgramTree Refusal → Option Meaning
by_answer text (Ok program) = by_verdict text program (program_verdict text program)
by_answer text (Err refusal) = Some (is_refused refusal)

abbrev pub by_reading : List ℕ → Option (Result (List Token) ℕ) → Option Meaning
by_reading text (Some (Ok tokens)) = by_answer text (parse_rest reader greatest_depth (length text) reader.start tokens)
by_reading text (Some (Err at)) = Some (is_refused (refusals.Lex at))
by_reading text None = None

-- the meaning of a text of at most the greatest length
abbrev pub found : List ℕ → Option Meaning
found text = by_reading text (reading (length text) (dialect_of text) 0 text)

-- this is a meaning of the text, if one was found
abbrev IsMeaning : List ℕ → Option Meaning → Type 0
IsMeaning text (Some m) = Means text [] m
IsMeaning text None = Unit {0}

-- no input text spells no inputs
no_input : (dialect : Dialect) → InputMeans dialect [] [] (spells [])
unfolding next_lexeme next_at first_token
no_input dialect = lawful (omega arith) none refl (record { fits = tt; entries = refl })

of_inputs : (text : List ℕ) (program : ProgramTree) (declared : Declared) (t : Ty) → Parses text (Ok program) → program_verdict text program ≡ Ok (declared, t)
    → (inputs : List InputDeclaration) → declared.inputs ≡ inputs → IsMeaning text (by_inputs text program inputs)
of_inputs text program declared t p h [] same =
    evaluated p h (subst (λ inputs. InputMeans program.dialect inputs [] (spells [])) (sym same) (no_input program.dialect))
of_inputs text program declared t p h (declaration ∷ declarations) same = tt

of_verdict : (text : List ℕ) (program : ProgramTree) → Parses text (Ok program) → (verdict : Result (Declared × Ty) Refusal) → program_verdict text program ≡ verdict
    → IsMeaning text (by_verdict text program verdict)
of_verdict text program p (Ok found) e = of_inputs text program found.0 found.1 p e found.0.inputs refl
of_verdict text program p (Err (refusals.Name at)) e = ill_typed p e
of_verdict text program p (Err (refusals.Mismatch at)) e = ill_typed p e
of_verdict text program p (Err (refusals.Streamed at)) e = ill_typed p e
of_verdict text program p (Err refusals.TooBig) e = ill_typed p e
of_verdict text program p (Err other) e = tt

of_answer : (text : List ℕ) (it : Result ProgramTree Refusal) → Parses text it → IsMeaning text (by_answer text it)
of_answer text (Ok program) p = of_verdict text program p (program_verdict text program) refl
of_answer text (Err refusal) p = no_program p

of_reading : (text : List ℕ) → length text ≤ greatest_length → (it : Option (Result (List Token) ℕ)) → ReadsFrom (dialect_of text) 0 text it → IsMeaning text (by_reading text it)
of_reading text fits (Some (Ok tokens)) h =
    of_answer text (parse_rest reader greatest_depth (length text) reader.start tokens) (read fits h (programs_answer greatest_depth (length text) tokens (omega arith)))
of_reading text fits (Some (Err at)) h = no_program (bad_byte fits h)
of_reading text fits None h = tt

is_found : (text : List ℕ) → length text ≤ greatest_length → IsMeaning text (found text)
is_found text fits = of_reading text fits (reading (length text) (dialect_of text) 0 text) (reads (length text) (dialect_of text) 0 text)

-- Programs with inputs.

-- a typed program: its tree, what it declares, and its type
abbrev pub TypedTree : Type 0
TypedTree = ProgramTree × (Declared × Ty)

abbrev by_typing : ProgramTree → Result (Declared × Ty) Refusal → Option TypedTree
by_typing program (Ok typing) = Some (program, typing)
by_typing program (Err refusal) = None

abbrev by_parsing : List ℕ → Result ProgramTree Refusal → Option TypedTree
by_parsing text (Ok program) = by_typing program (program_verdict text program)
by_parsing text (Err refusal) = None

abbrev by_tokens : List ℕ → Option (Result (List Token) ℕ) → Option TypedTree
by_tokens text (Some (Ok tokens)) = by_parsing text (parse_rest reader greatest_depth (length text) reader.start tokens)
by_tokens text other = None

-- the typed program of a text of at most the greatest length
abbrev pub typed_tree : List ℕ → Option TypedTree
typed_tree text = by_tokens text (reading (length text) (dialect_of text) 0 text)

-- this is the typed program of the text, if one was found
abbrev IsTyped : List ℕ → Option TypedTree → Type 0
IsTyped text (Some (program, typing)) = Parses text (Ok program) × (program_verdict text program ≡ Ok typing)
IsTyped text None = Unit {0}

is_typed : (text : List ℕ) → length text ≤ greatest_length → IsTyped text (typed_tree text)
is_typed text fits = of_reads (reading (length text) (dialect_of text) 0 text) (reads (length text) (dialect_of text) 0 text)
  where
    of_typing : (program : ProgramTree) → Parses text (Ok program) → (verdict : Result (Declared × Ty) Refusal) → program_verdict text program ≡ verdict
        → IsTyped text (by_typing program verdict)
    of_typing program p (Ok typing) e = (p, e)
    of_typing program p (Err refusal) e = tt

    of_parsing : (it : Result ProgramTree Refusal) → Parses text it → IsTyped text (by_parsing text it)
    of_parsing (Ok program) p = of_typing program p (program_verdict text program) refl
    of_parsing (Err refusal) p = tt

    of_reads : (it : Option (Result (List Token) ℕ)) → ReadsFrom (dialect_of text) 0 text it → IsTyped text (by_tokens text it)
    of_reads (Some (Ok tokens)) h =
        of_parsing (parse_rest reader greatest_depth (length text) reader.start tokens) (read fits h (programs_answer greatest_depth (length text) tokens (omega arith)))
    of_reads (Some (Err at)) h = tt
    of_reads None h = tt

-- the meaning of a typed program by what its input text answers
abbrev pub answered : List ℕ → TypedTree → InputAnswer → Meaning
answered text it (spells environment) = meaning_of (program_value text it.0 environment)
answered text it (refused_at at) = is_refused (refusals.BadInput at)

-- the input text answers this for what the program declares, and the row has the meaning that follows
abbrev pub FollowsFrom : Row → InputAnswer → Option TypedTree → Type 0
FollowsFrom row told (Some it) =
    InputMeans it.0.dialect it.1.0.inputs (codes row.input) told × (answered (codes row.program) it told ≡ row.meaning)
FollowsFrom row told None = ⊥

pub row_holds_on : (row : Row) (told : InputAnswer) → leb (length (codes row.program)) greatest_length ≡ true
    → FollowsFrom row told (typed_tree (codes row.program)) → Holds row
row_holds_on row told short h = of_typed (typed_tree (codes row.program)) (is_typed (codes row.program) (leb-true _ _ short)) h
  where
    of_answer : (program : ProgramTree) (typing : Declared × Ty) → Parses (codes row.program) (Ok program) → program_verdict (codes row.program) program ≡ Ok typing
        → (answer : InputAnswer) → InputMeans program.dialect typing.0.inputs (codes row.input) answer
        → Means (codes row.program) (codes row.input) (answered (codes row.program) (program, typing) answer)
    of_answer program typing p types (spells environment) means = evaluated p types means
    of_answer program typing p types (refused_at at) means = bad_input p types means

    of_typed : (it : Option TypedTree) → IsTyped (codes row.program) it → FollowsFrom row told it → Holds row
    of_typed (Some (program, typing)) (p, types) (means, e) =
        subst (Means (codes row.program) (codes row.input)) e
        (of_answer program typing p types told means)
    of_typed None typed h = absurd h

-- Rows.

-- the rows have no input text and short programs, and the meaning of each is the one that is found
pub record AreFound (rows : List Row) : Type 0 where
  pub plain : map (λ row. codes row.input) rows ≡ map (λ row. []) rows
  pub short : map (λ row. leb (length (codes row.program)) greatest_length) rows ≡ map (λ row. true) rows
  pub same : map (λ row. found (codes row.program)) rows ≡ map (λ row. Some row.meaning) rows

row_holds : (text : List ℕ) (m : Meaning) → leb (length text) greatest_length ≡ true → found text ≡ Some m → Means text [] m
row_holds text m short e = subst (λ it. IsMeaning text it) e (is_found text (leb-true _ _ short))

one_holds : (row : Row) → codes row.input ≡ [] → leb (length (codes row.program)) greatest_length ≡ true → found (codes row.program) ≡ Some row.meaning → Holds row
one_holds row plain short e = subst (λ input. Means (codes row.program) input row.meaning) (sym plain) (row_holds (codes row.program) row.meaning short e)

pub rows_hold : (rows : List Row) → AreFound rows → Hold rows
rows_hold [] h = tt
rows_hold (row ∷ rows) h = (
  one_holds row (head_same h.plain) (head_same h.short) (head_same h.same),
  rows_hold rows (record { plain = tail_same h.plain; short = tail_same h.short; same = tail_same h.same }),
)
  where
    head_same : {A : Type 0} {x y : A} {xs ys : List A} → x ∷ xs ≡ y ∷ ys → x ≡ y
    head_same e = cc

    tail_same : {A : Type 0} {x y : A} {xs ys : List A} → x ∷ xs ≡ y ∷ ys → xs ≡ ys
    tail_same e = cc
