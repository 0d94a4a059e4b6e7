-- From the reader's answer to the grammar's, and to the one for the bytes.
use Rattle.std.proofs.Common.{◌≡◌, ℕ, ◌≤◌, List, [], ◌∷◌, ◌++◌, length, Result, Ok, Err, refl, sym, ◌∙◌, ap, subst, arith}
use Rattle.std.specs.Result.{IsErrAnd, IfOk, IfErr}
use Rattle.snesl_data.specs.declared.refusal.Refusal.{Refusal}
use Rattle.snesl_data.specs.declared.refusal.Refusal.TheVariants.{Lex, NoMemory}
use Rattle.snesl_grammar.specs.declared.lexer.token.Token.{Token}
use Rattle.snesl_grammar.specs.lexer.Lexical.{dialect_of, IsBadOf, Tokens}
use Rattle.snesl_grammar.proofs.OfLexer.OneReading.{one_tokens, no_both, one_bad}
use Rattle.snesl_grammar.specs.declared.program.Program.{Program}
use Rattle.snesl_grammar.specs.tree.Tree.{ProgramTree, depth}
use Rattle.snesl_grammar.specs.View.{program_of}
use Rattle.snesl_syntax.specs.declared.dialects.Whole.{Whole}
use Rattle.snesl_grammar.specs.Limits.{greatest_length, greatest_depth}
use Rattle.snesl_grammar.specs.Programs.{FrontProgram, program_depth}
use Rattle.snesl_grammar.specs.Spelled.{IsSpelled}
use Rattle.snesl_syntax.specs.Answer.{parse_rest}
use Rattle.snesl_syntax.specs.Parse.{AnswersBy, AnswersTokens, accepted, wrong, too_deep, ended, Parses, too_long, bad_byte, read, HaveOneAnswer}
use Rattle.snesl_syntax.specs.Parse.{BeginsProgram, FrontsBeginPrograms, IsOfText, IsRight, Returns}
use Rattle.snesl_syntax.specs.DialectMachine.{reader, FindsWhole, FindsOneOf}
use Rattle.snesl_syntax.proofs.OfExpressions.Depths.{depth_pos}
use Rattle.snesl_syntax.proofs.Exact.{so_far, answers, one_answer}
use Rattle.snesl_syntax.proofs.ProgramsRead.{are_read}

-- what begins a program is listed
begun : (d : ℕ) (ts : List Token) → BeginsProgram d ts → FrontProgram d ts
begun d ts b =
    let least : 1 ≤ depth b.1.expression = depth_pos b.1.expression in
    let shallow : program_depth b.1 ≤ d = b.3 in
    let r = are_read.reads d (ts ++ b.0) b.1 b.2 b.3 in
    so_far reader are_read d r.0 (ts ++ b.0) (omega arith) r.1 ts b.0 refl

pub fronts_begin : FrontsBeginPrograms
fronts_begin d ts = (λ f. are_read.completes d ts f, begun d ts)

-- answers by what begins a program are those by what is listed
answer_by : {P Q : ℕ → List Token → Type 0} → ((d : ℕ) (ts : List Token) → P d ts → Q d ts) → ((d : ℕ) (ts : List Token) → Q d ts → P d ts)
    → {d len : ℕ} {ts : List Token} {found : Result ProgramTree Refusal} → AnswersBy P d len ts found → AnswersBy Q d len ts found
answer_by to from (accepted w h) = accepted w h
answer_by to from {d = d} (wrong front rest stop so none) =
    wrong front rest stop (λ a b same. to d a (so a b same)) (λ k g. none k (from k (front ++ (stop ∷ [])) g))
answer_by to from {d = d} (too_deep front rest stop so never deeper some) =
    too_deep front rest stop (λ a b same. to d a (so a b same)) (λ g. never (from d (front ++ (stop ∷ [])) g)) deeper (to deeper (front ++ (stop ∷ [])) some)
answer_by to from {d = d} (ended so none) = ended (λ a b same. to d a (so a b same)) none

listed : {d len : ℕ} {ts : List Token} {found : Result ProgramTree Refusal} → AnswersTokens d len ts found → AnswersBy FrontProgram d len ts found
listed a = answer_by begun are_read.completes a

-- the answer of the reader for tokens is one that the grammar wants
pub programs_answer : (d len : ℕ) (ts : List Token) → 1 ≤ d → AnswersTokens d len ts (parse_rest reader d len reader.start ts)
programs_answer d len ts least = answer_by are_read.completes begun (answers reader are_read d len ts least)

-- no text has two answers
pub one_parse : HaveOneAnswer
one_parse bytes r s (too_long h) (too_long k) = refl
one_parse bytes r s (too_long h) (bad_byte k b) = absurd (omega arith)
one_parse bytes r s (too_long h) (read k t a) = absurd (omega arith)
one_parse bytes r s (bad_byte h b) (too_long k) = absurd (omega arith)
one_parse bytes r s (bad_byte h b) (bad_byte {at = at} k c) = ap (λ n. Err (Lex n)) (one_bad (dialect_of bytes) b at c)
one_parse bytes r s (bad_byte {at = at} h b) (read k t a) = absurd (no_both (dialect_of bytes) t at b)
one_parse bytes r s (read h t a) (too_long k) = absurd (omega arith)
one_parse bytes r s (read h t a) (bad_byte {at = at} k b) = absurd (no_both (dialect_of bytes) t at b)
one_parse bytes r s (read {tokens = ts} h t a) (read {tokens = us} k u b) =
    one_answer reader are_read (listed a) (omega arith)
    ∙ ap (parse_rest reader greatest_depth (length bytes) reader.start) (one_tokens (dialect_of bytes) t us u)
    ∙ sym (one_answer reader are_read (listed b) (omega arith))

-- what is the reader's answer is one of the grammar's, where that is
pub right_by : (P : Result ProgramTree Refusal → Type 0) (x : Result Whole Refusal) (r : Result ProgramTree Refusal) → P r → FindsWhole x r → FindsOneOf P x
right_by P (Ok e) r p h = subst P h p
right_by P (Err NoMemory) r p h = tt
right_by P (Err _) r p h = subst P h p

-- the lexer's refusal is one for the bytes
pub bad_right : (bytes : List ℕ) (refusal : Refusal) → length bytes ≤ greatest_length → IsBadOf (dialect_of bytes) 0 bytes refusal → IsRight (Parses bytes) (Err refusal)
bad_right bytes NoMemory h b = tt
bad_right bytes (Lex at) h b = bad_byte h b
bad_right bytes _ h b = absurd b

-- the refusal of the tokens is one for the bytes
pub tokens_right : (bytes : List ℕ) (tokens : List Token) (refusal : Refusal) → length bytes ≤ greatest_length → Tokens (dialect_of bytes) 0 bytes tokens
    → FindsOneOf (AnswersTokens greatest_depth (length bytes) tokens) (Err refusal) → IsRight (Parses bytes) (Err refusal)
tokens_right bytes tokens NoMemory h t a = tt
tokens_right bytes tokens _ h t a = read h t a

-- a refusal is passed on
pub passed_on : (P : Result Program Refusal → Type 0) (x : Result Program Refusal) (refusal : Refusal) → IsErrAnd x (λ e. e ≡ refusal) → P (Err refusal) → P x
passed_on P (Ok program) refusal h k = absurd h
passed_on P (Err e) refusal h k = subst (λ y. P (Err y)) (sym h) k

-- what is one of the answers is the answer
pub right_returns : (bytes : List ℕ) (x : Result Program Refusal) → IsRight (Parses bytes) x → (r : Result ProgramTree Refusal) → Parses bytes r → Returns x r
right_returns bytes (Ok program) right r p = one_parse bytes r (Ok (program_of program)) p right
right_returns bytes (Err NoMemory) right r p = tt
right_returns bytes (Err _) right r p = one_parse bytes r _ p right

-- the refusals that the grammar has are those of a text
answer_of_text : {deep len : ℕ} {ts : List Token} {found : Result ProgramTree Refusal} → AnswersTokens deep len ts found → IfErr found IsOfText
answer_of_text (accepted w h) = tt
answer_of_text (wrong front rest stop so none) = tt
answer_of_text (too_deep front rest stop so never deeper some) = tt
answer_of_text (ended so none) = tt

parsed_of_text : {bytes : List ℕ} {found : Result ProgramTree Refusal} → Parses bytes found → IfErr found IsOfText
parsed_of_text (too_long h) = tt
parsed_of_text (bad_byte h b) = tt
parsed_of_text (read h t a) = answer_of_text a

pub right_of_text : (bytes : List ℕ) (x : Result Program Refusal) → IsRight (Parses bytes) x → IfErr x IsOfText
right_of_text bytes (Ok program) right = tt
right_of_text bytes (Err NoMemory) right = tt
right_of_text bytes (Err _) right = parsed_of_text right

-- a program that is accepted is spelled by the text
tokens_spell : {bytes : List ℕ} {tokens : List Token} {found : Result ProgramTree Refusal} → length bytes ≤ greatest_length
    → Tokens (dialect_of bytes) 0 bytes tokens → AnswersTokens greatest_depth (length bytes) tokens found → IfOk found (IsSpelled bytes)
tokens_spell {tokens = tokens} h t (accepted w d) = record { is_short = h; tokens = tokens; are_tokens = t; is_whole = w; is_shallow = d }
tokens_spell h t (wrong front rest stop so none) = tt
tokens_spell h t (too_deep front rest stop so never deeper some) = tt
tokens_spell h t (ended so none) = tt

-- and so it is by a copy of the text
pub copy_spells : (bytes copy : List ℕ) (tokens : List Token) (program : ProgramTree) → length bytes ≤ greatest_length → Tokens (dialect_of bytes) 0 bytes tokens
    → AnswersTokens greatest_depth (length bytes) tokens (Ok program) → copy ≡ bytes → IsSpelled copy program
copy_spells bytes copy tokens program h t a same =
    subst (λ l. IsSpelled l program) (sym same) (tokens_spell {found = Ok program} h t a)
