-- Texts of the same words are the same program.
use Rattle.std.proofs.Common.{◌≡◌, ℕ, suc, ◌+◌, ◌≤◌, ◌<◌, cond, eqb, List, [], ◌∷◌, length, take, drop, map, Result, Ok, refl, sym, ap, subst, ◌∙◌, arith}
use Rattle.std.specs.Result.{IfOk}
use Rattle.std.proofs.lemmas.Bool.{cond-true, cond-false, eq-eqb, ne_eqb}
use Rattle.snesl_data.specs.declared.dialect.Dialect.{Dialect}
use Rattle.snesl_data.specs.declared.refusal.Refusal.{Refusal}
use Rattle.snesl_grammar.specs.declared.lexer.token.TokenKind.{TokenKind}
use Rattle.snesl_grammar.specs.declared.lexer.token.TokenKind.TheVariants.{Name}
use Rattle.snesl_grammar.specs.declared.lexer.token.Token.{Token}
use Rattle.snesl_grammar.specs.declared.lexer.lexer.Foremost.TheVariants.{Found}
use Rattle.snesl_grammar.specs.lexer.Lexical.{dialect_of, first, Tokens, none_left, skips, takes}
use Rattle.snesl_grammar.proofs.OfLexer.Longest.{found_some}
use Rattle.snesl_grammar.proofs.OfLexer.OneReading.{one_tokens}
use Rattle.snesl_grammar.specs.tree.Tree.{ProgramTree}
use Rattle.snesl_grammar.specs.Expressions.{token}
use Rattle.snesl_grammar.specs.Limits.{greatest_length, greatest_depth}
use Rattle.snesl_grammar.specs.Programs.{WholeProgram, program_depth}
use Rattle.snesl_grammar.specs.Spelled.{IsSpelled}
use Rattle.snesl_syntax.specs.Parse.{AnswersTokens, accepted, wrong, too_deep, ended, HaveOneAnswer, Parses, too_long, bad_byte, read}
use Rattle.snesl_layout.specs.Spacing.{token_bytes}
use Rattle.snesl_layout.specs.Laid.{words, IsParsed, KeepsWords}
use Rattle.snesl_layout.specs.Same.{IsSameProgram, AreOneProgram}
use Rattle.snesl_layout.proofs.Moved.{token_moved, program_moved, program_whole_moved, program_depth_moved}
use Rattle.snesl_layout.proofs.Names.{IsNameKept, AreNamesKept, program_same}
use Rattle.snesl_layout.proofs.Words.{IsWordOf, HaveWords, have_words, one_kind, name_len}

-- tokens of two texts that are alike but for offsets
data Alike (one other : List ℕ) : List Token → List Token → Type 0 where
  alike_none : Alike one other [] []
  alike_more : {it its : Token} {ts us : List Token} → it.kind ≡ its.kind → IsNameKept one other it.kind it.at its.at → Alike one other ts us
      → Alike one other (it ∷ ts) (its ∷ us)

-- tokens with the same word have the same kind, and a name is kept
name_kept : (one other : List ℕ) (dialect : Dialect) (kind : TokenKind) (at its_at : ℕ) (word : List ℕ) → first dialect word ≡ Found kind (length word)
    → take (length word) (drop at one) ≡ word → take (length word) (drop its_at other) ≡ word → IsNameKept one other kind at its_at
name_kept one other dialect (Name len) at its_at word e stands its_stands =
    let size : len ≡ length word = name_len dialect word len (length word) e in
    ap (λ n. take n (drop at one)) size ∙ (stands ∙ (sym its_stands ∙ ap (λ n. take n (drop its_at other)) (sym size)))
name_kept one other dialect _ at its_at word e stands its_stands = tt

same_word : (one other : List ℕ) (dialect its_dialect : Dialect) (it its : Token) (word its_word : List ℕ) → word ≡ its_word
    → IsWordOf dialect one it word → IsWordOf its_dialect other its its_word
    → (it.kind ≡ its.kind) × IsNameKept one other it.kind it.at its.at
same_word one other dialect its_dialect it its word its_word same of_one of_other =
    let of_same : IsWordOf its_dialect other its word = subst (IsWordOf its_dialect other its) (sym same) of_other in (
      one_kind dialect its_dialect word it.kind its.kind (length word) (length word) of_one.reads of_same.reads,
      name_kept one other dialect it.kind it.at its.at word of_one.reads of_one.stands of_same.stands,
    )

alike : (one other : List ℕ) (dialect its_dialect : Dialect) (ts us : List Token) → HaveWords dialect one ts → HaveWords its_dialect other us
    → words one ts ≡ words other us → Alike one other ts us
alike one other dialect its_dialect [] [] have its_have same = alike_none
alike one other dialect its_dialect [] (u ∷ us) have its_have same = absurd cc
alike one other dialect its_dialect (t ∷ ts) [] have its_have same = absurd cc
alike one other dialect its_dialect (t ∷ ts) (u ∷ us) have its_have same =
    let here : token_bytes one t ts ≡ token_bytes other u us = cc in
    let rest : words one ts ≡ words other us = cc in
    let word = same_word one other dialect its_dialect t u (token_bytes one t ts) (token_bytes other u us) here have.0 its_have.0 in
    alike_more word.0 word.1 (alike one other dialect its_dialect ts us have.1 its_have.1 rest)

-- tokens stand one behind another, from an offset on
abbrev From : ℕ → List Token → Type 0
From n [] = Unit {0}
From n (it ∷ after) = (n ≤ it.at) × From (suc it.at) after

from_before : (n m : ℕ) (ts : List Token) → n ≤ m → From m ts → From n ts
from_before n m [] below from = tt
from_before n m (t ∷ ts) below from = let h : m ≤ t.at = from.0 in (omega arith, from.1)

tokens_from : (dialect : Dialect) {at : ℕ} {bs : List ℕ} {ts : List Token} → Tokens dialect at bs ts → From at ts
tokens_from dialect none_left = tt
tokens_from dialect (skips {at = at} {ts = ts} e h) = from_before at (at + 1) ts (omega arith) (tokens_from dialect h)
tokens_from dialect (takes {at = at} {bs = bs} {ts = ts} kind len e h) =
    let some : 0 < len = found_some dialect bs kind len e in
    (omega arith, from_before (suc at) (at + len) ts (omega arith) (tokens_from dialect h))

-- where one offset is moved elsewhere, tokens behind it are moved as before
abbrev also_moved : ℕ → ℕ → (ℕ → ℕ) → ℕ → ℕ
also_moved at its_at move n = cond (eqb n at) its_at (move n)

record Moves (one other : List ℕ) (ts us : List Token) : Type 0 where
  move : ℕ → ℕ
  same : us ≡ map (token_moved move) ts
  kept : AreNamesKept one other move ts

unmoved : (at its_at n : ℕ) (move : ℕ → ℕ) → at < n → also_moved at its_at move n ≡ move n
unmoved at its_at n move behind = cond-false (eqb n at) its_at (move n) (ne_eqb n at (λ e. absurd (omega arith)))

moved_here : (at its_at : ℕ) (move : ℕ → ℕ) → also_moved at its_at move at ≡ its_at
moved_here at its_at move = cond-true (eqb at at) its_at (move at) (eq-eqb at at refl)

same_behind : (at its_at : ℕ) (move : ℕ → ℕ) (ts : List Token) → From (suc at) ts
    → map (token_moved move) ts ≡ map (token_moved (also_moved at its_at move)) ts
same_behind at its_at move [] from = refl
same_behind at its_at move (t ∷ ts) from =
    let behind : suc at ≤ t.at = from.0 in
    let here : move t.at ≡ also_moved at its_at move t.at = sym (unmoved at its_at t.at move (omega arith)) in
    let rest = same_behind at its_at move ts (from_before (suc at) (suc t.at) ts (omega arith) from.1) in
    ap (λ n. token t.kind n ∷ map (token_moved move) ts) here
    ∙ ap (λ us. token t.kind (also_moved at its_at move t.at) ∷ us) rest

kept_behind : (one other : List ℕ) (at its_at : ℕ) (move : ℕ → ℕ) (ts : List Token) → From (suc at) ts
    → AreNamesKept one other move ts → AreNamesKept one other (also_moved at its_at move) ts
kept_behind one other at its_at move [] from kept = tt
kept_behind one other at its_at move (t ∷ ts) from kept =
    let behind : suc at ≤ t.at = from.0 in
    let here : move t.at ≡ also_moved at its_at move t.at = sym (unmoved at its_at t.at move (omega arith)) in (
      subst (IsNameKept one other t.kind t.at) here kept.0,
      kept_behind one other at its_at move ts (from_before (suc at) (suc t.at) ts (omega arith) from.1) kept.1,
    )

-- tokens that are alike are moved to one another
moves : (one other : List ℕ) {ts us : List Token} → Alike one other ts us → (n : ℕ) → From n ts → Moves one other ts us
moves one other alike_none n from = record { move = λ k. k; same = refl; kept = tt }
moves one other (alike_more {it = it} {its = its} {ts = ts} {us = us} kinds name rest) n from =
    let m = moves one other rest (suc it.at) from.1 in
    let here : its.at ≡ also_moved it.at its.at m.move it.at = sym (moved_here it.at its.at m.move) in
    record {
      move = also_moved it.at its.at m.move;
      same = ap (λ k. token k its.at ∷ us) (sym kinds)
          ∙ (ap (λ k. token it.kind k ∷ us) here
          ∙ ap (λ vs. token it.kind (also_moved it.at its.at m.move it.at) ∷ vs)
          (m.same ∙ same_behind it.at its.at m.move ts from.1));
      kept = (subst (IsNameKept one other it.kind it.at) here name, kept_behind one other it.at its.at m.move ts from.1 m.kept);
    }

-- a program that parses a text is spelled by it
tokens_spell : {bytes : List ℕ} {tokens : List Token} {found : Result ProgramTree Refusal} → length bytes ≤ greatest_length
    → Tokens (dialect_of bytes) 0 bytes tokens → AnswersTokens greatest_depth (length bytes) tokens found → IfOk found (IsSpelled bytes)
tokens_spell {tokens = tokens} h t (accepted w d) = record { is_short = h; tokens = tokens; are_tokens = t; is_whole = w; is_shallow = d }
tokens_spell h t (wrong before rest stop so none) = tt
tokens_spell h t (too_deep before rest stop so never deeper some) = tt
tokens_spell h t (ended so none) = tt

parsed_spells : {bytes : List ℕ} {found : Result ProgramTree Refusal} → Parses bytes found → IfOk found (IsSpelled bytes)
parsed_spells (too_long h) = tt
parsed_spells (bad_byte h b) = tt
parsed_spells (read h t a) = tokens_spell h t a

-- a text whose tokens are moved to those of the other is the same program
moved_same : HaveOneAnswer → (one other : List ℕ) (ts us : List Token) (program its_program : ProgramTree) → Moves one other ts us
    → WholeProgram ts program → program_depth program ≤ greatest_depth
    → length other ≤ greatest_length → Tokens (dialect_of other) 0 other us → Parses other (Ok its_program)
    → IsSameProgram one program other its_program
moved_same one_answer one other ts us program its_program m whole shallow short tokens parsed =
    let its_whole : WholeProgram us (program_moved m.move program) =
    subst (λ vs. WholeProgram vs (program_moved m.move program)) (sym m.same) (program_whole_moved m.move whole) in
    let its_shallow : program_depth (program_moved m.move program) ≤ greatest_depth =
    subst (λ d. d ≤ greatest_depth) (sym (program_depth_moved m.move program)) shallow in
    let as_moved : Parses other (Ok (program_moved m.move program)) = read short tokens (accepted its_whole its_shallow) in
    let answers : ◌≡◌ {A = Result ProgramTree Refusal} (Ok its_program) (Ok (program_moved m.move program)) =
    one_answer other (Ok its_program) (Ok (program_moved m.move program)) parsed as_moved in
    let same : program_moved m.move program ≡ its_program = cc in
    subst (IsSameProgram one program other) same (program_same one other m.move whole m.kept)

-- texts of the same words are the same program
pub one_program : HaveOneAnswer → (one other : List ℕ) (ts us : List Token) (program its_program : ProgramTree)
    → Tokens (dialect_of one) 0 one ts → Tokens (dialect_of other) 0 other us → words one ts ≡ words other us
    → Parses one (Ok program) → Parses other (Ok its_program) → IsSameProgram one program other its_program
one_program one_answer one other ts us program its_program tokens its_tokens same parsed its_parsed =
    let told : IsSpelled one program = parsed_spells {found = Ok program} parsed in
    let its_told : IsSpelled other its_program = parsed_spells {found = Ok its_program} its_parsed in
    let have = have_words (dialect_of one) one tokens refl (omega arith) in
    let its_have = have_words (dialect_of other) other its_tokens refl (omega arith) in
    let like = alike one other (dialect_of one) (dialect_of other) ts us have its_have same in
    let whole : WholeProgram ts program =
    subst (λ vs. WholeProgram vs program) (one_tokens (dialect_of one) told.are_tokens ts tokens) told.is_whole in
    moved_same one_answer one other ts us program its_program (moves one other like 0 (tokens_from (dialect_of one) tokens))
    whole told.is_shallow its_told.is_short its_tokens its_parsed

-- a program and a text that keeps its words are one program
pub are_one : HaveOneAnswer → (text out : List ℕ) (tokens : List Token) → IsParsed text → IsParsed out → Tokens (dialect_of text) 0 text tokens → KeepsWords text tokens out
    → AreOneProgram text out
are_one one_answer text out tokens parsed its_parsed of_text kept = (
  parsed.0,
  its_parsed.0,
  parsed.1,
  its_parsed.1,
  one_program one_answer text out tokens kept.others parsed.0 its_parsed.0 of_text kept.are_tokens kept.same parsed.1 its_parsed.1,
)
