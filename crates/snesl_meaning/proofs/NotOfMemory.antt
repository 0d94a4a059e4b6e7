-- No meaning is that memory ran out: the rules of typing refuse for it an integer out of range alone, and no program has one.
use Rattle.std.proofs.Common.{◌≡◌, ◌⊎◌, inl, inr, ℕ, List, Result, Ok, Err, refl, ap, subst}
use Rattle.snesl_data.specs.declared.refusal.Refusal.{Refusal}
use Rattle.snesl_data.specs.declared.refusal.Refusal.TheVariants.{NoMemory}
use Rattle.snesl_data.specs.Types.{Ty}
use Rattle.snesl_data.specs.Values.{Value}
use Rattle.snesl_grammar.specs.declared.lexer.token.Token.{Token}
use Rattle.snesl_grammar.specs.tree.Tree.{ProgramTree}
use Rattle.snesl_syntax.specs.Parse.{AnswersTokens, accepted, wrong, too_deep, ended, Parses, too_long, bad_byte, read}
use Rattle.snesl_evaluation.specs.Answer.{Answer, gives, faults}
use Rattle.snesl_evaluation.specs.Eval.{program_value}
use Rattle.snesl_types.specs.Programs.{Declared, ProgramTypes, ProgramViolates}
use Rattle.snesl_types.specs.Verdicts.{program_verdict}
use Rattle.snesl_types.proofs.ProgramAnswers.{program_complete, violation_complete}
use Rattle.snesl_types.proofs.ProgramSound.{some_typing}
use Rattle.snesl_types.proofs.TypingRefusals.{IsOfTyping, program_of_typing}
use Rattle.snesl_meaning.specs.Meaning.{Meaning, Means, meaning_of, no_program, ill_typed, bad_input, evaluated, is_refused, IsNeverOfMemory}
use Rattle.snesl_meaning.proofs.InRange.{program_in_range}

-- parsing refuses nothing for it
tokens_not_of_memory : {deep len : ℕ} {ts : List Token} {found : Result ProgramTree Refusal} → AnswersTokens deep len ts found → ¬ (found ≡ Err NoMemory)
tokens_not_of_memory (accepted w h) = λ e. cc
tokens_not_of_memory (wrong front rest stop so none) = λ e. cc
tokens_not_of_memory (too_deep front rest stop so never deeper some) = λ e. cc
tokens_not_of_memory (ended so none) = λ e. cc

parse_not_of_memory : {text : List ℕ} {found : Result ProgramTree Refusal} → Parses text found → ¬ (found ≡ Err NoMemory)
parse_not_of_memory (too_long h) = λ e. cc
parse_not_of_memory (bad_byte h b) = λ e. cc
parse_not_of_memory (read h t a) = tokens_not_of_memory a

-- nor does typing
verdict_not_of_memory : (text : List ℕ) (program : ProgramTree) → Parses text (Ok program) → ¬ (program_verdict text program ≡ Err NoMemory)
verdict_not_of_memory text program p v = by_typing (some_typing text program (program_in_range p))
  where
    by_typing : ((d : Declared) × (t : Ty) × ProgramTypes text program d t) ⊎ ((r : Refusal) × ProgramViolates text program r) → ⊥
    by_typing (inl (d, t, h)) = let typed = program_complete text program d t h in cc
    by_typing (inr (r, h)) =
        let first = violation_complete text program r h in
        let same : r ≡ NoMemory = cc (first, v) in
        subst IsOfTyping same (program_of_typing h)

-- nor is what evaluation gives a refusal
value_not_refused : (answer : Answer Value) → ¬ (meaning_of answer ≡ is_refused NoMemory)
value_not_refused (gives v) = λ e. cc
value_not_refused (faults kind at) = λ e. cc

meaning_not_of_memory : {text input : List ℕ} {m : Meaning} → Means text input m → ¬ (m ≡ is_refused NoMemory)
meaning_not_of_memory (no_program {refusal = r} p) = λ e. let same : r ≡ NoMemory = cc in parse_not_of_memory p (ap Err same)
meaning_not_of_memory {text = text} (ill_typed {program = program} {refusal = r} p v) = λ e.
    let same : r ≡ NoMemory = cc in
    let first : program_verdict text program ≡ Err NoMemory = cc (v, same) in
    verdict_not_of_memory text program p first
meaning_not_of_memory (bad_input p h i) = λ e. cc
meaning_not_of_memory {text = text} (evaluated {program = program} {environment = environment} p h i) = value_not_refused (program_value text program environment)

pub never_of_memory : IsNeverOfMemory
never_of_memory text input m = meaning_not_of_memory m refl
