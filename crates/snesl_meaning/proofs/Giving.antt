-- What a program gives for an input text is what it means, where this comes of evaluation; and it gives one answer.
use Rattle.std.proofs.Common.{◌≡◌, ℕ, suc, ◌+◌, ◌≤◌, Bool, true, false, List, [], ◌∷◌, ◌++◌, Result, Ok, Err, refl, sym, ◌∙◌, ap, subst, arith, append_assoc}
use Rattle.std.specs.Prelude.{if◌then◌else◌}
use Rattle.std.proofs.Math.Path.{ap₂}
use Rattle.std.proofs.lemmas.List.{append-nil}
use Rattle.snesl_data.specs.declared.dialect.Dialect.{Dialect}
use Rattle.snesl_data.specs.declared.refusal.Refusal.{Refusal}
use Rattle.snesl_data.specs.declared.refusal.Refusal.TheVariants.{TooBig, Streamed}
use Rattle.snesl_data.specs.Types.{Ty, int, bool, pair, vec, seq, is_concrete}
use Rattle.snesl_data.specs.Values.{Value}
use Rattle.snesl_values.specs.Inputs.{InputDeclaration, Environment, InputMeans, lawful, spells, OneInputMeaning}
use Rattle.snesl_grammar.specs.declared.lexer.token.Token.{Token}
use Rattle.snesl_grammar.specs.lexer.Lexical.{dialect_of, Tokens}
use Rattle.snesl_grammar.proofs.OfLexer.OneReading.{one_tokens}
use Rattle.snesl_grammar.specs.tree.Spelling.{spelling}
use Rattle.snesl_grammar.specs.tree.Tree.{TypeTree, int_type, bool_type, pair_type, vector_type, sequence_type, TypedName, DeclarationTree, ProgramTree}
use Rattle.snesl_grammar.specs.Programs.{WholeProgram, program_depth}
use Rattle.snesl_syntax.specs.Parse.{AnswersTokens, accepted, Parses, read}
use Rattle.snesl_syntax.specs.DialectMachine.{reader}
use Rattle.snesl_syntax.proofs.Exact.{one_answer}
use Rattle.snesl_syntax.proofs.ProgramsRead.{are_read}
use Rattle.snesl_evaluation.specs.Answer.{Answer, gives, faults}
use Rattle.snesl_evaluation.specs.Eval.{program_value}
use Rattle.snesl_types.specs.Sizes.{is_small}
use Rattle.snesl_types.specs.Programs.{Declared, and_then, small_type, written_type, NamesType, no_names, more_names, DeclarationsType, no_declarations, input_declared, function_declared}
use Rattle.snesl_types.specs.Verdicts.{program_verdict}
use Rattle.snesl_types.proofs.ProgramSound.{has_typing}
use Rattle.snesl_meaning.specs.Meaning.{Meaning, Means, meaning_of, no_program, ill_typed, bad_input, evaluated, is_refused}
use Rattle.snesl_meaning.specs.Value.{type_of_tree, declared_inputs, IsTextOf, IsInputOf, ProgramGives, GiveOneAnswer, MeaningsAreGiven}

-- the types that are written

then_from : {A B : Type 0} (r : Result A Refusal) (next : A → Result B Refusal) (b : B) → and_then r next ≡ Ok b → (a : A) × (r ≡ Ok a) × (next a ≡ Ok b)
then_from (Ok a) next b e = (a, refl, e)
then_from (Err refusal) next b e = absurd (cc)

small_from : (t u : Ty) → small_type t ≡ Ok u → t ≡ u
small_from t u e = by_test (is_small t) e
  where
    by_test : (b : Bool) → (if b then Ok t else Err TooBig) ≡ Ok u → t ≡ u
    by_test true e = cc
    by_test false e = absurd (cc)

written_from : (written : TypeTree) (t : Ty) → written_type written ≡ Ok t → type_of_tree written ≡ t
written_from (int_type at) t e = cc
written_from (bool_type at) t e = cc
written_from (pair_type at first second) t e =
    let f = then_from (written_type first) _ t e in
    let s = then_from (written_type second) _ t f.2 in
    ap₂ pair (written_from first f.0 f.1) (written_from second s.0 s.1) ∙ small_from (pair f.0 s.0) t s.2
written_from (vector_type at item) t e =
    let i = then_from (written_type item) _ t e in
    ap vec (written_from item i.0 i.1) ∙ by_test i.0 (is_concrete i.0) i.2
  where
    by_test : (u : Ty) (b : Bool) → (if b then small_type (vec u) else Err (Streamed at)) ≡ Ok t → vec u ≡ t
    by_test u true e = small_from (vec u) t e
    by_test u false e = absurd (cc)
written_from (sequence_type at item) t e =
    let i = then_from (written_type item) _ t e in
    ap seq (written_from item i.0 i.1) ∙ small_from (seq i.0) t i.2

-- the inputs that are declared

names_are : {text : List ℕ} {earlier all : List InputDeclaration} {first : TypedName} → NamesType text earlier (first ∷ []) all
    → all ≡ earlier ++ ((spelling text first.place, type_of_tree first.written) ∷ [])
names_are {text = text} {earlier = earlier} (more_names {first = first} {t = t} e w no_names) =
    ap (λ u. earlier ++ ((spelling text first.place, u) ∷ [])) (sym (written_from first.written t w))

declares : {dialect : Dialect} {text : List ℕ} {earlier all : Declared} {declarations : List DeclarationTree} → DeclarationsType dialect text earlier declarations all
    → all.inputs ≡ earlier.inputs ++ declared_inputs text declarations
declares {earlier = earlier} no_declarations = sym (append-nil earlier.inputs)
declares {text = text} {earlier = earlier} (input_declared {declared = declared} {others = others} names rest) =
    declares rest
    ∙ ap (λ l. l ++ declared_inputs text others) (names_are names)
    ∙ append_assoc earlier.inputs ((spelling text declared.place, type_of_tree declared.written) ∷ []) (declared_inputs text others)
declares (function_declared f rest) = declares rest

inputs_are : (text : List ℕ) (program : ProgramTree) (found : Declared) (t : Ty) → program_verdict text program ≡ Ok (found, t)
    → found.inputs ≡ declared_inputs text program.declarations
inputs_are text program found t is = let h = has_typing text program found t is in sym h.2 ∙ declares h.1.declarations

-- what is parsed and read

accepted_text : {deep len : ℕ} {tokens : List Token} {program : ProgramTree} (text : List ℕ) → Tokens (dialect_of text) 0 text tokens
    → AnswersTokens deep len tokens (Ok program) → IsTextOf text program
accepted_text {tokens = tokens} text t (accepted w h) = record { tokens = tokens; are_tokens = t; is_whole = w }

is_text : {text : List ℕ} {program : ProgramTree} → Parses text (Ok program) → IsTextOf text program
is_text {text = text} (read h t answers) = accepted_text text t answers

is_input : {dialect : Dialect} {declarations : List InputDeclaration} {text : List ℕ} {environment : Environment} → InputMeans dialect declarations text (spells environment)
    → IsInputOf dialect declarations text environment
is_input (lawful {tokens = tokens} {end = end} short has none values) =
    record { is_short = short; tokens = tokens; end = end; has_tokens = has; no_more = none; are_values = values }

-- what is meant is given

not_refused : (answer : Answer Value) (refusal : Refusal) → ¬ (is_refused refusal ≡ meaning_of answer)
not_refused (gives v) refusal = λ e. cc
not_refused (faults kind at) refusal = λ e. cc

same_answer : (one other : Answer Value) → meaning_of one ≡ meaning_of other → one ≡ other
same_answer (gives v) (gives w) e = cc
same_answer (gives v) (faults kind at) e = absurd (cc)
same_answer (faults kind at) (gives v) e = absurd (cc)
same_answer (faults kind at) (faults other there) e = cc

given_by : {text input : List ℕ} {m : Meaning} (answer : Answer Value) → Means text input m → m ≡ meaning_of answer → ProgramGives text input answer
given_by answer (no_program {refusal = r} p) e = absurd (not_refused answer r e)
given_by answer (ill_typed {refusal = r} p v) e = absurd (not_refused answer r e)
given_by answer (bad_input p h i) e = absurd (not_refused answer _ e)
given_by {text = text} {input = input} answer (evaluated {program = program} {declared = declared} {t = t} {environment = environment} p h i) e =
    record {
      program = program;
      environment = environment;
      is_text = is_text p;
      is_input = subst (λ inputs. IsInputOf program.dialect inputs input environment) (inputs_are text program declared t h) (is_input i);
      comes_out = same_answer (program_value text program environment) answer e;
    }

pub are_given : MeaningsAreGiven
are_given text input answer m = given_by answer m refl

-- one answer is given

one_whole : {tokens : List Token} {p q : ProgramTree} → WholeProgram tokens p → WholeProgram tokens q → p ≡ q
one_whole {p = p} {q = q} v w =
    let deep : ℕ = suc (program_depth p + program_depth q) in
    let first = one_answer reader are_read {d = deep} {len = 0} (accepted v (omega arith)) (omega arith) in
    let second = one_answer reader are_read {d = deep} {len = 0} (accepted w (omega arith)) (omega arith) in
    let both : Ok p ≡ Ok q = first ∙ sym second in
    cc

one_text : {text : List ℕ} {p q : ProgramTree} → IsTextOf text p → IsTextOf text q → p ≡ q
one_text {text = text} {p = p} {q = q} one other =
    one_whole one.is_whole (subst (λ ts. WholeProgram ts q) (one_tokens (dialect_of text) other.are_tokens one.tokens one.are_tokens) other.is_whole)

one_input : OneInputMeaning → {dialect : Dialect} {declarations : List InputDeclaration} {text : List ℕ} {f g : Environment}
    → IsInputOf dialect declarations text f → IsInputOf dialect declarations text g → f ≡ g
one_input inputs {dialect = dialect} {declarations = declarations} {text = text} {f = f} {g = g} one other =
    let same = inputs dialect declarations text (spells f) (spells g)
    (lawful one.is_short one.has_tokens one.no_more one.are_values) (lawful other.is_short other.has_tokens other.no_more other.are_values) in
    cc

pub one_given : OneInputMeaning → GiveOneAnswer
one_given inputs text input a b one other =
    let tree = one_text one.is_text other.is_text in
    let moved = subst (λ (p : ProgramTree). IsInputOf p.dialect (declared_inputs text p.declarations) input other.environment) (sym tree) other.is_input in
    let values = one_input inputs one.is_input moved in
    sym one.comes_out
    ∙ ap (λ (p : ProgramTree). program_value text p one.environment) tree
    ∙ ap (program_value text other.program) values
    ∙ other.comes_out
