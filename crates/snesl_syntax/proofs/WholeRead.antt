-- Whole programs are read as the grammar says, where they are after their dialect.
use Rattle.std.proofs.Common.{◌≡◌, ℕ, zero, suc, pos, ◌≤◌, List, [], ◌∷◌, ◌++◌, Option, Some, None, Ok, refl, sym, ◌∙◌, ap, subst, arith, append_assoc}
use Rattle.snesl_data.specs.declared.dialect.Dialect.{Dialect}
use Rattle.snesl_data.specs.declared.dialect.Dialect.TheVariants.{One, Two}
use Rattle.snesl_grammar.specs.declared.lexer.token.TokenKind.{TokenKind}
use Rattle.snesl_grammar.specs.declared.lexer.token.TokenKind.TheVariants.{Integer, Semicolon, Dialect as DialectWord}
use Rattle.snesl_grammar.specs.declared.lexer.token.Token.{Token}
use Rattle.snesl_grammar.specs.tree.Tree.{name, ProgramTree}
use Rattle.snesl_grammar.specs.Expressions.{token, name_rule, nothing}
use Rattle.snesl_grammar.specs.Programs.{program_depth, no_declarations, WholeDialect, no_dialect, dialect_rule, WholeProgram, program_rule}
use Rattle.snesl_grammar.specs.Programs.{FrontProgram, dialect_word, dialect_number, in_declaration, in_expression}
use Rattle.snesl_syntax.specs.expressions.Readers.{TokenMove, Reader, step, after_tokens}
use Rattle.snesl_syntax.proofs.OfExpressions.Reading.{bind_ok, within_ok, fits_step, steps_on, ends_with}
use Rattle.snesl_syntax.specs.Programs.{Rest, lifted, or_else}
use Rattle.snesl_syntax.specs.Dialects.{DialectState, beginning, awaits_number, awaits_semicolon, in_rest, program_in, in_dialect, dialect_move, whole_programs}
use Rattle.snesl_syntax.proofs.Moves.{Good, good_or, good_carried, go_stands, free_step, go_carried}
use Rattle.snesl_syntax.proofs.Rests.{WholeRest, rest_rule, FrontRest, rest_in_declaration, rest_in_expression, IsReaderOfRests}
use Rattle.snesl_syntax.proofs.Beginnings.{spot, leaf}
use Rattle.snesl_syntax.proofs.Exact.{IsReaderOfPrograms}

-- a dialect and the rest after it are a program, and what begins a rest begins one
named_whole : {named us : List Token} {dialect : Dialect} {rest : Rest} → WholeDialect named dialect → WholeRest us rest
    → WholeProgram (named ++ us) (program_in dialect rest)
named_whole n (rest_rule ws w) = program_rule n ws w

named_front : {d : ℕ} {named us : List Token} {dialect : Dialect} → WholeDialect named dialect → FrontRest d us → FrontProgram d (named ++ us)
named_front n (rest_in_declaration ws h f) = in_declaration n ws h f
named_front n (rest_in_expression ws h f) = in_expression n ws h f

-- a program of the second dialect, to complete dialects with
abbrev shortest : ProgramTree
shortest = record { dialect = Two; declarations = []; expression = name spot }

module _ {State : Type 0} (rests : Reader State Rest) (right : IsReaderOfRests rests)
    (no_word : (at : ℕ) → rests.move rests.start (token DialectWord at) ≡ None) where
  abbrev reader : Reader (DialectState State) ProgramTree
  reader = whole_programs rests

  -- a rest is read inside a program as it is by itself
  rest_goes : (d : ℕ) (dialect : Dialect) (ts : List Token) (s r : State) → after_tokens rests d s ts ≡ Ok r
      → after_tokens reader d (in_rest dialect s) ts ≡ Ok (in_rest dialect r)
  rest_goes d dialect ts s r e = go_carried rests reader (in_rest dialect) (λ x t found f. ap (lifted (in_rest dialect)) f) d ts s r e

  -- what is read of a program after its dialect
  record ReadsRest (d : ℕ) (dialect : Dialect) (ts : List Token) (r : State) : Type 0 where
    pub state : DialectState State
    pub runs : after_tokens reader d beginning ts ≡ Ok state
    pub finished : reader.finished state ≡ in_dialect dialect (rests.finished r)

  reads_first : (d : ℕ) (us : List Token) (r : State) → after_tokens rests d rests.start us ≡ Ok r → ReadsRest d One us r
  reads_first d [] r e =
      let same : rests.start ≡ r = cc in
      record { state = beginning; runs = refl; finished = ap (λ x. in_dialect One (rests.finished x)) same }
  reads_first d (u ∷ us) r e =
      let b = bind_ok (step rests d rests.start u) (λ x. after_tokens rests d x us) r e in
      let w = within_ok d (rests.move rests.start u) b.0 b.1 in
      record {
        state = in_rest One r;
        runs = steps_on reader d beginning (in_rest One b.0) u us
            (fits_step reader d beginning (in_rest One w.0.next) u w.0.want
            (ap (λ m. or_else (lifted (in_rest One) m) (dialect_move rests beginning u.kind)) w.1) w.2
            ∙ ap (λ x. Ok (in_rest One x)) w.3)
            ∙ rest_goes d One us b.0 r b.2;
        finished = refl;
      }

  -- the rest is read after its dialect as it is by itself
  reads_named : {named : List Token} {dialect : Dialect} → WholeDialect named dialect → (d : ℕ) (us : List Token) (r : State)
      → after_tokens rests d rests.start us ≡ Ok r → ReadsRest d dialect (named ++ us) r
  reads_named no_dialect d us r e = reads_first d us r e
  reads_named (dialect_rule at number semicolon) d us r e =
      record {
        state = in_rest Two r;
        runs = steps_on reader d beginning awaits_number (token DialectWord at) (token (Integer (pos 2)) number ∷ token Semicolon semicolon ∷ us)
            (free_step reader d beginning awaits_number (token DialectWord at)
            (ap (λ m. or_else (lifted (in_rest One) m) (dialect_move rests beginning DialectWord)) (no_word at)))
            ∙ (steps_on reader d awaits_number awaits_semicolon (token (Integer (pos 2)) number) (token Semicolon semicolon ∷ us)
            (free_step reader d awaits_number awaits_semicolon (token (Integer (pos 2)) number) refl)
            ∙ (steps_on reader d awaits_semicolon (in_rest Two rests.start) (token Semicolon semicolon) us
            (free_step reader d awaits_semicolon (in_rest Two rests.start) (token Semicolon semicolon) refl)
            ∙ rest_goes d Two us rests.start r e));
        finished = refl;
      }

  -- a whole program is read
  program_reads : (d : ℕ) (ts : List Token) (program : ProgramTree) → WholeProgram ts program → program_depth program ≤ d
      → (s : DialectState State) × (after_tokens reader d reader.start ts ≡ Ok s) × (reader.finished s ≡ Some program)
  program_reads d all program (program_rule {ts = ts} {us = us} {dialect = dialect} {declarations = declarations} {expression = expression} n ws w) h =
      let rest : Rest = record { declarations = declarations; expression = expression } in
      let r = right.reads d (ts ++ us) rest (rest_rule ws w) h in
      let f = reads_named n d (ts ++ us) r.0 r.1 in
      (f.state, f.runs, f.finished ∙ ap (in_dialect dialect) r.2)

  -- the tokens that lead to a state
  data Stands : ℕ → DialectState State → List Token → Type 0 where
    stands_beginning : {d : ℕ} → Stands d beginning []
    stands_number : {d : ℕ} (at : ℕ) → Stands d awaits_number (token DialectWord at ∷ [])
    stands_semicolon : {d : ℕ} (at number : ℕ) → Stands d awaits_semicolon (token DialectWord at ∷ token (Integer (pos 2)) number ∷ [])
    stands_rest : {d : ℕ} {dialect : Dialect} {s : State} {named : List Token} (us : List Token)
        → WholeDialect named dialect → after_tokens rests d rests.start us ≡ Ok s → Stands d (in_rest dialect s) (named ++ us)

  abbrev Keeps : ℕ → List Token → Token → Option (TokenMove (DialectState State)) → Type 0
  Keeps d ts t m = Good (λ found. found.want ≤ d → Stands d found.next (ts ++ (t ∷ []))) m

  -- a rest that goes on is read with one token more
  goes_further : (d : ℕ) (s : State) (ts : List Token) (t : Token) (found : TokenMove State)
      → after_tokens rests d rests.start ts ≡ Ok s → rests.move s t ≡ Some found → found.want ≤ d → after_tokens rests d rests.start (ts ++ (t ∷ [])) ≡ Ok found.next
  goes_further d s ts t found e f h = ends_with rests d rests.start s found.next ts t e (fits_step rests d s found.next t found.want f h)

  word_keeps : (d : ℕ) (k : TokenKind) (at : ℕ) → Keeps d [] (token k at) (dialect_move rests beginning k)
  word_keeps d DialectWord at = λ want. stands_number at
  word_keeps d _ at = tt

  number_keeps : (d : ℕ) (begun : ℕ) (k : TokenKind) (at : ℕ) → Keeps d (token DialectWord begun ∷ []) (token k at) (dialect_move rests awaits_number k)
  number_keeps d begun (Integer (pos (suc (suc zero)))) at = λ want. stands_semicolon begun at
  number_keeps d begun _ at = tt

  semicolon_keeps : (d : ℕ) (begun number : ℕ) (k : TokenKind) (at : ℕ)
      → Keeps d (token DialectWord begun ∷ token (Integer (pos 2)) number ∷ []) (token k at) (dialect_move rests awaits_semicolon k)
  semicolon_keeps d begun number Semicolon at = λ want. stands_rest [] (dialect_rule begun number at) refl
  semicolon_keeps d begun number _ at = tt

  step_keeps : (d : ℕ) (s : DialectState State) (ts : List Token) (t : Token) → Stands d s ts → Keeps d ts t (reader.move s t)
  step_keeps d s all t stands_beginning =
      good_or (λ found. found.want ≤ d → Stands d found.next (t ∷ []))
      (lifted (in_rest One) (rests.move rests.start t)) (dialect_move rests beginning t.kind)
      (good_carried (λ found. found.want ≤ d → Stands d found.next (t ∷ [])) (in_rest One) (rests.move rests.start t)
      (λ found f want. stands_rest (t ∷ []) no_dialect (goes_further d rests.start [] t found refl f want)))
      (word_keeps d t.kind t.at)
  step_keeps d s all t (stands_number begun) = number_keeps d begun t.kind t.at
  step_keeps d s all t (stands_semicolon begun number) = semicolon_keeps d begun number t.kind t.at
  step_keeps d s all t (stands_rest {dialect = dialect} {s = state} {named = named} us n e) =
      good_carried (λ found. found.want ≤ d → Stands d found.next (all ++ (t ∷ []))) (in_rest dialect) (rests.move state t)
      (λ found f want. subst (Stands d (in_rest dialect found.next)) (sym (append_assoc named us (t ∷ [])))
      (stands_rest (us ++ (t ∷ [])) n (goes_further d state us t found e f want)))

  -- what is read stands
  stands_whole_programs : (d : ℕ) (ts : List Token) (s : DialectState State) → after_tokens reader d reader.start ts ≡ Ok s → Stands d s ts
  stands_whole_programs d ts s e = go_stands reader (Stands d) d (step_keeps d) ts reader.start s [] stands_beginning e

  stands_front : {d : ℕ} {s : DialectState State} {ts : List Token} → Stands (suc d) s ts → FrontProgram (suc d) ts
  stands_front {d = d} stands_beginning = in_expression no_dialect no_declarations (omega arith) (nothing {here = 0} {deep = d})
  stands_front (stands_number at) = dialect_word at
  stands_front (stands_semicolon at number) = dialect_number at number
  stands_front {d = d} (stands_rest {s = state} us n e) = named_front n (right.stands (suc d) us state (omega arith) e)

  -- tokens that are read begin a program within the depth
  program_stands : (d : ℕ) (ts : List Token) (s : DialectState State) → 1 ≤ d → after_tokens reader d reader.start ts ≡ Ok s → FrontProgram d ts
  program_stands zero ts s least e = absurd (omega arith)
  program_stands (suc d) ts s least e = stands_front (stands_whole_programs (suc d) ts s e)

  -- the program where the rest is whole
  rest_is_whole : {d : ℕ} {named : List Token} {dialect : Dialect} → WholeDialect named dialect → (us : List Token) (s : State) (program : ProgramTree) → 1 ≤ d
      → after_tokens rests d rests.start us ≡ Ok s → in_dialect dialect (rests.finished s) ≡ Some program
      → WholeProgram (named ++ us) program × (program_depth program ≤ d)
  rest_is_whole {d = d} {named = named} {dialect = dialect} n us s program least e f = by_form (rests.finished s) refl f
    where
      by_form : (found : Option Rest) → rests.finished s ≡ found → in_dialect dialect found ≡ Some program
          → WholeProgram (named ++ us) program × (program_depth program ≤ d)
      by_form None g k = absurd (let never : ⊥ = cc in never)
      by_form (Some rest) g k =
          let w = right.whole d us s rest least e g in
          let fits : program_depth (program_in dialect rest) ≤ d = w.1 in
          let is : program_in dialect rest ≡ program = cc in (
            subst (WholeProgram (named ++ us)) is (named_whole n w.0),
            subst (λ x. program_depth x ≤ d) is fits,
          )

  stands_whole : {d : ℕ} {s : DialectState State} {ts : List Token} → 1 ≤ d → Stands d s ts → (program : ProgramTree) → reader.finished s ≡ Some program
      → WholeProgram ts program × (program_depth program ≤ d)
  stands_whole least stands_beginning program f = rest_is_whole no_dialect [] rests.start program least refl f
  stands_whole least (stands_number at) program f = absurd (let never : ⊥ = cc in never)
  stands_whole least (stands_semicolon at number) program f = absurd (let never : ⊥ = cc in never)
  stands_whole least (stands_rest {s = state} us n e) program f = rest_is_whole n us state program least e f

  -- what begins a rest after a dialect can be completed to a program
  named_completes : (d : ℕ) {named : List Token} {dialect : Dialect} → WholeDialect named dialect → (us : List Token) → FrontRest d us
      → (rest : List Token) × (program : ProgramTree) × WholeProgram ((named ++ us) ++ rest) program × (program_depth program ≤ d)
  named_completes d {named = named} {dialect = dialect} n us f =
      let c = right.completes d us f in
      let made : ProgramTree = program_in dialect c.1 in
      (c.0, made, subst (λ x. WholeProgram x made) (sym (append_assoc named us c.0)) (named_whole n c.2), c.3)

  -- what begins a program can be completed to one
  program_completes : (d : ℕ) (ts : List Token) → FrontProgram d ts
      → (rest : List Token) × (program : ProgramTree) × WholeProgram (ts ++ rest) program × (program_depth program ≤ d)
  program_completes d all (dialect_word at) = (
    token (Integer (pos 2)) 0 ∷ token Semicolon 0 ∷ leaf ∷ [],
    shortest,
    program_rule (dialect_rule at 0 0) no_declarations (name_rule spot),
    omega arith,
  )
  program_completes d all (dialect_number at number) =
      (token Semicolon 0 ∷ leaf ∷ [], shortest, program_rule (dialect_rule at number 0) no_declarations (name_rule spot), omega arith)
  program_completes d all (in_declaration {ts = ts} {us = us} n ws h f) = named_completes d n (ts ++ us) (rest_in_declaration ws h f)
  program_completes d all (in_expression {ts = ts} {us = us} n ws h f) = named_completes d n (ts ++ us) (rest_in_expression ws h f)

  -- The reader of whole programs reads what the grammar says.
  pub whole_programs_are_read : IsReaderOfPrograms (whole_programs rests)
  whole_programs_are_read = record {
    reads = λ d ts program w h. program_reads d ts program w h;
    stands = λ d ts s least e. program_stands d ts s least e;
    whole = λ d ts s program least e f. stands_whole least (stands_whole_programs d ts s e) program f;
    completes = λ d ts f. program_completes d ts f;
    ends = λ s program t f follows. absurd follows;
  }
