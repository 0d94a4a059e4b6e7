-- The answer of a reader of programs is the one that the grammar wants, whatever the reader.
use Rattle.std.proofs.Common.{◌≡◌, ℕ, ◌+◌, ◌≤◌, List, [], ◌∷◌, ◌++◌, Option, Some, None, Result, Ok, Err, refl, sym, ◌∙◌, ap, subst, arith, append_assoc}
use Rattle.std.proofs.lemmas.List.{append-nil}
use Rattle.snesl_grammar.specs.declared.lexer.token.Token.{Token}
use Rattle.snesl_data.specs.declared.refusal.Refusal.{Refusal}
use Rattle.snesl_data.specs.declared.refusal.Refusal.TheVariants.{Syntax}
use Rattle.snesl_grammar.specs.tree.Tree.{ProgramTree}
use Rattle.snesl_syntax.specs.expressions.Readers.{Stop, unexpected, beyond_depth, Reader, step, and_then, after_tokens}
use Rattle.snesl_syntax.proofs.OfExpressions.Reading.{bind_ok, within_unexpected, within_deeper, goes_on, ends_with, go_more, go_front}
use Rattle.snesl_grammar.specs.Programs.{WholeProgram, FrontProgram, program_depth}
use Rattle.snesl_syntax.specs.Answer.{at_end, refusal_of, answer_from, parse_rest}
use Rattle.snesl_syntax.specs.Parse.{BeginsSoFar, AnswersBy, accepted, wrong, too_deep, ended}
use Rattle.snesl_syntax.specs.expressions.Readers.{IsReaderOf}

abbrev pub IsReaderOfPrograms : {State : Type 0} → Reader State ProgramTree → Type 0
IsReaderOfPrograms reader = IsReaderOf reader WholeProgram FrontProgram program_depth (λ kind. ⊥)

module _ {State : Type 0} (reader : Reader State ProgramTree) (right : IsReaderOfPrograms reader) where
  -- what is read begins a program, and so does each of its beginnings
  pub so_far : (d : ℕ) (s : State) (ts : List Token) → 1 ≤ d → after_tokens reader d reader.start ts ≡ Ok s → BeginsSoFar FrontProgram d ts
  so_far d s ts least e = λ a b same.
      let f : after_tokens reader d reader.start (a ++ b) ≡ Ok s = rw same at e in
      let r = go_front reader d reader.start s a b f in
      right.stands d a r.0 least r.1

  -- what begins a program within the depth is read
  pub front_runs : (k d : ℕ) (ts : List Token) → k ≤ d → FrontProgram k ts → (s : State) × (after_tokens reader d reader.start ts ≡ Ok s)
  front_runs k d ts h f =
      let c = right.completes k ts f in
      let r = right.reads d (ts ++ c.0) c.1 c.2 (let fits : program_depth c.1 ≤ k = c.3 in omega arith) in
      let m = go_front reader d reader.start r.0 ts c.0 r.1 in
      (m.0, m.1)

  -- where a token is refused, no front goes on
  pub no_front : (k d : ℕ) (s : State) (front : List Token) (t : Token) (stop : Stop)
      → after_tokens reader d reader.start front ≡ Ok s → step reader d s t ≡ Err stop → k ≤ d → FrontProgram k (front ++ (t ∷ [])) → ⊥
  no_front k d s front t stop e f h g =
      let r = front_runs k d (front ++ (t ∷ [])) h g in
      let both : and_then (step reader d s t) (λ x. after_tokens reader d x []) ≡ Ok r.0 = sym (goes_on reader d reader.start s front (t ∷ []) e) ∙ r.1 in
      let b = bind_ok (step reader d s t) (λ x. after_tokens reader d x []) r.0 both in
      cc (f, b.1)

  -- a token that wants more depth begins deeper programs
  deeper_front : (d : ℕ) (s : State) (front : List Token) (t : Token) → 1 ≤ d → after_tokens reader d reader.start front ≡ Ok s
      → step reader d s t ≡ Err beyond_depth → (deeper : ℕ) × FrontProgram deeper (front ++ (t ∷ []))
  deeper_front d s front t least e f =
      let m = within_deeper d (reader.move s t) f in (
        m.0,
        right.stands m.0 (front ++ (t ∷ [])) m.1 (let h : d ≤ m.0 = m.2 in omega arith)
            (ends_with reader m.0 reader.start s m.1 front t (go_more reader d m.0 reader.start s front m.2 e) m.3),
      )

  refused : (d len : ℕ) (s : State) (front rest : List Token) (t : Token) (stop : Stop) → 1 ≤ d → after_tokens reader d reader.start front ≡ Ok s
      → step reader d s t ≡ Err stop → AnswersBy FrontProgram d len (front ++ (t ∷ rest)) (Err (refusal_of stop t.at))
  refused d len s front rest t unexpected least e f =
      wrong front rest t (so_far d s front least e)
      (λ k g. no_front k (k + d) s front t unexpected (go_more reader d (k + d) reader.start s front (omega arith) e)
      (within_unexpected d (k + d) (reader.move s t) f) (omega arith) g)
  refused d len s front rest t beyond_depth least e f =
      let m = deeper_front d s front t least e f in
      too_deep front rest t (so_far d s front least e) (no_front d d s front t beyond_depth e f (omega arith)) m.0 m.1

  -- the answer where the tokens end
  pub finished : (d len : ℕ) (ts : List Token) (s : State) → 1 ≤ d → after_tokens reader d reader.start ts ≡ Ok s
      → AnswersBy FrontProgram d len ts (at_end len (reader.finished s))
  finished d len ts s least e = by_form (reader.finished s) refl
    where
      by_form : (found : Option ProgramTree) → reader.finished s ≡ found → AnswersBy FrontProgram d len ts (at_end len found)
      by_form (Some program) f = let w = right.whole d ts s program least e f in accepted w.0 w.1
      by_form None f =
          ended (so_far d s ts least e)
          (λ program w h. let r = right.reads d ts program w h in
          let same : r.0 ≡ s = cc (r.1, e) in
          let there : reader.finished s ≡ Some program = rw same at r.2 in
          cc (there, f))

  answers_from : (rest : List Token) (d len : ℕ) (s : State) (front : List Token) → 1 ≤ d → after_tokens reader d reader.start front ≡ Ok s
      → AnswersBy FrontProgram d len (front ++ rest) (parse_rest reader d len s rest)
  answers_from [] d len s front least e =
      subst (λ x. AnswersBy FrontProgram d len x (at_end len (reader.finished s))) (sym (append-nil front)) (finished d len front s least e)
  answers_from (t ∷ rest) d len s front least e =
      go_by (λ r f. answers_from rest d len r (front ++ (t ∷ [])) least (ends_with reader d reader.start s r front t e f)) (step reader d s t) refl
    where
      go_by : ((r : State) → step reader d s t ≡ Ok r → AnswersBy FrontProgram d len ((front ++ (t ∷ [])) ++ rest) (parse_rest reader d len r rest))
          → (x : Result State Stop) → step reader d s t ≡ x
          → AnswersBy FrontProgram d len (front ++ (t ∷ rest)) (answer_from x t.at (λ r. parse_rest reader d len r rest))
      go_by again (Ok r) f = subst (λ x. AnswersBy FrontProgram d len x (parse_rest reader d len r rest)) (append_assoc front (t ∷ []) rest) (again r f)
      go_by again (Err stop) f = refused d len s front rest t stop least e f

  -- The reader's answer is one that the grammar wants.
  pub answers : (d len : ℕ) (ts : List Token) → 1 ≤ d → AnswersBy FrontProgram d len ts (parse_rest reader d len reader.start ts)
  answers d len ts least = answers_from ts d len reader.start [] least refl

  -- what was read is answered by what is left
  answer_after : (ts us : List Token) (d len : ℕ) (s r : State) → after_tokens reader d s ts ≡ Ok r → parse_rest reader d len s (ts ++ us) ≡ parse_rest reader d len r us
  answer_after [] us d len s r e = let same : s ≡ r = cc in ap (λ x. parse_rest reader d len x us) same
  answer_after (t ∷ ts) us d len s r e =
      let b = bind_ok (step reader d s t) (λ x. after_tokens reader d x ts) r e in
      ap (λ x. answer_from x t.at (λ y. parse_rest reader d len y (ts ++ us))) b.1 ∙ answer_after ts us d len b.0 r b.2

  -- the answer where all tokens were read
  answer_at_end : (ts : List Token) (d len : ℕ) (s : State) → after_tokens reader d reader.start ts ≡ Ok s
      → parse_rest reader d len reader.start ts ≡ at_end len (reader.finished s)
  answer_at_end ts d len s e = ap (parse_rest reader d len reader.start) (sym (append-nil ts)) ∙ answer_after ts [] d len reader.start s e

  -- what comes of a token that no front may have
  by_step : (d len : ℕ) (s : State) (front rest : List Token) (t : Token) (stop : Stop) → after_tokens reader d reader.start front ≡ Ok s
      → ((x : Result State Stop) → step reader d s t ≡ x → x ≡ Err stop)
      → Err (refusal_of stop t.at) ≡ parse_rest reader d len reader.start (front ++ (t ∷ rest))
  by_step d len s front rest t stop e h =
      sym (answer_after front (t ∷ rest) d len reader.start s e
      ∙ ap (λ x. answer_from x t.at (λ r. parse_rest reader d len r rest)) (h (step reader d s t) refl))

  stop_wrong : (d : ℕ) (s : State) (front : List Token) (t : Token) → 1 ≤ d → after_tokens reader d reader.start front ≡ Ok s
      → ((k : ℕ) → ¬ FrontProgram k (front ++ (t ∷ []))) → (x : Result State Stop) → step reader d s t ≡ x → x ≡ Err unexpected
  stop_wrong d s front t least e none (Ok r) f =
      absurd (none d (right.stands d (front ++ (t ∷ [])) r least (ends_with reader d reader.start s r front t e f)))
  stop_wrong d s front t least e none (Err unexpected) f = refl
  stop_wrong d s front t least e none (Err beyond_depth) f = let m = deeper_front d s front t least e f in absurd (none m.0 m.1)

  stop_deep : (d : ℕ) (s : State) (front : List Token) (t : Token) → 1 ≤ d → after_tokens reader d reader.start front ≡ Ok s
      → (¬ FrontProgram d (front ++ (t ∷ []))) → (k : ℕ) → FrontProgram k (front ++ (t ∷ []))
      → (x : Result State Stop) → step reader d s t ≡ x → x ≡ Err beyond_depth
  stop_deep d s front t least e never k there (Ok r) f =
      absurd (never (right.stands d (front ++ (t ∷ [])) r least (ends_with reader d reader.start s r front t e f)))
  stop_deep d s front t least e never k there (Err unexpected) f =
      absurd (no_front k (k + d) s front t unexpected (go_more reader d (k + d) reader.start s front (omega arith) e)
      (within_unexpected d (k + d) (reader.move s t) f) (omega arith) there)
  stop_deep d s front t least e never k there (Err beyond_depth) f = refl

  -- where the tokens are no program, the reader has none
  no_form : (d len : ℕ) (ts : List Token) (s : State) → 1 ≤ d → after_tokens reader d reader.start ts ≡ Ok s
      → ((program : ProgramTree) → WholeProgram ts program → program_depth program ≤ d → ⊥)
      → (found : Option ProgramTree) → reader.finished s ≡ found → Err (Syntax len) ≡ at_end len found
  no_form d len ts s least e none (Some program) f = let w = right.whole d ts s program least e f in absurd (none program w.0 w.1)
  no_form d len ts s least e none None f = refl

  runs_so_far : (d : ℕ) (ts : List Token) → BeginsSoFar FrontProgram d ts → (s : State) × (after_tokens reader d reader.start ts ≡ Ok s)
  runs_so_far d ts so = front_runs d d ts (omega arith) (so ts [] (sym (append-nil ts)))

  -- There is one answer alone.
  pub one_answer : {d len : ℕ} {ts : List Token} {found : Result ProgramTree Refusal} → AnswersBy FrontProgram d len ts found → 1 ≤ d
      → found ≡ parse_rest reader d len reader.start ts
  one_answer {d = d} {len = len} {ts = ts} (accepted {program = program} w h) least =
      let r = right.reads d ts program w h in
      sym (answer_at_end ts d len r.0 r.1 ∙ ap (at_end len) r.2)
  one_answer {d = d} {len = len} (wrong front rest t so none) least =
      let s = runs_so_far d front so in
      by_step d len s.0 front rest t unexpected s.1 (stop_wrong d s.0 front t least s.1 none)
  one_answer {d = d} {len = len} (too_deep front rest t so never k deep) least =
      let s = runs_so_far d front so in
      by_step d len s.0 front rest t beyond_depth s.1 (stop_deep d s.0 front t least s.1 never k deep)
  one_answer {d = d} {len = len} {ts = ts} (ended so none) least =
      let s = runs_so_far d ts so in
      no_form d len ts s.0 least s.1 none (reader.finished s.0) refl ∙ sym (answer_at_end ts d len s.0 s.1)
