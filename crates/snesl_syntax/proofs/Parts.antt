-- What a token makes of a part of a program, and what comes of that in the program.
use Rattle.std.proofs.Common.{◌≡◌, ℕ, true, false, cond, leb, Option, Some, None, Result, Ok, Err, refl, sym, ◌∙◌, ap, subst}
use Rattle.std.specs.Result.{IsErrAnd}
use Rattle.snesl_grammar.specs.declared.lexer.token.TokenKind.{TokenKind}
use Rattle.snesl_grammar.specs.declared.lexer.token.TokenKind.TheVariants.{Semicolon}
use Rattle.snesl_grammar.specs.declared.lexer.token.Token.{Token}
use Rattle.snesl_grammar.specs.tree.Tree.{Tree, TypeTree}
use Rattle.snesl_syntax.specs.expressions.Readers.{Stop, beyond_depth, TokenMove, within}
use Rattle.snesl_syntax.specs.expressions.Machine.{State, expressions}
use Rattle.snesl_syntax.specs.declared.expressions.machine.StepError.{StepError}
use Rattle.snesl_syntax.specs.declared.expressions.machine.StepError.TheVariants as errors
use Rattle.snesl_syntax.specs.expressions.Parsing.{Fails}
use Rattle.snesl_syntax.specs.Types.{TypeState, types}
use Rattle.snesl_syntax.specs.Programs.{TypeOf, Header, in_type, in_body, lifted, or_else, when_whole, body_end, type_end, programs}
use Rattle.snesl_syntax.specs.TypeMachine.{Stops, IsStep}
use Rattle.snesl_syntax.proofs.TypesRead.{types_are_read}
use Rattle.snesl_syntax.proofs.ProgramsRead.{parts_are_read}

or_none : {S : Type 0} (m : Option (TokenMove S)) → or_else m None ≡ m
or_none None = refl
or_none (Some found) = refl

when_none : {Form S : Type 0} (found : Option Form) (ends : Form → Option (TokenMove S)) → ((form : Form) → ends form ≡ None) → when_whole found ends ≡ None
when_none None ends h = refl
when_none (Some form) ends h = h form

not_semicolon : (header : Header) (k : TokenKind) (body : Tree) → (k ≡ Semicolon → ⊥) → body_end {State = State} header k body ≡ None
not_semicolon header Semicolon body h = absurd (h refl)
not_semicolon header _ body h = refl

-- another token goes on with the body
pub body_goes_on : (header : Header) (s : State) (t : Token) → (t.kind ≡ Semicolon → ⊥)
    → (programs expressions).move (in_body header s) t ≡ lifted (in_body header) (expressions.move s t)
body_goes_on header s t h =
    ap (or_else (lifted (in_body header) (expressions.move s t)))
    (when_none (expressions.finished s) (body_end header t.kind) (λ body. not_semicolon header t.kind body h))
    ∙ or_none (lifted (in_body header) (expressions.move s t))

-- so does any where the body is not whole
pub body_is_open : (header : Header) (s : State) (t : Token) → expressions.finished s ≡ None
    → (programs expressions).move (in_body header s) t ≡ lifted (in_body header) (expressions.move s t)
body_is_open header s t e =
    ap (λ found. or_else (lifted (in_body header) (expressions.move s t)) (when_whole found (body_end header t.kind))) e
    ∙ or_none (lifted (in_body header) (expressions.move s t))

-- a semicolon ends a whole body
pub body_is_whole : (header : Header) (s : State) (body : Tree) (t : Token) → t.kind ≡ Semicolon → expressions.finished s ≡ Some body
    → (programs expressions).move (in_body header s) t ≡ body_end header Semicolon body
body_is_whole header s body t k e =
    ap (λ m. or_else (lifted (in_body header) m) (when_whole (expressions.finished s) (body_end header t.kind))) (parts_are_read.is.ends s body t e k)
    ∙ ap (λ found. when_whole found (body_end header t.kind)) e
    ∙ ap (λ kind. body_end header kind body) k

-- a token goes on with a type that is not whole
pub type_is_open : (owner : TypeOf) (s : TypeState) (t : Token) → types.finished s ≡ None
    → (programs expressions).move (in_type owner s) t ≡ lifted (in_type owner) (types.move s t)
type_is_open owner s t e =
    ap (λ found. or_else (lifted (in_type owner) (types.move s t)) (when_whole found (type_end expressions owner t.kind))) e
    ∙ or_none (lifted (in_type owner) (types.move s t))

-- and ends one that is
pub type_is_whole : (owner : TypeOf) (s : TypeState) (written : TypeTree) (t : Token) → types.finished s ≡ Some written
    → (programs expressions).move (in_type owner s) t ≡ type_end expressions owner t.kind written
type_is_whole owner s written t e =
    ap (λ m. or_else (lifted (in_type owner) m) (when_whole (types.finished s) (type_end expressions owner t.kind))) (types_are_read.ends s written t e tt)
    ∙ ap (λ found. when_whole found (type_end expressions owner t.kind)) e

-- the state around, where there is no stop
abbrev around_ok : {Inner Outer : Type 0} → (Inner → Outer) → Result Inner Stop → Result Outer Stop
around_ok around (Ok state) = Ok (around state)
around_ok around (Err stop) = Err stop

carried_within : {Inner Outer : Type 0} (d : ℕ) (around : Inner → Outer) (m : Option (TokenMove Inner))
    → within d (lifted around m) ≡ around_ok around (within d m)
carried_within d around None = refl
carried_within {Inner = Inner} {Outer = Outer} d around (Some found) =
    elim (leb found.want d) as (λ b. ◌≡◌ {A = Result Outer Stop} (cond b (Ok (around found.next)) (Err beyond_depth)) (around_ok around (cond b (Ok found.next) (Err beyond_depth))))
    [ true ↦ refl | false ↦ refl ]

-- the step of a part is one of the program
pub step_carried : {Inner Outer : Type 0} (d : ℕ) (around : Inner → Outer) (m : Option (TokenMove Inner)) (next : Inner)
    → within d m ≡ Ok next → within d (lifted around m) ≡ Ok (around next)
step_carried d around m next e = carried_within d around m ∙ ap (around_ok around) e

-- its stop is one of the program
pub stop_carried : {Inner Outer : Type 0} (d : ℕ) (around : Inner → Outer) (m : Option (TokenMove Inner)) (error : StepError)
    → Stops error (within d m) → Stops error (within d (lifted around m))
stop_carried d around m errors.NoMemory h = tt
stop_carried d around m errors.Unexpected h = carried_within d around m ∙ ap (around_ok around) h
stop_carried d around m errors.TooDeep h = carried_within d around m ∙ ap (around_ok around) h

-- the stop of the machine of expressions is one
pub machine_stops : (error : StepError) (next : Result State Stop) → Fails error next → Stops error next
machine_stops errors.NoMemory next h = tt
machine_stops errors.Unexpected next h = h
machine_stops errors.TooDeep next h = h

-- a stop is passed on
pub stop_passed : {Machine S : Type 0} (state_of : Machine → S) (x : Result Machine StepError) (error : StepError) (next : Result S Stop)
    → IsErrAnd x (λ e. e ≡ error) → Stops error next → IsStep state_of x next
stop_passed state_of (Ok machine) error next h k = absurd h
stop_passed state_of (Err e) error next h k = subst (λ y. Stops y next) (sym h) k
