-- Where lines break.
use Rattle.std.specs.Prelude.{ℕ, ◌+◌, ◌-◌, ◌*◌, Bool, true, false, not, ◌||◌, ◌&&◌, ◌==◌, nat_lt, if◌then◌else◌, List, [], ◌∷◌, length}
use Rattle.snesl_grammar.specs.declared.lexer.token.TokenKind.{TokenKind}
use Rattle.snesl_grammar.specs.declared.lexer.token.TokenKind.TheVariants.{Input as InputWord, Function, Let, In, Then, Else, Integer, True, False, Minus, Or}
use Rattle.snesl_grammar.specs.declared.lexer.token.TokenKind.TheVariants.{And, LeftBrace, RightBrace, Colon, Semicolon, Comma, Bar, Equals, Append, Plus}
use Rattle.snesl_grammar.specs.declared.lexer.token.Token.{Token}
use Rattle.snesl_layout.specs.declared.lines.Gap.{Gap}
use Rattle.snesl_layout.specs.declared.lines.Gap.TheVariants.{Nothing, Blank, Line, EmptyLine}
use Rattle.snesl_layout.specs.declared.lines.Part.{Part}
use Rattle.snesl_layout.specs.declared.lines.Part.TheVariants.{Start, Input, Header, Body, Other}
use Rattle.snesl_layout.specs.declared.lines.State.{State}
use Rattle.snesl_layout.specs.declared.lines.Stop.{Stop}
use Rattle.snesl_layout.specs.declared.lines.Stop.TheVariants as stops
use Rattle.snesl_layout.specs.Spacing.{closes, deeper, depth_after, is_glued, opens, token_bytes}

-- how many bytes a line has, and one more for what closes it
abbrev pub line_width : ℕ
line_width = 99

-- before all tokens
abbrev pub start : State
start = record { part = Start; in_line = false; levels = 0; flat = 0; room = line_width; after_let = false; then_begins = false; before = Semicolon; last = Semicolon }

-- a line that is broken ends beside the token
abbrev pub ends_line : TokenKind → Bool
ends_line Comma = true
ends_line Semicolon = true
ends_line Colon = true
ends_line Bar = true
ends_line In = true
ends_line _ = false

-- a line may break before the token
abbrev pub wraps : TokenKind → Bool
wraps Then = true
wraps Else = true
wraps Or = true
wraps And = true
wraps Append = true
wraps Plus = true
wraps _ = false

abbrev pub is_semicolon : TokenKind → Bool
is_semicolon Semicolon = true
is_semicolon _ = false

-- the token stands behind a bracket without a blank
abbrev pub follows_bracket : TokenKind → Bool
follows_bracket Comma = true
follows_bracket Semicolon = true
follows_bracket kind = closes kind

-- what is looked at ends before the token, where no bracket has opened in it
abbrev pub ends : Stop → TokenKind → Bool
ends stops.Bracket kind = not (follows_bracket kind)
ends stops.Statement kind = is_semicolon kind
ends stops.Line kind = closes kind || ends_line kind
ends stops.Piece kind = closes kind || (ends_line kind || wraps kind)

-- a line breaks anyway behind the token: a `let` in no bracket goes on in a new line behind its `in`
abbrev pub is_cut : Stop → TokenKind → Bool
is_cut stops.Line Let = true
is_cut _ _ = false

-- how many bytes stand between two tokens of a line
abbrev pub gap_len : (before last next : TokenKind) → ℕ
gap_len before last next = if is_glued before last next then 0 else 1

-- the tokens fit into so many bytes of a line, up to where it is looked; so many brackets are open in what is looked at
abbrev pub tokens_fit : List ℕ → Stop → (room depth : ℕ) → (before last : TokenKind) → List Token → Bool
tokens_fit text stop room depth before last [] = true
tokens_fit text stop room depth before last (token ∷ after) =
    if depth == 0 && ends stop token.kind then true else
    if depth == 0 && is_cut stop token.kind then false else
    (let taken = gap_len before last token.kind + length (token_bytes text token after) in
    if nat_lt room taken then false else tokens_fit text stop (room - taken) (depth_after depth token.kind) last token.kind after)

-- those behind the last token fit: where it opens a bracket, this is open
abbrev pub fits_behind : List ℕ → Stop → ℕ → (before last : TokenKind) → List Token → Bool
fits_behind text stop room before last after = tokens_fit text stop room (depth_after 0 last) before last after

-- the last token ends a declaration
abbrev pub ends_statement : State → Bool
ends_statement state = is_semicolon state.last && (state.levels == 0 && state.flat == 0)

abbrev pub is_start : Part → Bool
is_start Start = true
is_start _ = false

-- a declaration or the expression begins
abbrev pub begins_statement : State → Bool
begins_statement state = is_start state.part || ends_statement state

abbrev pub ends_header : Part → TokenKind → Bool
ends_header Header Equals = true
ends_header _ _ = false

-- the body of a function begins
abbrev pub begins_body : State → Bool
begins_body state = ends_header state.part state.last

-- what is around the next token does not fit into a line
abbrev pub is_broken : State → Bool
is_broken state = not state.in_line && state.flat == 0

-- an item may be just this token
abbrev pub is_literal : TokenKind → Bool
is_literal (Integer value) = true
is_literal True = true
is_literal False = true
is_literal _ = false

abbrev pub is_minus : TokenKind → Bool
is_minus Minus = true
is_minus _ = false

-- an item that begins so goes on in the line of the one before: behind a literal a literal, or `-`
abbrev pub fills : (before next : TokenKind) → Bool
fills before next = is_literal before && (is_literal next || is_minus next)

-- a line breaks there behind `{`, `,`, `;` and the `in` of a `let`, and before the body of a function
abbrev pub breaks_behind : (last next : TokenKind) → State → Bool
breaks_behind LeftBrace next state = true
breaks_behind Comma next state = not (fills state.before next)
breaks_behind Semicolon next state = true
breaks_behind In next state = state.after_let
breaks_behind _ next state = begins_body state

abbrev pub breaks_after : State → TokenKind → Bool
breaks_after state next = breaks_behind state.last next state

-- and before `}`, `|` and the `:` of binders
abbrev pub breaks_before : State → TokenKind → Bool
breaks_before state RightBrace = true
breaks_before state Bar = true
breaks_before state Colon = nat_lt 0 state.levels
breaks_before state _ = false

-- up to where it is looked whether a line breaks before a token that may begin one
abbrev pub stop_of : TokenKind → Stop
stop_of Then = stops.Line
stop_of Else = stops.Line
stop_of _ = stops.Piece

abbrev pub is_comma : TokenKind → Bool
is_comma Comma = true
is_comma _ = false

-- a line breaks there where what follows does not fit
abbrev pub may_break : State → TokenKind → Bool
may_break state kind = wraps kind || is_comma state.last

-- it is the `else` of an `if` whose `then` begins a line
abbrev pub follows_then : State → TokenKind → Bool
follows_then state Else = state.then_begins
follows_then state _ = false

-- the token, and what follows up to there, does not fit
abbrev pub is_beyond : List ℕ → State → Token → List Token → Bool
is_beyond text state token after =
    let taken = length (token_bytes text token after) + 1 in
    if nat_lt state.room taken then true else not (fits_behind text (stop_of token.kind) (state.room - taken) state.last token.kind after)

-- a line breaks between the last token and this one
abbrev pub breaks : List ℕ → State → Token → List Token → Bool
breaks text state token after =
    is_broken state && (breaks_after state token.kind || (breaks_before state token.kind
    || (follows_then state token.kind || (may_break state token.kind && is_beyond text state token after))))

-- a closing brace stands as far to the left as its line began
abbrev pub levels_before : ℕ → TokenKind → ℕ
levels_before levels RightBrace = levels - 1
levels_before levels _ = levels

-- the lines of a function stand one level to the right
abbrev pub levels_in : Part → ℕ → ℕ
levels_in Header levels = deeper levels
levels_in Body levels = deeper levels
levels_in _ levels = levels

-- by how many levels a line is indented
abbrev pub line_levels : State → TokenKind → ℕ
line_levels state kind = levels_in state.part (levels_before state.levels kind)

-- what stands before a declaration or the expression: nothing before the first, and an empty line but between inputs
abbrev pub margin : Part → TokenKind → Gap
margin Start kind = Nothing
margin Input InputWord = Line 0
margin _ _ = EmptyLine

-- what stands between the last token and this one
abbrev pub gap_before : List ℕ → State → Token → List Token → Gap
gap_before text state token after =
    if begins_statement state then margin state.part token.kind else
    if breaks text state token after then Line (line_levels state token.kind) else
    if is_glued state.before state.last token.kind then Nothing else Blank

-- how many bytes a line still has after a token of this length
abbrev pub room_after : State → Gap → ℕ → ℕ
room_after state Nothing len = state.room - len
room_after state Blank len = (state.room - 1) - len
room_after state (Line levels) len = (line_width - 4 * levels) - len
room_after state EmptyLine len = line_width - len

-- what begins with a token of this kind
abbrev pub part_of : TokenKind → Part
part_of InputWord = Input
part_of Function = Header
part_of _ = Other

-- in what the token stands
abbrev pub part_after : State → TokenKind → Part
part_after state kind = if begins_statement state then part_of kind else if begins_body state then Body else state.part

-- whether a declaration or the expression fits into a line: that is looked up where it begins, and where the body does
abbrev pub in_line_after : List ℕ → State → ℕ → TokenKind → List Token → Bool
in_line_after text state room kind after =
    if begins_statement state || begins_body state then fits_behind text stops.Statement room state.last kind after else state.in_line

-- how many brackets are open then of those that fit
abbrev pub flat_after : State → Bool → Bool → TokenKind → ℕ
flat_after state in_line fit kind =
    if not (opens kind) || (in_line || nat_lt 0 state.flat) then depth_after state.flat kind else if fit then 1 else 0

-- how many braces are open after this token, among those that do not fit
abbrev pub levels_with : ℕ → Bool → TokenKind → ℕ
levels_with levels fit LeftBrace = if fit then levels else deeper levels
levels_with levels fit RightBrace = levels - 1
levels_with levels fit _ = levels

abbrev pub levels_after : State → Bool → Bool → TokenKind → ℕ
levels_after state in_line fit kind = if in_line || nat_lt 0 state.flat then state.levels else levels_with state.levels fit kind

-- the token is the `in` of a `let`: that of a binder stands behind a name and `:` or `;`
abbrev pub is_let_end : TokenKind → TokenKind → Bool
is_let_end In Colon = false
is_let_end In Semicolon = false
is_let_end In _ = true
is_let_end _ _ = false

abbrev pub is_then : TokenKind → Bool
is_then Then = true
is_then _ = false

abbrev pub is_line : Gap → Bool
is_line (Line levels) = true
is_line _ = false

-- the last `then` in what does not fit begins a line
abbrev pub then_begins_after : State → Gap → TokenKind → Bool
then_begins_after state gap kind = if is_broken state && is_then kind then is_line gap else state.then_begins

-- what the tokens up to this one lead to
abbrev pub state_after : List ℕ → State → Token → List Token → State
state_after text state token after =
    let gap = gap_before text state token after in
    let room = room_after state gap (length (token_bytes text token after)) in
    let in_line = in_line_after text state room token.kind after in
    let fit = fits_behind text stops.Bracket room state.last token.kind after in
    record {
      part = part_after state token.kind;
      in_line = in_line;
      levels = levels_after state in_line fit token.kind;
      flat = flat_after state in_line fit token.kind;
      room = room;
      after_let = is_let_end token.kind state.before;
      then_begins = then_begins_after state gap token.kind;
      before = state.last;
      last = token.kind;
    }
