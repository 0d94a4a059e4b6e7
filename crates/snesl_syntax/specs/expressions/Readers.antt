-- Languages whose forms are read one token after the other.
use Rattle.std.specs.Prelude.{◌≡◌, ℕ, ◌≤◌, List, [], ◌∷◌, ◌++◌, Option, Some, None, Result, Ok, Err, nat_le, if◌then◌else◌}
use Rattle.snesl_grammar.specs.declared.lexer.token.TokenKind.{TokenKind}
use Rattle.snesl_grammar.specs.declared.lexer.token.Token.{Token}

-- why a token is not taken
pub data Stop : Type 0 where
  -- it has no move
  unexpected : Stop
  -- its move wants more depth
  beyond_depth : Stop

-- what a token makes of a state, and the depth that it wants
pub record TokenMove (State : Type 0) : Type 0 where
  pub want : ℕ
  pub next : State

-- a move that wants no depth
abbrev pub at_any_depth : {State : Type 0} → State → Option (TokenMove State)
at_any_depth next = Some (record { want = 0; next = next })

-- How forms are read: the state before the first token, what each token makes of a state, and the form that the
-- tokens so far are, where they are one.
pub record Reader (State Form : Type 0) : Type 0 where
  pub start : State
  pub move : State → Token → Option (TokenMove State)
  pub finished : State → Option Form

-- a move within a depth
abbrev pub within : {State : Type 0} → ℕ → Option (TokenMove State) → Result State Stop
within deep None = Err unexpected
within deep (Some found) = if nat_le found.want deep then Ok found.next else Err beyond_depth

-- goes on, where there is no stop
abbrev pub and_then : {State : Type 0} → Result State Stop → (State → Result State Stop) → Result State Stop
and_then (Ok state) further = further state
and_then (Err stop) further = Err stop

module _ {State Form : Type 0} (reader : Reader State Form) where
  -- what a token makes of a state, within a depth
  abbrev pub step : ℕ → State → Token → Result State Stop
  step deep state token = within deep (reader.move state token)

  -- what tokens make of a state, one after the other
  abbrev pub after_tokens : ℕ → State → List Token → Result State Stop
  after_tokens deep state [] = Ok state
  after_tokens deep state (token ∷ tokens) = and_then (step deep state token) (λ next. after_tokens deep next tokens)

  -- The reader reads what the grammar says: `Whole` says which tokens are which form, `Front` which begin a form
  -- of at most a depth, and after a form may come these kinds of tokens.
  pub record IsReaderOf (Whole : List Token → Form → Type 0) (Front : ℕ → List Token → Type 0) (depth : Form → ℕ) (MayFollow : TokenKind → Type 0) : Type 0 where
    -- a form within the depth is read to its end
    pub reads : (deep : ℕ) (ts : List Token) (form : Form) → Whole ts form → depth form ≤ deep
        → (state : State) × (after_tokens deep reader.start ts ≡ Ok state) × (reader.finished state ≡ Some form)
    -- tokens that are read begin a form within the depth
    pub stands : (deep : ℕ) (ts : List Token) (state : State) → 1 ≤ deep → after_tokens deep reader.start ts ≡ Ok state → Front deep ts
    -- where the reader has a form, the tokens are that form
    pub whole : (deep : ℕ) (ts : List Token) (state : State) (form : Form) → 1 ≤ deep → after_tokens deep reader.start ts ≡ Ok state
        → reader.finished state ≡ Some form → Whole ts form × (depth form ≤ deep)
    -- what begins a form can be completed to one
    pub completes : (deep : ℕ) (ts : List Token) → Front deep ts
        → (rest : List Token) × (form : Form) × Whole (ts ++ rest) form × (depth form ≤ deep)
    -- a form is not continued by a token that may follow it
    pub ends : (state : State) (form : Form) (token : Token) → reader.finished state ≡ Some form → MayFollow token.kind
        → reader.move state token ≡ None
