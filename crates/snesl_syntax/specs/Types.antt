-- How types are read.
use Rattle.std.specs.Prelude.{ℕ, suc, List, [], ◌∷◌, length, Option, Some, None}
use Rattle.snesl_grammar.specs.declared.lexer.token.TokenKind.{TokenKind}
use Rattle.snesl_grammar.specs.declared.lexer.token.TokenKind.TheVariants.{Int, Bool, LeftParen, RightParen, LeftBracket, RightBracket, LeftBrace, RightBrace, Comma}
use Rattle.snesl_grammar.specs.tree.Tree.{TypeTree, int_type, bool_type, pair_type, vector_type, sequence_type}
use Rattle.snesl_syntax.specs.expressions.Readers.{TokenMove, at_any_depth, Reader}

-- any token may follow a type, none goes on with one that is whole
abbrev pub MayFollowType : TokenKind → Type 0
MayFollowType kind = Unit {0}

-- a type that is open, with its whole part
pub data TypeFrame : Type 0 where
  -- the first part of a pair is open, or the second
  in_first : (at : ℕ) → TypeFrame
  in_second : (at : ℕ) (first : TypeTree) → TypeFrame
  -- the item of a vector is open, or that of a sequence
  in_vector : (at : ℕ) → TypeFrame
  in_sequence : (at : ℕ) → TypeFrame

-- what may come next; the innermost frame is the first
pub data TypeState : Type 0 where
  -- a type begins
  type_begins : (frames : List TypeFrame) → TypeState
  -- a type has ended
  type_ended : (frames : List TypeFrame) (last : TypeTree) → TypeState

-- a move that opens a type with a part in it
abbrev pub open_type : List TypeFrame → TypeFrame → Option (TokenMove TypeState)
open_type frames frame = Some (record { want = suc (suc (length frames)); next = type_begins (frame ∷ frames) })

-- the move of a token of this kind at this offset, if it has one
abbrev pub type_move : TypeState → TokenKind → ℕ → Option (TokenMove TypeState)
type_move (type_begins frames) Int at = at_any_depth (type_ended frames (int_type at))
type_move (type_begins frames) Bool at = at_any_depth (type_ended frames (bool_type at))
type_move (type_begins frames) LeftParen at = open_type frames (in_first at)
type_move (type_begins frames) LeftBracket at = open_type frames (in_vector at)
type_move (type_begins frames) LeftBrace at = open_type frames (in_sequence at)
type_move (type_ended (in_first begun ∷ frames) last) Comma at = at_any_depth (type_begins (in_second begun last ∷ frames))
type_move (type_ended (in_second begun first ∷ frames) last) RightParen at = at_any_depth (type_ended frames (pair_type begun first last))
type_move (type_ended (in_vector begun ∷ frames) last) RightBracket at = at_any_depth (type_ended frames (vector_type begun last))
type_move (type_ended (in_sequence begun ∷ frames) last) RightBrace at = at_any_depth (type_ended frames (sequence_type begun last))
type_move _ _ at = None

-- the type that the tokens so far are, where they are one
abbrev pub finished_type : TypeState → Option TypeTree
finished_type (type_ended [] last) = Some last
finished_type _ = None

-- types are read from where one begins and nothing is open
abbrev pub types : Reader TypeState TypeTree
types = record { start = type_begins []; move = λ state token. type_move state token.kind token.at; finished = finished_type }
