-- Names and reserved words.
use Rattle.std.specs.Prelude.{ℕ, List, [], ◌∷◌, length}
use Rattle.std.specs.Option.{unwrap_or}
use lib.Chars.{codes}
use Rattle.snesl_grammar.specs.lexer.Tables.{kind_in}
use Rattle.snesl_grammar.specs.declared.lexer.token.TokenKind.{TokenKind}
use Rattle.snesl_grammar.specs.declared.lexer.token.TokenKind.TheVariants as kinds

-- the reserved words
abbrev pub reserved_words : List (List ℕ × TokenKind)
reserved_words =
    (codes "input", kinds.Input) ∷
    (codes "function", kinds.Function) ∷
    (codes "let", kinds.Let) ∷
    (codes "in", kinds.In) ∷
    (codes "if", kinds.If) ∷
    (codes "then", kinds.Then) ∷
    (codes "else", kinds.Else) ∷
    (codes "true", kinds.True) ∷
    (codes "false", kinds.False) ∷
    (codes "not", kinds.Not) ∷
    (codes "and", kinds.And) ∷
    (codes "or", kinds.Or) ∷
    (codes "int", kinds.Int) ∷
    (codes "bool", kinds.Bool) ∷
    (codes "dialect", kinds.Dialect) ∷
    (codes "iota", kinds.Iota) ∷
    (codes "scan_add", kinds.ScanAdd) ∷
    (codes "reduce_add", kinds.ReduceAdd) ∷
    (codes "reduce_max", kinds.ReduceMax) ∷
    (codes "reduce_and", kinds.ReduceAnd) ∷
    (codes "reduce_or", kinds.ReduceOr) ∷
    (codes "length", kinds.Length) ∷
    (codes "concat", kinds.Concat) ∷
    (codes "part", kinds.Part) ∷
    (codes "the", kinds.The) ∷
    (codes "tab", kinds.Tab) ∷
    (codes "seq", kinds.Seq) ∷
    (codes "fst", kinds.Fst) ∷
    (codes "snd", kinds.Snd) ∷
    []

-- the kind of a word: a reserved word, or else a name of its length
abbrev pub word_kind : List ℕ → TokenKind
word_kind word = unwrap_or (kind_in reserved_words word) (kinds.Name (length word))
