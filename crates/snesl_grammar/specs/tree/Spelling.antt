-- Names by their places in a text.
use Rattle.std.specs.Prelude.{ℕ, List, take, drop}
use Rattle.snesl_grammar.specs.declared.tree.span.Span.{Span}

-- the bytes that a text has at a place
abbrev pub spelling : List ℕ → Span → List ℕ
spelling text name = take name.len (drop name.at text)
