-- How operators, truth values and built-in functions are written, and how tightly operators bind.
use Rattle.std.specs.Prelude.{ℕ, Bool, true, false}
use Rattle.snesl_grammar.specs.declared.lexer.token.TokenKind.{TokenKind}
use Rattle.snesl_grammar.specs.declared.lexer.token.TokenKind.TheVariants as kinds
use Rattle.snesl_grammar.specs.declared.tree.operator.Operator.{Operator}
use Rattle.snesl_grammar.specs.declared.tree.operator.Operator.TheVariants.{Or, And, Equal, Less, AtMost, Greater, AtLeast, Append, Add, Subtract, Multiply, Divide, Remainder, Index}
use Rattle.snesl_grammar.specs.declared.tree.operator.Prefix.{Prefix}
use Rattle.snesl_grammar.specs.declared.tree.operator.Prefix.TheVariants.{Negate, Not}
use Rattle.snesl_grammar.specs.declared.tree.operator.Builtin.{Builtin}
use Rattle.snesl_grammar.specs.declared.tree.operator.Builtin.TheVariants as builtins

-- how tightly an operator binds; `let` and `if` go on as far as they can, as if they bound at 0
abbrev pub level : Operator → ℕ
level Or = 1
level And = 2
level Equal = 3
level Less = 3
level AtMost = 3
level Greater = 3
level AtLeast = 3
level Append = 4
level Add = 5
level Subtract = 5
level Multiply = 6
level Divide = 6
level Remainder = 6
level Index = 8

-- how tightly its left operand has to bind: operators group to the left, but comparisons do not group
abbrev pub left_level : Operator → ℕ
left_level Equal = 4
left_level Less = 4
left_level AtMost = 4
left_level Greater = 4
left_level AtLeast = 4
left_level operator = level operator

-- how tightly an operator before its operand binds, and what its operand has to
abbrev pub prefix_level : ℕ
prefix_level = 7

-- the kind of the token that an operator is written by
abbrev pub sign : Operator → TokenKind
sign Or = kinds.Or
sign And = kinds.And
sign Equal = kinds.Same
sign Less = kinds.Less
sign AtMost = kinds.AtMost
sign Greater = kinds.Greater
sign AtLeast = kinds.AtLeast
sign Append = kinds.Append
sign Add = kinds.Plus
sign Subtract = kinds.Minus
sign Multiply = kinds.Star
sign Divide = kinds.Slash
sign Remainder = kinds.Percent
sign Index = kinds.At

abbrev pub prefix_sign : Prefix → TokenKind
prefix_sign Negate = kinds.Minus
prefix_sign Not = kinds.Not

abbrev pub truth_word : Bool → TokenKind
truth_word true = kinds.True
truth_word false = kinds.False

-- the kind of the token that a function is named by
abbrev pub word : Builtin → TokenKind
word builtins.Iota = kinds.Iota
word builtins.ScanAdd = kinds.ScanAdd
word builtins.ReduceAdd = kinds.ReduceAdd
word builtins.ReduceMax = kinds.ReduceMax
word builtins.ReduceAnd = kinds.ReduceAnd
word builtins.ReduceOr = kinds.ReduceOr
word builtins.Length = kinds.Length
word builtins.Concat = kinds.Concat
word builtins.Part = kinds.Part
word builtins.The = kinds.The
word builtins.Tab = kinds.Tab
word builtins.Seq = kinds.Seq
word builtins.Fst = kinds.Fst
word builtins.Snd = kinds.Snd
