use Rattle.std.proofs.lemmas.Grind.{common_steps}
use Rattle.std.proofs.Common.{arith, rules, refl}
use lib.Chars.{codes}
use Rattle.snesl_grammar.proofs.OfLexer.Tables.{word_read}
use Rattle.snesl_grammar.proofs.lexer.lexer.word_kind.Goals as goal

pub returns-in-input : goal.returns-in-input
returns-in-input c = word_read c.args.word.now (codes "input") _ refl (omega arith) (search rules)

pub returns-in-false : goal.returns-in-false
returns-in-false c = word_read c.args.word.now (codes "false") _ refl (omega arith) (search rules)

pub returns-in-length : goal.returns-in-length
returns-in-length c = word_read c.args.word.now (codes "length") _ refl (omega arith) (search rules)

pub returns-in-concat : goal.returns-in-concat
returns-in-concat c = word_read c.args.word.now (codes "concat") _ refl (omega arith) (search rules)

pub returns-in-dialect : goal.returns-in-dialect
returns-in-dialect c = word_read c.args.word.now (codes "dialect") _ refl (omega arith) (search rules)

pub returns-in-function : goal.returns-in-function
returns-in-function c = word_read c.args.word.now (codes "function") _ refl (omega arith) (search rules)

pub returns-in-115 : goal.returns-in-115
returns-in-115 c = word_read c.args.word.now (codes "scan_add") _ refl (omega arith) (search rules)

pub returns-in-114-4 : goal.returns-in-114-4
returns-in-114-4 c = word_read c.args.word.now (codes "reduce_or") _ refl (omega arith) (search rules)

pub returns-in-114 : goal.returns-in-114
returns-in-114 c = word_read c.args.word.now (codes "reduce_add") _ refl (omega arith) (search rules)

pub returns-in-114-3 : goal.returns-in-114-3
returns-in-114-3 c = word_read c.args.word.now (codes "reduce_and") _ refl (omega arith) (search rules)

pub returns-in-114-2 : goal.returns-in-114-2
returns-in-114-2 c = word_read c.args.word.now (codes "reduce_max") _ refl (omega arith) (search rules)

pub returns-in-let : goal.returns-in-let
returns-in-let c = grind (arith, common_steps)

pub returns-in-not : goal.returns-in-not
returns-in-not c = grind (arith, common_steps)

pub returns-in-int : goal.returns-in-int
returns-in-int c = grind (arith, common_steps)

pub returns-in-tab : goal.returns-in-tab
returns-in-tab c = grind (arith, common_steps)

pub returns-in-seq : goal.returns-in-seq
returns-in-seq c = grind (arith, common_steps)

pub returns-in-snd : goal.returns-in-snd
returns-in-snd c = grind (arith, common_steps)

pub returns-in-fst : goal.returns-in-fst
returns-in-fst c = grind (arith, common_steps)

pub returns-in-then : goal.returns-in-then
returns-in-then c = grind (arith, common_steps)

pub returns-in-true : goal.returns-in-true
returns-in-true c = grind (arith, common_steps)

pub returns-in-else : goal.returns-in-else
returns-in-else c = grind (arith, common_steps)

pub returns-in-bool : goal.returns-in-bool
returns-in-bool c = grind (arith, common_steps)

pub returns-in-iota : goal.returns-in-iota
returns-in-iota c = grind (arith, common_steps)

pub returns-in-part : goal.returns-in-part
returns-in-part c = grind (arith, common_steps)
