use Rattle.std.proofs.Common.{◌≡◌, length, sym, ap, ◌∙◌, arith}
use Rattle.std.proofs.lemmas.Bool.{or_parts, not-false, not-true}
use Rattle.std.proofs.lemmas.List.{take_all}
use Rattle.flow_messages.specs.Contents.{unit_messages}
use Rattle.flow_words.specs.Words.{unit_word, each_said}
use Rattle.flow_words.proofs.Lists.{units_next}
use Rattle.flow_words.proofs.single.are_units.Goals as goal

pub loop-word-preserved : goal.loop-word-preserved
loop-word-preserved c = λ none.
    let (before, now) = or_parts c.loop-word.ended _ none in
    units_next c.args.words.now c.loop-word.word-index _ c.loop-word-test.true (c.loop-word.invariant before) (c.is_unit.ensures (not-false _ now))

pub returns : goal.returns
returns c = λ units.
    let none = not-true c.loop-word.ended units in
    let words = c.args.words.now in
    let all : c.loop-word.word-index ≡ length words = omega (arith, c.loop-word-test.false) in
    ap (each_said unit_word) (sym (take_all c.loop-word.word-index words c.loop-word-test.false)) ∙ c.loop-word.invariant none ∙ ap unit_messages all
